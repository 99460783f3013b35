-- What follows from how steps are made: the function that steps gives back sound tables and a sound account, every entry of a list gets an outcome, a refused one leaves tables and account as they were, and a day end keeps the last accepted number and what waits.
use mathlib.Core.Path.{◌≡◌, refl, ap}
use mathlib.Core.List.{List, [], ◌∷◌}
use Prim.Native.Nat.{suc}
use lib.ListN.{length}
use Rattle.std.specs.Prelude.{Err}
use Rattle.terms.specs.declared.refusal.Refusal.{Refusal}
use Rattle.entries.specs.declared.entry.Entry.{Entry}
use Rattle.entries.specs.declared.entry.Figures.{Figures}
use Rattle.account.specs.DayEnd.{kept_anew, orders_cancelled, positions_netted, margin_afresh, premium_joined, daily_zero, units_released, day_ended}
use Rattle.account.specs.Steps.{refusal_of, step, run}
use Rattle.account.specs.declared.account.Account.{Account}
use Rattle.account.specs.declared.tables.Tables.{Tables}
use Rattle.account.specs.Sound.{Sound}
use Rattle.account.proofs.StepSound.{step_sound}
use Rattle.steps.proofs.step.Reads as stepping

pub refused_same : (t : Tables) (a : Account) (entry : Entry) (f : Figures) (why : Refusal) → refusal_of t a entry f ≡ Err why
    → ((step t a entry f).verdict ≡ Err why) × ((step t a entry f).tables ≡ t) × ((step t a entry f).account ≡ a)
unfolding step
refused_same t a entry f why e = rw e (refl, refl, refl)

pub all_answered : (t : Tables) (a : Account) (entries : List (Entry × Figures)) → length (run t a entries) ≡ length entries
unfolding run
all_answered t a [] = refl
all_answered t a (entry ∷ rest) =
    let after = step t a entry.0 entry.1 in
    ap suc (all_answered after.tables after.account rest)

pub number_kept : (t : Tables) (a : Account) → (day_ended t a).last ≡ a.last
unfolding day_ended kept_anew units_released daily_zero premium_joined margin_afresh positions_netted orders_cancelled
number_kept t a = refl

-- what waits waits on, and nothing else is held
pub waiting_kept : (t : Tables) (a : Account) → ((day_ended t a).waiting ≡ a.waiting) × ((day_ended t a).sheet.holds ≡ a.waiting)
unfolding day_ended kept_anew units_released daily_zero premium_joined margin_afresh positions_netted orders_cancelled
waiting_kept t a = (refl, refl)

-- what the step's contract asks is what it gives back: a caller that starts at an opening has nothing else to show
pub sound_again : (κs : _) (a : _) (r : _) (s : _) → stepping.Pre κs a → stepping.Post κs a r s → Sound r.tables r.account
sound_again κs a r s sound p = rw p (step_sound a.0 a.1.0 a.1.1.0 a.1.1.1.0 sound)
