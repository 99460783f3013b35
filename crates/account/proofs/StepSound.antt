-- A refused entry leaves tables and account as they were, and each kind of accepted entry keeps them sound; so does a list of entries, one after the other.
use mathlib.Core.Path.{◌≡◌, refl}
use mathlib.Core.List.{List, [], ◌∷◌}
use Rattle.std.specs.Prelude.{Ok, Err}
use Rattle.entries.specs.declared.entry.Entry.{Entry}
use Rattle.entries.specs.declared.entry.Entry.TheVariants.{Deposit, Withdraw, Lock, Unlock, Order, Fill, Cancel, DayEnd, Pay, Drop, Underlying, Contract, Opening}
use Rattle.entries.specs.declared.entry.Figures.{Figures}
use Rattle.account.specs.Sound.{AllSound, Sound}
use Rattle.account.specs.Steps.{refusal_of, tables_after, account_after, outcome, step, run}
use Rattle.account.specs.declared.account.Account.{Account}
use Rattle.account.specs.declared.judged.Outcome.{Outcome}
use Rattle.terms.specs.Verdicts.{Verdict, accept}
use Rattle.account.specs.declared.tables.Tables.{Tables}
use Rattle.account.proofs.CancelSound.{cancel_sound}
use Rattle.account.proofs.DayEndSound.{day_end_sound}
use Rattle.account.proofs.FillSound.{fill_sound}
use Rattle.account.proofs.LockSound.{lock_sound, unlock_sound}
use Rattle.account.proofs.OrderSound.{order_sound}
use Rattle.account.proofs.Passed.{never}
use Rattle.account.proofs.TransferSound.{deposit_sound, drop_sound, pay_sound, withdraw_sound}

-- a record of set-up is refused
accepted_sound : (t : Tables) (a : Account) (entry : Entry) (f : Figures) → Sound t a → refusal_of t a entry f ≡ accept → Sound (tables_after t entry f) (account_after t a entry f)
unfolding refusal_of tables_after account_after
accepted_sound t a (Deposit amount) f s e = deposit_sound t a s amount e
accepted_sound t a (Withdraw amount) f s e = withdraw_sound t a s amount e
accepted_sound t a (Lock u units) f s e = lock_sound t a u units s e
accepted_sound t a (Unlock u units) f s e = unlock_sound t a u units s e
accepted_sound t a (Order o) f s e = order_sound t a o s e
accepted_sound t a (Fill fill) f s e = fill_sound t a fill s e
accepted_sound t a (Cancel number) f s e = cancel_sound t a number s e
accepted_sound t a (DayEnd n m) f s e = day_end_sound t a n m f s e
accepted_sound t a Pay f s e = pay_sound t a s
accepted_sound t a Drop f s e = drop_sound t a s
accepted_sound t a (Underlying row) f s e = absurd (never e)
accepted_sound t a (Contract row) f s e = absurd (never e)
accepted_sound t a (Opening cash) f s e = absurd (never e)

pub step_sound : (t : Tables) (a : Account) (entry : Entry) (f : Figures) → Sound t a → Sound (step t a entry f).tables (step t a entry f).account
unfolding step
step_sound t a entry f s = go (refusal_of t a entry f) refl
  where
    after : Verdict → Outcome
    after v = outcome v t a (tables_after t entry f) (account_after t a entry f)

    go : (v : Verdict) → refusal_of t a entry f ≡ v → Sound (after v).tables (after v).account
    go (Ok tt) e = accepted_sound t a entry f s e
    go (Err why) e = s

pub run_sound : (t : Tables) (a : Account) (entries : List (Entry × Figures)) → Sound t a → AllSound (run t a entries)
unfolding run
run_sound t a [] s = tt
run_sound t a (e ∷ rest) s =
    let next = step_sound t a e.0 e.1 s in
    let after = step t a e.0 e.1 in
    (next, run_sound after.tables after.account rest next)
