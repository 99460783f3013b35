-- A decision booked is the outcome of its verdict: what it changes where it is accepted, nothing where it is refused. So an entry is stepped as what is decided about it is booked; what is kept of a sound account can be moved with the change, and a day ends only on figures that the tables take.
use mathlib.Core.Path.{◌≡◌, refl, sym, ap, subst, ◌∙◌}
use mathlib.Core.Bool.{Bool, true, false, cond}
use Prim.Native.Nat.{ℕ}
use Rattle.std.specs.Prelude.{Result, Ok, Err}
use Rattle.terms.specs.declared.refusal.Refusal.{Refusal}
use Rattle.entries.specs.Entries.{kind_of}
use Rattle.entries.specs.Table.{is_day_end}
use Rattle.entries.specs.declared.entry.Entry.{Entry}
use Rattle.entries.specs.declared.entry.Figures.{Figures}
use Rattle.entries.proofs.EachKind.{by_day_end}
use Rattle.terms.specs.Verdicts.{verdict_in, accept}
use Rattle.account.specs.Changes.{applied, decided, ending}
use Rattle.account.specs.Room.{Movable}
use Rattle.account.specs.DayEnd.{day_end_verdict, day_ended, figures_installed}
use Rattle.account.specs.Seen.{Wherever}
use Rattle.account.specs.Sound.{Sound}
use Rattle.account.specs.Steps.{account_after, change_of, outcome, refusal_of, step, tables_after}
use Rattle.account.specs.declared.account.Account.{Account}
use Rattle.account.specs.declared.judged.Change.{Change}
use Rattle.account.specs.declared.judged.Decision.{Decision}
use Rattle.account.specs.declared.judged.Decision.TheVariants as Decision·of
use Rattle.account.specs.declared.judged.Outcome.{Outcome}
use Rattle.account.specs.declared.judged.Seen.{Seen}
use Rattle.terms.specs.Verdicts.{Verdict}
use Rattle.account.specs.declared.tables.Tables.{Tables}
use Rattle.account.proofs.Installed.{rows_told}
use Rattle.account.proofs.StepMovable.{accepted_movable}
use Rattle.day_end.specs.Ended.{FiguresTaken}
use Rattle.steps.specs.Booked.{Rests, booked_by, decision_on}

module _ (t : Tables) (a : Account) (f : Figures) where
  pub stepped : (entry : Entry) → booked_by t a f (decision_on t a entry f) ≡ step t a entry f
  unfolding decision_on step tables_after account_after
  stepped entry = go (is_day_end (kind_of entry)) (refusal_of t a entry f) (change_of t a entry)
    where
      go : (ends : Bool) (v : Verdict) (change : Change)
          → booked_by t a f (cond ends (ending v) (decided v change)) ≡ outcome v t a (cond ends (figures_installed t f) t) (cond ends (day_ended (figures_installed t f) a) (applied a change))
      go true (Ok tt) change = refl
      go true (Err why) change = refl
      go false (Ok tt) change = refl
      go false (Err why) change = refl

  told : (d : Result Decision Refusal) → (booked_by t a f d).verdict ≡ verdict_in d
  told (Err why) = refl
  told (Ok (Decision·of.Changes change)) = refl
  told (Ok Decision·of.DayEnds) = refl

  outcome_verdict : (v : Verdict) (t' : Tables) (a' : Account) → (outcome v t a t' a').verdict ≡ v
  outcome_verdict (Ok tt) t' a' = refl
  outcome_verdict (Err why) t' a' = refl

  pub verdict_decided : (entry : Entry) → verdict_in (decision_on t a entry f) ≡ refusal_of t a entry f
  unfolding step
  verdict_decided entry =
      sym (told (decision_on t a entry f))
      ∙ ap (λ (o : Outcome). o.verdict) (stepped entry)
      ∙ outcome_verdict (refusal_of t a entry f) (tables_after t entry f) (account_after t a entry f)

-- in each arm the entry is known, and what is decided by what it sees
module _ {s : Seen} {entry is : Entry} (e : entry ≡ is) where
  pub for_entry : {d : Result Decision Refusal} (f : Figures) → Wherever is s (λ t a. d ≡ decision_on t a is f) → Wherever entry s (λ t a. d ≡ decision_on t a entry f)
  for_entry {d} f so = subst (λ (any : Entry). Wherever any s (λ t a. d ≡ decision_on t a any f)) (sym e) so

module _ (t : Tables) (f : Figures) where
  -- an accepted day end has as many rows as the tables
  taken : (n m : ℕ) → day_end_verdict t n m f ≡ accept → FiguresTaken t f
  taken n m accepted =
      let same = rows_told t n m f accepted in
      ap (λ (n : ℕ). day_end_verdict t n t.m f) (sym same.0) ∙ ap (λ (m : ℕ). day_end_verdict t n m f) (sym same.1) ∙ accepted

  module _ (a : Account) where
    decided_rests : (v : Verdict) (change : Change) → (v ≡ accept → Movable a change) → Rests t a f (decided v change)
    decided_rests (Ok tt) change moves = moves refl
    decided_rests (Err why) change moves = tt

    ending_rests : (v : Verdict) → (v ≡ accept → FiguresTaken t f) → Rests t a f (ending v)
    ending_rests (Ok tt) takes = takes refl
    ending_rests (Err why) takes = tt

    pub rests : Sound t a → (entry : Entry) → Rests t a f (decision_on t a entry f)
    unfolding decision_on refusal_of
    rests sound =
        by_day_end (λ entry. Rests t a f (decision_on t a entry f))
        (λ n m. ending_rests (day_end_verdict t n m f) (taken n m))
        (λ entry other. rw other (decided_rests (refusal_of t a entry f) (change_of t a entry) (accepted_movable t a sound entry f)))
