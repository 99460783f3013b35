-- A list run from its records is the list run entry by entry: each record reads back as its entry wherever it stands, and entering an entry in an open book is its step.
use mathlib.Core.List.{List, [], ◌∷◌, ◌++◌, append_assoc, map}
use mathlib.Core.Path.{◌≡◌, refl, sym, ap, ap₂, ◌∙◌}
use Prim.Native.Nat.{ℕ, suc, ◌+◌, ◌<◌}
use native.Mathlib.Omega.{arith}
use lib.ListN.{length, length-append}
use Rattle.std.specs.Prelude.{Ok, Err}
use Rattle.entries.specs.declared.entry.Entry.{Entry}
use Rattle.entries.specs.declared.entry.Entry.TheVariants.{Deposit, Withdraw, Lock, Unlock, Order, Fill, Cancel, DayEnd, Pay, Drop, Underlying, Contract, Opening}
use Rattle.entries.specs.declared.entry.Figures.{Figures}
use Rattle.reading.specs.Reading.{read_at}
use Rattle.reading.specs.declared.Answer.TheVariants.{Found}
use Rattle.reading.specs.declared.Reading.{Reading}
use Rattle.writing.specs.Writing.{length_for, record_of}
use Rattle.account.specs.Opening.{opening}
use Rattle.account.specs.Steps.{account_after, outcome, refusal_of, run, step, tables_after}
use Rattle.account.specs.declared.account.Account.{Account}
use Rattle.account.specs.declared.judged.Outcome.{Outcome}
use Rattle.terms.specs.Verdicts.{Verdict, accept}
use Rattle.account.specs.declared.tables.Tables.{Tables}
use Rattle.rows.specs.Given.{list_verdict}
use Rattle.set_up.specs.Stages.{Entered, book_after, entered, entered_as, record_verdict}
use Rattle.set_up.specs.declared.stages.Book.{Book}
use Rattle.set_up.specs.declared.stages.Stage.TheVariants.{Entries}
use Rattle.desk.specs.Runs.{Ran, list_by, list_run, run_from}
use Rattle.demands.specs.Each.{Each}
use Rattle.demands.specs.Records.{Carried, answer_of, records_of}
use Rattle.demands.proofs.Answers.RunsTold.{led, read_so}
use Rattle.demands.proofs.Records.WrittenRead.{record_length, written_read}

-- an open book
abbrev in_hand : Tables → Account → Book
in_hand t a = record { stage = Entries; tables = t; account = a }

abbrev as_entered : Outcome → Entered
as_entered after = record { verdict = after.verdict; book = in_hand after.tables after.account }

module _ (t : Tables) (a : Account) (f : Figures) where
  by_verdict : (v : Verdict) (t' : Tables) (a' : Account) → entered_as v (in_hand t a) (in_hand t' a') ≡ as_entered (outcome v t a t' a')
  by_verdict (Ok tt) t' a' = refl
  by_verdict (Err why) t' a' = refl

  stepping : (entry : Entry) → entered_as (refusal_of t a entry f) (in_hand t a) (in_hand (tables_after t entry f) (account_after t a entry f)) ≡ as_entered (step t a entry f)
  unfolding step
  stepping entry = by_verdict (refusal_of t a entry f) (tables_after t entry f) (account_after t a entry f)

  -- what belongs to set-up is out of its place in either
  entering : (entry : Entry) → entered (in_hand t a) entry f ≡ as_entered (step t a entry f)
  unfolding entered record_verdict book_after step refusal_of
  entering (Deposit amount) = stepping (Deposit amount)
  entering (Withdraw amount) = stepping (Withdraw amount)
  entering (Lock u units) = stepping (Lock u units)
  entering (Unlock u units) = stepping (Unlock u units)
  entering (Order o) = stepping (Order o)
  entering (Fill fill) = stepping (Fill fill)
  entering (Cancel number) = stepping (Cancel number)
  entering (DayEnd n m) = stepping (DayEnd n m)
  entering Pay = stepping Pay
  entering Drop = stepping Drop
  entering (Underlying row) = refl
  entering (Contract row) = refl
  entering (Opening cash) = refl

-- what is read of an entry's record
abbrev pub read_of : Entry → Figures → Reading
read_of entry f = record { answer = Found entry (length_for entry); figures = f }

-- where a carried record stands it is read as its entry, and a run enters that and goes on behind it
module _ (before : List ℕ) (e : Entry × Figures) (es : List (Entry × Figures)) (carried : Carried e.0 e.1) where
  pub carried_read : read_at (before ++ records_of (e ∷ es)) (length before) ≡ read_of e.0 e.1
  carried_read = written_read e.0 e.1 before (records_of es) carried.typed carried.counts ∙ ap (read_of e.0) carried.kept

  pub carried_goes_on : (places : ℕ) (b : Book) → let before' = before ++ record_of e.0 e.1 in
      let after = entered b e.0 e.1 in
      run_from (suc places) (before ++ records_of (e ∷ es)) (length before) b ≡ led after (run_from places (before' ++ records_of es) (length before') after.book)
  carried_goes_on places b =
      let record₀ = record_of e.0 e.1 in
      let len = length_for e.0 in
      let after = entered b e.0 e.1 in
      let long = record_length e.0 e.1 carried.typed carried.counts in
      let next : length before + len ≡ length (before ++ record₀) = omega (arith, length-append before record₀, long) in
      let there : length before < length (before ++ records_of (e ∷ es)) = omega (arith, length-append before (records_of (e ∷ es)), length-append record₀ (records_of es), long) in
      read_so places (before ++ records_of (e ∷ es)) (length before) b there e.0 len e.1 carried_read
      ∙ ap₂ (λ (s : List ℕ) (place : ℕ). led after (run_from places s place after.book)) (sym (append_assoc before record₀ (records_of es))) next

from : (before : List ℕ) (t : Tables) (a : Account) (entries : List (Entry × Figures)) → Each (λ e. Carried e.0 e.1) entries
    → (run_from (length entries) (before ++ records_of entries) (length before) (in_hand t a)).answers ≡ map answer_of (run t a entries)
unfolding run_from run
from before t a [] carried = refl
from before t a (e ∷ es) (carried, rest) =
    let before' = before ++ record_of e.0 e.1 in
    let after = step t a e.0 e.1 in
    ap (λ (r : Ran). r.answers) (carried_goes_on before e es carried (length es) (in_hand t a))
    ∙ ap (λ (x : Entered). (led x (run_from (length es) (before' ++ records_of es) (length before') x.book)).answers) (entering t a e.1 e.0)
    ∙ ap (answer_of after ∷◌) (from before' after.tables after.account es rest)

pub records_run : (t : Tables) (cash : ℕ) (entries : List (Entry × Figures)) → list_verdict t cash ≡ accept → Each (λ e. Carried e.0 e.1) entries
    → (list_run t cash (length entries) (records_of entries)).answers ≡ map answer_of (run t (opening cash) entries)
records_run t cash entries accepted carried =
    ap (λ (v : Verdict). (list_by v t cash (length entries) (records_of entries)).answers) accepted ∙ from [] t (opening cash) entries carried
