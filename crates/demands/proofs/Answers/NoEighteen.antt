-- No public function answers with 18, and no book was answered with it while the check was in: each has a list of the numbers that it answers with, and 18 is in none.
use mathlib.Core.Bool.{false, true≢false}
use mathlib.Core.List.{List, [], ◌∷◌, map}
use mathlib.Core.Path.{◌≡◌, refl, sym, subst, ◌∙◌}
use Prim.Native.Nat.{ℕ}
use lib.ListN.{take}
use Rattle.rules.proofs.margin.Reads as margin
use Rattle.rules.proofs.premium.Reads as premium
use Rattle.exercise.proofs.exercise.Reads as exercise
use Rattle.assignment.proofs.assign.Reads as assign
use Rattle.entries.specs.Entries.{no_figures}
use Rattle.entries.specs.declared.entry.Entry.TheVariants.{Fill}
use Rattle.entries.specs.declared.entry.Fill as Given
use Rattle.reading.specs.Reading as reading
use Rattle.reading.proofs.read.Reads as read
use Rattle.reader.proofs.read_next.Reads as read_next
use Rattle.writing.proofs.write.Reads as write
use Rattle.account.specs.Checks.{member}
use Rattle.account.specs.Fills.{named}
use Rattle.account.specs.InOrder.{fill_tests}
use Rattle.account.specs.Sound.{Sound}
use Rattle.account.specs.Steps.{refusal_of}
use Rattle.terms.specs.Verdicts.{number_in}
use Rattle.account.specs.declared.account.Account.{Account}
use Rattle.terms.specs.Verdicts.{Verdict}
use Rattle.account.specs.declared.tables.Tables.{Tables}
use Rattle.account.proofs.InOrder.{entry_number}
use Rattle.set_up.specs.Stages.{new_book}
use Rattle.desk.specs.Runs.{Ran, book_run}
use Rattle.desk.proofs.run_book.Reads as run_book
use Rattle.desk.proofs.run_list.Reads as run_list
use Rattle.desk.proofs.run_on.Reads as run_on
use Rattle.reader.proofs.Reader.next.Reads as next
use Rattle.demands.specs.Each.{Each, Not18, OneOf, fill_numbers, run_numbers}
use Rattle.demands.specs.WithEighteen.{book_run_with18, fill_verdict_with18}
use Rattle.demands.proofs.Answers.EveryInput.{book_numbers, list_numbers, list_verdict_numbers, margin_numbers, next_numbers, on_numbers, premium_numbers, read_next_numbers, read_numbers, write_numbers}
use Rattle.demands.proofs.Answers.PaperNumbers.{first_among}
use Rattle.demands.proofs.Answers.RunsTold.{run_numbers_lem}
use Rattle.demands.proofs.Entries.WithEighteen.{book_same, fill_same}
use Rattle.demands.proofs.Expiry.Assigned.{assign_numbers}
use Rattle.demands.proofs.Expiry.Exercised.{exercise_numbers}

module _ (numbers : List ℕ) (unused : member 18 numbers ≡ false) where
  not_18 : {n : ℕ} → OneOf numbers n → Not18 n
  not_18 one is = true≢false (sym (subst (OneOf numbers) is one) ∙ unused)

  none_18 : (said : List ℕ) → Each (OneOf numbers) said → Each Not18 said
  none_18 [] each = tt
  none_18 (n ∷ said) each = (not_18 each.0, none_18 said each.1)

pub margin_not_18 : (κs : _) (a : _) (r : _) (s : _) → margin.Post κs a r s → Not18 (number_in r)
margin_not_18 κs a r s p = not_18 (0 ∷ 4 ∷ []) refl (margin_numbers κs a r s p)

pub premium_not_18 : (κs : _) (a : _) (r : _) (s : _) → premium.Post κs a r s → Not18 (number_in r)
premium_not_18 κs a r s p = not_18 (0 ∷ 4 ∷ []) refl (premium_numbers κs a r s p)

pub read_not_18 : (κs : _) (a : _) (r : _) (s : _) → read.Post κs a r s → Not18 (reading.number_in r.answer)
read_not_18 κs a r s p = not_18 (0 ∷ 1 ∷ 2 ∷ 3 ∷ []) refl (read_numbers κs a r s p)

pub next_not_18 : (κs : _) (a : _) (r : _) (s : _) → next.Post κs a r s → Not18 (reading.number_in r.answer)
next_not_18 κs a r s p = not_18 (0 ∷ 1 ∷ 2 ∷ 3 ∷ []) refl (next_numbers κs a r s p)

pub read_next_not_18 : (κs : _) (a : _) (r : _) (s : _) → read_next.Post κs a r s → Not18 (reading.number_in r.reading.answer)
read_next_not_18 κs a r s p = not_18 (0 ∷ 1 ∷ 2 ∷ 3 ∷ []) refl (read_next_numbers κs a r s p)

pub write_not_18 : (κs : _) (a : _) (r : _) (s : _) → write.Post κs a r s → Not18 (number_in r)
write_not_18 κs a r s p = not_18 (0 ∷ 3 ∷ 17 ∷ []) refl (write_numbers κs a r s p)

pub exercise_not_18 : (κs : _) (a : _) (r : _) (s : _) → exercise.Post κs a r s → Not18 (number_in r)
exercise_not_18 κs a r s p = not_18 (0 ∷ 4 ∷ 22 ∷ 23 ∷ []) refl (exercise_numbers κs a r s p)

pub assign_not_18 : (κs : _) (a : _) (r : _) (s : _) → assign.Post κs a r s → Not18 (number_in r)
assign_not_18 κs a r s p = not_18 (0 ∷ 4 ∷ 17 ∷ []) refl (assign_numbers κs a r s p)

pub list_verdict_not_18 : (κs : _) (a : _) (r : _) (s : _) → run_list.Post κs a r s → Not18 (number_in r.verdict)
list_verdict_not_18 κs a r s p = not_18 (0 ∷ 4 ∷ 5 ∷ []) refl (list_verdict_numbers κs a r s p)

-- each number that was written
pub list_not_18 : (κs : _) (a : _) (r : _) (s : _) → run_list.Post κs a r s → Each Not18 (take r.answered s.1.1.1.0.now)
list_not_18 κs a r s p = none_18 run_numbers refl (take r.answered s.1.1.1.0.now) (list_numbers κs a r s p)

pub book_not_18 : (κs : _) (a : _) (r : _) (s : _) → run_book.Post κs a r s → Each Not18 (take r.answered s.1.0.now)
book_not_18 κs a r s p = none_18 run_numbers refl (take r.answered s.1.0.now) (book_numbers κs a r s p)

pub on_not_18 : (κs : _) (a : _) (r : _) (s : _) → run_on.Post κs a r s → Each Not18 (take r.answered s.1.1.1.0.now)
on_not_18 κs a r s p = none_18 run_numbers refl (take r.answered s.1.1.1.0.now) (on_numbers κs a r s p)

-- the desk with the check still in: "no book reaches 18", since no fill of a sound account is refused with it
pub no_fill_reached_18 : (t : Tables) (a : Account) (fill : Given.Fill) → Sound t a → Not18 (number_in (fill_verdict_with18 (named t a fill.number) fill))
unfolding refusal_of
no_fill_reached_18 t a fill sound =
    let tests = fill_tests (named t a fill.number) fill in
    let told = subst (OneOf fill_numbers) (sym (entry_number t a (Fill fill) no_figures)) (first_among fill_numbers tests refl search) in
    subst (λ (v : Verdict). Not18 (number_in v)) (sym (fill_same t a fill sound)) (not_18 fill_numbers refl told)

abbrev numbers_of : Ran → List ℕ
numbers_of run = map (λ answer. answer.0) run.answers

pub no_book_reached_18 : (places : ℕ) (s : List ℕ) → Each Not18 (numbers_of (book_run_with18 places s))
no_book_reached_18 places s =
    subst (λ (run : Ran). Each Not18 (numbers_of run)) (sym (book_same places s)) (none_18 run_numbers refl (numbers_of (book_run places s)) (run_numbers_lem places s 0 new_book))
