-- The gift, of two runs from their bytes: two lists read the same bytes and two books alike ones, so the runs go side by side, and what is returned and written is what the runs say.
use mathlib.Core.List.{List, map}
use mathlib.Core.Path.{◌≡◌, refl, sym, ap, subst, ◌∙◌}
use Prim.Native.Nat.{ℕ, suc, ◌≤◌, ◌<◌}
use native.Mathlib.Omega.{arith}
use lib.IntN.{ℤ, pos, ◌+ℤ◌}
use lib.ListN.{get_or, length, length-map, take}
use lib.Seq.{take_at}
use Rattle.std.specs.Prelude.{Ok}
use Rattle.reading.specs.Reading.{read_at}
use Rattle.terms.specs.Verdicts.{Verdict, accept}
use Rattle.account.specs.declared.tables.Tables.{Tables}
use Rattle.rows.specs.Given.{list_verdict}
use Rattle.set_up.specs.Stages.{new_book}
use Rattle.set_up.specs.declared.stages.Book.{Book}
use Rattle.set_up.specs.declared.stages.Stage.{Stage}
use Rattle.set_up.specs.declared.stages.Stage.TheVariants.{Entries}
use Rattle.desk.specs.Runs.{Ran, available_at, available_in, book_run, list_run, numbers_left, places_in, run_from, told}
use Rattle.desk.specs.declared.Run.{Run}
use Rattle.desk.proofs.Places.{few_answers}
use Rattle.desk.proofs.run_book.Reads as run_book
use Rattle.desk.proofs.run_list.Reads as run_list
use Rattle.demands.specs.Each.{Each}
use Rattle.demands.specs.GiftRuns.{BookBeside, BooksAlike, FirstAccepts, GivenBeside, ReadAlike, SecondToo}
use Rattle.demands.proofs.Answers.RunsTold.{read_goes_on}
use Rattle.demands.proofs.Entries.EveryEntry.{book_sums, list_sums}
use Rattle.demands.proofs.Gift.BooksBeside.{Abreast, Room, abreast_beside, not_open}
use Rattle.demands.proofs.Gift.ListsBeside.{list_accepted, list_few, list_steps}
use Rattle.demands.proofs.Gift.Relisted.{same_row}
use Rattle.demands.proofs.Gift.RunsBeside.{AllAccepted, InStep, ReadsOn, together}

-- what the caller of a run holds afterwards, by the runs with fewer places
record Held (runs : ℕ → Ran) (n : ℕ) (r : Run) (numbers : List ℕ) (sums : List ℤ) : Type 0 where
  few : r.answered ≤ n
  answered : r.answered ≡ length (runs n).answers
  place : r.place ≡ (runs n).place
  book : r.book ≡ (runs n).book
  written : take r.answered numbers ≡ map (λ answer. answer.0) (runs n).answers
  available : (k : ℕ) → k < r.answered → get_or sums k (pos 0) ≡ available_in (runs (suc k)).book

more_available : {X : ℕ} {b b' : Book} → BookBeside X b b' → b.stage ≡ Entries → available_in b' ≡ available_in b +ℤ pos X
more_available {X} {b} {b'} so stands =
    ap (λ (stage : Stage). available_at stage b'.account.sheet) (so.stage ∙ stands)
    ∙ (so.account stands).available
    ∙ sym (ap (λ (stage : Stage). available_at stage b.account.sheet +ℤ pos X) stands)

held_too : {X n n' : ℕ} {runs runs' : ℕ → Ran} {r r' : Run} {numbers numbers' : List ℕ} {sums sums' : List ℤ} → Held runs n r numbers sums
    → Held runs' n' r' numbers' sums' → n' ≡ n → r'.verdict ≡ accept
    → ((k : ℕ) → k ≤ n → InStep X (runs k) (runs' k)) → SecondToo X runs runs' r r' numbers' sums sums'
held_too {X} {n} {n'} {runs} {runs'} {r} {r'} {numbers} {numbers'} {sums} {sums'} first other places accepted steps =
    let second = subst (λ (n : ℕ). Held runs' n r' numbers' sums') places other in
    let whole = steps n (omega arith) in
    let same : r'.answered ≡ r.answered = second.answered ∙ whole.answered ∙ sym first.answered in
    let beside : (k : ℕ) → k ≤ r.answered → BookBeside X (runs k).book (runs' k).book = λ k few. abreast_beside (steps k (omega (arith, first.few))).abreast in
    record {
      verdict = accepted;
      answered = same;
      place = second.place ∙ whole.place ∙ sym first.place;
      all = subst (Each (λ number. number ≡ 0)) (sym second.written) whole.all;
      after = beside;
      available =
          λ k few stands. second.available k (omega (arith, same)) ∙ more_available (beside (suc k) few) stands ∙ ap (λ (sum : ℤ). sum +ℤ pos X) (sym (first.available k few));
      returned = rw (first.book, second.book) (abreast_beside whole.abreast);
    }

held_accepts : {X n : ℕ} {runs : ℕ → Ran} {r : Run} {numbers : List ℕ} {sums : List ℤ} → Held runs n r numbers sums → FirstAccepts X runs r numbers
    → AllAccepted (runs n) × ((i : ℕ) → i ≤ length (runs n).answers → Room X (runs i).book)
held_accepts held accepts = (subst (Each (λ number. number ≡ 0)) held.written accepts.all, λ i few. accepts.ceiling i (omega (arith, few, held.answered)))

-- what was told and written says so
told_held : (runs : ℕ → Ran) (n : ℕ) (v : Verdict) (r : Run) (lent numbers : List ℕ) (sums : List ℤ) → r ≡ told v (runs n) → numbers ≡ numbers_left (runs n) lent
    → length (runs n).answers ≤ n → ((k : ℕ) → k < r.answered → get_or sums k (pos 0) ≡ available_in (runs (suc k)).book) → Held runs n r numbers sums
told_held runs n v r lent numbers sums is written few available =
    let answered : r.answered ≡ length (runs n).answers = ap (λ (run : Run). run.answered) is in
    let said = map (λ answer. answer.0) (runs n).answers in
    record {
      few = omega (arith, answered, few);
      answered = answered;
      place = ap (λ (run : Run). run.place) is;
      book = ap (λ (run : Run). run.book) is;
      written = ap (take r.answered) written ∙ take_at said _ r.answered (length-map (runs n).answers (λ answer. answer.0) ∙ sym answered);
      available = available;
    }

book_held : (κs : _) (a : _) (r : _) (s : _) → run_book.Post κs a r s
    → Held (λ k. book_run k a.0.now) (places_in a.1.0.now a.1.1.0.now) r s.1.0.now s.1.1.0.now
book_held κs a r s p =
    told_held _ _ accept r a.1.0.now _ _ p.0 p.1.0 (few_answers _ a.0.now 0 new_book) (book_sums κs a r s p)

list_judged : (κs : _) (a : _) (r : _) (s : _) → run_list.Post κs a r s → r.verdict ≡ list_verdict a.0 a.1.0
list_judged κs a r s p = ap (λ (run : Run). run.verdict) p.0

list_held : (κs : _) (a : _) (r : _) (s : _) → run_list.Post κs a r s → r.verdict ≡ accept
    → Held (λ k. list_run a.0 a.1.0 k a.1.1.0.now) (places_in a.1.1.1.0.now a.1.1.1.1.0.now) r s.1.1.1.0.now s.1.1.1.1.0.now
list_held κs a r s p accepted =
    told_held _ _ (list_verdict a.0 a.1.0) r a.1.1.1.0.now _ _ p.0 p.1.0 (list_few a.0 a.1.0 a.1.1.0.now (sym (list_judged κs a r s p) ∙ accepted) _)
    (list_sums κs a r s p accepted)

new_abreast : (X : ℕ) → Abreast X new_book new_book
new_abreast X =
    record {
      stage = refl;
      tables = record { contracts = refl; n = refl; m = refl; rows = λ u. same_row _ };
      rows = λ waits. refl;
      account = refl;
      held = λ opens. absurd (not_open refl opens);
    }

-- two books from their records on
module _ (X : ℕ) (s s' : List ℕ) where
  abbrev AlikeFrom : ℕ → Book → Type 0
  AlikeFrom place b = (k : ℕ) → let at = (run_from k s place b).place in ReadAlike X (read_at s at) (read_at s' at)

  alike_reads : ReadsOn X s s' AlikeFrom
  unfolding run_from
  alike_reads place b entry len alike there e accepted =
      let here = alike 0 entry len e in
      (here.0, here.1, here.2, λ k. subst (λ (r : Ran). ReadAlike X (read_at s r.place) (read_at s' r.place)) (read_goes_on k s place b there entry len e) (alike (suc k)))

pub list_gift : (X : ℕ) (κs κs' : _) (a a' : _) (r r' : _) (s s' : _) → run_list.Post κs a r s → run_list.Post κs' a' r' s'
    → let (tables, cash, bytes) : Tables × ℕ × List ℕ = (a.0, a.1.0, a.1.1.0.now) in
    let (tables', cash', bytes') : Tables × ℕ × List ℕ = (a'.0, a'.1.0, a'.1.1.0.now) in
    let places = places_in a.1.1.1.0.now a.1.1.1.1.0.now in
    let places' = places_in a'.1.1.1.0.now a'.1.1.1.1.0.now in
    let (numbers, sums) : List ℕ × List ℤ = (s.1.1.1.0.now, s.1.1.1.1.0.now) in
    let (numbers', sums') : List ℕ × List ℤ = (s'.1.1.1.0.now, s'.1.1.1.1.0.now) in
    let runs : ℕ → Ran = λ k. list_run tables cash k bytes in
    let runs' : ℕ → Ran = λ k. list_run tables' cash' k bytes' in
    GivenBeside X tables tables' cash cash' → bytes' ≡ bytes → places' ≡ places → FirstAccepts X runs r numbers → SecondToo X runs runs' r r' numbers' sums sums'
list_gift X κs κs' a a' r r' s s' first second beside bytes places accepts =
    let held = list_held κs a r s first accepts.verdict in
    let so = held_accepts held accepts in
    let accepted : list_verdict a.0 a.1.0 ≡ accept = sym (list_judged κs a r s first) ∙ accepts.verdict in
    let too : r'.verdict ≡ accept = list_judged κs' a' r' s' second ∙ list_accepted X _ a.0 a'.0 a.1.0 a'.1.0 a.1.1.0.now a'.1.1.0.now beside accepted so.1 in
    held_too held (list_held κs' a' r' s' second too) places too
    (list_steps X _ a.0 a'.0 a.1.0 a'.1.0 a.1.1.0.now a'.1.1.0.now beside accepted so.1 bytes so.0)

pub book_gift : (X : ℕ) (κs κs' : _) (a a' : _) (r r' : _) (s s' : _) → run_book.Post κs a r s → run_book.Post κs' a' r' s'
    → let (bytes, bytes') : List ℕ × List ℕ = (a.0.now, a'.0.now) in
    let places = places_in a.1.0.now a.1.1.0.now in
    let places' = places_in a'.1.0.now a'.1.1.0.now in
    let (numbers, sums) : List ℕ × List ℤ = (s.1.0.now, s.1.1.0.now) in
    let (numbers', sums') : List ℕ × List ℤ = (s'.1.0.now, s'.1.1.0.now) in
    let runs : ℕ → Ran = λ k. book_run k bytes in
    let runs' : ℕ → Ran = λ k. book_run k bytes' in
    BooksAlike X bytes bytes' → places' ≡ places → FirstAccepts X runs r numbers → SecondToo X runs runs' r r' numbers' sums sums'
book_gift X κs κs' a a' r r' s s' first second alike places accepts =
    let bytes = a.0.now in
    let bytes' = a'.0.now in
    let held = book_held κs a r s first in
    let so = held_accepts held accepts in
    held_too held (book_held κs' a' r' s' second) places (ap (λ (run : Run). run.verdict) second.0)
    (λ k few. together X bytes bytes' alike.size _ (alike_reads X bytes bytes') k _ few 0 new_book new_book alike.records (new_abreast X) so.0 so.1)
