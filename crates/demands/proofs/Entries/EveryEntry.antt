-- After every entry of every list and every book: what was written at a place is the answer to its record, and that is as document 01 has it.
use mathlib.Core.Path.{◌≡◌, refl, sym, ap, subst, ◌∙◌}
use mathlib.Core.List.{List}
use Prim.Native.Nat.{ℕ, suc, ◌<◌}
use native.Mathlib.Omega.{arith}
use lib.IntN.{ℤ, pos}
use lib.ListN.{get_or, length}
use Rattle.std.specs.Prelude.{Ok, Err}
use Rattle.reading.specs.Reading.{read_at}
use Rattle.reading.specs.declared.Reading.{Reading}
use Rattle.terms.specs.Verdicts.{Verdict, accept}
use Rattle.account.specs.declared.tables.Tables.{Tables}
use Rattle.rows.specs.Given.{list_verdict}
use Rattle.set_up.specs.Sound.{SoundBook}
use Rattle.set_up.specs.Stages.{new_book, opened}
use Rattle.set_up.specs.declared.stages.Book.{Book}
use Rattle.set_up.proofs.EnteredSound.{list_sound, new_sound}
use Rattle.desk.specs.Runs.{Ran, answer_to, available_in, book_run, list_by, list_run, run_from, told}
use Rattle.desk.specs.declared.Run.{Run}
use Rattle.desk.proofs.Answered.{answer_sound}
use Rattle.desk.proofs.Started.{Leaves}
use Rattle.desk.proofs.run_book.Reads as run_book
use Rattle.desk.proofs.run_list.Reads as run_list
use Rattle.demands.specs.EveryEntry.{AfterEntry}
use Rattle.demands.proofs.Answers.LentSlices.{answer_at}
use Rattle.demands.proofs.Entries.AfterEach.{Between, after_each, as_answered}
use Rattle.demands.proofs.Entries.OneAnswer.{answer_available, answer_told}

-- what holds of the answer to any record, from such a start, holds of what was written at each answered place
module _ (Start : Book → Type 0) (Told : Book → Book → Reading → ℕ → ℤ → Type 0) (next : (b : Book) (reading : Reading) → Start b → Start (answer_to b reading).book)
    (one : (b : Book) (reading : Reading) → Start b → let answer = answer_to b reading in Told b answer.book reading answer.number answer.available)
    (n : ℕ) (s : List ℕ) (r : Run) (numbers₀ numbers : List ℕ) (sums₀ sums : List ℤ) where
  run_after_each : (start : Book) → Start start → Leaves accept (run_from n s 0 start) r numbers₀ numbers sums₀ sums → (k : ℕ) → k < r.answered
      → Between Told s (run_from k s 0 start) (run_from (suc k) s 0 start) (get_or numbers k 0, get_or sums k (pos 0))
  run_after_each start sound left k answered =
      let whole = run_from n s 0 start in
      let few : k < length whole.answers = subst (λ (run : Run). k < run.answered) left.0 answered in
      let number = answer_at (λ answer. answer.0) whole.answers numbers₀ numbers left.1.0 k few in
      let sum = answer_at (λ answer. answer.1) whole.answers sums₀ sums left.1.1 k few in
      subst (Between Told s (run_from k s 0 start) (run_from (suc k) s 0 start)) (λ i. (sym number i, sym sum i)) (after_each Start Told next one k n s 0 start sound few)

  list_each : (v : Verdict) (t : Tables) (cash : ℕ) → Leaves v (list_by v t cash n s) r numbers₀ numbers sums₀ sums → v ≡ accept → Start (opened t cash) → (k : ℕ) → k < r.answered
      → Between Told s (list_by v t cash k s) (list_by v t cash (suc k) s) (get_or numbers k 0, get_or sums k (pos 0))
  list_each (Ok tt) t cash left accepted sound = run_after_each (opened t cash) sound left
  list_each (Err why) t cash left accepted sound = let never : ◌≡◌ {A = ℕ} 0 1 = cc in absurd (omega arith)

-- what is returned of a run that ended with its last answer
returned : (v : Verdict) (r : Run) (runs : ℕ → Ran) (n : ℕ) → runs n ≡ runs (length (runs n).answers) → r ≡ told v (runs n)
    → let after = runs r.answered in (r.book ≡ after.book) × (r.place ≡ after.place)
returned v r runs n same e =
    let all : r ≡ told v (runs r.answered) = e ∙ ap (told v) same ∙ ap (λ (run : Run). told v (runs run.answered)) (sym e) in
    (ap (λ (run : Run). run.book) all, ap (λ (run : Run). run.place) all)

list_as_answered : (v : Verdict) (t : Tables) (cash n : ℕ) (s : List ℕ) → list_by v t cash n s ≡ list_by v t cash (length (list_by v t cash n s).answers) s
list_as_answered (Ok tt) t cash n s = as_answered n s 0 (opened t cash)
list_as_answered (Err why) t cash n s = refl

pub book_after_each : (κs : _) (a : _) (r : _) (s : _) → run_book.Post κs a r s → (k : ℕ) → k < r.answered
    → let bytes = a.0.now in
    let (numbers, sums) : List ℕ × List ℤ = (s.1.0.now, s.1.1.0.now) in
    let runs : ℕ → Ran = λ k. book_run k bytes in
    AfterEntry (runs k).book (runs (suc k)).book (read_at bytes (runs k).place) (get_or numbers k 0) (get_or sums k (pos 0))
book_after_each κs a r s p = run_after_each SoundBook AfterEntry answer_sound answer_told _ _ r _ _ _ _ new_book new_sound p

-- what is returned is the book after the last answered record
pub book_returned : (κs : _) (a : _) (r : _) (s : _) → run_book.Post κs a r s → let after = book_run r.answered a.0.now in (r.book ≡ after.book) × (r.place ≡ after.place)
book_returned κs a r s p = returned accept r (λ k. book_run k a.0.now) _ (as_answered _ a.0.now 0 new_book) p.0

-- of tables that have as many rows as their type says: every list's do
pub list_after_each : (κs : _) (a : _) (r : _) (s : _) → run_list.Post κs a r s → r.verdict ≡ accept → length a.0.underlyings ≡ 8 → length a.0.contracts ≡ 64
    → (k : ℕ) → k < r.answered
    → let (tables, cash, bytes) : Tables × ℕ × List ℕ = (a.0, a.1.0, a.1.1.0.now) in
    let (numbers, sums) : List ℕ × List ℤ = (s.1.1.1.0.now, s.1.1.1.1.0.now) in
    let runs : ℕ → Ran = λ k. list_run tables cash k bytes in
    AfterEntry (runs k).book (runs (suc k)).book (read_at bytes (runs k).place) (get_or numbers k 0) (get_or sums k (pos 0))
list_after_each κs a r s p accepted underlyings contracts =
    let given = sym (ap (λ (run : Run). run.verdict) p.0) ∙ accepted in
    list_each SoundBook AfterEntry answer_sound answer_told _ _ r _ _ _ _ _ _ _ p given (list_sound _ _ underlyings contracts given)

pub list_returned : (κs : _) (a : _) (r : _) (s : _) → run_list.Post κs a r s
    → let after = list_run a.0 a.1.0 r.answered a.1.1.0.now in (r.book ≡ after.book) × (r.place ≡ after.place)
list_returned κs a r s p =
    returned (list_verdict a.0 a.1.0) r (λ k. list_run a.0 a.1.0 k a.1.1.0.now) _ (list_as_answered (list_verdict a.0 a.1.0) a.0 a.1.0 _ a.1.1.0.now) p.0

-- of any tables: the sums alone
abbrev Summed : Book → Book → Reading → ℕ → ℤ → Type 0
Summed before after reading number sum = sum ≡ available_in after

pub book_sums : (κs : _) (a : _) (r : _) (s : _) → run_book.Post κs a r s → (k : ℕ) → k < r.answered → get_or s.1.1.0.now k (pos 0) ≡ available_in (book_run (suc k) a.0.now).book
book_sums κs a r s p = run_after_each (λ b. Unit {0}) Summed (λ b reading any. tt) (λ b reading any. answer_available b reading) _ _ r _ _ _ _ new_book tt p

pub list_sums : (κs : _) (a : _) (r : _) (s : _) → run_list.Post κs a r s → r.verdict ≡ accept → (k : ℕ) → k < r.answered
    → get_or s.1.1.1.1.0.now k (pos 0) ≡ available_in (list_run a.0 a.1.0 (suc k) a.1.1.0.now).book
list_sums κs a r s p accepted =
    list_each (λ b. Unit {0}) Summed (λ b reading any. tt) (λ b reading any. answer_available b reading) _ _ r _ _ _ _ _ _ _ p (sym (ap (λ (run : Run). run.verdict) p.0) ∙ accepted) tt
