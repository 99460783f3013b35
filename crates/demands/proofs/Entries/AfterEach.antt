-- After each record of a run: the run with as many places as answers so far and one more has one record more, whose answer is the next, turn by turn from the first record on.
use mathlib.Core.Path.{◌≡◌, refl, sym, ap, ◌∙◌}
use mathlib.Core.Bool.{Bool, true, false, cond}
use mathlib.Core.List.{List}
use Prim.Native.Nat.{ℕ, zero, suc, ◌<◌}
use native.Mathlib.Decide.{dec_lt}
use native.Mathlib.Omega.{arith}
use lib.Dec.{ltb}
use lib.IntN.{ℤ, pos}
use lib.ListN.{get_or, length}
use Rattle.reading.specs.Reading.{read_at}
use Rattle.reader.specs.Reader.{found_at}
use Rattle.reading.specs.declared.Reading.{Reading}
use Rattle.set_up.specs.declared.stages.Book.{Book}
use Rattle.desk.specs.Runs.{Answered, Ran, ◌before◌, answer_to, ended, run_from, stopped_at}
use Rattle.desk.proofs.Turns.{no_byte, rest, turn}

-- the k-th answer of a run, and what it stands for between two runs
abbrev said : Ran → ℕ → ℕ × ℤ
said run k = get_or run.answers k (0, pos 0)

-- a turn, by whether a byte is left and whether the answer ends the run
abbrev turned : ℕ → Book → Answered → Bool → Bool → Ran → Ran
turned place b answer there ends more = cond there (answer before cond ends (stopped_at place answer.book) more) (ended place b)

-- what a record's answer stands for between two runs
abbrev pub Between : (Book → Book → Reading → ℕ → ℤ → Type 0) → List ℕ → Ran → Ran → ℕ × ℤ → Type 0
Between Told s run next answer = Told run.book next.book (read_at s run.place) answer.0 answer.1

-- what holds of the answer to any record, from a start that each answer leads to again, holds of each answer of a run
module _ (Start : Book → Type 0) (Told : Book → Book → Reading → ℕ → ℤ → Type 0) (next : (b : Book) (reading : Reading) → Start b → Start (answer_to b reading).book)
    (one : (b : Book) (reading : Reading) → Start b → let answer = answer_to b reading in Told b answer.book reading answer.number answer.available) where
  -- an answer behind the first is one of the rest, where there is a rest
  behind_first : (s : List ℕ) (place : ℕ) (b : Book) (answer : Answered) (there ends : Bool) (k : ℕ) (run run' whole : Ran)
      → let ran : Ran → Ran = turned place b answer there ends in
      (k < length whole.answers → Between Told s run run' (said whole k)) → suc k < length (ran whole).answers → Between Told s (ran run) (ran run') (said (ran whole) (suc k))
  behind_first s place b answer false ends k run run' whole so few = absurd (omega arith)
  behind_first s place b answer true true k run run' whole so few = absurd (omega arith)
  behind_first s place b answer true false k run run' whole so few = so (omega (arith, few))

  pub after_each : (k n : ℕ) (s : List ℕ) (place : ℕ) (b : Book) → Start b → k < length (run_from n s place b).answers
      → Between Told s (run_from k s place b) (run_from (suc k) s place b) (said (run_from n s place b) k)
  unfolding run_from
  after_each k zero s place b start few = absurd (omega arith)
  after_each zero (suc n) s place b start few =
      let answer = answer_to b (read_at s place) in
      go (ltb place (length s)) answer.ends (run_from n s (found_at s place).next answer.book) few
    where
      go : (there ends : Bool) (more : Ran)
          → let answer = answer_to b (read_at s place) in
          let ran : Ran → Ran = turned place b answer there ends in
          0 < length (ran more).answers → Between Told s (ended place b) (ran (ended (found_at s place).next answer.book)) (said (ran more) 0)
      go false ends more few = absurd (omega arith)
      go true true more few = one b (read_at s place) start
      go true false more few = one b (read_at s place) start
  after_each (suc k) (suc n) s place b start few =
      let answer = answer_to b (read_at s place) in
      behind_first s place b answer (ltb place (length s)) answer.ends k _ _ _ (after_each k n s (found_at s place).next answer.book (next b (read_at s place) start)) few

-- a run with more places than it has answers is the one with as many
pub as_answered : (n : ℕ) (s : List ℕ) (place : ℕ) (b : Book) → run_from n s place b ≡ run_from (length (run_from n s place b).answers) s place b
unfolding run_from
as_answered zero s place b = refl
as_answered (suc n) s place b =
    elim (dec_lt place (length s)) [
      | no none ↦ no_byte s place b (suc n) (omega (arith, none)) ∙ sym (no_byte s place b (length (run_from (suc n) s place b).answers) (omega (arith, none)))
      | yes there ↦
          let answer = answer_to b (read_at s place) in
          let whole = turn s place b n there in
          whole
          ∙ ap (λ (more : Ran). answer before more) (go answer answer.ends (as_answered n s (found_at s place).next answer.book))
          ∙ sym (turn s place b (length (rest s place n answer).answers) there)
          ∙ ap (λ (run : Ran). run_from (length run.answers) s place b) (sym whole)
    ]
  where
    go : (answer : Answered) (ends : Bool)
        → let more : ℕ → Ran = λ n. run_from n s (found_at s place).next answer.book in
        let next : ℕ → Ran = λ n. cond ends (stopped_at place answer.book) (more n) in
        more n ≡ more (length (more n).answers) → next n ≡ next (length (next n).answers)
    go answer true same = refl
    go answer false same = same
