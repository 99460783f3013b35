-- What a run leaves at the start of both slices are its answers, so the lines of what is read there are the lines of the answers.
use mathlib.Core.Path.{◌≡◌, ap, ap₂, ◌∙◌}
use mathlib.Core.List.{List, map, ◌++◌}
use Prim.Native.Nat.{ℕ}
use lib.IntN.{ℤ}
use lib.ListN.{length, take, drop, length-map}
use lib.Seq.{take_at}
use Rattle.terms.specs.Verdicts.{accept}
use Rattle.desk.specs.Runs.{Ran}
use Rattle.desk.specs.declared.Run.{Run}
use Rattle.desk.proofs.Started.{Leaves}
use Rattle.book.specs.Lines.{lines_from}

-- the lines of answers, numbered on from the first one's number
abbrev pub lines_of : ℕ → List (ℕ × ℤ) → List ℕ
lines_of number answers = lines_from number (map (λ answer. answer.0) answers) (map (λ answer. answer.1) answers)

-- the answers stand at the start of what a run leaves in a slice
module _ {A : Type 0} (ran : Ran) (said : ℕ × ℤ → A) (lent now : List A) (is : now ≡ map said ran.answers ++ drop (length ran.answers) lent) where
  firsts : take (length ran.answers) now ≡ map said ran.answers
  firsts = ap (take (length ran.answers)) is ∙ take_at (map said ran.answers) _ (length ran.answers) (length-map ran.answers said)

module _ (ran : Ran) (run : Run) (numbers₀ numbers : List ℕ) (sums₀ sums : List ℤ) (left : Leaves accept ran run numbers₀ numbers sums₀ sums) where
  count : run.answered ≡ length ran.answers
  count = ap (λ (r : Run). r.answered) left.0

  pub lines_left : (number : ℕ) → lines_from number (take run.answered numbers) (take run.answered sums) ≡ lines_of number ran.answers
  lines_left number =
      ap₂ (lines_from number)
      (ap (λ (n : ℕ). take n numbers) count ∙ firsts ran (λ answer. answer.0) numbers₀ numbers left.1.0)
      (ap (λ (n : ℕ). take n sums) count ∙ firsts ran (λ answer. answer.1) sums₀ sums left.1.1)
