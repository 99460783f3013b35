-- A slice that was lent to a run: it begins with the answers, and behind them it is as it was.
use mathlib.Core.Path.{◌≡◌, ap, ◌∙◌}
use mathlib.Core.List.{List, map, ◌++◌}
use Prim.Native.Nat.{ℕ, ◌<◌}
use native.Mathlib.Omega.{arith}
use lib.IntN.{ℤ, pos}
use lib.ListN.{drop, get_or, length, length-map, take, get_or-append, get_or-map}
use lib.Seq.{drop_at, take_at}

-- what is written of each answer: its number, or the available sum
module _ {A : Type 0} (part : ℕ × ℤ → A) (answers : List (ℕ × ℤ)) (lent left : List A) (e : left ≡ map part answers ++ drop (length answers) lent) where
  pub answer_at : (k : ℕ) → k < length answers → get_or left k (part (0, pos 0)) ≡ part (get_or answers k (0, pos 0))
  answer_at k few =
      let many = length-map answers part in
      ap (λ (l : List A). get_or l k (part (0, pos 0))) e
      ∙ get_or-append (map part answers) _ (part (0, pos 0)) k (omega (arith, few, many))
      ∙ get_or-map part answers k (0, pos 0)

  pub first_answers : take (length answers) left ≡ map part answers
  first_answers = ap (take (length answers)) e ∙ take_at (map part answers) _ (length answers) (length-map answers part)

  pub beyond_answers : drop (length answers) left ≡ drop (length answers) lent
  beyond_answers = ap (drop (length answers)) e ∙ drop_at (map part answers) _ (length answers) (length-map answers part)
