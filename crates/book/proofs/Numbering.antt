-- The lines of one record more are those before it and its own, whose number is the first one's and as many more as lines stand before it.
use mathlib.Core.Path.{◌≡◌, sym, ap, ◌∙◌}
use mathlib.Core.List.{List, [], ◌∷◌, ◌++◌, append-nil, append_assoc}
use Prim.Native.Nat.{ℕ, zero, suc, ◌+◌, ◌<◌}
use native.Mathlib.Nat.{add-zero, add-suc, suc-add}
use native.Mathlib.Numerals.{add-one}
use native.Mathlib.Omega.{arith}
use lib.IntN.{ℤ, pos}
use lib.ListN.{length, get_or, take}
use Rattle.book.specs.Lines.{line_of, lines_from}

one_more_line : (i number : ℕ) (refusals : List ℕ) (sums : List ℤ) → i < length refusals → i < length sums
    → lines_from number (take (suc i) refusals) (take (suc i) sums) ≡ lines_from number (take i refusals) (take i sums) ++ line_of (number + i) (get_or refusals i 0) (get_or sums i (pos 0))
unfolding lines_from
one_more_line i number [] sums h g = absurd (omega arith)
one_more_line i number (r ∷ refusals) [] h g = absurd (omega arith)
one_more_line zero number (r ∷ refusals) (s ∷ sums) h g = append-nil (line_of number r s) ∙ ap (λ (n : ℕ). line_of n r s) (sym (add-zero number))
one_more_line (suc i) number (r ∷ refusals) (s ∷ sums) h g =
    let before : List ℕ = lines_from (suc number) (take i refusals) (take i sums) in
    ap (λ (l : List ℕ). line_of number r s ++ l)
    (one_more_line i (suc number) refusals sums (omega arith) (omega arith)
    ∙ ap (λ (n : ℕ). before ++ line_of n (get_or refusals i 0) (get_or sums i (pos 0))) (suc-add number i ∙ sym (add-suc number i)))
    ∙ sym (append_assoc (line_of number r s) before (line_of (number + suc i) (get_or refusals i 0) (get_or sums i (pos 0))))

pub next_line : (first i : ℕ) (refusals : List ℕ) (sums : List ℤ) → i < length refusals → i < length sums
    → lines_from (suc first) (take (i + 1) refusals) (take (i + 1) sums)
    ≡ lines_from (suc first) (take i refusals) (take i sums) ++ line_of (first + i + 1) (get_or refusals i 0) (get_or sums i (pos 0))
next_line first i refusals sums h g =
    let number : suc first + i ≡ first + i + 1 = omega arith in
    ap (λ (n : ℕ). lines_from (suc first) (take n refusals) (take n sums)) (add-one i)
    ∙ one_more_line i (suc first) refusals sums h g
    ∙ ap (λ (n : ℕ). lines_from (suc first) (take i refusals) (take i sums) ++ line_of n (get_or refusals i 0) (get_or sums i (pos 0))) number
