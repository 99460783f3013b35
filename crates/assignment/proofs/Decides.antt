-- The statement decides the shares. Where one list gives an account one contract more than the other, that account comes before each whom the other list serves instead; and there each of those comes before it. So there is none, the first list gives nobody less, and adds up to more than E.
use mathlib.Core.Path.{◌≡◌, sym, ◌∙◌}
use mathlib.Core.List.{List}
use mathlib.Core.Logic.{◌⊎◌, inl, inr}
use Prim.Native.Nat.{ℕ, ◌+◌, ◌≤◌, ◌<◌}
use native.Mathlib.Decide.{dec_lt}
use native.Mathlib.Omega.{arith}
use lib.ListN.{length, get_or}
use lib.Seq.{ext_get_or}
use Rattle.terms.proofs.Sums.{Σ-more}
use Rattle.assignment.specs.Assignment.{fraction, whole_part}
use Rattle.assignment.specs.Stated.{Before, Stated}

one_first : (rest : ℕ → ℕ) (i j : ℕ) → Before rest i j → Before rest j i → ⊥
one_first rest i j (inl p) (inl q) = omega (arith, p, q)
one_first rest i j (inl p) (inr q) = omega (arith, p, q)
one_first rest i j (inr p) (inl q) = omega (arith, p, q)
one_first rest i j (inr p) (inr q) = omega (arith, p, q)

module _ (E : ℕ) (short covered : List ℕ) where
  abbrev whole : ℕ → ℕ
  whole = whole_part E short covered

  module _ (one other : List ℕ) (first : Stated E short covered one) (second : Stated E short covered other) where
    -- served by the first and not by the second
    module _ (i : ℕ) (there : i < length short) (served : get_or one i 0 ≡ whole i + 1) (waits : get_or other i 0 ≡ whole i) where
      none_instead : (j : ℕ) → j < length short → get_or one j 0 < get_or other j 0 → ⊥
      none_instead j h less = go (first.whole_first j h) (second.whole_first j h)
        where
          go : (get_or one j 0 ≡ whole j) ⊎ (get_or one j 0 ≡ whole j + 1) → (get_or other j 0 ≡ whole j) ⊎ (get_or other j 0 ≡ whole j + 1) → ⊥
          go (inl p) (inr q) = one_first (fraction E short covered) i j (first.in_order i j there h served p) (second.in_order j i h there q waits)
          go (inl p) (inl q) = omega (arith, p, q, less)
          go (inr p) (inl q) = omega (arith, p, q, less)
          go (inr p) (inr q) = omega (arith, p, q, less)

      nobody_less : (j : ℕ) → j < length short → get_or other j 0 ≤ get_or one j 0
      nobody_less j h = elim (dec_lt (get_or one j 0) (get_or other j 0)) [ yes less ↦ absurd (none_instead j h less) | no not_less ↦ omega (arith, not_less) ]

      not_both : ⊥
      not_both =
          let more = Σ-more (length short) i (λ j. get_or other j 0) (λ j. get_or one j 0) there nobody_less (omega (arith, served, waits)) in
          omega (arith, more, first.adds_up, second.adds_up)

  pub decides : (one other : List ℕ) → Stated E short covered one → Stated E short covered other → one ≡ other
  decides one other first second =
      ext_get_or 0 one other (first.accounts ∙ sym second.accounts)
      (λ i h. let there : i < length short = omega (arith, h, first.accounts) in same i there (first.whole_first i there) (second.whole_first i there))
    where
      same : (i : ℕ) → i < length short → (get_or one i 0 ≡ whole i) ⊎ (get_or one i 0 ≡ whole i + 1) → (get_or other i 0 ≡ whole i) ⊎ (get_or other i 0 ≡ whole i + 1) → get_or one i 0 ≡ get_or other i 0
      same i there (inl p) (inl q) = p ∙ sym q
      same i there (inr p) (inr q) = p ∙ sym q
      same i there (inr p) (inl q) = absurd (not_both one other first second i there p q)
      same i there (inl p) (inr q) = absurd (not_both other one second first i there q p)
