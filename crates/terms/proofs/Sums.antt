-- The laws of the one sum, each by induction on how many terms there are.
use mathlib.Core.Path.{◌≡◌, refl, sym, ap, subst}
use mathlib.Core.Logic.{◌≢◌, inl, inr}
use Prim.Native.Nat.{ℕ, zero, suc, ◌+◌, ◌*◌, ◌≤◌, ◌<◌}
use native.Mathlib.Nat.{eq-or-lt_of_le, le_of_suc-le-suc, not-suc-le-zero}
use native.Mathlib.Omega.{arith}
use Rattle.terms.specs.Sums.{Σ}

-- equal terms, equal sums
pub Σ-same : (n : ℕ) (f g : ℕ → ℕ) → ((i : ℕ) → i < n → f i ≡ g i) → Σ n f ≡ Σ n g
unfolding Σ
Σ-same zero f g e = refl
Σ-same (suc n) f g e =
    let rest = Σ-same n f g (λ i h. e i (omega (arith, h))) in
    let last = e n (omega arith) in
    omega (arith, rest, last)

-- terms that are all zero
pub Σ-none : (n : ℕ) (f : ℕ → ℕ) → ((i : ℕ) → i < n → f i ≡ 0) → Σ n f ≡ 0
unfolding Σ
Σ-none zero f e = refl
Σ-none (suc n) f e =
    let rest = Σ-none n f (λ i h. e i (omega (arith, h))) in
    let last = e n (omega arith) in
    omega (arith, rest, last)

-- no term greater, nor the sum
pub Σ-less : (n : ℕ) (f g : ℕ → ℕ) → ((i : ℕ) → i < n → f i ≤ g i) → Σ n f ≤ Σ n g
unfolding Σ
Σ-less zero f g e = omega arith
Σ-less (suc n) f g e =
    let rest = Σ-less n f g (λ i h. e i (omega (arith, h))) in
    let last = e n (omega arith) in
    omega (arith, rest, last)

-- .. and one that is smaller makes it smaller
pub Σ-more : (n i : ℕ) (f g : ℕ → ℕ) → i < n → ((j : ℕ) → j < n → f j ≤ g j) → f i < g i → Σ n f < Σ n g
unfolding Σ
Σ-more zero i f g h e less = absurd (not-suc-le-zero h)
Σ-more (suc n) i f g h e less =
    elim (eq-or-lt_of_le (le_of_suc-le-suc h)) [
      | inl same ↦
          let rest = Σ-less n f g (λ j l. e j (omega (arith, l))) in
          let one = ap f same in
          let other = ap g same in
          omega (arith, rest, one, other, less)
      | inr below ↦
          let rest = Σ-more n i f g below (λ j l. e j (omega (arith, l))) less in
          let last = e n (omega arith) in
          omega (arith, rest, last)
    ]

-- a bound on each term bounds the sum
pub Σ-bound : (n : ℕ) (f : ℕ → ℕ) (most : ℕ) → ((i : ℕ) → i < n → f i ≤ most) → Σ n f ≤ n * most
unfolding Σ
Σ-bound zero f most e = omega arith
Σ-bound (suc n) f most e =
    let rest = Σ-bound n f most (λ i h. e i (omega (arith, h))) in
    let last = e n (omega arith) in
    omega (arith, rest, last)

-- a part of the terms sums to no more than all of them
pub Σ-part : (n m : ℕ) (f : ℕ → ℕ) → n ≤ m → Σ n f ≤ Σ m f
unfolding Σ
Σ-part n zero f h =
    let none : 0 ≡ n = omega (arith, h) in
    subst (λ (k : ℕ). Σ k f ≤ 0) none (omega arith)
Σ-part n (suc m) f h =
    elim (eq-or-lt_of_le h) [
      | inl e ↦ subst (λ (k : ℕ). Σ k f ≤ Σ (suc m) f) (sym e) (omega arith)
      | inr l ↦ let rest = Σ-part n m f (omega (arith, l)) in omega (arith, rest)
    ]

-- one term is no more than the sum
pub Σ-term : (n i : ℕ) (f : ℕ → ℕ) → i < n → f i ≤ Σ n f
unfolding Σ
Σ-term n i f h = let some = Σ-part (suc i) n f h in omega (arith, some)

-- one changed term changes the sum by what it changed
pub Σ-changed : (n i : ℕ) (f g : ℕ → ℕ) → i < n → ((j : ℕ) → j < n → j ≢ i → f j ≡ g j) → Σ n g + f i ≡ Σ n f + g i
unfolding Σ
Σ-changed zero i f g h e = absurd (not-suc-le-zero h)
Σ-changed (suc n) i f g h e =
    elim (eq-or-lt_of_le (le_of_suc-le-suc h)) [
      | inl same ↦
          let rest = Σ-same n f g (λ j l. e j (omega (arith, l)) (λ k. absurd (omega (arith, l, k, same)))) in
          let one = ap f same in
          let other = ap g same in
          omega (arith, rest, one, other)
      | inr less ↦
          let rest = Σ-changed n i f g less (λ j l. e j (omega (arith, l))) in
          let last = e n (omega arith) (λ k. absurd (omega (arith, less, k))) in
          omega (arith, rest, last)
    ]
