-- The account that `largest` gives is among the accounts, none has a larger fraction, and those before it have a smaller one: by induction on the accounts, since the first gives way only to a later one that is larger.
use mathlib.Core.Path.{◌≡◌, refl}
use mathlib.Core.Bool.{Bool, true, false, cond}
use mathlib.Core.List.{List, [], ◌∷◌}
use Prim.Native.Nat.{ℕ, zero, suc, ◌≤◌, ◌<◌}
use native.Mathlib.Nat.{not-suc-le-zero}
use native.Mathlib.Decide.{dec_lt}
use native.Mathlib.Omega.{arith}
use borrow.Author.Tests.{leb-true, leb-false}
use lib.Dec.{leb, ltb}
use lib.ListN.{length, get_or, get_or-eq_default}
use Rattle.std.specs.Cmp.{IsStrictWeakOrder}
use Rattle.std.specs.List.{IsFirstBest}
use Rattle.std.proofs.lemmas.Bool.Decides.{nat_tests}
use Rattle.std.proofs.lemmas.Grind.{get_or_default_zero}
use Rattle.std.proofs.lemmas.List.MinMax.{IsFirstBest-unique, IsStrictWeakOrder-by_number, IsStrictWeakOrder-flip}
use Rattle.assignment.specs.Assignment.{largest}

pub record First (fractions : List ℕ) (best : ℕ) : Type 0 where
  pub none_larger : (i : ℕ) → get_or fractions i 0 ≤ get_or fractions best 0
  pub lower_smaller : (i : ℕ) → i < best → get_or fractions i 0 < get_or fractions best 0

module _ (x : ℕ) (xs : List ℕ) (rest : First xs (largest xs)) where
  below_first : get_or xs (largest xs) 0 ≤ x → (i : ℕ) → get_or (x ∷ xs) i 0 ≤ x
  below_first wins zero = omega arith
  below_first wins (suc k) = omega (arith, wins, rest.none_larger k)

  below_later : x < get_or xs (largest xs) 0 → (i : ℕ) → get_or (x ∷ xs) i 0 ≤ get_or xs (largest xs) 0
  below_later loses zero = omega (arith, loses)
  below_later loses (suc k) = rest.none_larger k

  lower_later : x < get_or xs (largest xs) 0 → (i : ℕ) → i < suc (largest xs) → get_or (x ∷ xs) i 0 < get_or xs (largest xs) 0
  lower_later loses zero h = loses
  lower_later loses (suc k) h = rest.lower_smaller k (omega (arith, h))

  one_more : (test : Bool) → leb (get_or xs (largest xs) 0) x ≡ test → First (x ∷ xs) (cond test 0 (suc (largest xs)))
  one_more true t = record { none_larger = below_first (leb-true _ _ t); lower_smaller = λ i h. absurd (not-suc-le-zero h) }
  one_more false t = record { none_larger = below_later (leb-false _ _ t); lower_smaller = lower_later (leb-false _ _ t) }

pub first : (fractions : List ℕ) → First fractions (largest fractions)
unfolding largest
first [] = record { none_larger = λ i. omega arith; lower_smaller = λ i h. absurd (not-suc-le-zero h) }
first (x ∷ xs) = one_more x xs (first xs) (leb (get_or xs (largest xs) 0) x) refl

-- what is past the last account has no fraction
pub has_place : (fractions : List ℕ) (i : ℕ) → 0 < get_or fractions i 0 → i < length fractions
has_place fractions i some =
    elim (dec_lt i (length fractions)) [
      | yes h ↦ h
      | no h ↦ let past : length fractions ≤ i = omega (arith, h) in let none = get_or-eq_default fractions 0 past in absurd (omega (arith, some, none))
    ]

-- the first of the largest is the one that `largest` gives, since there is one such place
larger_first : IsStrictWeakOrder (λ (x y : ℕ). ltb y x)
larger_first = IsStrictWeakOrder-flip (λ (x y : ℕ). ltb x y) (IsStrictWeakOrder-by_number (λ (x : ℕ). x))

its_place : (fractions : List ℕ) → 0 < length fractions → IsFirstBest (λ x y. ltb y x) fractions (length fractions) (largest fractions)
its_place fractions some =
    let is = first fractions in
    let inside : largest fractions < length fractions =
    elim (dec_lt 0 (largest fractions)) [
      | yes h ↦ has_place fractions (largest fractions) (omega (arith, is.lower_smaller 0 h))
      | no h ↦ omega (arith, h, some)
    ] in
    (inside, λ k d h. let none = is.none_larger k in grind (arith, nat_tests, get_or_default_zero), λ k d h. let less = is.lower_smaller k h in grind (arith, nat_tests, get_or_default_zero))

pub first_best : (fractions : List ℕ) (i best : ℕ) → IsFirstBest (λ x y. ltb y x) fractions i best → i ≡ length fractions → best ≡ largest fractions
first_best fractions i best is e =
    let all : IsFirstBest (λ x y. ltb y x) fractions (length fractions) best = rw (← e) is in
    IsFirstBest-unique larger_first fractions (length fractions) best (largest fractions) 0 all (its_place fractions (omega (arith, all.0)))
