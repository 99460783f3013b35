-- The lowest is a number that passes, and none below it does: by induction on the bound, since a number once found is kept.
use mathlib.Core.Path.{◌≡◌, refl, sym, ◌∙◌, ap}
use mathlib.Core.Logic.{inl, inr}
use mathlib.Core.Bool.{Bool, true, false, cond, true≢false}
use Prim.Native.Nat.{ℕ, zero, suc, ◌+◌, ◌≤◌, ◌<◌}
use native.Mathlib.Nat.{eq-or-lt_of_le, le_of_suc-le-suc}
use native.Mathlib.Numerals.{add-one}
use native.Mathlib.Omega.{arith}
use Rattle.terms.specs.Sums.{lowest}

pub lowest_most : (n : ℕ) (test : ℕ → Bool) → lowest n test ≤ n
unfolding lowest
lowest_most zero test = omega arith
lowest_most (suc n) test =
    let before = lowest_most n test in
    elim (test (lowest n test)) as (λ b. cond b (lowest n test) (suc n) ≤ suc n) [ true ↦ omega (arith, before) | false ↦ omega arith ]

-- a number found below a smaller bound is kept
lowest_kept : (n m : ℕ) (test : ℕ → Bool) → n ≤ m → test (lowest n test) ≡ true → lowest m test ≡ lowest n test
unfolding lowest
lowest_kept n zero test h found =
    let none : 0 ≡ n = omega (arith, h) in
    ap (λ (k : ℕ). lowest k test) none
lowest_kept n (suc m) test h found =
    elim (eq-or-lt_of_le h) [
      | inl e ↦ ap (λ (k : ℕ). lowest k test) (sym e)
      | inr l ↦
          let before = lowest_kept n m test (omega (arith, l)) found in
          ap (λ (b : Bool). cond b (lowest m test) (suc m)) (ap test before ∙ found) ∙ before
    ]

-- it passes, where it is below the bound
pub lowest_passes : (n : ℕ) (test : ℕ → Bool) → lowest n test < n → test (lowest n test) ≡ true
unfolding lowest
lowest_passes zero test h = absurd (omega (arith, h))
lowest_passes (suc n) test h =
    let goal : (b : Bool) → test (lowest n test) ≡ b → cond b (lowest n test) (suc n) < suc n → test (cond b (lowest n test) (suc n)) ≡ true =
    elim [ true ↦ λ e l. e | false ↦ λ e l. absurd (omega (arith, l)) ] in
    goal (test (lowest n test)) refl h

-- where it does not, nothing was found
lowest_none : (n : ℕ) (test : ℕ → Bool) → test (lowest n test) ≡ false → lowest n test ≡ n
lowest_none n test none =
    elim (eq-or-lt_of_le (lowest_most n test)) [ inl e ↦ e | inr l ↦ absurd (true≢false (sym (lowest_passes n test l) ∙ none)) ]

-- none below it passes
pub lowest_first : (n : ℕ) (test : ℕ → Bool) (j : ℕ) → j < lowest n test → test j ≡ false
unfolding lowest
lowest_first zero test j h = absurd (omega (arith, h))
lowest_first (suc n) test j h =
    let goal : (b : Bool) → test (lowest n test) ≡ b → j < cond b (lowest n test) (suc n) → test j ≡ false =
    elim [
      | true ↦ λ e l. lowest_first n test j l
      | false ↦
          λ e l.
          let all = lowest_none n test e in
          elim (eq-or-lt_of_le (le_of_suc-le-suc l)) [
            | inl same ↦ ap test (same ∙ sym all) ∙ e
            | inr less ↦ lowest_first n test j (omega (arith, less, all))
          ]
    ] in
    goal (test (lowest n test)) refl h

-- a search from 0 upwards, as a loop makes it: as long as nothing passed below i, it ends at the lowest
pub lowest_start : (test : ℕ → Bool) → lowest 0 test ≡ 0
unfolding lowest
lowest_start test = refl

module _ (test : ℕ → Bool) (i : ℕ) (none : lowest i test ≡ i) where
  pub lowest_here : (n : ℕ) → i ≤ n → test i ≡ true → i ≡ lowest n test
  lowest_here n h passes = sym (lowest_kept i n test h (ap test none ∙ passes) ∙ none)

  pub lowest_on : test i ≡ false → lowest (i + 1) test ≡ i + 1
  unfolding lowest
  lowest_on fails = rw add-one (ap (λ (b : Bool). cond b (lowest i test) (suc i)) (ap test none ∙ fails))

  pub lowest_end : (n : ℕ) → i ≡ n → i ≡ lowest n test
  lowest_end n e = sym (ap (λ (k : ℕ). lowest k test) (sym e) ∙ none)
