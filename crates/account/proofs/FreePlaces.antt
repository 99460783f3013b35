-- The lowest free place is the lowest digit that stands in the number of the free places: a sum of distinct powers of 2 has its first term as its lowest digit and twice the sum of the others above it, and the search from 0 upwards looks at the same place first.
use mathlib.Core.Path.{◌≡◌, refl, sym, ap, ◌∙◌}
use mathlib.Core.Bool.{Bool, true, false, cond}
use Prim.Native.Nat.{ℕ, zero, suc, ◌+◌, ◌*◌, ◌/◌, ◌%◌, ◌^◌}
use native.Mathlib.Nat.{pow-succ'}
use native.Mathlib.Omega.{arith}
use lib.Count.{count_trailing_zeros, under}
use lib.Dec.{eqb}
use Rattle.account.specs.Orders.{free_place}
use Rattle.account.specs.Rows.{order}
use Rattle.account.specs.Running.{free_in}
use Rattle.terms.specs.Sums.{Σ, ◌when◌, lowest}
use Rattle.account.specs.declared.account.Account.{Account}

-- the number whose digits below n stand where a test holds
abbrev digits : ℕ → (ℕ → Bool) → ℕ
digits n test = Σ n (λ i. 2 ^ i when test i)

later : (ℕ → Bool) → ℕ → Bool
later test i = test (suc i)

twice : (x : ℕ) (test : Bool) → 2 * x when test ≡ 2 * (x when test)
twice x true = refl
twice x false = refl

-- the first term, and twice the sum of the others
digits_split : (n : ℕ) (test : ℕ → Bool) → digits (suc n) test ≡ (1 when test 0) + 2 * digits n (later test)
unfolding Σ later
digits_split zero test = omega arith
digits_split (suc n) test =
    let rest = digits_split n test in
    let last = ap (◌when test (suc n)) (pow-succ' 2 n) ∙ twice (2 ^ n) (test (suc n)) in
    omega (arith, rest, last)

suc_either : (b : Bool) (x y : ℕ) → cond b (suc x) (suc y) ≡ suc (cond b x y)
suc_either true x y = refl
suc_either false x y = refl

-- a search from 0 upwards that finds nothing at 0 finds what a search from 1 finds
lowest_later : (n : ℕ) (test : ℕ → Bool) → lowest (suc n) test ≡ cond (test 0) 0 (suc (lowest n (later test)))
unfolding lowest later
lowest_later zero test = refl
lowest_later (suc n) test = go (test 0) refl (lowest_later n test)
  where
    go : (b : Bool) → test 0 ≡ b → lowest (suc n) test ≡ cond b 0 (suc (lowest n (later test))) → lowest (suc (suc n)) test ≡ cond b 0 (suc (lowest (suc n) (later test)))
    go true e before = ap (λ k. cond (test k) k (suc (suc n))) before ∙ ap (λ b. cond b 0 (suc (suc n))) e
    go false e before = ap (λ k. cond (test k) k (suc (suc n))) before ∙ suc_either (test (suc (lowest n (later test)))) (lowest n (later test)) (suc n)

zeros_lowest : (n : ℕ) (test : ℕ → Bool) → count_trailing_zeros n (digits n test) ≡ lowest n test
unfolding count_trailing_zeros lowest Σ
zeros_lowest zero test = refl
zeros_lowest (suc n) test =
    ap (λ x. under (x % 2) (count_trailing_zeros n (x / 2))) (digits_split n test) ∙ go (test 0) (digits n (later test)) (zeros_lowest n (later test)) ∙ sym (lowest_later n test)
  where
    go : (b : Bool) (rest : ℕ) → count_trailing_zeros n rest ≡ lowest n (later test)
        → under (((1 when b) + 2 * rest) % 2) (count_trailing_zeros n (((1 when b) + 2 * rest) / 2)) ≡ cond b 0 (suc (lowest n (later test)))
    go true rest others =
        let odd : (1 + 2 * rest) % 2 ≡ 1 = omega arith in
        rw odd
    go false rest others =
        let even : (0 + 2 * rest) % 2 ≡ 0 = omega arith in
        let half : (0 + 2 * rest) / 2 ≡ rest = omega arith in
        rw (even, half) (ap suc others)

pub place_kept : (a : Account) → count_trailing_zeros 32 (free_in a) ≡ free_place a
unfolding free_in free_place
place_kept a = zeros_lowest 32 (λ i. eqb (order a i).number 0)
