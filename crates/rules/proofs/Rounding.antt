-- Rounding is to the nearest, halves up: the quotient's two bounds say so. What is rounded is one contract's: a count multiplies what was rounded, so the shares of a part fill and of the rest add up to the whole.
use mathlib.Core.Path.{◌≡◌, refl, ◌∙◌, ap}
use Prim.Native.Nat.{ℕ, ◌+◌, ◌*◌, ◌/◌, ◌%◌, ◌≤◌, ◌<◌}
use native.Mathlib.Nat.{mul-div-le, lt-mul-div-succ, mul_assoc, mul_comm, mul-le-mul_right, add-mul}
use native.Mathlib.Omega.{arith}
use borrow.Author.Tests.{eqb-false}
use Rattle.rules.specs.Count.{for_count}
use Rattle.rules.specs.Margin.{halves_up}
use Rattle.rules.specs.Premium.{premium_of}

-- x / d lies from half below the answer, counted, to half above it, not counted
pub nearest : (x d : ℕ) → 0 < d → (2 * d * halves_up x d ≤ 2 * x + d) × (2 * x + d < 2 * d * (halves_up x d + 1))
unfolding halves_up
nearest x d h = (mul-div-le (2 * x + d) (2 * d), lt-mul-div-succ (2 * x + d) (omega arith))

-- a multiple of 100 times x is 100 times a whole number
pub hundreds : (U x : ℕ) → U % 100 ≡ 0 → U * x ≡ 100 * (U / 100 * x)
hundreds U x h =
    let whole : U ≡ 100 * (U / 100) = omega arith in
    ap (λ (u : ℕ). u * x) whole ∙ mul_assoc 100 (U / 100) x

-- so a premium is exact
pub premium_exact : (price U : ℕ) → U % 100 ≡ 0 → 100 * premium_of price U ≡ price * U
unfolding premium_of
premium_exact price U h = omega (arith, mul_comm price U, hundreds U price h)

-- a premium rises with its price
pub premium_rises : {price limit : ℕ} (U : ℕ) → price ≤ limit → premium_of price U ≤ premium_of limit U
unfolding premium_of
premium_rises U below = omega (arith, mul-le-mul_right U below)

-- the shares of a part fill and of the rest add up to the whole, since each contract was rounded by itself
pub shares : (filled rest one : ℕ) → for_count (filled + rest) one ≡ for_count filled one + for_count rest one
unfolding for_count
shares filled rest one = add-mul filled rest one

-- to round for the position as a whole is another number: of 3.5 fen each, two contracts cost 8 and not 7
pub not_the_whole : for_count 2 (halves_up 35_000 10_000) ≡ halves_up (for_count 2 35_000) 10_000 → ⊥
unfolding for_count halves_up
not_the_whole e = eqb-false 8 7 refl e
