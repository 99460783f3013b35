-- A difference is no further from zero than the sum of its parts, so where the sum is below 2^63 it is exact in 64 signed bits.
use mathlib.Core.Path.{◌≡◌, ◌∙◌}
use mathlib.Core.Bool.{Bool, true, false, cond}
use Prim.Native.Nat.{ℕ, zero, suc, ◌+◌, ◌-◌, ◌^◌, ◌≤◌, ◌<◌}
use native.Mathlib.Nat.{lt_of_le_of_lt}
use native.Mathlib.Omega.{arith}
use lib.Dec.{ltb}
use lib.IntN.{ℤ, pos, negsuc, sub_ℕ, ◌-ℤ◌}
use lib.Signed.{mag}
use mir.Syntax.{w64}
use mir.Val.{SFits, of_z, to_z}
use mir.ValLaws.{to_z-of_z, to_z_pos}

near : (a b k : ℕ) → a ≤ k → b ≤ suc k → mag (sub_ℕ a b) ≤ k
near a b k ha hb =
    elim (ltb a b) as (λ (t : Bool). mag (cond t (negsuc (b - suc a)) (pos (a - b))) ≤ k) [ true ↦ omega (arith, ha, hb) | false ↦ omega (arith, ha, hb) ]

less : (z : ℤ) (m : ℕ) → mag (z -ℤ pos m) ≤ mag z + m
less (pos a) zero = omega arith
less (pos a) (suc m) = near a (suc m) (a + suc m) (omega arith) (omega arith)
less (negsuc a) zero = near 0 (suc a) (a + 0) (omega arith) (omega arith)
less (negsuc a) (suc m) = omega arith

-- a number below 2^63 is read as itself
same : (x y : ℕ) → x + y < 2 ^ 63 → to_z w64 x ≡ pos x
same x y h = to_z_pos w64 x (omega (arith, h))

first : (c h m : ℕ) → c + h + m < 2 ^ 63 → to_z w64 c -ℤ to_z w64 h ≡ pos c -ℤ pos h
first c h m l i = same c (h + m) (omega (arith, l)) i -ℤ same h (c + m) (omega (arith, l)) i

first_fits : (c h m : ℕ) → c + h + m < 2 ^ 63 → SFits w64 (to_z w64 c -ℤ to_z w64 h)
first_fits c h m l =
    rw (first c h m l) (record { sfits = lt_of_le_of_lt (less (pos c) h) (omega (arith, l)) })

second : (c h m : ℕ) → c + h + m < 2 ^ 63 → to_z w64 (of_z w64 (to_z w64 c -ℤ to_z w64 h)) -ℤ to_z w64 m ≡ pos c -ℤ pos h -ℤ pos m
second c h m l i = (to_z-of_z w64 _ (first_fits c h m l) ∙ first c h m l) i -ℤ same m (c + h) (omega (arith, l)) i

second_fits : (c h m : ℕ) → c + h + m < 2 ^ 63 → SFits w64 (to_z w64 (of_z w64 (to_z w64 c -ℤ to_z w64 h)) -ℤ to_z w64 m)
second_fits c h m l =
    let parts = less (pos c) h in
    rw (second c h m l) (record { sfits = lt_of_le_of_lt (less (pos c -ℤ pos h) m) (omega (arith, l, parts)) })

pub difference : (c h m : ℕ) → c + h + m < 2 ^ 63 → to_z w64 (of_z w64 (to_z w64 (of_z w64 (to_z w64 c -ℤ to_z w64 h)) -ℤ to_z w64 m)) ≡ pos c -ℤ pos h -ℤ pos m
difference c h m l = to_z-of_z w64 _ (second_fits c h m l) ∙ second c h m l
