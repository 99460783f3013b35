-- Numbers that are read of bytes pack into the same bytes: a byte and 256 times the rest have that byte for remainder and the rest for quotient. Over the widths each number starts where the one before it ends.
use mathlib.Core.Path.{◌≡◌, refl}
use mathlib.Core.List.{List, [], ◌∷◌}
use Prim.Native.Nat.{ℕ, zero, suc, ◌+◌, ◌*◌, ◌/◌, ◌%◌, ◌^◌, ◌≤◌, ◌<◌}
use native.Mathlib.Nat.{lt_of_lt_of_le, pow-suc, pow-le-pow_right}
use native.Mathlib.Omega.{arith}
use lib.ListN.{length, take, drop, length-take, length-drop}
use lib.Seq.{take-add, drop-drop}
use Rattle.entries.specs.Numbers.{bytes, value, number_at, numbers_at, packed, total}
use Rattle.demands.specs.Records.{Below, AreBytes, Fit}

pub below_take : (bound n : ℕ) (s : List ℕ) → Below bound s → Below bound (take n s)
below_take bound zero s h = tt
below_take bound (suc n) [] h = tt
below_take bound (suc n) (x ∷ s) h = (h.0, below_take bound n s h.1)

pub below_drop : (bound n : ℕ) (s : List ℕ) → Below bound s → Below bound (drop n s)
below_drop bound zero s h = h
below_drop bound (suc n) [] h = tt
below_drop bound (suc n) (x ∷ s) h = below_drop bound n s h.1

pub bytes_value : (s : List ℕ) → AreBytes s → bytes (length s) (value s) ≡ s
unfolding bytes value
bytes_value [] h = refl
bytes_value (b ∷ s) h =
    let low : (b + 256 * value s) % 256 ≡ b = omega arith in
    let rest : (b + 256 * value s) / 256 ≡ value s = omega arith in
    rw (low, rest, bytes_value s h.1)

value_fits : (s : List ℕ) → AreBytes s → value s < 256 ^ length s
unfolding value
value_fits [] h = omega arith
value_fits (b ∷ s) h = omega (arith, pow-suc 256 (length s), value_fits s h.1)

module _ (r : List ℕ) (lent : AreBytes r) where
  lent_part : (w at : ℕ) → AreBytes (take w (drop at r))
  lent_part w at = below_take 256 w (drop at r) (below_drop 256 at r lent)

  bytes_at : (w at : ℕ) → at + w ≤ length r → bytes w (number_at w r at) ≡ take w (drop at r)
  unfolding number_at
  bytes_at w at h =
      let whole : length (take w (drop at r)) ≡ w = simp (length-take, length-drop) (omega arith) in
      rw whole at (bytes_value (take w (drop at r)) (lent_part w at))

  pub packed_numbers : (ws : List ℕ) (at : ℕ) → at + total ws ≤ length r → packed ws (numbers_at ws r at) ≡ take (total ws) (drop at r)
  packed_numbers [] at h = refl
  packed_numbers (w ∷ ws) at h =
      rw (bytes_at w at (omega arith), packed_numbers ws (at + w) (omega arith), take-add w (total ws) (drop at r), drop-drop w at r)

  number_fits : (w at : ℕ) → number_at w r at < 256 ^ w
  unfolding number_at
  number_fits w at =
      let part = take w (drop at r) in
      let short : length part ≤ w = simp length-take (omega arith) in
      lt_of_lt_of_le (value_fits part (lent_part w at)) (pow-le-pow_right (omega arith) short)

  pub numbers_fit : (ws : List ℕ) (at : ℕ) → Fit ws (numbers_at ws r at)
  numbers_fit [] at = tt
  numbers_fit (w ∷ ws) at = (number_fits w at, numbers_fit ws (at + w))
