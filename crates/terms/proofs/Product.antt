-- A product of two numbers is at most the product of their bounds.
use Prim.Native.Nat.{ℕ, ◌*◌, ◌≤◌, ◌<◌}
use native.Mathlib.Nat.{lt_of_le_of_lt, mul-le-mul}
use lib.Dec.{T, ltb, ltb→lt}

pub product_below : (n a b : ℕ) {A B : ℕ} → a ≤ A → b ≤ B → T (ltb (A * B) n) → a * b < n
product_below n a b {A} {B} ha hb t = lt_of_le_of_lt (mul-le-mul ha hb) (ltb→lt (A * B) n t)
