-- `a less b but_at_least floor` is the greater of the signed difference a - b and the floor: it is one of the two, and neither is above it.
use mathlib.Core.Path.{◌≡◌, refl}
use mathlib.Core.Bool.{Bool, true, false, cond}
use mathlib.Core.Logic.{◌⊎◌, inl, inr}
use Prim.Native.Nat.{ℕ, ◌+◌, ◌-◌, ◌≤◌, ◌<◌}
use native.Mathlib.Omega.{arith}
use borrow.Author.Tests.{leb-true, leb-false}
use Rattle.std.specs.Prelude.{max}
use lib.Dec.{leb}
use Rattle.rules.specs.Margin.{◌less◌but_at_least◌}

-- as the code makes it: a difference below zero is 0, which the floor is not below
pub as_greatest : (a b floor : ℕ) → max (a - b) floor ≡ (a less b but_at_least floor)
unfolding ◌less◌but_at_least◌
as_greatest a b floor = go (leb (floor + b) a) refl
  where
    go : (test : Bool) → leb (floor + b) a ≡ test → max (a - b) floor ≡ cond test (a - b) floor
    go true t = let h = leb-true (floor + b) a t in omega arith
    go false t = let h = leb-false (floor + b) a t in omega arith

-- the greater of a - b and floor, in words that need no number below zero
pub record Greater (a b floor greater : ℕ) : Type 0 where
  pub not_below_floor : floor ≤ greater
  pub not_below_difference : a ≤ greater + b
  pub one_of_them : (greater ≡ floor) ⊎ (greater + b ≡ a)

pub greater : (a b floor : ℕ) → Greater a b floor (a less b but_at_least floor)
unfolding ◌less◌but_at_least◌
greater a b floor = go (leb (floor + b) a) refl
  where
    go : (test : Bool) → leb (floor + b) a ≡ test → Greater a b floor (cond test (a - b) floor)
    go true t =
        let h = leb-true (floor + b) a t in
        record { not_below_floor = omega arith; not_below_difference = omega arith; one_of_them = inr (omega arith) }
    go false t =
        let h = leb-false (floor + b) a t in
        record { not_below_floor = omega arith; not_below_difference = omega arith; one_of_them = inl refl }

pub bounded : (a b floor : ℕ) → (a less b but_at_least floor) ≤ a + floor
bounded a b floor = go (greater a b floor).one_of_them
  where
    go : ((a less b but_at_least floor) ≡ floor) ⊎ ((a less b but_at_least floor) + b ≡ a) → (a less b but_at_least floor) ≤ a + floor
    go (inl e) = omega arith
    go (inr e) = omega arith
