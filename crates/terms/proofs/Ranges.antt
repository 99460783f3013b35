-- What a passed range test tells, and what passes one: a conjunction holds where both its parts do, and each part is an order of numbers.
use mathlib.Core.Path.{◌≡◌, refl}
use mathlib.Core.Bool.{Bool, true, false, ◌&&◌}
use Prim.Native.Nat.{ℕ, ◌≤◌, ◌%◌}
use borrow.Author.Tests.{le-leb, leb-true, eqb-true}
use lib.Dec.{leb, eqb}
use Rattle.terms.specs.declared.measure.Range.{Range}
use Rattle.terms.specs.declared.measure.Measure.TheVariants.{Unit}
use Rattle.terms.specs.Ranges.{range_of, ◌∈◌, unit_allowed}

pub first_holds : (a b : Bool) → (a && b) ≡ true → a ≡ true
first_holds true b h = refl
first_holds false b h = h

pub second_holds : (a b : Bool) → (a && b) ≡ true → b ≡ true
second_holds true b h = h
second_holds false true h = refl
second_holds false false h = h

pub both_hold : (a b : Bool) → a ≡ true → b ≡ true → (a && b) ≡ true
both_hold a b h h' = rw (h, h')

pub second_fails : (a b : Bool) → b ≡ false → (a && b) ≡ false
second_fails true b h = h
second_fails false b h = refl

pub inside : (x : ℕ) (range : Range) → (x ∈ range) ≡ true → (range.0 ≤ x) × (x ≤ range.1)
inside x range h =
    let from = leb range.0 x in
    let till = leb x range.1 in
    (leb-true _ _ (first_holds from till h), leb-true _ _ (second_holds from till h))

pub within : (x : ℕ) (range : Range) → range.0 ≤ x → x ≤ range.1 → (x ∈ range) ≡ true
within x range from till = both_hold (leb range.0 x) (leb x range.1) (le-leb _ _ from) (le-leb _ _ till)

pub unit_inside : (unit : ℕ) → unit_allowed unit ≡ true → (100 ≤ unit) × (unit ≤ 100_000) × (unit % 100 ≡ 0)
unit_inside unit h =
    let ends = unit ∈ range_of Unit in
    let hundreds = eqb (unit % 100) 0 in
    let between = inside unit (range_of Unit) (first_holds ends hundreds h) in
    (between.0, between.1, eqb-true _ _ (second_holds ends hundreds h))
