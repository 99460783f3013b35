-- Every range and ceiling of document 01's "Numbers", in its order, then those of document 02's requests (house). Both ends are in the range.
use Rattle.std.specs.Prelude.{ℕ, ◌%◌, Bool, ◌&&◌, leb, eqb}
use Rattle.terms.specs.declared.measure.Range.{Range}
use Rattle.terms.specs.declared.measure.Measure.{Measure}
use Rattle.terms.specs.declared.measure.Measure.TheVariants.{Underlyings, Contracts, Resting, Price, Settlement, Unit, Quantity, Limit, Transfer, OpeningCash, UnitsAtOnce, Money, LockedUnits, Exercise, Accounts, NetTotal}

infix 20 ◌to◌
infix 15 ◌∈◌
-- from the least to the most, and what lies there: both ends do (house)
abbrev pub ◌to◌ : ℕ → ℕ → Range
least to most = record { 0 = least; 1 = most }

abbrev pub ◌∈◌ : ℕ → Range → Bool
x ∈ range = leb range.0 x && leb x range.1

abbrev pub range_of : Measure → Range
range_of Underlyings = 1 to 8  -- up to 8 underlyings: m
range_of Contracts = 1 to 64  -- up to 64 contracts: n
range_of Resting = 0 to 32  -- 32 resting orders
range_of Price = 1 to 10_000_000  -- prior close, strike and order or fill price
range_of Settlement = 0 to 10_000_000  -- settlement price (zero is a price)
range_of Unit = 100 to 100_000  -- contract unit, and see below
range_of Quantity = 1 to 100  -- quantity
range_of Limit = 0 to 10_000  -- limits: rights, total, daily
range_of Transfer = 1 to 10_000_000_000_000  -- deposit or withdrawal
range_of OpeningCash = 0 to 1_000_000_000_000_000  -- opening cash
range_of UnitsAtOnce = 1 to 1_000_000_000  -- units locked or unlocked at once
range_of Money = 0 to 1_000_000_000_000_000  -- ceiling: cash plus covered premium
range_of LockedUnits = 0 to 2_000_000_000  -- ceiling: locked units of one underlying
range_of Exercise = 1 to 10_000  -- contracts requested for exercise (#105)
range_of Accounts = 0 to 256  -- accounts that exercised contracts are assigned to (#105)
range_of NetTotal = 0 to 10_000  -- an account's net total s, short plus covered (#105)

-- a contract unit is a multiple of 100 besides, so a premium is exact (house)
abbrev pub unit_allowed : ℕ → Bool
unit_allowed unit = (unit ∈ range_of Unit) && eqb (unit % 100) 0
