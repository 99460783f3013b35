-- Which units may be locked or unlocked, and what that changes, by what is seen.
use Rattle.std.specs.Prelude.{ℕ, Bool, ◌&&◌, ltb, None}
use Rattle.terms.specs.Ranges.{range_of, ◌∈◌}
use Rattle.terms.specs.declared.measure.Measure.TheVariants.{UnitsAtOnce}
use Rattle.account.specs.Changes.{without_position}
use Rattle.account.specs.Rows.{free}
use Rattle.account.specs.declared.judged.Change.{Change}
use Rattle.account.specs.declared.judged.Seen.{Seen}

-- units of one of so many underlyings (house)
abbrev pub allowed_among : ℕ → ℕ → ℕ → Bool
allowed_among m u units = ltb u m && (units ∈ range_of UnitsAtOnce)

-- the holding that is seen, with so many units locked (house)
abbrev pub locked_seen : Seen → ℕ → ℕ → Change
locked_seen s u units = without_position s.sheet None 32 free 0 u (record { locked = record { 0 = units }; bought = s.holding.bought }) s.last
