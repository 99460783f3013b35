-- "Contracts and units of the underlying are counted apart; one is never used for the other without the contract unit" (Numbers).
use Rattle.std.specs.Prelude.{ℕ, ◌*◌}
use Rattle.terms.specs.declared.count.Contracts.{Contracts}
use Rattle.terms.specs.declared.count.Units.{Units}

-- the units that n contracts are for: the count times the contract unit (house)
abbrev pub units_for : Contracts → ℕ → Units
units_for n unit = record { 0 = n.0 * unit }
