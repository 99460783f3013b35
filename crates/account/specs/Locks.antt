-- Locking and unlocking units of an underlying (Refusal numbers: "Deposit, lock: 15. .. Unlock: 13."). Judged by the locked and the spare units.
use Rattle.std.specs.Prelude.{ℕ, ◌+◌, ◌-◌, Bool, ◌&&◌, leb, ltb, Ok, None}
use Rattle.terms.specs.Ranges.{range_of, ◌∈◌}
use Rattle.terms.specs.declared.count.Units.{Units}
use Rattle.terms.specs.declared.measure.Measure.TheVariants.{UnitsAtOnce, LockedUnits}
use Rattle.terms.specs.declared.refusal.Refusal.TheVariants.{OutOfRange, CeilingPassed, SpareTooFew}
use Rattle.account.specs.Changes.{without_position}
use Rattle.account.specs.Rows.{free, holding}
use Rattle.terms.specs.Verdicts.{◌else◌then◌, accept}
use Rattle.account.specs.declared.account.Account.{Account}
use Rattle.account.specs.declared.account.Holding.{Holding}
use Rattle.account.specs.declared.judged.Change.{Change}
use Rattle.terms.specs.Verdicts.{Verdict}
use Rattle.account.specs.declared.tables.Tables.{Tables}

-- "number not in the tables"; "units locked or unlocked at once 1 to 10^9" (Refusal numbers, 4; Numbers)
abbrev pub units_allowed : Tables → ℕ → ℕ → Bool
units_allowed t u units = ltb u t.m && (units ∈ range_of UnitsAtOnce)

-- an underlying's holding with so many units locked (house)
abbrev pub locking : Account → ℕ → ℕ → Change
locking a u units = without_position a.sheet None 32 free 0 u (record { locked = record { 0 = units }; bought = (holding a u).bought }) a.last

-- "ceilings: .. locked units of one underlying 2 x 10^9" (Numbers)
unfoldable pub lock_verdict : Tables → Holding → ℕ → ℕ → Verdict
lock_verdict t h u units =
    units_allowed t u units else OutOfRange then
    (h.locked.0 + units ∈ range_of LockedUnits) else CeilingPassed then
    accept

unfoldable pub lock_change : Account → ℕ → ℕ → Change
lock_change a u units = locking a u ((holding a u).locked.0 + units)

-- "spare units too few" (Refusal numbers, 13)
unfoldable pub unlock_verdict : Tables → Units → ℕ → ℕ → Verdict
unlock_verdict t spare u units =
    units_allowed t u units else OutOfRange then
    leb units spare.0 else SpareTooFew then
    accept

unfoldable pub unlock_change : Account → ℕ → ℕ → Change
unlock_change a u units = locking a u ((holding a u).locked.0 - units)
