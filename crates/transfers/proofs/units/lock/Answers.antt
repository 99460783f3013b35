-- `lock` meets its contract: its two tests are the definition's, and what is locked and what comes fit together.
use mathlib.Core.Path.{◌≡◌, refl, ◌∙◌}
use mathlib.Core.Bool.{Bool, true}
use mathlib.Core.List.{[], ◌∷◌}
use Prim.Native.Nat.{ℕ, ◌+◌, ◌^◌, ◌<◌}
use native.Mathlib.Omega.{arith}
use Rattle.terms.specs.Ranges.{range_of, ◌∈◌}
use Rattle.terms.specs.declared.measure.Measure.TheVariants.{LockedUnits}
use Rattle.terms.specs.declared.refusal.Refusal.TheVariants.{CeilingPassed, OutOfRange}
use Rattle.entries.specs.declared.entry.Entry.TheVariants.{Lock}
use Rattle.account.specs.Locks.{lock_change, lock_verdict, units_allowed}
use Rattle.account.specs.Rows.{holding}
use Rattle.account.specs.Seen.{Sees}
use Rattle.account.specs.declared.account.Account.{Account}
use Rattle.account.specs.declared.judged.Seen.{Seen}
use Rattle.account.specs.declared.tables.Tables.{Tables}
use Rattle.account.proofs.Decided.{Checked, changes, fails, goes_on, refuses}
use Rattle.transfers.specs.Locked.{allowed_among}
use Rattle.transfers.proofs.Locked.{Allowed, known, tests}
use Rattle.transfers.proofs.units.lock.Goals as goal

asked : (t : Tables) (a : Account) (u units : ℕ)
    → Checked (lock_verdict t (holding a u) u units) ((units_allowed t u units, OutOfRange) ∷ ((holding a u).locked.0 + units ∈ range_of LockedUnits, CeilingPassed) ∷ [])
unfolding lock_verdict
asked t a u units = record { are = refl }

-- what is known once the first test has passed
module _ {t : Tables} {a : Account} {s : Seen} {u units : ℕ} (sees : Sees t a (Lock u units) s) {first : Bool} (is : first ≡ allowed_among s.m u units) (passed : first ≡ true) where
  row : Allowed t a s u units
  row = known sees u units is passed (λ of. refl)

  fits : s.holding.locked.0 + units < 2 ^ 64
  fits = omega (arith, row, sees.sound.locked u row.listed)

  left : Checked (lock_verdict t (holding a u) u units) ((s.holding.locked.0 + units ∈ range_of LockedUnits, CeilingPassed) ∷ [])
  left = rw row.locked (goes_on (asked t a u units) (tests sees u units is) passed)

pub returns-then-not-allowed : goal.returns-then-not-allowed
returns-then-not-allowed c t a sees = refuses _ _ _ (fails (asked t a _ _) (tests sees c.args.underlying c.args.units c.allowed.ensures) c.if-not-allowed.true)

pub overflow_add-locked : goal.overflow_add-locked
overflow_add-locked c = record { fits = fits c.requires.sees c.allowed.ensures c.if-not-allowed.false }

pub returns-then-not-allows : goal.returns-then-not-allows
returns-then-not-allows c t a sees = refuses _ _ _ (fails (left sees c.allowed.ensures c.if-not-allowed.false) c.allows.ensures c.if-not-allows.true)

pub returns : goal.returns
unfolding lock_change
returns c t a sees =
    let is = c.allowed.ensures in
    let passed = c.if-not-allowed.false in
    changes _ _ (goes_on (left sees is passed) c.allows.ensures c.if-not-allows.false).are _ (c.locking.ensures ∙ (row sees is passed).changed (◌+ c.args.units))
