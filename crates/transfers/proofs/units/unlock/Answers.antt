-- `unlock` meets its contract: its two tests are the definition's, spare units being what is neither covered nor reserved, and no more is taken off than is spare.
use mathlib.Core.Path.{◌≡◌, refl, ap, ◌∙◌}
use mathlib.Core.Bool.{Bool, true}
use mathlib.Core.List.{[], ◌∷◌}
use Prim.Native.Nat.{ℕ, ◌+◌, ◌-◌, ◌≤◌}
use native.Mathlib.Omega.{arith}
use borrow.Author.Tests.{le-leb, lt-leb}
use lib.Dec.{leb}
use Rattle.terms.specs.declared.refusal.Refusal.TheVariants.{SpareTooFew, OutOfRange}
use Rattle.entries.specs.declared.entry.Entry.TheVariants.{Unlock}
use Rattle.account.specs.Locks.{units_allowed, unlock_change, unlock_verdict}
use Rattle.account.specs.Seen.{Sees}
use Rattle.account.specs.Totals.{covered_units, reserved_units, spare_units}
use Rattle.account.specs.declared.account.Account.{Account}
use Rattle.account.specs.declared.judged.Seen.{Seen}
use Rattle.account.specs.declared.running.Running.{Running}
use Rattle.account.specs.declared.tables.Tables.{Tables}
use Rattle.account.proofs.Decided.{Checked, changes, fails, goes_on, refuses}
use Rattle.transfers.specs.Locked.{allowed_among}
use Rattle.transfers.proofs.Locked.{Allowed, known, tests}
use Rattle.transfers.proofs.units.unlock.Goals as goal

asked : (t : Tables) (a : Account) (u units : ℕ) → Checked (unlock_verdict t (spare_units t a u) u units) ((units_allowed t u units, OutOfRange) ∷ (leb units (spare_units t a u).0, SpareTooFew) ∷ [])
unfolding unlock_verdict
asked t a u units = record { are = refl }

-- what is known once the first test has passed
module _ {t : Tables} {a : Account} {s : Seen} {u units : ℕ} (sees : Sees t a (Unlock u units) s) {first : Bool} (is : first ≡ allowed_among s.m u units) (passed : first ≡ true) where
  row : Allowed t a s u units
  row = known sees u units is passed (λ of. refl)

  taken_is : s.running.taken.0 ≡ covered_units t a u + reserved_units t a u
  taken_is = ap (λ (r : Running). r.taken.0) row.running

  within : s.running.taken.0 ≤ s.holding.locked.0
  within = omega (arith, taken_is, row.locked, sees.sound.units u row.listed)

  spare_is : s.holding.locked.0 - s.running.taken.0 ≡ (spare_units t a u).0
  unfolding spare_units
  spare_is = omega (arith, taken_is, row.locked)

  left : Checked (unlock_verdict t (spare_units t a u) u units) ((leb units (s.holding.locked.0 - s.running.taken.0), SpareTooFew) ∷ [])
  left = rw spare_is (goes_on (asked t a u units) (tests sees u units is) passed)

pub returns-then-not-allowed : goal.returns-then-not-allowed
returns-then-not-allowed c t a sees = refuses _ _ _ (fails (asked t a _ _) (tests sees c.args.underlying c.args.units c.allowed.ensures) c.if-not-allowed.true)

pub overflow_sub-holding : goal.overflow_sub-holding
overflow_sub-holding c = within c.requires.sees c.allowed.ensures c.if-not-allowed.false

pub returns-then-units-holding : goal.returns-then-units-holding
returns-then-units-holding c t a sees = refuses _ _ _ (fails (left sees c.allowed.ensures c.if-not-allowed.false) refl (lt-leb _ _ c.if-units-holding.true))

pub returns : goal.returns
unfolding unlock_change
returns c t a sees =
    let is = c.allowed.ensures in
    let passed = c.if-not-allowed.false in
    changes _ _ (goes_on (left sees is passed) refl (le-leb _ _ c.if-units-holding.false)).are _ (c.locking.ensures ∙ (row sees is passed).changed (◌- c.args.units))
