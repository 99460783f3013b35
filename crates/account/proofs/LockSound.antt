-- A lock and an unlock change one underlying's locked units alone. A lock was within the ceiling with what it adds; an unlock takes spare units, so what covers and what is reserved stays locked.
use mathlib.Core.Path.{◌≡◌, refl, sym, ◌∙◌, ap, subst}
use Prim.Native.Nat.{ℕ, ◌+◌, ◌-◌, ◌≤◌, ◌<◌}
use native.Mathlib.Omega.{arith}
use borrow.Author.Tests.{leb-true, ltb-true}
use lib.Dec.{leb, ltb}
use lib.ListN.{set, length-set}
use Rattle.std.specs.Prelude.{Ok, None}
use Rattle.terms.specs.Ranges.{range_of, ◌∈◌}
use Rattle.terms.specs.declared.measure.Measure.TheVariants.{LockedUnits}
use Rattle.terms.specs.declared.refusal.Refusal.TheVariants.{OutOfRange, CeilingPassed, SpareTooFew}
use Rattle.terms.proofs.Ranges.{first_holds, inside}
use Rattle.account.specs.Changes.{applied}
use Rattle.account.specs.Locks.{units_allowed, locking, lock_verdict, lock_change, unlock_verdict, unlock_change}
use Rattle.account.specs.Rows.{no_holding, holding}
use Rattle.account.specs.Sound.{Sound}
use Rattle.account.specs.Totals.{covered_units, reserved_units, spare_units}
use Rattle.terms.specs.Verdicts.{◌else◌then◌, accept}
use Rattle.account.specs.declared.account.Account.{Account}
use Rattle.account.specs.declared.account.Holding.{Holding}
use Rattle.terms.specs.Verdicts.{Verdict}
use Rattle.account.specs.declared.tables.Tables.{Tables}
use Rattle.account.proofs.Held.{Held, sound_held, unplaced_held}
use Rattle.account.proofs.Holdings.{each_holding}
use Rattle.account.proofs.Passed.{went_on}
use Rattle.account.proofs.Standing.{standing_sound, stands}

pub locking_held : {t : Tables} {a : Account} → Held t a → (u units : ℕ) → Held t (applied a (locking a u units))
locking_held held u units = unplaced_held held _ (omega arith) refl held.reach

module _ (t : Tables) (a : Account) (u : ℕ) where
  pub known : (units : ℕ) (rest : Verdict) → (units_allowed t u units else OutOfRange then rest) ≡ accept → (u < t.m) × (rest ≡ accept)
  known units rest e =
      let allowed = went_on (units_allowed t u units) OutOfRange rest e in
      (ltb-true _ _ (first_holds (ltb u t.m) _ allowed.0), allowed.1)

  locking_sound : (units : ℕ) → Sound t a → u < t.m → covered_units t a u + reserved_units t a u ≤ units → units ≤ 2_000_000_000 → Sound t (applied a (locking a u units))
  locking_sound units s there used most =
      let new : Holding = record { locked = record { 0 = units }; bought = (holding a u).bought } in
      let each = each_holding t a s u there new in
      let same = stands t a s a.sheet None u new in
      let sound =
      standing_sound t a s a.sheet a.waiting (set a.holdings u new)
      (record { ceiling = s.ceiling; held = subst (Held t) same (locking_held (sound_held s) u units); waiting = s.waiting; margin = refl })
      (record {
        rows = length-set a.holdings u new ∙ s.holding_rows;
        bought = λ v. each (λ h. h.bought.0 ≡ (holding a v).bought.0) v (ap (λ k. (holding a k).bought.0)) refl;
        units = λ v h. each (λ h. covered_units t a v + reserved_units t a v ≤ h.locked.0) v (λ e. rw (← e) used) (s.units v h);
        locked = λ v h. each (λ h. h.locked.0 ≤ 2_000_000_000) v (λ e. most) (s.locked v h);
        no_more = λ v h. each (◌≡ no_holding) v (λ e. absurd (omega (arith, e, there, h))) (s.no_more_holdings v h);
      }) in
      subst (Sound t) (sym same) sound

  pub lock_sound : (units : ℕ) → Sound t a → lock_verdict t (holding a u) u units ≡ accept → Sound t (applied a (lock_change a u units))
  unfolding lock_verdict lock_change
  lock_sound units s e =
      let total = (holding a u).locked.0 + units in
      let (there, passed) = known units _ e in
      let ceiling = inside total (range_of LockedUnits) (went_on (total ∈ range_of LockedUnits) CeilingPassed accept passed).0 in
      locking_sound total s there (omega (arith, s.units u there)) ceiling.1

  pub unlock_sound : (units : ℕ) → Sound t a → unlock_verdict t (spare_units t a u) u units ≡ accept → Sound t (applied a (unlock_change a u units))
  unfolding unlock_verdict unlock_change spare_units
  unlock_sound units s e =
      let (there, passed) = known units _ e in
      let spare = leb-true units _ (went_on (leb units (spare_units t a u).0) SpareTooFew accept passed).0 in
      locking_sound ((holding a u).locked.0 - units) s there (omega (arith, s.units u there, spare)) (omega (arith, s.locked u there))
