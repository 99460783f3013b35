-- A deposit and a payout change money alone. A deposit was within the ceiling with what it adds; what is asked for was available and is held while it waits, so that cash reaches for it when it is paid.
use mathlib.Core.Path.{◌≡◌, refl, sym, ◌∙◌, ap, subst}
use Prim.Native.Nat.{ℕ, ◌+◌, ◌≤◌}
use native.Mathlib.Omega.{arith}
use borrow.Author.Tests.{eqb-true, leb-true}
use lib.Dec.{eqb}
use lib.IntN.{pos}
use lib.Seq.{set_out}
use lib.Signed.{le_z}
use Rattle.std.specs.Prelude.{Ok, Option}
use Rattle.terms.specs.Verdicts.{accept}
use Rattle.terms.specs.Ranges.{range_of, ◌∈◌}
use Rattle.terms.specs.declared.measure.Measure.TheVariants.{Money, Transfer}
use Rattle.terms.specs.declared.refusal.Refusal.TheVariants.{OutOfRange, CeilingPassed, AvailablePassed, AlreadyWaiting}
use Rattle.terms.proofs.Ranges.{inside}
use Rattle.account.specs.Changes.{applied, of_sheet, waiting_after}
use Rattle.account.specs.Money.{available_of}
use Rattle.account.specs.Rows.{no_holding}
use Rattle.account.specs.Sound.{Sound}
use Rattle.account.specs.Transfers.{amount_allowed, deposit_verdict, deposit_change, withdraw_verdict, withdraw_change, pay_change, drop_change}
use Rattle.account.specs.declared.account.Account.{Account}
use Rattle.account.specs.declared.account.Sheet.{Sheet}
use Rattle.account.specs.declared.tables.Tables.{Tables}
use Rattle.account.proofs.Available.{reaches}
use Rattle.account.proofs.Held.{Held, sound_held, unplaced_held, waiting_held}
use Rattle.account.proofs.Passed.{went_on}
use Rattle.account.proofs.Standing.{Moneyed, standing, standing_sound, stands}

-- what an accepted withdrawal passed
pub record Asked (a : Account) (amount : ℕ) : Type 0 where
  pub most : amount ≤ 10_000_000_000_000
  pub none : a.waiting ≡ 0
  pub within : a.sheet.holds + a.sheet.margin + amount ≤ a.sheet.cash

pub asked : (a : Account) (amount : ℕ) → withdraw_verdict a.sheet a.waiting amount ≡ accept → Asked a amount
unfolding withdraw_verdict
asked a amount e =
    let range = went_on (amount_allowed amount) OutOfRange _ e in
    let none = went_on (eqb a.waiting 0) AlreadyWaiting _ range.1 in
    let within = went_on (le_z (pos amount) (available_of a.sheet)) AvailablePassed _ none.1 in
    record {
      most = (inside amount (range_of Transfer) range.0).1;
      none = eqb-true _ _ none.0;
      within = leb-true _ _ (sym (reaches a.sheet amount) ∙ within.0);
    }

-- what is asked for was available and is held; what waits is among the holds, so that paid or dropped it leaves the orders' holds
module _ {t : Tables} {a : Account} (held : Held t a) where
  pub deposit_held : (amount : ℕ) → Held t (applied a (deposit_change a.sheet a.last amount))
  unfolding deposit_change
  deposit_held amount = unplaced_held held _ (omega arith) refl (omega (arith, held.reach))

  pub withdraw_held : (amount : ℕ) → Asked a amount → Held t (applied a (withdraw_change a.sheet a.last amount))
  unfolding withdraw_change
  withdraw_held amount passed = unplaced_held held _ (omega arith) (omega (arith, passed.none)) (omega (arith, passed.within))

  pub pay_held : Held t (applied a (pay_change a.sheet a.last a.waiting))
  unfolding pay_change
  pay_held = unplaced_held held _ (omega arith) (omega (arith, waiting_held held)) (omega (arith, held.reach))

  pub drop_held : Held t (applied a (drop_change a.sheet a.last a.waiting))
  unfolding drop_change
  drop_held = unplaced_held held _ (omega arith) (omega (arith, waiting_held held)) (omega (arith, held.reach))

module _ (t : Tables) (a : Account) (s : Sound t a) where
  -- no underlying has the number 8
  money_sound : (sheet : Sheet) (waiting : (Option ℕ)) → Moneyed t a (applied a (of_sheet sheet waiting a.last)) → Sound t (applied a (of_sheet sheet waiting a.last))
  money_sound sheet waiting money =
      let after = waiting_after waiting a.waiting in
      let holdings = set_out a.holdings 8 no_holding (omega (arith, s.holding_rows)) in
      let same = stands t a s sheet waiting 8 no_holding ∙ ap (standing a sheet after) holdings in
      let sound =
      standing_sound t a s sheet after a.holdings (subst (Moneyed t a) same money)
      (record { rows = s.holding_rows; bought = λ u. refl; units = s.units; locked = s.locked; no_more = s.no_more_holdings }) in
      subst (Sound t) (sym same) sound

  pub deposit_sound : (amount : ℕ) → deposit_verdict a.sheet amount ≡ accept → Sound t (applied a (deposit_change a.sheet a.last amount))
  unfolding deposit_verdict deposit_change applied
  deposit_sound amount e =
      let total = a.sheet.cash + a.sheet.premium + amount in
      let after_range = (went_on (amount_allowed amount) OutOfRange _ e).1 in
      let ceiling = (went_on (total ∈ range_of Money) CeilingPassed _ after_range).0 in
      let change = deposit_change a.sheet a.last amount in
      money_sound change.sheet change.waiting (record { ceiling = omega (arith, (inside total (range_of Money) ceiling).1); held = deposit_held (sound_held s) amount; waiting = s.waiting; margin = refl })

  pub withdraw_sound : (amount : ℕ) → withdraw_verdict a.sheet a.waiting amount ≡ accept → Sound t (applied a (withdraw_change a.sheet a.last amount))
  unfolding withdraw_change applied
  withdraw_sound amount e =
      let passed = asked a amount e in
      let change = withdraw_change a.sheet a.last amount in
      money_sound change.sheet change.waiting (record { ceiling = s.ceiling; held = withdraw_held (sound_held s) amount passed; waiting = passed.most; margin = refl })

  pub pay_sound : Sound t (applied a (pay_change a.sheet a.last a.waiting))
  unfolding pay_change applied
  pay_sound =
      let change = pay_change a.sheet a.last a.waiting in
      money_sound change.sheet change.waiting (record { ceiling = omega (arith, s.ceiling); held = pay_held (sound_held s); waiting = omega arith; margin = refl })

  pub drop_sound : Sound t (applied a (drop_change a.sheet a.last a.waiting))
  unfolding drop_change applied
  drop_sound =
      let change = drop_change a.sheet a.last a.waiting in
      money_sound change.sheet change.waiting (record { ceiling = s.ceiling; held = drop_held (sound_held s); waiting = omega arith; margin = refl })
