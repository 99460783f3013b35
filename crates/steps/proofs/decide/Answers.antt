-- `decide` meets its contract: in each arm the entry's kind is known, and what its crate decides by what the entry sees is what the definition says of that kind.
use Rattle.std.proofs.Common.{refl, sym, ap, subst}
use mathlib.Core.Logic.{inl, inr}
use mathlib.Core.Path.{◌∙◌}
use Rattle.entries.specs.declared.entry.Entry.{Entry}
use Rattle.account.specs.Changes.{decided}
use Rattle.account.specs.Seen.{SeenOf}
use Rattle.account.specs.Sound.{SoundPayout, SoundSheet}
use Rattle.account.specs.Steps.{refusal_of}
use Rattle.account.specs.Transfers.{deposit_change, deposit_verdict, drop_change, pay_change, payout_verdict, withdraw_change, withdraw_verdict}
use Rattle.account.specs.declared.judged.Seen.{Seen}
use Rattle.account.proofs.Bounds.{payout_sound, sheet_sound}
use Rattle.account.proofs.SeenRows.{shown}
use Rattle.steps.specs.Booked.{decision_on}
use Rattle.steps.proofs.Booking.{for_entry}
use Rattle.steps.proofs.decide.Goals as goal

-- the money that is seen is a sound account's
module _ {entry : Entry} {seen : Seen} (of : SeenOf entry seen) where
  seen_sheet : SoundSheet seen.sheet
  seen_sheet = subst (λ (s : Seen). SoundSheet s.sheet) (sym (shown of.sees)) (sheet_sound of.sees.sound)

  seen_payout : SoundPayout seen.sheet seen.waiting
  seen_payout = subst (λ (s : Seen). SoundPayout s.sheet s.waiting) (sym (shown of.sees)) (payout_sound of.sees.sound)

pub deposit-requires : goal.deposit-requires
deposit-requires c = seen_sheet c.requires

pub withdraw-requires : goal.withdraw-requires
withdraw-requires c = seen_sheet c.requires

pub pay-requires : goal.pay-requires
pay-requires c = seen_payout c.requires

pub drop-requires : goal.drop-requires
drop-requires c = seen_payout c.requires

pub returns-in-Deposit : goal.returns-in-Deposit
unfolding decision_on refusal_of
returns-in-Deposit c = for_entry c.in-Deposit.is _ (λ t a sees. c.deposit.ensures ∙ ap (λ (s : Seen). decided (deposit_verdict s.sheet c.in-Deposit.amount) (deposit_change s.sheet s.last c.in-Deposit.amount)) (shown sees))

pub returns-in-Withdraw : goal.returns-in-Withdraw
unfolding decision_on refusal_of
returns-in-Withdraw c = for_entry c.in-Withdraw.is _ (λ t a sees. c.withdraw.ensures ∙ ap (λ (s : Seen). decided (withdraw_verdict s.sheet s.waiting c.in-Withdraw.amount) (withdraw_change s.sheet s.last c.in-Withdraw.amount)) (shown sees))

pub returns-in-Lock : goal.returns-in-Lock
unfolding decision_on refusal_of
returns-in-Lock c = for_entry c.in-Lock.is _ c.lock.ensures

pub returns-in-Unlock : goal.returns-in-Unlock
unfolding decision_on refusal_of
returns-in-Unlock c = for_entry c.in-Unlock.is _ c.unlock.ensures

pub returns-in-Order : goal.returns-in-Order
unfolding decision_on refusal_of
returns-in-Order c = for_entry c.in-Order.is _ c.order.ensures

pub returns-in-Fill : goal.returns-in-Fill
unfolding decision_on refusal_of
returns-in-Fill c = for_entry c.in-Fill.is _ c.fill.ensures

pub returns-in-Cancel : goal.returns-in-Cancel
unfolding decision_on refusal_of
returns-in-Cancel c = for_entry c.in-Cancel.is _ (c.cancel.ensures _)

pub returns-in-DayEnd : goal.returns-in-DayEnd
unfolding decision_on refusal_of
returns-in-DayEnd c = for_entry c.in-DayEnd.is _ c.decide.ensures

pub returns-in-Pay : goal.returns-in-Pay
unfolding decision_on refusal_of
returns-in-Pay c = for_entry c.in-Pay.is _ (λ t a sees. c.pay.ensures ∙ ap (λ (s : Seen). decided (payout_verdict s.waiting) (pay_change s.sheet s.last s.waiting)) (shown sees))

pub returns-in-Drop : goal.returns-in-Drop
unfolding decision_on refusal_of
returns-in-Drop c = for_entry c.in-Drop.is _ (λ t a sees. c.drop.ensures ∙ ap (λ (s : Seen). decided (payout_verdict s.waiting) (drop_change s.sheet s.last s.waiting)) (shown sees))

-- a row of the tables is one of two
pub returns-in-Underlying : goal.returns-in-Underlying
unfolding decision_on refusal_of
returns-in-Underlying c =
    elim c.in-Underlying.is [
      | inl row ↦ for_entry row.1 _ (λ t a sees. refl)
      | inr row ↦ for_entry row.1 _ (λ t a sees. refl)
    ]

pub returns-in-Opening : goal.returns-in-Opening
unfolding decision_on refusal_of
returns-in-Opening c = for_entry c.in-Opening.is _ (λ t a sees. refl)
