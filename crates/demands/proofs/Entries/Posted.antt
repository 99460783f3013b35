-- An accepted entry leaves the sheet that its postings leave, one after the other, so nothing but a posting moves money: each definition of a change has the sums of the postings, and an order that is accepted has its facts.
use mathlib.Core.Path.{◌≡◌, refl, sym, ap, ◌∙◌}
use Prim.Native.Nat.{ℕ}
use native.Mathlib.Omega.{arith}
use Rattle.std.specs.Prelude.{Ok, Err}
use Rattle.terms.specs.Kinds.{moves_of, opens_of, buys_of}
use Rattle.rules.specs.Count.{for_count}
use Rattle.entries.specs.declared.entry.Entry.{Entry}
use Rattle.entries.specs.declared.entry.Entry.TheVariants.{Deposit, Withdraw, Lock, Unlock, Order, Fill, Cancel, DayEnd, Pay, Drop, Underlying, Contract, Opening}
use Rattle.entries.specs.declared.entry.Figures.{Figures}
use Rattle.account.specs.Changes.{applied}
use Rattle.account.specs.DayEnd.{kept_anew, orders_cancelled, positions_netted, margin_afresh, premium_joined, daily_zero, units_released, day_ended}
use Rattle.account.specs.Fills.{named, paid, fill_change, cancel_change}
use Rattle.account.specs.Locks.{lock_change, unlock_change}
use Rattle.account.specs.Money.{kind_of, margin_in}
use Rattle.account.specs.Orders.{order_change, with_hold}
use Rattle.account.specs.Steps.{account_after, outcome, refusal_of, step, tables_after}
use Rattle.account.specs.Transfers.{deposit_change, withdraw_change, pay_change, drop_change}
use Rattle.account.specs.declared.account.Account.{Account}
use Rattle.account.specs.declared.judged.Named.{Named}
use Rattle.account.specs.declared.judged.Outcome.{Outcome}
use Rattle.terms.specs.Verdicts.{Verdict, accept}
use Rattle.account.specs.declared.tables.Tables.{Tables}
use Rattle.account.proofs.Passed.{accepted_passed, facts_known}
use Rattle.postings.specs.Postings.{all_posted}
use Rattle.fills.proofs.Posted.{fill_posted}
use Rattle.steps.proofs.step.Reads as stepping
use Rattle.demands.specs.Postings.{postings_of}

module _ (t : Tables) (a : Account) (f : Figures) where
  entry_posted : (entry : Entry) → refusal_of t a entry f ≡ accept → (account_after t a entry f).sheet ≡ all_posted a.sheet (postings_of t a entry f)
  unfolding refusal_of account_after postings_of applied deposit_change withdraw_change pay_change drop_change lock_change unlock_change order_change fill_change cancel_change named day_ended kept_anew units_released daily_zero premium_joined margin_afresh positions_netted orders_cancelled margin_in
  entry_posted (Deposit amount) accepted = refl
  entry_posted (Withdraw amount) accepted = refl
  entry_posted (Lock u units) accepted = refl
  entry_posted (Unlock u units) accepted = refl
  entry_posted (Order o) accepted = ap with_hold (facts_known t a o (accepted_passed t a o accepted).allowed)
  entry_posted (Fill fill) accepted =
      let (order, q) : Named × ℕ = (named t a fill.number, fill.quantity) in
      let kind = kind_of order.order in
      sym (fill_posted a.sheet (for_count q order.hold) (paid order fill) (for_count q order.margin) (moves_of kind) (buys_of kind) (opens_of kind))
  entry_posted (Cancel number) accepted = refl
  entry_posted (DayEnd n m) accepted = refl
  entry_posted Pay accepted = refl
  entry_posted Drop accepted = refl
  entry_posted (Underlying row) accepted = refl
  entry_posted (Contract row) accepted = refl
  entry_posted (Opening cash) accepted = refl

-- by the verdict: a refused entry is not accepted
by_verdict : (t : Tables) (a : Account) (entry : Entry) (f : Figures) (verdict : Verdict) → refusal_of t a entry f ≡ verdict → (outcome verdict t a (tables_after t entry f) (account_after t a entry f)).verdict ≡ accept
    → (outcome verdict t a (tables_after t entry f) (account_after t a entry f)).account.sheet ≡ all_posted a.sheet (postings_of t a entry f)
by_verdict t a entry f (Ok tt) e accepted = entry_posted t a f entry e
by_verdict t a entry f (Err why) e accepted = let never : ◌≡◌ {A = ℕ} 0 1 = cc in absurd (omega arith)

-- the same of the function that steps
pub step_posted : (κs : _) (a : _) (r : _) (s : _) → stepping.Post κs a r s → r.verdict ≡ accept
    → let (tables, account, entry, figures) : Tables × Account × Entry × Figures = (a.0, a.1.0, a.1.1.0, a.1.1.1.0) in
    r.account.sheet ≡ all_posted account.sheet (postings_of tables account entry figures)
unfolding step
step_posted κs a r s is accepted =
    let (t, b, entry, f) : Tables × Account × Entry × Figures = (a.0, a.1.0, a.1.1.0, a.1.1.1.0) in
    ap (λ (o : Outcome). o.account.sheet) is ∙ by_verdict t b entry f (refusal_of t b entry f) refl (sym (ap (λ (o : Outcome). o.verdict) is) ∙ accepted)
