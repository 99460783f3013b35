-- `order` meets its contract: facts, verdict and change are the definition's, and what an accepted order adds to a sound account still fits.
use Rattle.std.proofs.Common.{◌≡◌, ◌+◌, ◌^◌, ◌<◌, sym, ap, subst, arith}
use mathlib.Core.Path.{◌∙◌}
use native.Mathlib.Nat.{le_of_lt, mul-le-mul}
use Rattle.std.specs.Prelude.{Ok}
use Rattle.terms.specs.Verdicts.{accept}
use Rattle.entries.specs.declared.entry.Order.{Order}
use Rattle.rules.specs.Count.{for_count}
use Rattle.account.specs.Checks.{order_verdict}
use Rattle.account.specs.Orders.{facts_of}
use Rattle.account.specs.Sound.{Sound}
use Rattle.account.specs.declared.account.Account.{Account}
use Rattle.account.specs.declared.judged.Facts.{Facts}
use Rattle.account.specs.declared.tables.Tables.{Tables}
use Rattle.account.proofs.Allowed.{contract_known, underlying_known}
use Rattle.account.proofs.Bounds.{bought_most, holds_most, one_hold, order_figures}
use Rattle.account.proofs.Passed.{accepted_passed, facts_known}
use Rattle.orders.proofs.order.Goals as goal

-- the hold joins holds that 32 orders bound, the quantity a count that the daily limit bounds
room : (t : Tables) (a : Account) (o : Order) (f : Facts) → f ≡ facts_of t a o → Sound t a → order_verdict f o ≡ accept → (f.sheet.holds + f.hold < 2 ^ 64) × (f.holding.bought.0 + o.quantity < 2 ^ 32)
unfolding for_count
room t a o f gathered sound e =
    let passed = accepted_passed t a o (sym (ap (λ (f : Facts). order_verdict f o) gathered) ∙ e) in
    let allowed = passed.allowed in
    let figures = order_figures o allowed in
    let holds = holds_most sound in
    let one = one_hold sound.tables o.contract (contract_known t o allowed) o.kind o.price figures.price in
    let quantity = figures.quantity in
    let held = mul-le-mul quantity (le_of_lt one) in
    let bought = bought_most sound _ (underlying_known t o allowed sound.tables) in
    subst (λ (f : Facts). (f.sheet.holds + f.hold < 2 ^ 64) × (f.holding.bought.0 + o.quantity < 2 ^ 32)) (sym (gathered ∙ facts_known t a o allowed))
    (omega (arith, holds, held), omega (arith, bought, quantity))

pub change-requires : goal.change-requires
change-requires c =
    room _ _ _ _ (c.gather-facts.ensures _ _ c.requires.sees) c.requires.sees.sound (sym c.verdict.ensures ∙ c.in_ok-verdict.was)
