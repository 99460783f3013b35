-- `change` meets its contract: each part of the change is built as the definition builds it.
use Rattle.std.proofs.Common.{◌≡◌, ℕ, ◌+◌, Bool, refl, ap}
use mathlib.Core.Path.{◌∙◌}
use Rattle.std.specs.Prelude.{None}
use Rattle.terms.specs.Codes.{kind_code}
use Rattle.terms.specs.declared.kind.OrderKind.TheVariants.{BuyOpen}
use Rattle.entries.specs.declared.entry.Order.{Order}
use Rattle.account.specs.Changes.{without_position}
use Rattle.account.specs.Orders.{order_change, with_hold}
use Rattle.terms.specs.Sums.{◌when◌}
use Rattle.account.specs.Totals.{is_kind}
use Rattle.account.specs.declared.account.Sheet.{Sheet}
use Rattle.account.specs.declared.judged.Facts.{Facts}
use Rattle.orders.proofs.change.change.Goals as goal

built : (f : Facts) (o : Order) (held : Sheet) (code own : ℕ) → held ≡ with_hold f → code ≡ kind_code o.kind → own ≡ (o.quantity when is_kind BuyOpen code)
    → without_position held None f.place
    (record { number = o.number; contract = o.contract; kind = code; left = record { 0 = o.quantity }; price = o.price })
    f.unit
    f.underlying
    (record { locked = f.holding.locked; bought = record { 0 = f.holding.bought.0 + own } })
    o.number
    ≡ order_change f o
unfolding order_change
built f o held code own posted coded counted = rw (posted, counted, coded) refl

pub returns : goal.returns
returns c =
    rw c.of_sheet.ensures (built c.args.facts c.args.order _ _ _ c.posted-held.ensures c.from.ensures (c.counted.ensures ∙ ap (λ (opens : Bool). c.args.order.quantity when opens) c.is.ensures))
