-- What an order whose values are allowed sees.
use Rattle.std.specs.Prelude.{true, ◌≡◌}
use Rattle.entries.specs.declared.entry.Entry.TheVariants as Entry
use Rattle.entries.specs.declared.entry.Order.{Order}
use Rattle.account.specs.Orders.{order_allowed}
use Rattle.account.specs.Seen.{SeenOf}
use Rattle.account.specs.declared.judged.Seen.{Seen}

pub record AllowedSeen (o : Order) (s : Seen) : Type 0 where
  pub of : SeenOf (Entry.Order o) s
  pub allowed : order_allowed of.tables o ≡ true
