-- `gather` meets its contract: of an order with allowed values the facts are known, and of any other there are none.
use Rattle.std.proofs.Common.{◌≡◌, refl, sym}
use mathlib.Core.Path.{◌∙◌}
use mathlib.Core.Bool.{false}
use Rattle.entries.specs.declared.entry.Order.{Order}
use Rattle.account.specs.Orders.{facts_of, no_facts, order_allowed}
use Rattle.account.specs.declared.account.Account.{Account}
use Rattle.account.specs.declared.tables.Tables.{Tables}
use Rattle.account.proofs.Passed.{facts_known}
use Rattle.gathering.proofs.facts.gather.Goals as goal

none : (t : Tables) (a : Account) (o : Order) → order_allowed t o ≡ false → facts_of t a o ≡ no_facts
unfolding facts_of
none t a o e = rw e refl

pub known-requires : goal.known-requires
known-requires c = record { of = c.requires; allowed = sym (c.allowed.ensures _ _ c.requires.sees) ∙ c.if-allowed.true }

pub returns-then-allowed : goal.returns-then-allowed
returns-then-allowed c t a sees =
    let allowed = sym (c.allowed.ensures t a sees) ∙ c.if-allowed.true in
    c.known.ensures t a sees allowed ∙ sym (facts_known t a _ allowed)

pub returns-else-allowed : goal.returns-else-allowed
returns-else-allowed c t a sees = c.no_facts.ensures ∙ sym (none t a _ (sym (c.allowed.ensures t a sees) ∙ c.if-allowed.false))
