-- `allowed` meets its contract: a contract that is not in the tables fails the third test, and of one that is the row is seen, and the other three are left.
use Rattle.std.proofs.Common.{◌≡◌, ◌≤◌, ◌<◌, refl, ap, arith}
use mathlib.Core.Path.{◌∙◌}
use mathlib.Core.Bool.{Bool, false, not, ◌&&◌, and-true, and-false}
use borrow.Author.Tests.{le-ltb, lt-ltb}
use Rattle.terms.specs.Kinds.{moves_of}
use Rattle.terms.specs.Ranges.{range_of, ◌∈◌}
use Rattle.terms.specs.declared.kind.Side.{Side}
use Rattle.terms.specs.declared.measure.Measure.TheVariants.{Price, Quantity}
use Rattle.entries.specs.declared.entry.Entry.TheVariants as Entry
use Rattle.entries.specs.declared.entry.Order.{Order}
use Rattle.account.specs.Orders.{covered_put, order_allowed}
use Rattle.account.specs.Rows.{contract}
use Rattle.account.specs.Seen.{Sees}
use Rattle.account.specs.declared.account.Account.{Account}
use Rattle.account.specs.declared.judged.Seen.{Seen}
use Rattle.account.specs.declared.tables.Tables.{Tables}
use Rattle.account.proofs.SeenRows.{row_of_lem, shown}
use Rattle.gathering.proofs.facts.allowed.Goals as goal

module _ {t : Tables} {a : Account} {o : Order} {s : Seen} (sees : Sees t a (Entry.Order o) s) where
  contracts : s.n ≡ t.n
  contracts = ap (λ (s : Seen). s.n) (shown sees)

  missing : s.n ≤ o.contract → false ≡ order_allowed t o
  unfolding order_allowed
  missing h = rw (le-ltb o.contract t.n (rw contracts at h), and-false ((o.quantity ∈ range_of Quantity) && (o.price ∈ range_of Price))) refl

  present : (quantity price put : Bool) (side : Side) → o.contract < s.n
      → quantity ≡ (o.quantity ∈ range_of Quantity) → price ≡ (o.price ∈ range_of Price) → put ≡ covered_put side s.contract.right → side ≡ moves_of o.kind
      → (quantity && price && not put) ≡ order_allowed t o
  unfolding order_allowed
  present quantity price put side h in_quantity in_price covers moves =
      let there : o.contract < t.n = rw contracts at h in
      let few = sees.sound.tables.few_contracts in
      let row : s.contract ≡ contract t o.contract = ap (λ (s : Seen). s.contract) (shown sees) ∙ ap (contract t) (row_of_lem 64 o.contract (omega arith)) in
      rw (lt-ltb o.contract t.n there, in_quantity, in_price, covers, row, moves, and-true ((o.quantity ∈ range_of Quantity) && (o.price ∈ range_of Price))) refl

pub returns-then-order-seen : goal.returns-then-order-seen
returns-then-order-seen c t a sees = missing sees c.if-order-seen.true

pub returns : goal.returns
returns c t a sees =
    present sees _ _ _ _ c.if-order-seen.false c.allows.ensures c.allows-2.ensures c.covered_put.ensures c.moves.ensures
