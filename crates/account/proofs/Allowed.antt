-- An allowed order's price is in its range, it names a contract of the tables, and a contract of the tables names an underlying of theirs: each is one test of those that passed. Sound tables have no more of either than the arrays have rows.
use mathlib.Core.Path.{◌≡◌}
use mathlib.Core.Bool.{true}
use Prim.Native.Nat.{◌<◌}
use native.Mathlib.Omega.{arith}
use lib.Dec.{ltb}
use Rattle.terms.specs.Ranges.{range_of, ◌∈◌}
use Rattle.terms.specs.declared.measure.Measure.TheVariants.{Price, Quantity}
use Rattle.entries.specs.declared.entry.Order.{Order}
use Rattle.account.specs.Orders.{order_allowed}
use Rattle.account.specs.Rows.{contract}
use Rattle.account.specs.Sound.{SoundTables}
use Rattle.account.specs.declared.tables.Tables.{Tables}
use Rattle.account.proofs.Bounds.{four, order_figures, row_of_lem}

module _ (t : Tables) (o : Order) (allowed : order_allowed t o ≡ true) where
  pub priced : (o.price ∈ range_of Price) ≡ true
  unfolding order_allowed
  priced = (four (o.quantity ∈ range_of Quantity) _ (ltb o.contract t.n) _ allowed).1

  pub contract_known : o.contract < t.n
  contract_known = (order_figures o allowed).there

  module _ (tables : SoundTables t) where
    pub underlying_known : (contract t o.contract).underlying < t.m
    underlying_known = (row_of_lem tables o.contract contract_known).underlying

    pub contract_inside : o.contract < 64
    contract_inside = let few = tables.few_contracts in omega (arith, contract_known, few)

    pub underlying_inside : (contract t o.contract).underlying < 8
    underlying_inside = let few = tables.few_underlyings in omega (arith, underlying_known, few)
