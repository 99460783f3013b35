-- The money sheet: what one contract costs at the figures in force, holds, margin, available (The account; Orders and fills).
use Rattle.std.specs.Prelude.{ℕ, ◌+◌, ℤ, pos, ◌-ℤ◌, Result, Ok, Err}
use Rattle.terms.specs.Codes.{not_listed}
use Rattle.terms.specs.declared.unlisted.Unlisted.{Unlisted}
use Rattle.terms.specs.Codes.{kind_coded}
use Rattle.terms.specs.declared.kind.OrderKind.{OrderKind}
use Rattle.terms.specs.declared.kind.OrderKind.TheVariants.{BuyOpen, SellClose, SellOpen, BuyClose, CoveredOpen, CoveredClose}
use Rattle.rules.specs.Count.{for_count}
use Rattle.rules.specs.Margin.{margin_of, rates_of}
use Rattle.rules.specs.Premium.{premium_of}
use Rattle.entries.specs.declared.entry.Contract.{Contract}
use Rattle.entries.specs.declared.entry.Underlying.{Underlying}
use Rattle.account.specs.Rows.{contract, underlying, position}
use Rattle.terms.specs.Sums.{Σ}
use Rattle.account.specs.Totals.{over_orders}
use Rattle.account.specs.declared.account.Account.{Account}
use Rattle.account.specs.declared.account.Resting.{Resting}
use Rattle.account.specs.declared.account.Sheet.{Sheet}
use Rattle.account.specs.declared.tables.Tables.{Tables}

-- the margin of one contract, k its row and p its underlying's (000, articles 14, 15, 18 to 20)
unfoldable pub margin_by : Contract → Underlying → ℕ
margin_by k p = margin_of (rates_of p.class k.right) k.right k.settlement p.close k.strike k.unit

-- what an order holds for one contract: "kinds 1, 4, 6 hold premium at the order's price; kind 3 holds margin; kinds 2 and 5 hold no money" (Orders and fills)
abbrev pub hold_by : OrderKind → Contract → Underlying → ℕ → ℕ
hold_by BuyOpen k p price = premium_of price k.unit
hold_by SellClose k p price = 0
hold_by SellOpen k p price = margin_by k p
hold_by BuyClose k p price = premium_of price k.unit
hold_by CoveredOpen k p price = 0
hold_by CoveredClose k p price = premium_of price k.unit

-- both of a contract of the tables, "at the prior figures" (The account)
abbrev pub margin_one : Tables → ℕ → ℕ
margin_one t c = margin_by (contract t c) (underlying t (contract t c).underlying)

abbrev pub hold_one : Tables → OrderKind → ℕ → ℕ → ℕ
hold_one t kind c price = hold_by kind (contract t c) (underlying t (contract t c).underlying) price

-- the kind of an order that rests; what is said of a free place does not matter, since nothing is left there (house)
abbrev pub answered : Result OrderKind Unlisted → OrderKind
answered (Ok kind) = kind
answered (Err none) = BuyOpen

abbrev pub kind_of : Resting → OrderKind
kind_of r = answered (kind_coded r.kind)

-- the hold of a resting order: what is left of it, each at the order's own price (Orders and fills)
unfoldable pub hold_of : Tables → Resting → ℕ
hold_of t r = for_count r.left.0 (hold_one t (kind_of r) r.contract r.price)

-- "order holds", and a payout that waits: "the amount is held as an order hold is" (The account; #101)
unfoldable pub holds_in : Tables → Account → ℕ
holds_in t a = over_orders a (hold_of t) + a.waiting

-- "margin: over all contracts, short x margin at the prior figures" (The account)
unfoldable pub margin_in : Tables → Account → ℕ
margin_in t a = Σ t.n (λ c. for_count (position a c).short.0 (margin_one t c))

-- "available = cash - order holds - margin", which may be below zero (The account)
unfoldable pub available_of : Sheet → ℤ
available_of s = pos s.cash -ℤ pos s.holds -ℤ pos s.margin
