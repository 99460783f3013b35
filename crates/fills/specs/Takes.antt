-- What the facts of a fill and of a cancel satisfy in a sound account: what is taken off is there, and what is added to stays small.
use Rattle.std.specs.Prelude.{◌≡◌, Bool, true, false, not, ℕ, ◌+◌, ◌*◌, ◌^◌, ◌≤◌, ◌<◌, Ok}
use Rattle.terms.specs.Verdicts.{accept}
use Rattle.terms.specs.Kinds.{moves_of, opens_of, buys_of}
use Rattle.terms.specs.Ranges.{range_of, unit_allowed, ◌∈◌}
use Rattle.terms.specs.declared.kind.OrderKind.{OrderKind}
use Rattle.terms.specs.declared.kind.OrderKind.TheVariants.{BuyOpen}
use Rattle.terms.specs.declared.kind.Side.TheVariants.{Short}
use Rattle.terms.specs.declared.measure.Measure.TheVariants.{Price, Quantity}
use Rattle.entries.specs.declared.entry.Fill.{Fill}
use Rattle.account.specs.Fills.{fill_verdict, paid}
use Rattle.account.specs.Money.{kind_of}
use Rattle.terms.specs.Sums.{◌when◌}
use Rattle.account.specs.Totals.{count_of, is_kind}
use Rattle.account.specs.declared.judged.Named.{Named}

-- a number that may be shifted up or down by another: up it fits so many bits, down there is so much
pub record Shifts (bits : ℕ) (up : Bool) (x by : ℕ) : Type 0 where
  pub fits : x + by < 2 ^ bits
  pub there : up ≡ false → by ≤ x

-- what a fill of the order's kind for a sum moves, each within what there is and what fits
pub record Exact (f : Named) (fill : Fill) (kind : OrderKind) (sum : ℕ) : Type 0 where
  pub ordered : kind ≡ kind_of f.order
  pub paying : sum ≡ paid f fill
  pub left : fill.quantity ≤ f.order.left.0
  pub cash : Shifts 64 (not (buys_of kind)) f.sheet.cash sum
  pub premium : f.sheet.premium + sum < 2 ^ 64
  pub holds : Shifts 64 false f.sheet.holds (fill.quantity * f.hold)
  pub margin : moves_of kind ≡ Short → Shifts 64 (opens_of kind) f.sheet.margin (fill.quantity * f.margin)
  pub count : Shifts 32 (opens_of kind) (count_of (moves_of kind) f.position) fill.quantity

-- a fill with its values in range, of an order that is there
pub record Fillable (f : Named) (fill : Fill) : Type 0 where
  pub quantity : (fill.quantity ∈ range_of Quantity) ≡ true
  pub price : (fill.price ∈ range_of Price) ≡ true
  pub place : f.place < 32
  pub unit : unit_allowed f.unit ≡ true
  pub ceiling : f.sheet.cash + f.sheet.premium ≤ 1_000_000_000_000_000
  pub most : paid f fill ≤ 100 * 10_000_000_000
  pub exact : fill_verdict f fill ≡ accept → Exact f fill (kind_of f.order) (paid f fill)

-- what a cancel takes off is there
pub record Cancellable (f : Named) : Type 0 where
  pub holds : f.order.left.0 * f.hold ≤ f.sheet.holds
  pub bought : (f.order.left.0 when is_kind BuyOpen f.order.kind) ≤ f.holding.bought.0
