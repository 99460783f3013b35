-- `decide` meets its contract: with the values in range and the order there, the two tests left are the definition's, and an accepted fill is exact.
use mathlib.Core.Path.{◌≡◌, refl, ap, ◌∙◌}
use mathlib.Core.Bool.{Bool, true, false, ◌&&◌, ◌||◌}
use Prim.Native.Nat.{ℕ, ◌+◌, ◌*◌, ◌≤◌}
use native.Mathlib.Omega.{arith}
use borrow.Author.Tests.{lt-ltb}
use lib.Dec.{leb}
use mir.Syntax.{w64}
use mir.Val.{Fits}
use Rattle.std.specs.Prelude.{Result, Ok, Err}
use Rattle.terms.specs.Kinds.{buys_of}
use Rattle.terms.specs.Ranges.{range_of, ◌∈◌}
use Rattle.terms.specs.Verdicts.{◌else◌then◌, accept}
use Rattle.terms.specs.declared.kind.OrderKind.{OrderKind}
use Rattle.terms.specs.declared.measure.Measure.TheVariants.{Money}
use Rattle.terms.specs.declared.refusal.Refusal.{Refusal}
use Rattle.terms.specs.declared.refusal.Refusal.TheVariants.{FillBarred, CeilingPassed}
use Rattle.rules.specs.Count.{for_count}
use Rattle.entries.specs.declared.entry.Fill.{Fill}
use Rattle.account.specs.Changes.{decided}
use Rattle.account.specs.Fills.{fill_change, fill_verdict, paid, price_allowed}
use Rattle.account.specs.Money.{kind_of}
use Rattle.account.specs.declared.judged.Change.{Change}
use Rattle.account.specs.declared.judged.Decision.{Decision}
use Rattle.account.specs.declared.judged.Decision.TheVariants.{Changes}
use Rattle.account.specs.declared.judged.Named.{Named}
use Rattle.money.specs.Charged.{premium_charged}
use Rattle.money.proofs.Charged.{premium_charged_lem}
use Rattle.fills.specs.Takes.{Exact, Fillable}
use Rattle.fills.proofs.filled.decide.Goals as goal

-- what is tested is what the definition tests
record Tested (f : Named) (fill : Fill) (kind : OrderKind) (buys priced : Bool) (sum : ℕ) : Type 0 where
  can : Fillable f fill
  ordered : kind ≡ kind_of f.order
  pays : buys ≡ buys_of kind
  paying : sum ≡ paid f fill
  prices : priced ≡ price_allowed buys f.order.price fill.price

module _ {f : Named} {fill : Fill} (can : Fillable f fill) where
  sum_paid : {one : ℕ} → one ≡ premium_charged fill.price f.unit → fill.quantity * one ≡ paid f fill
  unfolding for_count
  sum_paid e = ap (fill.quantity *◌) (e ∙ premium_charged_lem fill.price f.unit can.price can.unit)

  sum_fits : {sum : ℕ} → sum ≡ paid f fill → Fits w64 sum
  sum_fits e = let most = can.most in record { fits = omega (arith, e, most) }

  tested : {kind : OrderKind} {buys priced : Bool} {one : ℕ} → kind ≡ kind_of f.order → buys ≡ buys_of kind → one ≡ premium_charged fill.price f.unit
      → priced ≡ price_allowed buys f.order.price fill.price → Tested f fill kind buys priced (fill.quantity * one)
  tested ordered pays one prices = record { can = can; ordered = ordered; pays = pays; paying = sum_paid one; prices = prices }

module _ {f : Named} {fill : Fill} {kind : OrderKind} {buys priced : Bool} {sum : ℕ} (known : Tested f fill kind buys priced sum) where
  abbrev decision : Result Decision Refusal
  decision = decided (fill_verdict f fill) (fill_change f fill)

  abbrev within : Bool
  within = leb fill.quantity f.order.left.0 && priced

  abbrev total : ℕ
  total = f.sheet.cash + f.sheet.premium + sum

  total_small : total ≤ 1_001_000_000_000_000
  total_small =
      let most = known.can.most in
      let ceiling = known.can.ceiling in
      let paying = known.paying in
      omega (arith, paying, most, ceiling)

  total_fits : Fits w64 total
  total_fits = record { fits = omega (arith, total_small) }

  verdict : fill_verdict f fill ≡ (within else FillBarred then (buys || (total ∈ range_of Money)) else CeilingPassed then accept)
  unfolding fill_verdict
  verdict =
      let can = known.can in
      rw (can.quantity, can.price, lt-ltb f.place 32 can.place, known.prices, known.pays, known.ordered, known.paying) refl

  barred : within ≡ false → Err FillBarred ≡ decision
  barred fails = rw (verdict, fails) refl

  module _ {below : Bool} (bounded : below ≡ (total ∈ range_of Money)) (first : within ≡ true) where
    over : buys || below ≡ false → Err CeilingPassed ≡ decision
    over fails = rw (verdict, first, ← bounded, fails) refl

    module _ (second : buys || below ≡ true) where
      accepted : fill_verdict f fill ≡ accept
      accepted = rw (verdict, first, ← bounded, second) refl

      exact : Exact f fill kind sum
      exact = rw (known.ordered, known.paying) (known.can.exact accepted)

      changed : {change : Change} → change ≡ fill_change f fill → Ok (Changes change) ≡ decision
      changed made = rw (accepted, made) refl

pub overflow_mul-sum : goal.overflow_mul-sum
overflow_mul-sum c = sum_fits c.requires (sum_paid c.requires c.premium_one.ensures)

pub returns-then-not-fill-order : goal.returns-then-not-fill-order
returns-then-not-fill-order c = barred (tested c.requires c.kind_of-kind.ensures c.buys-buys.ensures c.premium_one.ensures c.price_allowed.ensures) c.if-not-fill-order.true

pub overflow_add-sheet-2 : goal.overflow_add-sheet-2
overflow_add-sheet-2 c = total_fits (tested c.requires c.kind_of-kind.ensures c.buys-buys.ensures c.premium_one.ensures c.price_allowed.ensures)

pub returns-then-not-buys-allows : goal.returns-then-not-buys-allows
returns-then-not-buys-allows c = over (tested c.requires c.kind_of-kind.ensures c.buys-buys.ensures c.premium_one.ensures c.price_allowed.ensures) c.allows.ensures c.if-not-fill-order.false c.if-not-buys-allows.true

pub change-requires : goal.change-requires
change-requires c = exact (tested c.requires c.kind_of-kind.ensures c.buys-buys.ensures c.premium_one.ensures c.price_allowed.ensures) c.allows.ensures c.if-not-fill-order.false c.if-not-buys-allows.false

pub returns : goal.returns
returns c = changed (tested c.requires c.kind_of-kind.ensures c.buys-buys.ensures c.premium_one.ensures c.price_allowed.ensures) c.allows.ensures c.if-not-fill-order.false c.if-not-buys-allows.false c.change.ensures
