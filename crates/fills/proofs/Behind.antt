-- What stands behind a resting order of a sound account: what a fill or a cancel of it takes off is there, and what a fill adds to stays small.
use mathlib.Core.Path.{◌≡◌, refl}
use mathlib.Core.Bool.{true, false}
use Prim.Native.Nat.{ℕ, ◌+◌, ◌*◌, ◌^◌, ◌≤◌, ◌<◌}
use native.Mathlib.Nat.{le_of_lt, mul-le-mul}
use native.Mathlib.Omega.{arith}
use borrow.Author.Tests.{not-false, lt-ltb}
use Rattle.std.specs.Prelude.{Ok}
use Rattle.terms.specs.Verdicts.{accept}
use Rattle.terms.specs.Kinds.{moves_of, opens_of}
use Rattle.terms.specs.Ranges.{range_of, ◌∈◌}
use Rattle.terms.specs.declared.kind.OrderKind.{OrderKind}
use Rattle.terms.specs.declared.kind.OrderKind.TheVariants.{BuyOpen, SellClose, SellOpen, BuyClose, CoveredOpen, CoveredClose}
use Rattle.terms.specs.declared.kind.Side.TheVariants.{Short}
use Rattle.terms.specs.declared.measure.Measure.TheVariants.{Price, Quantity}
use Rattle.terms.proofs.Ranges.{inside}
use Rattle.rules.specs.Count.{for_count}
use Rattle.entries.specs.declared.entry.Fill.{Fill}
use Rattle.account.specs.Fills.{cancel_verdict, fill_verdict, named, paid, place_of}
use Rattle.account.specs.Money.{kind_of}
use Rattle.account.specs.Orders.{order_allowed}
use Rattle.account.specs.Sound.{Sound, as_order}
use Rattle.account.specs.declared.account.Account.{Account}
use Rattle.account.specs.declared.judged.Named.{Named}
use Rattle.account.specs.declared.tables.Tables.{Tables}
use Rattle.account.proofs.Allowed.{contract_known}
use Rattle.account.proofs.Bounds.{count_of_lem, one_hold, one_margin, one_premium, order_figures, row_of_lem, sheet_sound}
use Rattle.account.proofs.NothingShort.{cancel_exact, fill_exact}
use Rattle.account.proofs.Taken.{found}
use Rattle.fills.specs.Takes.{Cancellable, Exact, Fillable}

-- of the kinds that move short, 4 alone closes
buy_close : (kind : OrderKind) → moves_of kind ≡ Short → opens_of kind ≡ false → kind ≡ BuyClose
buy_close BuyOpen e c = cc
buy_close SellClose e c = cc
buy_close SellOpen e c = cc
buy_close BuyClose e c = refl
buy_close CoveredOpen e c = cc
buy_close CoveredClose e c = cc

module _ (t : Tables) (a : Account) (sound : Sound t a) where
  module _ (fill : Fill) (there : place_of a fill.number < 32) (quantity : (fill.quantity ∈ range_of Quantity) ≡ true) (price : (fill.price ∈ range_of Price) ≡ true) where
    abbrev f : Named
    f = named t a fill.number

    few : fill.quantity ≤ 100
    few = (inside _ (range_of Quantity) quantity).1

    values : order_allowed t (as_order f.order) ≡ true
    unfolding named
    values = (sound.resting _ there (found a fill.number there)).allowed

    its_contract : f.order.contract < t.n
    its_contract = contract_known t (as_order f.order) values

    -- holds and margin, with as much again as a fill can move, fit
    small : (before one : ℕ) → before ≤ 64 * (10_000 * 20_000_000_000) → one ≤ 20_000_000_000 → before + fill.quantity * one < 2 ^ 64
    small before one most each = let moves = mul-le-mul few each in omega (arith, most, moves)

    most : paid f fill ≤ 100 * 10_000_000_000
    unfolding named for_count
    most = mul-le-mul few (one_premium sound.tables _ its_contract fill.price (inside _ (range_of Price) price).1)

    margined : f.sheet.margin + fill.quantity * f.margin < 2 ^ 64
    unfolding named
    margined = small _ _ (sheet_sound sound).margin (le_of_lt (one_margin sound.tables _ its_contract))

    held : f.sheet.holds + fill.quantity * f.hold < 2 ^ 64
    unfolding named
    held =
        let before = (sheet_sound sound).holds in
        let figures = order_figures (as_order f.order) values in
        small _ _ (omega (arith, before)) (le_of_lt (one_hold sound.tables _ its_contract (kind_of f.order) _ figures.price))

    exact : fill_verdict f fill ≡ accept → Exact f fill (kind_of f.order) (paid f fill)
    unfolding named for_count
    exact accepted =
        let kind = kind_of f.order in
        let takes = fill_exact t a fill sound accepted in
        let ceiling = sound.ceiling in
        let counts = count_of_lem sound (moves_of kind) _ its_contract in
        record {
          ordered = refl;
          paying = refl;
          left = takes.left;
          cash = record { fits = omega (arith, most, ceiling); there = λ sells. takes.cash (not-false _ sells) };
          premium = omega (arith, most, ceiling);
          holds = record { fits = held; there = λ taken. takes.holds };
          margin = λ short. record { fits = margined; there = λ closes. takes.margin (buy_close kind short closes) };
          count = record { fits = omega (arith, few, counts); there = takes.count };
        }

    pub fillable : Fillable f fill
    unfolding named
    fillable =
        record {
          quantity = quantity;
          price = price;
          place = there;
          unit = (row_of_lem sound.tables _ its_contract).unit;
          ceiling = sound.ceiling;
          most = most;
          exact = exact;
        }

  pub cancellable : (number : ℕ) → place_of a number < 32 → Cancellable (named t a number)
  unfolding named cancel_verdict for_count
  cancellable number there =
      let takes = cancel_exact t a number sound (rw (lt-ltb (place_of a number) 32 there)) in
      record { holds = takes.holds; bought = takes.bought }
