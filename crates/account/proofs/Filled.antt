-- What an accepted fill passed, and what it leaves held: it takes from a resting order, whose share of the hold was among the holds and is no less than a buy pays, since a buy fills at its price or below.
use mathlib.Core.Path.{◌≡◌, refl, subst}
use mathlib.Core.Bool.{Bool, true, false, ◌&&◌, ◌||◌, false≢true}
use Prim.Native.Nat.{ℕ, ◌+◌, ◌-◌, ◌≤◌, ◌<◌}
use native.Mathlib.Nat.{mul-le-mul_left}
use native.Mathlib.Omega.{arith}
use borrow.Author.Tests.{leb-true, ltb-true}
use lib.Dec.{leb, ltb}
use Rattle.std.specs.Prelude.{Ok}
use Rattle.terms.specs.Verdicts.{accept}
use Rattle.terms.specs.Kinds.{moves_of, buys_of}
use Rattle.terms.specs.Ranges.{range_of, ◌∈◌}
use Rattle.terms.specs.declared.kind.OrderKind.{OrderKind}
use Rattle.terms.specs.declared.kind.OrderKind.TheVariants.{BuyOpen, SellClose, SellOpen, BuyClose, CoveredOpen, CoveredClose}
use Rattle.terms.specs.declared.measure.Measure.TheVariants.{Price, Quantity, Money}
use Rattle.terms.specs.declared.refusal.Refusal.TheVariants.{OutOfRange, NoSuchOrder, FillBarred, CeilingPassed}
use Rattle.terms.proofs.Ranges.{first_holds, second_holds, inside}
use Rattle.rules.specs.Count.{for_count}
use Rattle.rules.specs.Premium.{premium_of}
use Rattle.rules.proofs.Rounding.{premium_rises}
use Rattle.entries.specs.declared.entry.Contract.{Contract}
use Rattle.entries.specs.declared.entry.Fill.{Fill}
use Rattle.entries.specs.declared.entry.Underlying.{Underlying}
use Rattle.account.specs.Changes.{applied}
use Rattle.account.specs.Fills.{place_of, named, price_allowed, paid, fill_verdict, cash_after, fill_change}
use Rattle.account.specs.Money.{hold_by, hold_one, kind_of}
use Rattle.account.specs.Rows.{contract, underlying, order}
use Rattle.account.specs.declared.account.Account.{Account}
use Rattle.account.specs.declared.account.Resting.{Resting}
use Rattle.account.specs.declared.judged.Named.{Named}
use Rattle.account.specs.declared.tables.Tables.{Tables}
use Rattle.account.proofs.Held.{Held}
use Rattle.account.proofs.Passed.{went_on}
use Rattle.account.proofs.Taken.{found, Takes, held_taken, holds_taken}

-- what an accepted fill passed, as far as soundness and its differences rest on it
pub record FillPassed (f : Named) (fill : Fill) : Type 0 where
  pub there : f.place < 32
  pub enough : fill.quantity ≤ f.order.left.0
  pub price : buys_of (kind_of f.order) ≡ true → fill.price ≤ f.order.price
  pub ceiling : buys_of (kind_of f.order) ≡ false → f.sheet.cash + f.sheet.premium + paid f fill ≤ 1_000_000_000_000_000

pub fill_passed : (f : Named) (fill : Fill) → fill_verdict f fill ≡ accept → FillPassed f fill
unfolding fill_verdict
fill_passed f fill e =
    let buys = buys_of (kind_of f.order) in
    let within = leb fill.quantity f.order.left.0 in
    let priced = price_allowed buys f.order.price fill.price in
    let total = f.sheet.cash + f.sheet.premium + paid f fill in
    let range = went_on ((fill.quantity ∈ range_of Quantity) && (fill.price ∈ range_of Price)) OutOfRange _ e in
    let place = went_on (ltb f.place 32) NoSuchOrder _ range.1 in
    let bar = went_on (within && priced) FillBarred _ place.1 in
    let ceiling = went_on (buys || (total ∈ range_of Money)) CeilingPassed accept bar.1 in
    record {
      there = ltb-true _ _ place.0;
      enough = leb-true _ _ (first_holds within priced bar.0);
      price = λ pays. leb-true _ _ (subst (λ (b : Bool). price_allowed b f.order.price fill.price ≡ true) pays (second_holds within priced bar.0));
      ceiling = λ sells. (inside total (range_of Money) (subst (λ (b : Bool). (b || (total ∈ range_of Money)) ≡ true) sells ceiling.0)).1;
    }

-- a buy pays the premium at its own price or below, so at most its share of the hold
pays_its_share : (kind : OrderKind) (k : Contract) (u : Underlying) (price limit q : ℕ) → buys_of kind ≡ true → price ≤ limit → for_count q (premium_of price k.unit) ≤ for_count q (hold_by kind k u limit)
unfolding for_count
pays_its_share BuyOpen k u price limit q pays below = mul-le-mul_left q (premium_rises k.unit below)
pays_its_share SellClose k u price limit q pays below = absurd (false≢true pays)
pays_its_share SellOpen k u price limit q pays below = absurd (false≢true pays)
pays_its_share BuyClose k u price limit q pays below = mul-le-mul_left q (premium_rises k.unit below)
pays_its_share CoveredOpen k u price limit q pays below = absurd (false≢true pays)
pays_its_share CoveredClose k u price limit q pays below = mul-le-mul_left q (premium_rises k.unit below)

-- so cash still reaches for what is held: a buy frees no less than it pays, a sell pays nothing
still_reaches : (kind : OrderKind) (cash sum holds share : ℕ) → holds ≤ cash → (buys_of kind ≡ true → sum ≤ share) → holds - share ≤ cash_after (moves_of kind) (buys_of kind) cash sum
still_reaches BuyOpen cash sum holds share h paid = omega (arith, paid refl)
still_reaches SellClose cash sum holds share h paid = omega arith
still_reaches SellOpen cash sum holds share h paid = omega arith
still_reaches BuyClose cash sum holds share h paid = omega (arith, paid refl)
still_reaches CoveredOpen cash sum holds share h paid = omega arith
still_reaches CoveredClose cash sum holds share h paid = omega (arith, paid refl)

module _ (t : Tables) (a : Account) (fill : Fill) (held : Held t a) (p : FillPassed (named t a fill.number) fill) where
  abbrev after : Account
  after = applied a (fill_change (named t a fill.number) fill)

  abbrev r : Resting
  r = order a (place_of a fill.number)

  pub fill_takes : Takes t a after (place_of a fill.number) fill.quantity
  unfolding applied fill_change named
  fill_takes =
      record {
        put = record { rows = held.rows; within = p.there; orders = refl };
        waits = refl;
        some = found a fill.number p.there;
        enough = p.enough;
      }

  -- the same of the order that a fill names
  its_share : buys_of (kind_of r) ≡ true → paid (named t a fill.number) fill ≤ for_count fill.quantity (hold_one t (kind_of r) r.contract r.price)
  unfolding named
  its_share pays =
      let k = contract t r.contract in
      pays_its_share (kind_of r) k (underlying t k.underlying) fill.price r.price fill.quantity pays (p.price pays)

  -- that share is among the holds, and cash reaches for them: no fill brings cash below zero (#112)
  pub fill_reached : let f = named t a fill.number in buys_of (kind_of f.order) ≡ true → paid f fill ≤ f.sheet.cash
  unfolding named
  fill_reached pays = omega (arith, its_share pays, holds_taken fill_takes, held.holds, held.reach)

  reach_after : after.sheet.holds ≤ after.sheet.cash
  unfolding applied fill_change named
  reach_after = still_reaches (kind_of r) a.sheet.cash _ a.sheet.holds _ held.reach its_share

  pub fill_held : Held t after
  unfolding applied fill_change named
  fill_held = held_taken fill_takes held refl reach_after
