-- Bounds of one margin, over r and f: what `less` answers is at most its difference and its floor together, and each of these is a percentage of a price.
use mathlib.Core.Path.{◌≡◌}
use mathlib.Core.Bool.{true, ◌&&◌}
use Prim.Native.Nat.{ℕ, ◌+◌, ◌*◌, ◌/◌, ◌%◌, ◌≤◌, ◌<◌, min}
use native.Mathlib.Nat.{mul_left_comm, mul-le-mul, mul-le-mul_left, min-le_right}
use native.Mathlib.Omega.{arith}
use lib.Dec.{lit≤}
use Rattle.terms.specs.Ranges.{range_of, unit_allowed, ◌∈◌}
use Rattle.terms.specs.declared.class.Class.{Class}
use Rattle.terms.specs.declared.class.Class.TheVariants.{Stock, Fund}
use Rattle.terms.specs.declared.measure.Measure.TheVariants.{Price, Settlement}
use Rattle.terms.specs.declared.right.Right.{Right}
use Rattle.terms.specs.declared.right.Right.TheVariants.{Call, Put}
use Rattle.terms.proofs.Ranges.{first_holds, second_holds, inside, unit_inside}
use Rattle.rules.specs.Charges.{margin_allowed}
use Rattle.rules.specs.Margin.{◌less◌but_at_least◌, rates_of, out_of_the_money, amount_of, margin_of, halves_up}
use Rattle.rules.specs.declared.amount.Rates.{Rates}
use Rattle.rules.proofs.Less.{bounded}
use Rattle.rules.proofs.Rounding.{hundreds}

amount_bounded : (most : ℕ) (q : Rates) (t : Right) (S P K : ℕ) → S ≤ most → P ≤ most → K ≤ most → amount_of q t S P K ≤ 100 * most + q.r * most + q.f * most
unfolding amount_of
amount_bounded most q Call S P K s p k =
    omega (arith, bounded (q.r * P) (100 * out_of_the_money Call P K) (q.f * P), mul-le-mul_left q.r p, mul-le-mul_left q.f p)
amount_bounded most q Put S P K s p k =
    omega (arith, bounded (q.r * P) (100 * out_of_the_money Put P K) (q.f * K), mul-le-mul_left q.r p, mul-le-mul_left q.f k)

rates_bounded : (class : Class) (t : Right) → ((rates_of class t).r ≤ 21) × ((rates_of class t).f ≤ 10)
unfolding rates_of
rates_bounded Stock Call = (lit≤ tt, lit≤ tt)
rates_bounded Stock Put = (lit≤ tt, lit≤ tt)
rates_bounded Fund t = (lit≤ tt, lit≤ tt)

-- what passing the test of the figures tells
pub record Figures (S P K U : ℕ) : Type 0 where
  pub settlement : S ≤ 10_000_000
  pub close : P ≤ 10_000_000
  pub strike : K ≤ 10_000_000
  pub unit : U ≤ 100_000
  pub hundreds : U % 100 ≡ 0

pub figures : (S P K U : ℕ) → margin_allowed S P K U ≡ true → Figures S P K U
unfolding margin_allowed
figures S P K U h =
    let s = S ∈ range_of Settlement in
    let p = P ∈ range_of Price in
    let k = K ∈ range_of Price in
    let spk = first_holds (s && p && k) (unit_allowed U) h in
    let sp = first_holds (s && p) k spk in
    let u = unit_inside U (second_holds (s && p && k) (unit_allowed U) h) in
    record {
      settlement = (inside S (range_of Settlement) (first_holds s p sp)).1;
      close = (inside P (range_of Price) (second_holds s p sp)).1;
      strike = (inside K (range_of Price) (second_holds (s && p) k spk)).1;
      unit = u.1;
      hundreds = u.2;
    }

module _ (class : Class) (t : Right) (S P K U : ℕ) (h : margin_allowed S P K U ≡ true) where
  pub amount_in_range : amount_of (rates_of class t) t S P K ≤ 1_310_000_000
  amount_in_range =
      let known = figures S P K U h in
      let rates = rates_bounded class t in
      omega (arith, amount_bounded 10_000_000 (rates_of class t) t S P K known.settlement known.close known.strike)

  -- below 2 x 10 ^ 10
  pub margin_below : margin_of (rates_of class t) t S P K U < 20_000_000_000
  unfolding margin_of halves_up
  margin_below = omega (arith, mul-le-mul (figures S P K U h).unit amount_in_range)

-- over any r and f, a put's margin never passes U x K / 100, which is a whole number: A is at most 100K, and U is a multiple of 100
pub put_capped : (q : Rates) (S P K U : ℕ) → U % 100 ≡ 0 → margin_of q Put S P K U ≤ U * K / 100
unfolding amount_of margin_of halves_up
put_capped q S P K U h =
    let uncapped = 100 * S + (q.r * P less 100 * out_of_the_money Put P K but_at_least q.f * K) in
    let capped : U * min uncapped (100 * K) ≤ U * (100 * K) = mul-le-mul_left U (min-le_right uncapped (100 * K)) in
    omega (arith, capped, mul_left_comm U 100 K, hundreds U K h)
