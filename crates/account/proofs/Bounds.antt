-- What a sound account bounds. The ranges bound the rows and what one contract costs, the total limit bounds every count held, 32 places bound what rests; so each sum is at most its number of terms times the most of one, and money stays below 2 ^ 63.
use mathlib.Core.Path.{◌≡◌, refl, sym, subst}
use mathlib.Core.Logic.{◌⊎◌, inl, inr}
use mathlib.Core.Bool.{Bool, true, false, ◌&&◌}
use Prim.Native.Nat.{ℕ, zero, suc, ◌+◌, ◌*◌, ◌≤◌, ◌<◌}
use native.Mathlib.Nat.{le_trans, le_of_lt, mul-le-mul, mul-le-mul_right, div-le_of_le-mul}
use native.Mathlib.Omega.{arith}
use borrow.Author.Tests.{ltb-true, eq-eqb}
use Rattle.terms.specs.Counts.{units_for}
use Rattle.terms.specs.Ranges.{range_of, unit_allowed, ◌∈◌}
use Rattle.terms.specs.declared.kind.OrderKind.{OrderKind}
use Rattle.terms.specs.declared.kind.OrderKind.TheVariants.{BuyOpen, SellClose, SellOpen, BuyClose, CoveredOpen, CoveredClose}
use Rattle.terms.specs.declared.kind.Side.{Side}
use Rattle.terms.specs.declared.kind.Side.TheVariants.{Long, Short, Covered}
use Rattle.terms.specs.declared.measure.Measure.TheVariants.{Price, Settlement, Quantity, Limit}
use Rattle.terms.proofs.Ranges.{first_holds, second_holds, inside}
use Rattle.rules.specs.Charges.{margin_allowed}
use Rattle.rules.specs.Count.{for_count}
use Rattle.rules.specs.Premium.{premium_of}
use Rattle.rules.proofs.Bounds.{Figures, figures, margin_below}
use Rattle.entries.specs.declared.entry.Contract.{Contract}
use Rattle.entries.specs.declared.entry.Order.{Order}
use Rattle.entries.specs.declared.entry.Underlying.{Underlying}
use Rattle.account.specs.Money.{margin_by, margin_one, hold_one, kind_of, hold_of, holds_in, margin_in}
use Rattle.account.specs.Orders.{order_allowed}
use Rattle.account.specs.Rows.{free, contract, underlying, position, holding, order}
use Rattle.account.specs.Sound.{SoundPayout, SoundTables, SoundOrder, Sound, SoundSheet, as_order, underlying_allowed, contract_allowed}
use Rattle.terms.specs.Sums.{Σ, ◌when◌}
use Rattle.account.specs.Totals.{is_of, count_of, count_in, over_orders, total_in, covered_units}
use Rattle.account.specs.declared.account.Account.{Account}
use Rattle.account.specs.declared.account.Resting.{Resting}
use Rattle.account.specs.declared.tables.Tables.{Tables}
use Rattle.account.proofs.Held.{sound_held, waiting_held}
use Rattle.terms.proofs.Sums.{Σ-bound, Σ-term}

-- the tests of an underlying's record, of a contract's, of an order and of a day end each have four parts
pub four : (a b c d : Bool) → (a && b && c && d) ≡ true → (a ≡ true) × (b ≡ true) × (c ≡ true) × (d ≡ true)
four a b c d h =
    let three = first_holds (a && b && c) d h in
    let two = first_holds (a && b) c three in
    (first_holds a b two, second_holds a b two, second_holds (a && b) c three, second_holds (a && b && c) d h)

-- what an underlying's record in range tells
pub record Limits (p : Underlying) : Type 0 where
  pub priced : (p.close ∈ range_of Price) ≡ true
  pub close : p.close ≤ 10_000_000
  pub rights : p.rights ≤ 10_000
  pub total : p.total ≤ 10_000
  pub daily : p.daily ≤ 10_000

limits : (p : Underlying) → underlying_allowed p ≡ true → Limits p
limits p h =
    let known = four _ _ _ _ h in
    record {
      priced = known.0;
      close = (inside _ (range_of Price) known.0).1;
      rights = (inside _ (range_of Limit) known.1).1;
      total = (inside _ (range_of Limit) known.2).1;
      daily = (inside _ (range_of Limit) known.3).1;
    }

-- what a contract's record in range tells
pub record Row (t : Tables) (k : Contract) : Type 0 where
  pub underlying : k.underlying < t.m
  pub strike : (k.strike ∈ range_of Price) ≡ true
  pub unit : unit_allowed k.unit ≡ true
  pub settlement : (k.settlement ∈ range_of Settlement) ≡ true

row : {t : Tables} (k : Contract) → contract_allowed t.m k ≡ true → Row t k
row k h =
    let known = four _ _ _ _ h in
    record { underlying = ltb-true _ _ known.0; strike = known.1; unit = known.2; settlement = known.3 }

-- what a passed test of an order's values tells
pub record OrderFigures (t : Tables) (o : Order) : Type 0 where
  pub some : 1 ≤ o.quantity
  pub quantity : o.quantity ≤ 100
  pub price : o.price ≤ 10_000_000
  pub there : o.contract < t.n

pub order_figures : {t : Tables} (o : Order) → order_allowed t o ≡ true → OrderFigures t o
unfolding order_allowed
order_figures o h =
    let known = four _ _ _ _ h in
    let quantity = inside _ (range_of Quantity) known.0 in
    record { some = quantity.0; quantity = quantity.1; price = (inside _ (range_of Price) known.1).1; there = ltb-true _ _ known.2 }

module _ {t : Tables} (tables : SoundTables t) where
  pub limits_of : (u : ℕ) → u < t.m → Limits (underlying t u)
  limits_of u h = limits (underlying t u) (tables.underlyings u h)

  module _ (c : ℕ) (there : c < t.n) where
    pub row_of_lem : Row t (contract t c)
    row_of_lem = row (contract t c) (tables.contracts c there)

    pub figures_allowed : margin_allowed (contract t c).settlement (underlying t (contract t c).underlying).close (contract t c).strike (contract t c).unit ≡ true
    unfolding margin_allowed
    figures_allowed = simp (row_of_lem.settlement, row_of_lem.strike, row_of_lem.unit, (limits_of _ row_of_lem.underlying).priced)

    -- settlement, close, strike and unit, each at most its range's end
    figures_of_lem : Figures (contract t c).settlement (underlying t (contract t c).underlying).close (contract t c).strike (contract t c).unit
    figures_of_lem = figures _ _ _ _ figures_allowed

    pub one_margin : margin_one t c < 20_000_000_000
    unfolding margin_by
    one_margin = margin_below _ _ _ _ _ _ figures_allowed

    -- 10 ^ 7 x 10 ^ 5 / 100
    pub one_premium : (price : ℕ) → price ≤ 10_000_000 → premium_of price (contract t c).unit ≤ 10_000_000_000
    unfolding premium_of
    one_premium price p = div-le_of_le-mul 100 (mul-le-mul p figures_of_lem.unit)

    pub one_hold : (kind : OrderKind) (price : ℕ) → price ≤ 10_000_000 → hold_one t kind c price < 20_000_000_000
    one_hold BuyOpen price p = omega (arith, one_premium price p)
    one_hold SellClose price p = omega arith
    one_hold SellOpen price p = one_margin
    one_hold BuyClose price p = omega (arith, one_premium price p)
    one_hold CoveredOpen price p = omega arith
    one_hold CoveredClose price p = omega (arith, one_premium price p)

-- what is small about an order place, free or not
pub record Small (t : Tables) (r : Resting) : Type 0 where
  pub left : r.left.0 ≤ 100
  pub units : (units_for r.left (contract t r.contract).unit).0 ≤ 10_000_000
  pub hold : hold_of t r ≤ 100 * 20_000_000_000
  pub contract : r.contract < 64

resting_small : {t : Tables} → SoundTables t → (last : ℕ) (r : Resting) → SoundOrder t last r → Small t r
unfolding hold_of for_count
resting_small tables last r s =
    let known = order_figures (as_order r) s.allowed in
    record {
      left = known.quantity;
      units = mul-le-mul known.quantity (figures_of_lem tables _ known.there).unit;
      hold = mul-le-mul known.quantity (le_of_lt (one_hold tables _ known.there (kind_of r) r.price known.price));
      contract = omega (arith, known.there, tables.few_contracts);
    }

-- nothing is left at a free place
free_small : (t : Tables) → Small t free
unfolding hold_of for_count
free_small t = record { left = omega arith; units = omega arith; hold = omega arith; contract = omega arith }

when_most : (x : ℕ) (test : Bool) → (x when test) ≤ x
when_most x true = omega arith
when_most x false = omega arith

module _ {t : Tables} {a : Account} (sound : Sound t a) where
  free_or_resting : (i : ℕ) → i < 32 → (order a i ≡ free) ⊎ SoundOrder t a.last (order a i)
  free_or_resting i h = go (order a i).number refl
    where
      go : (n : ℕ) → (order a i).number ≡ n → (order a i ≡ free) ⊎ SoundOrder t a.last (order a i)
      go zero e = inl (sound.emptied i h e)
      go (suc n) e = inr (sound.resting i h (omega (arith, e)))

  pub small : (i : ℕ) → i < 32 → Small t (order a i)
  small i h = elim (free_or_resting i h) [ inl e ↦ subst (Small t) (sym e) (free_small t) | inr s ↦ resting_small sound.tables a.last _ s ]

  pub total_most : (u : ℕ) → u < t.m → total_in t a u ≤ 10_000
  total_most u h = le_trans (sound.total u h) (limits_of sound.tables u h).total

  -- every count held in an underlying is in its total
  pub count_in_lem : (side : Side) (u : ℕ) → u < t.m → count_in side t a u ≤ 10_000
  unfolding total_in
  count_in_lem Long u h = omega (arith, total_most u h)
  count_in_lem Short u h = omega (arith, total_most u h)
  count_in_lem Covered u h = omega (arith, total_most u h)

  -- one position's count is a term of the sum over its underlying
  pub count_of_lem : (side : Side) (c : ℕ) → c < t.n → count_of side (position a c) ≤ 10_000
  unfolding count_in
  count_of_lem side c there =
      let u = (contract t c).underlying in
      let term = Σ-term t.n c (λ k. count_of side (position a k) when is_of t u k) there in
      le_trans (rw (eq-eqb u u refl) at term) (count_in_lem side u (row_of_lem sound.tables c there).underlying)

  -- a sum over the first k contracts, each with what is at most so much, where it counts
  some_contracts : (f : ℕ → ℕ) (most : ℕ) → ((c : ℕ) → c < t.n → f c ≤ most) → (p : ℕ → Bool) (k : ℕ) → k ≤ t.n → Σ k (λ c. f c when p c) ≤ 64 * most
  some_contracts f most each p k l =
      let few = sound.tables.few_contracts in
      le_trans (Σ-bound k _ most (λ c h. le_trans (when_most _ (p c)) (each c (omega (arith, h, l))))) (mul-le-mul_right most (omega (arith, l, few)))

  pub count_so_far : (side : Side) (u k : ℕ) → k ≤ t.n → Σ k (λ c. count_of side (position a c) when is_of t u c) ≤ 64 * 10_000
  count_so_far side u = some_contracts (λ c. count_of side (position a c)) 10_000 (count_of_lem side) (is_of t u)

  -- covered units are locked
  pub covered_in : (u : ℕ) → u < t.m → covered_units t a u ≤ 2_000_000_000
  covered_in u h = omega (arith, sound.units u h, sound.locked u h)

  pub covered_so_far : (u k : ℕ) → k ≤ t.n → Σ k (λ c. (units_for (position a c).covered (contract t c).unit).0 when is_of t u c) ≤ 64 * (10_000 * 100_000)
  covered_so_far u =
      some_contracts (λ c. (units_for (position a c).covered (contract t c).unit).0) (10_000 * 100_000)
      (λ c there. mul-le-mul (count_of_lem Covered c there) (figures_of_lem sound.tables c there).unit)
      (is_of t u)

  pub bought_most : (u : ℕ) → u < t.m → (holding a u).bought.0 ≤ 10_000
  bought_most u h = le_trans (sound.daily u h) (limits_of sound.tables u h).daily

  -- the order places before k that pass a test
  some_places : (f : Resting → ℕ) (most : ℕ) → ((i : ℕ) → i < 32 → f (order a i) ≤ most) → (p : Resting → Bool) (k : ℕ) → k ≤ 32 → Σ k (λ i. f (order a i) when p (order a i)) ≤ 32 * most
  some_places f most each p k l =
      le_trans (Σ-bound k _ most (λ i h. le_trans (when_most _ (p (order a i))) (each i (omega (arith, h, l))))) (mul-le-mul_right most l)

  pub left_so_far : (p : Resting → Bool) (k : ℕ) → k ≤ 32 → Σ k (λ i. (order a i).left.0 when p (order a i)) ≤ 3_200
  left_so_far = some_places (λ r. r.left.0) 100 (λ i h. (small i h).left)

  pub holds_most : a.sheet.holds ≤ 32 * (100 * 20_000_000_000) + 10_000_000_000_000
  unfolding holds_in over_orders
  holds_most = omega (arith, sound.holds, sound.waiting, Σ-bound 32 (λ i. hold_of t (order a i)) (100 * 20_000_000_000) (λ i h. (small i h).hold))

  pub margin_so_far : (k : ℕ) → k ≤ t.n → Σ k (λ c. for_count (position a c).short.0 (margin_one t c)) ≤ 64 * (10_000 * 20_000_000_000)
  unfolding for_count
  margin_so_far k l =
      let few : k ≤ 64 = le_trans l sound.tables.few_contracts in
      let each : (c : ℕ) → c < k → (position a c).short.0 * margin_one t c ≤ 10_000 * 20_000_000_000 =
      λ c h. let there : c < t.n = omega (arith, h, l) in mul-le-mul (count_of_lem Short c there) (le_of_lt (one_margin sound.tables c there)) in
      le_trans (Σ-bound k _ _ each) (mul-le-mul_right _ few)

  pub payout_sound : SoundPayout a.sheet a.waiting
  payout_sound = record { held = waiting_held (sound_held sound); reach = sound.reach }

  pub sheet_sound : SoundSheet a.sheet
  unfolding margin_in
  sheet_sound =
      record {
        ceiling = sound.ceiling;
        holds = holds_most;
        margin = subst (◌≤ 64 * (10_000 * 20_000_000_000)) (sym sound.margin) (margin_so_far t.n (omega arith));
      }
