-- What an accepted order leaves: it takes a free place, so each total over the orders grows by its own term, and what it holds was available; the positions stay, since no contract has the number 64; the holding of its underlying grows by what it buys open, and no other holding changes.
use mathlib.Core.Path.{◌≡◌, refl, sym, ap, ◌∙◌}
use mathlib.Core.Bool.{Bool, true, false, cond, ◌&&◌, and-true, and-false}
use mathlib.Core.Logic.{◌⊎◌, inl, inr, ⊎_elim}
use Prim.Native.Nat.{ℕ, ◌+◌, ◌*◌, ◌≤◌, ◌<◌}
use native.Mathlib.Nat.{add-zero, mul-zero}
use native.Mathlib.Omega.{arith}
use borrow.Author.Tests.{eqb-true, ne_eqb}
use lib.Dec.{eqb}
use lib.ListN.{length-set}
use lib.Seq.{set_out}
use Rattle.terms.specs.Codes.{kind_code}
use Rattle.terms.specs.declared.kind.OrderKind.{OrderKind}
use Rattle.terms.specs.declared.kind.OrderKind.TheVariants.{BuyOpen, SellClose, SellOpen, BuyClose, CoveredOpen, CoveredClose}
use Rattle.rules.specs.Count.{for_count}
use Rattle.entries.specs.declared.entry.Contract.{Contract}
use Rattle.entries.specs.declared.entry.Order.{Order}
use Rattle.entries.specs.declared.entry.Underlying.{Underlying}
use Rattle.account.specs.Changes.{applied}
use Rattle.account.specs.Checks.{Available, meets}
use Rattle.account.specs.Money.{hold_by, hold_one, hold_of, holds_in}
use Rattle.account.specs.Orders.{under, free_place, facts_in, rested, order_change}
use Rattle.account.specs.Rows.{free, no_holding, no_position, contract, underlying, holding, order}
use Rattle.account.specs.Sound.{Sound}
use Rattle.terms.specs.Sums.{◌when◌}
use Rattle.account.specs.Totals.{is_of, is_kind, over_orders, resting_in, resting_on, reserved_units}
use Rattle.account.specs.declared.account.Account.{Account}
use Rattle.account.specs.declared.account.Holding.{Holding}
use Rattle.account.specs.declared.account.Resting.{Resting}
use Rattle.account.specs.declared.tables.Tables.{Tables}
use Rattle.account.proofs.Allowed.{underlying_known}
use Rattle.account.proofs.Held.{Held}
use Rattle.account.proofs.KindNumbers.{answered_kind}
use Rattle.account.proofs.Lowest.{lowest_passes}
use Rattle.account.proofs.Passed.{Passed}
use Rattle.account.proofs.Placed.{nothing_when, nothing_held, Put, each_order, over_placed}
use Rattle.account.proofs.Rows.{changed_row}

-- a holding with more bought
abbrev grown : ℕ → Holding → Holding
grown more h = record { locked = h.locked; bought = record { 0 = h.bought.0 + more } }

same_locked : (here : Bool) (more : ℕ) (h : Holding) → (cond here (grown more h) h).locked.0 ≡ h.locked.0
same_locked true more h = refl
same_locked false more h = refl

more_bought : (here buys : Bool) (more : ℕ) (h : Holding) → (cond here (grown (more when buys) h) h).bought.0 ≡ h.bought.0 + (more when (buys && here))
more_bought true buys more h = rw and-true
more_bought false buys more h = rw and-false (sym (add-zero _))

-- an order that is not held to what is available holds nothing
checked_or_none : (kind : OrderKind) (k : Contract) (u : Underlying) (price : ℕ) → (meets kind Available ≡ true) ⊎ (hold_by kind k u price ≡ 0)
checked_or_none BuyOpen k u price = inl refl
checked_or_none SellClose k u price = inr refl
checked_or_none SellOpen k u price = inl refl
checked_or_none BuyClose k u price = inl refl
checked_or_none CoveredOpen k u price = inr refl
checked_or_none CoveredClose k u price = inl refl

-- the account after an order whose values are allowed
abbrev pub after : Tables → Account → Order → Account
after t a o = applied a (order_change (facts_in t a o) o)

module _ (t : Tables) (a : Account) (o : Order) (h : Held t a) (p : Passed t a o) where
  pub was_free : order a (free_place a) ≡ free
  unfolding free_place
  was_free = h.emptied (free_place a) p.place (eqb-true _ _ (lowest_passes 32 (λ i. eqb (order a i).number 0) p.place))

  pub placed : Put a (after t a o) (free_place a) (rested o)
  unfolding applied order_change
  placed = record { rows = h.rows; within = p.place; orders = refl }

  over_after : (f : Resting → ℕ) → f free ≡ 0 → over_orders (after t a o) f ≡ over_orders a f + f (rested o)
  over_after = over_placed placed was_free

  pub resting_after : (which : ℕ → Bool) (u : ℕ) → resting_in which t (after t a o) u ≡ resting_in which t a u + (o.quantity when (which (kind_code o.kind) && is_of t u o.contract))
  resting_after which u = over_after _ (nothing_when (which 0 && is_of t u 0))

  pub closing_after_lem : (kind : OrderKind) (c : ℕ) → resting_on kind (after t a o) c ≡ resting_on kind a c + (o.quantity when (is_kind kind (kind_code o.kind) && eqb o.contract c))
  closing_after_lem kind c = over_after _ (nothing_when (is_kind kind 0 && eqb 0 c))

  pub reserved_after : (u : ℕ) → reserved_units t (after t a o) u ≡ reserved_units t a u + (o.quantity * (contract t o.contract).unit when (is_kind CoveredOpen (kind_code o.kind) && is_of t u o.contract))
  unfolding reserved_units
  reserved_after u = over_after _ refl

  holds_after : (after t a o).sheet.holds ≡ holds_in t (after t a o)
  unfolding applied order_change holds_in hold_of
  holds_after =
      let own = ap (λ (kind : OrderKind). for_count o.quantity (hold_one t kind o.contract o.price)) (answered_kind o.kind) in
      omega (arith, h.holds, own, over_after (hold_of t) (nothing_held t))

  reach_after : (after t a o).sheet.holds ≤ (after t a o).sheet.cash
  unfolding applied order_change for_count
  reach_after =
      let k = contract t o.contract in
      ⊎_elim
      (λ checked. omega (arith, p.hold checked))
      (λ none. omega (arith, h.reach, ap (o.quantity *◌) none, mul-zero o.quantity))
      (checked_or_none o.kind k (underlying t k.underlying) o.price)

  pub order_held : Held t (after t a o)
  unfolding applied order_change
  order_held =
      record {
        rows = length-set a.orders (free_place a) (rested o) ∙ h.rows;
        emptied = each_order placed (λ r. r.number ≡ 0 → r ≡ free) (λ e. absurd (omega (arith, p.number))) h.emptied;
        holds = holds_after;
        reach = reach_after;
      }

module _ (t : Tables) (a : Account) (o : Order) (s : Sound t a) (p : Passed t a o) where
  pub positions_after : (after t a o).positions ≡ a.positions
  unfolding applied order_change
  positions_after = set_out a.positions 64 no_position (omega (arith, s.position_rows))

  known : under t o < t.m
  known = underlying_known t o p.allowed s.tables

  holding_after : (u : ℕ) → holding (after t a o) u ≡ cond (is_of t u o.contract) (grown (o.quantity when is_kind BuyOpen (kind_code o.kind)) (holding a u)) (holding a u)
  unfolding applied order_change
  holding_after = changed_row a.holdings no_holding (under t o) (grown (o.quantity when is_kind BuyOpen (kind_code o.kind))) (omega (arith, known, s.tables.few_underlyings, s.holding_rows))

  pub locked_after : (u : ℕ) → (holding (after t a o) u).locked.0 ≡ (holding a u).locked.0
  locked_after u = ap (λ (h : Holding). h.locked.0) (holding_after u) ∙ same_locked (is_of t u o.contract) _ (holding a u)

  pub bought_after : (u : ℕ) → (holding (after t a o) u).bought.0 ≡ (holding a u).bought.0 + (o.quantity when (is_kind BuyOpen (kind_code o.kind) && is_of t u o.contract))
  bought_after u = ap (λ (h : Holding). h.bought.0) (holding_after u) ∙ more_bought (is_of t u o.contract) (is_kind BuyOpen (kind_code o.kind)) o.quantity (holding a u)

  pub no_more_holdings_lem : (u : ℕ) → t.m ≤ u → holding (after t a o) u ≡ no_holding
  no_more_holdings_lem u h = rw (holding_after u, ne_eqb (under t o) u (λ e. absurd (omega (arith, e, known, h)))) (s.no_more_holdings u h)
