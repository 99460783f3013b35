-- A fill takes from a resting order what it moves in the position: an open moves from what rests to what is held, within the same totals; a close takes both off, and both were there. Margin moves with short, and what a sell brings was within the ceiling.
use mathlib.Core.Path.{◌≡◌, refl, sym, ap, subst, ◌∙◌}
use mathlib.Core.Bool.{Bool, true, false, not, ◌&&◌, and-true, and-false, false≢true, cond}
use mathlib.Core.Logic.{inl, inr}
use Prim.Native.Nat.{ℕ, ◌+◌, ◌*◌, ◌≤◌, ◌<◌, ◌-◌}
use native.Mathlib.Omega.{arith}
use borrow.Author.Tests.{eqb-true, eq-eqb}
use lib.Dec.{eqb, ltb}
use lib.ListN.{length-set}
use lib.Seq.{set-get_or}
use Rattle.std.specs.Prelude.{Ok}
use Rattle.terms.specs.Verdicts.{accept}
use Rattle.terms.specs.Codes.{kind_code}
use Rattle.terms.specs.Kinds.{moves_of, opens_of, buys_of}
use Rattle.terms.specs.Ranges.{range_of, ◌∈◌}
use Rattle.terms.specs.declared.kind.OrderKind.{OrderKind}
use Rattle.terms.specs.declared.kind.OrderKind.TheVariants.{BuyOpen, SellClose, SellOpen, BuyClose, CoveredOpen, CoveredClose}
use Rattle.terms.specs.declared.kind.Side.TheVariants.{Long, Short, Covered}
use Rattle.terms.specs.declared.measure.Measure.TheVariants.{Price, Quantity}
use Rattle.terms.specs.declared.right.Right.{Right}
use Rattle.terms.specs.declared.right.Right.TheVariants.{Put}
use Rattle.terms.proofs.Codes.{kind_coded_lem}
use Rattle.terms.proofs.Ranges.{second_holds}
use Rattle.rules.specs.Count.{for_count}
use Rattle.entries.specs.declared.entry.Fill.{Fill}
use Rattle.entries.specs.declared.entry.Order.{Order}
use Rattle.account.specs.Changes.{applied}
use Rattle.account.specs.Fills.{place_of, named, fill_verdict, cash_after, premium_after, margin_after, fill_change, order_after}
use Rattle.account.specs.Money.{kind_of, margin_one, margin_in}
use Rattle.account.specs.Orders.{covered_put, order_allowed}
use Rattle.account.specs.Rows.{no_holding, contract, underlying, position, holding, order, free}
use Rattle.account.specs.Running.{ordered}
use Rattle.account.specs.Sound.{Sound, SoundOrder, as_order}
use Rattle.terms.specs.Sums.{◌when◌}
use Rattle.account.specs.Totals.{is_of, count_of, is_kind, is_open, resting_on, rights_in, total_in}
use Rattle.account.specs.declared.account.Account.{Account}
use Rattle.account.specs.declared.account.Resting.{Resting}
use Rattle.account.specs.declared.tables.Tables.{Tables}
use Rattle.account.proofs.Allowed.{contract_known, underlying_known}
use Rattle.account.proofs.Filled.{FillPassed, fill_held, fill_passed, fill_takes}
use Rattle.account.proofs.Held.{Held, sound_held}
use Rattle.account.proofs.Moved.{closer_of, Moves, position_elsewhere, count_at, count_in_lem, covered_units_lem, margin_moved}
use Rattle.account.proofs.Movement.{Fits, OrderOn, kept_after, ordered_taken}
use Rattle.account.proofs.Taken.{Takes, leaving, resting_order, resting_taken, closing_taken, reserved_taken, resting_after, distinct_taken}

-- a buy pays from cash; what a sell brings joins cash or premium
money_within : (kind : OrderKind) (cash premium sum most : ℕ) → cash + premium ≤ most → (buys_of kind ≡ false → cash + premium + sum ≤ most)
    → cash_after (moves_of kind) (buys_of kind) cash sum + premium_after (moves_of kind) (buys_of kind) premium sum ≤ most
money_within BuyOpen cash premium sum most h room = omega arith
money_within SellClose cash premium sum most h room = omega (arith, room refl)
money_within SellOpen cash premium sum most h room = omega (arith, room refl)
money_within BuyClose cash premium sum most h room = omega arith
money_within CoveredOpen cash premium sum most h room = omega (arith, room refl)
money_within CoveredClose cash premium sum most h room = omega arith

-- margin moves up with kind 3 and down with kind 4
margin_follows : (kind : OrderKind) (before after q one : ℕ) → after + (q when is_kind BuyClose (kind_code kind)) * one ≡ before + (q when is_kind SellOpen (kind_code kind)) * one
    → margin_after (moves_of kind) (opens_of kind) before (q * one) ≡ after
margin_follows BuyOpen before after q one e = omega (arith, e)
margin_follows SellClose before after q one e = omega (arith, e)
margin_follows SellOpen before after q one e = omega (arith, e)
margin_follows BuyClose before after q one e = omega (arith, e)
margin_follows CoveredOpen before after q one e = omega (arith, e)
margin_follows CoveredClose before after q one e = omega (arith, e)

-- an open is of one of the three kinds
one_opens : (kind : OrderKind) (q : ℕ) (here : Bool)
    → q when (is_open (kind_code kind) && here) ≡ (q when (is_kind BuyOpen (kind_code kind) && here)) + (q when (is_kind SellOpen (kind_code kind) && here)) + (q when (is_kind CoveredOpen (kind_code kind) && here))
one_opens BuyOpen q here = omega arith
one_opens SellClose q here = omega arith
one_opens SellOpen q here = omega arith
one_opens BuyClose q here = omega arith
one_opens CoveredOpen q here = omega arith
one_opens CoveredClose q here = omega arith

-- a kind that may be on a put does not open covered, and an allowed order's kind may be on its contract
not_covered : (kind : OrderKind) → not (covered_put (moves_of kind) Put) ≡ true → is_kind CoveredOpen (kind_code kind) ≡ false
not_covered BuyOpen e = refl
not_covered SellClose e = refl
not_covered SellOpen e = refl
not_covered BuyClose e = refl
not_covered CoveredOpen e = absurd (false≢true e)
not_covered CoveredClose e = refl

not_on_put : (t : Tables) (o : Order) → order_allowed t o ≡ true → (contract t o.contract).right ≡ Put → is_kind CoveredOpen (kind_code o.kind) ≡ false
unfolding order_allowed
not_on_put t o allowed put =
    let values = (o.quantity ∈ range_of Quantity) && (o.price ∈ range_of Price) && ltb o.contract t.n in
    let may : Right → Bool = λ right. not (covered_put (moves_of o.kind) right) in
    not_covered o.kind (subst (λ (right : Right). may right ≡ true) put (second_holds values (may (contract t o.contract).right) allowed))

module _ (t : Tables) (a : Account) (fill : Fill) (s : Sound t a) (p : FillPassed (named t a fill.number) fill) where
  abbrev after : Account
  after = applied a (fill_change (named t a fill.number) fill)

  abbrev place : ℕ
  place = place_of a fill.number

  abbrev r : Resting
  r = order a place

  abbrev q : ℕ
  q = fill.quantity

  abbrev held : Held t a
  held = sound_held s

  abbrev taken : Takes t a after place q
  taken = fill_takes t a fill held p

  allowed : SoundOrder t a.last r
  allowed = resting_order taken s

  code : kind_code (kind_of r) ≡ r.kind
  code = kind_coded_lem r.kind (kind_of r) allowed.listed

  -- what rests of a closing kind on a contract is held there
  close_held : opens_of (kind_of r) ≡ false → q ≤ count_of (moves_of (kind_of r)) (position a r.contract)
  close_held close =
      let own = closing_taken taken (kind_of r) r.contract in
      let here = rw (eq-eqb r.kind (kind_code (kind_of r)) (sym code), eq-eqb r.contract r.contract refl) at own in
      omega (arith, here, s.closes (kind_of r) close r.contract)

  pub moves : Moves t a after r.contract q r.kind (kind_of r)
  unfolding applied fill_change named
  moves =
      record {
        rows = s.position_rows;
        there = contract_known t (as_order r) allowed.allowed;
        few = s.tables.few_contracts;
        positions = refl;
        code = code;
        enough = close_held;
      }

  holding_after : (u : ℕ) → holding after u ≡ holding a u
  unfolding applied fill_change named
  holding_after u = rw (set-get_or a.holdings (contract t r.contract).underlying no_holding)

  total_after : (u : ℕ) → u < t.m → total_in t after u ≤ (underlying t u).total
  unfolding total_in
  total_after u h =
      let opens = one_opens (kind_of r) q (is_of t u r.contract) in
      let opens = rw code at opens in
      omega (arith, s.total u h, opens, count_in_lem moves Long u, count_in_lem moves Short u, count_in_lem moves Covered u, resting_taken taken is_open u)

  margin_after_lem : after.sheet.margin ≡ margin_in t after
  unfolding applied fill_change named for_count
  margin_after_lem =
      let one = margin_one t r.contract in
      let shifts : ℕ → Type 0 = λ n. margin_in t after + (q when is_kind BuyClose n) * one ≡ a.sheet.margin + (q when is_kind SellOpen n) * one in
      margin_follows (kind_of r) a.sheet.margin (margin_in t after) q one (subst shifts (sym code) (omega (arith, margin_moved moves, s.margin)))

  closes_after : (kind : OrderKind) → opens_of kind ≡ false → (c : ℕ) → resting_on kind after c ≤ count_of (moves_of kind) (position after c)
  closes_after kind close c =
      let held = count_at moves (moves_of kind) c in
      let held = rw (closer_of kind close) at held in
      omega (arith, s.closes kind close c, closing_taken taken kind c, held)

  calls-after : (c : ℕ) → (contract t c).right ≡ Put → (position after c).covered.0 ≡ 0
  calls-after c put =
      let opens = is_kind CoveredOpen r.kind in
      let none : (here : Bool) → eqb r.contract c ≡ here → (opens && here) ≡ false =
      elim [
        | true ↦
            λ e.
            let own = not_on_put t (as_order r) allowed.allowed (ap (λ k. (contract t k).right) (eqb-true r.contract c e) ∙ put) in
            rw (and-true opens, ← code) own
        | false ↦ λ e. and-false opens
      ] in
      omega (arith, s.calls c put, count_at moves Covered c, ap (q when◌) (none (eqb r.contract c) refl))

  held_after : Held t after
  held_after = fill_held t a fill held p

  pub fill_fits : Fits t a (fill_change (named t a fill.number) fill)
  unfolding fill_change named
  fill_fits =
      let on = ordered_taken r q taken.some in
      record {
        within = underlying_known t (as_order r) allowed.allowed s.tables;
        held = λ h. (refl, refl);
        unheld = λ past. absurd (omega (arith, past, moves.there));
        was = inr (refl, refl, sym on);
        is = still_on (eqb r.left.0 q) on;
        placed = p.there;
        known = omega (arith, on, moves.there, moves.few);
      }
    where
      still_on : (all : Bool) → ordered r (order_after r q) ≡ r.contract → OrderOn t a (fill_change (named t a fill.number) fill) (cond all free (leaving r (r.left.0 - q)))
      still_on true on = inl refl
      still_on false on = inr (refl, refl, sym on)

  after_sound : Sound t after
  unfolding applied fill_change named rights_in
  after_sound =
      let kept = kept_after t a (fill_change (named t a fill.number) fill) s fill_fits in
      record {
        tables = s.tables;
        position_rows = length-set a.positions r.contract _ ∙ s.position_rows;
        order_rows = held_after.rows;
        holding_rows = length-set a.holdings (contract t r.contract).underlying _ ∙ s.holding_rows;
        ceiling = money_within (kind_of r) a.sheet.cash a.sheet.premium _ 1_000_000_000_000_000 s.ceiling p.ceiling;
        holds = held_after.holds;
        reach = held_after.reach;
        waiting = s.waiting;
        margin = margin_after_lem;
        rights = λ u h. omega (arith, s.rights u h, count_in_lem moves Long u, resting_taken taken (is_kind BuyOpen) u);
        total = total_after;
        counted = λ u h. rw (holding_after u) (omega (arith, s.counted u h, resting_taken taken (is_kind BuyOpen) u));
        daily = λ u h. rw (holding_after u) (s.daily u h);
        closes = closes_after;
        units = λ u h. rw (holding_after u) (omega (arith, s.units u h, covered_units_lem moves u, reserved_taken taken u));
        locked = λ u h. rw (holding_after u) (s.locked u h);
        calls = calls-after;
        emptied = held_after.emptied;
        resting = resting_after taken s;
        distinct = distinct_taken taken s;
        running_rows = kept.running_rows;
        closing_rows = kept.closing_rows;
        running = kept.running;
        closing = kept.closing;
        free = kept.free;
        no_more_positions = λ c h. position_elsewhere moves c (λ e. absurd (omega (arith, e, h, moves.there))) ∙ s.no_more_positions c h;
        no_more_holdings = λ u h. holding_after u ∙ s.no_more_holdings u h;
      }

pub fill_sound : (t : Tables) (a : Account) (fill : Fill) → Sound t a → fill_verdict (named t a fill.number) fill ≡ accept → Sound t (applied a (fill_change (named t a fill.number) fill))
fill_sound t a fill s e = after_sound t a fill s (fill_passed (named t a fill.number) fill e)
