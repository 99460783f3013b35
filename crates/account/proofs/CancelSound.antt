-- A cancel takes all that is left of one order, so each total over the orders falls by that order's own term and no limit is passed. Its hold was among the holds and its remainder among what was counted today, so both can be taken off; the positions stay.
use mathlib.Core.Path.{◌≡◌, refl, sym, ap, ◌∙◌}
use mathlib.Core.Bool.{and-true}
use mathlib.Core.Logic.{inl, inr}
use Prim.Native.Nat.{ℕ, ◌-◌, ◌≤◌, ◌<◌}
use native.Mathlib.Nat.{le_refl}
use native.Mathlib.Omega.{arith}
use borrow.Author.Tests.{ltb-true, eq-eqb}
use lib.Dec.{ltb}
use lib.ListN.{set, length-set}
use lib.Seq.{set_out}
use Rattle.std.specs.Prelude.{Ok}
use Rattle.terms.specs.Verdicts.{accept}
use Rattle.terms.specs.Kinds.{moves_of}
use Rattle.terms.specs.declared.kind.OrderKind.TheVariants.{BuyOpen}
use Rattle.terms.specs.declared.kind.Side.{Side}
use Rattle.terms.specs.declared.kind.Side.TheVariants.{Long, Short, Covered}
use Rattle.terms.specs.declared.refusal.Refusal.TheVariants.{NoSuchOrder}
use Rattle.account.specs.Changes.{applied}
use Rattle.account.specs.Fills.{place_of, named, order_after, cancel_verdict, cancel_change}
use Rattle.account.specs.Rows.{free, no_holding, no_position, contract, underlying, position, holding, order}
use Rattle.account.specs.Sound.{Sound, as_order}
use Rattle.terms.specs.Sums.{◌when◌}
use Rattle.account.specs.Totals.{count_of, count_in, is_kind, is_open, resting_in, rights_in, total_in}
use Rattle.account.specs.declared.account.Account.{Account}
use Rattle.account.specs.declared.account.Holding.{Holding}
use Rattle.account.specs.declared.account.Resting.{Resting}
use Rattle.account.specs.declared.tables.Tables.{Tables}
use Rattle.account.proofs.Allowed.{underlying_known}
use Rattle.account.proofs.Bounds.{small}
use Rattle.account.proofs.Held.{Held, sound_held}
use Rattle.account.proofs.Holdings.{each_holding}
use Rattle.account.proofs.Kept.{count_kept, margin_kept, covered_kept}
use Rattle.account.proofs.Movement.{Fits, kept_after}
use Rattle.account.proofs.Passed.{went_on}
use Rattle.account.proofs.Taken.{found, Takes, held_taken, resting_order, resting_taken, closing_taken, reserved_taken, resting_after, distinct_taken}

-- an order of which all is taken gives up its place
all_taken : (r : Resting) → order_after r r.left.0 ≡ free
all_taken r = rw (eq-eqb r.left.0 r.left.0 refl)

module _ (t : Tables) (a : Account) (number : ℕ) (held : Held t a) (there : place_of a number < 32) where
  pub cancel_takes : Takes t a (applied a (cancel_change (named t a number))) (place_of a number) (order a (place_of a number)).left.0
  unfolding applied cancel_change named
  cancel_takes =
      let r = order a (place_of a number) in
      record {
        put = record { rows = held.rows; within = there; orders = ap (set a.orders (place_of a number)) (sym (all_taken r)) };
        waits = refl;
        some = found a number there;
        enough = le_refl r.left.0;
      }

  pub cancel_held : Held t (applied a (cancel_change (named t a number)))
  unfolding applied cancel_change named
  cancel_held = held_taken cancel_takes held refl (omega (arith, held.reach))

module _ (t : Tables) (a : Account) (number : ℕ) (s : Sound t a) (there : place_of a number < 32) where
  abbrev after : Account
  after = applied a (cancel_change (named t a number))

  abbrev r : Resting
  r = order a (place_of a number)

  abbrev under : ℕ
  under = (contract t r.contract).underlying

  abbrev taken : Takes t a after (place_of a number) r.left.0
  taken = cancel_takes t a number (sound_held s) there

  held_after : Held t after
  held_after = cancel_held t a number (sound_held s) there

  positions_after : after.positions ≡ a.positions
  unfolding applied cancel_change named
  positions_after = set_out a.positions 64 no_position (omega (arith, s.position_rows))

  count_after : (side : Side) (u : ℕ) → count_in side t after u ≡ count_in side t a u
  count_after = count_kept t a after positions_after

  position_after : (c : ℕ) → position after c ≡ position a c
  position_after c = rw positions_after

  pub known : under < t.m
  known = underlying_known t (as_order r) (resting_order taken s).allowed s.tables

  -- today's count of its underlying with the remainder taken off, where it is a buy open
  abbrev remaining : Holding
  remaining = record { locked = (holding a under).locked; bought = record { 0 = (holding a under).bought.0 - (r.left.0 when is_kind BuyOpen r.kind) } }

  each : (P : Holding → Type 0) (u : ℕ) → (under ≡ u → P remaining) → P (holding a u) → P (holding after u)
  unfolding applied cancel_change named
  each = each_holding t a s under known remaining

  locked_after : (u : ℕ) → (holding after u).locked.0 ≡ (holding a u).locked.0
  locked_after u = each (λ h. h.locked.0 ≡ (holding a u).locked.0) u (ap (λ k. (holding a k).locked.0)) refl

  counted_after : (u : ℕ) → u < t.m → resting_in (is_kind BuyOpen) t after u ≤ (holding after u).bought.0
  counted_after u h =
      let rests = resting_taken taken (is_kind BuyOpen) u in
      let here : under ≡ u → resting_in (is_kind BuyOpen) t after u ≤ remaining.bought.0 =
      λ e.
      let own = rw (eq-eqb under u e, and-true) at rests in
      omega (arith, own, s.counted u h, ap (λ k. (holding a k).bought.0) e) in
      each (λ h. resting_in (is_kind BuyOpen) t after u ≤ h.bought.0) u here (omega (arith, rests, s.counted u h))

  daily_after : (u : ℕ) → u < t.m → (holding after u).bought.0 ≤ (underlying t u).daily
  daily_after u h = each (λ h. h.bought.0 ≤ (underlying t u).daily) u (λ e. omega (arith, s.daily u h, ap (λ k. (holding a k).bought.0) e)) (s.daily u h)

  pub cancel_fits : Fits t a (cancel_change (named t a number))
  unfolding cancel_change named
  cancel_fits =
      record {
        within = known;
        held = λ h. absurd (omega (arith, h, s.tables.few_contracts));
        unheld = λ past. refl;
        was = inr (refl, refl, refl);
        is = inl refl;
        placed = there;
        known = (small s (place_of a number) there).contract;
      }

  after_sound : Sound t after
  unfolding applied cancel_change named rights_in total_in
  after_sound =
      let kept = kept_after t a (cancel_change (named t a number)) s cancel_fits in
      record {
        tables = s.tables;
        position_rows = length-set a.positions 64 no_position ∙ s.position_rows;
        order_rows = held_after.rows;
        holding_rows = length-set a.holdings under _ ∙ s.holding_rows;
        ceiling = s.ceiling;
        holds = held_after.holds;
        reach = held_after.reach;
        waiting = s.waiting;
        margin = s.margin ∙ sym (margin_kept t a after positions_after);
        rights = λ u h. omega (arith, s.rights u h, count_after Long u, resting_taken taken (is_kind BuyOpen) u);
        total = λ u h. omega (arith, s.total u h, count_after Long u, count_after Short u, count_after Covered u, resting_taken taken is_open u);
        counted = counted_after;
        daily = daily_after;
        closes = λ kind close c. omega (arith, s.closes kind close c, closing_taken taken kind c, ap (count_of (moves_of kind)) (position_after c));
        units = λ u h. omega (arith, s.units u h, covered_kept t a after positions_after u, reserved_taken taken u, locked_after u);
        locked = λ u h. rw (locked_after u) (s.locked u h);
        calls = λ c put. rw (position_after c) (s.calls c put);
        emptied = held_after.emptied;
        resting = resting_after taken s;
        distinct = distinct_taken taken s;
        running_rows = kept.running_rows;
        closing_rows = kept.closing_rows;
        running = kept.running;
        closing = kept.closing;
        free = kept.free;
        no_more_positions = λ c h. position_after c ∙ s.no_more_positions c h;
        no_more_holdings = λ u h. each (◌≡ no_holding) u (λ e. absurd (omega (arith, e, known, h))) (s.no_more_holdings u h);
      }

pub cancel_there : (t : Tables) (a : Account) (number : ℕ) → cancel_verdict (named t a number) ≡ accept → place_of a number < 32
unfolding cancel_verdict named
cancel_there t a number e = ltb-true (place_of a number) 32 (went_on (ltb (place_of a number) 32) NoSuchOrder accept e).0

pub cancel_sound : (t : Tables) (a : Account) (number : ℕ) → Sound t a → cancel_verdict (named t a number) ≡ accept → Sound t (applied a (cancel_change (named t a number)))
cancel_sound t a number s e = after_sound t a number s (cancel_there t a number e)
