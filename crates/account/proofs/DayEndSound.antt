-- After a day end no order rests, no count is greater than it was and the limits stay, so the limits hold. Margin is worked afresh, the premium that joins cash leaves their sum, and exactly the units that cover stay locked, no more than were.
use mathlib.Core.Path.{◌≡◌, refl, sym, ap, ◌∙◌}
use mathlib.Core.List.{map}
use Prim.Native.Nat.{ℕ, ◌+◌, ◌≤◌, ◌<◌}
use native.Mathlib.Decide.{dec_lt}
use native.Mathlib.Omega.{arith}
use borrow.Author.Tests.{ne_eqb}
use lib.ListN.{length, replicate, length-replicate, length-map, get_or-eq_default}
use Rattle.std.specs.Prelude.{Ok}
use Rattle.terms.specs.Verdicts.{accept}
use Rattle.terms.specs.declared.count.Position.{Position}
use Rattle.terms.specs.declared.kind.OrderKind.TheVariants.{BuyOpen}
use Rattle.terms.specs.declared.kind.Side.{Side}
use Rattle.terms.specs.declared.kind.Side.TheVariants.{Long, Short, Covered}
use Rattle.terms.specs.declared.right.Right.TheVariants.{Put}
use Rattle.rules.specs.Netting.{netted}
use Rattle.entries.specs.declared.entry.Figures.{Figures}
use Rattle.account.specs.DayEnd.{kept_anew, orders_cancelled, positions_netted, margin_afresh, premium_joined, daily_zero, units_released, day_end_verdict, figures_installed, day_ended}
use Rattle.account.specs.Money.{margin_in}
use Rattle.account.specs.Rows.{free, no_holding, no_position, contract, position, holding}
use Rattle.account.specs.Running.{all_free, no_running, running, running_in}
use Rattle.account.specs.Sound.{SoundTables, Sound}
use Rattle.account.specs.Totals.{count_in, is_kind, is_open, over_orders, rights_in, total_in, covered_units, reserved_units}
use Rattle.account.specs.declared.account.Account.{Account}
use Rattle.account.specs.declared.account.Holding.{Holding}
use Rattle.account.specs.declared.tables.Tables.{Tables}
use Rattle.account.proofs.Bounds.{row_of_lem, covered_in}
use Rattle.account.proofs.Held.{Held, sound_held, waiting_paid}
use Rattle.account.proofs.Installed.{InRange, figures_passed, installed_sound, same_n, same_m, same_right, same_rights, same_total, count_installed, covered_installed}
use Rattle.account.proofs.Kept.{margin_kept, covered_kept}
use Rattle.terms.proofs.Listed.{listed_at}
use Rattle.account.proofs.Netted.{nothing_netted, position_netted, count_less, count_in_less, covered_less}
use Rattle.account.proofs.NoOrders.{NoOrders, all_free_lem, closes_none, no_orders}
use Rattle.account.proofs.Rows.{untouched}
use Rattle.terms.proofs.Sums.{Σ-none}

-- a holding of so many units, nothing bought yet
abbrev pub covering : ℕ → Holding
covering units = record { locked = record { 0 = units }; bought = record { 0 = 0 } }

zeroed : (a : Account) (u : ℕ) → u < 8 → holding (daily_zero a) u ≡ covering (holding a u).locked.0
unfolding daily_zero
zeroed a u h = listed_at 8 (λ v. record { locked = (holding a v).locked; bought = record { 0 = 0 } }) u no_holding h

released : (t : Tables) (a : Account) (u : ℕ) → u < 8 → holding (units_released t a) u ≡ record { locked = record { 0 = covered_units t a u }; bought = (holding a u).bought }
unfolding units_released
released t a u h = listed_at 8 (λ v. record { locked = record { 0 = covered_units t a v }; bought = (holding a v).bought }) u no_holding h

-- what is kept anew is of the same positions and orders
anew : (t : Tables) (a : Account) (u : ℕ) → u < 8 → running (kept_anew t a) u ≡ running_in t (kept_anew t a) u
unfolding kept_anew count_in total_in covered_units reserved_units over_orders
anew t a u h = listed_at 8 (running_in t a) u no_running h

-- what the steps leave of a, t being the tables with the new figures
record Ended (t : Tables) (a b : Account) : Type 0 where
  positions : b.positions ≡ map netted a.positions
  orders : b.orders ≡ replicate 32 free
  rows : length b.holdings ≡ 8
  money : b.sheet.cash + b.sheet.premium ≡ a.sheet.cash + a.sheet.premium
  cash : a.sheet.cash ≤ b.sheet.cash
  holds : b.sheet.holds ≡ b.waiting
  waits : b.waiting ≡ a.waiting
  margin : b.sheet.margin ≡ margin_in t b
  holding : (u : ℕ) → u < 8 → holding b u ≡ covering (covered_units t b u)
  running_rows : length b.running ≡ 8
  running : (u : ℕ) → u < 8 → running b u ≡ running_in t b u
  closing : b.closing ≡ replicate 64 no_position
  free : b.free ≡ all_free

module _ (t : Tables) (a : Account) where
  pub holding_after : (u : ℕ) → u < 8 → holding (day_ended t a) u ≡ covering (covered_units t (day_ended t a) u)
  unfolding day_ended kept_anew units_released
  holding_after u within =
      let joined = premium_joined (margin_afresh t (positions_netted (orders_cancelled a))) in
      let units = sym (covered_kept t (daily_zero joined) (day_ended t a) refl u) in
      let bought = ap (λ (h : Holding). h.bought) (zeroed joined u within) in
      released t (daily_zero joined) u within ∙ (λ i. record { locked = record { 0 = units i }; bought = bought i })

  -- where the margin is worked the positions are netted already
  day_ended_lem : Ended t a (day_ended t a)
  unfolding day_ended kept_anew units_released daily_zero premium_joined margin_afresh positions_netted orders_cancelled
  day_ended_lem =
      record {
        positions = refl;
        orders = refl;
        rows = refl;
        money = omega arith;
        cash = omega arith;
        holds = refl;
        waits = refl;
        margin = sym (margin_kept t (positions_netted (orders_cancelled a)) (day_ended t a) refl);
        holding = holding_after;
        running_rows = refl;
        running = anew t (units_released t (daily_zero (premium_joined (margin_afresh t (positions_netted (orders_cancelled a))))));
        closing = refl;
        free = refl;
      }

-- no order rests, and what waits was held and is so still
pub day_end_held : (t new : Tables) (a : Account) → Held t a → Held new (day_ended new a)
day_end_held t new a held =
    let ended = day_ended_lem new a in
    let none = no_orders new (day_ended new a) ended.orders in
    record {
      rows = ap length ended.orders ∙ length-replicate 32 free;
      emptied = λ i h zero. none.places i;
      holds = ended.holds ∙ sym none.holds;
      reach = omega (arith, ended.holds, ended.waits, ended.cash, waiting_paid held);
    }

-- an underlying that is not there has no contract, so no unit of it stays locked
covers_none : (t : Tables) (a : Account) → SoundTables t → (u : ℕ) → t.m ≤ u → covered_units t a u ≡ 0
unfolding covered_units
covers_none t a tables u past =
    Σ-none t.n _ (λ c there. rw (ne_eqb (contract t c).underlying u (λ e. omega (arith, e, (row_of_lem tables c there).underlying))))

nothing_locked : (t : Tables) (a b : Account) → SoundTables t → Ended t a b → (u : ℕ) → t.m ≤ u → holding b u ≡ no_holding
nothing_locked t a b tables ended u past =
    elim (dec_lt u 8) [
      | yes h ↦ ended.holding u h ∙ ap covering (covers_none t b tables u past)
      | no h ↦ get_or-eq_default b.holdings no_holding (omega (arith, ended.rows, h))
    ]

module _ (t : Tables) (a : Account) (f : Figures) (s : Sound t a) (passed : InRange t f) where
  abbrev new : Tables
  new = figures_installed t f

  abbrev after : Account
  after = day_ended new a

  ended : Ended new a after
  ended = day_ended_lem new a

  held : Held new after
  held = day_end_held t new a (sound_held s)

  tables_after_lem : SoundTables new
  tables_after_lem = installed_sound t f s.tables passed

  none : NoOrders new after
  none = no_orders new after ended.orders

  known : (u : ℕ) → u < new.m → u < t.m
  known u h = omega (arith, h, same_m t f)

  count_after : (side : Side) (u : ℕ) → count_in side new after u ≤ count_in side t a u
  count_after side u = rw (count_installed t f s.tables side after u) (count_in_less t a after ended.positions side u)

  covered_after : (u : ℕ) → covered_units new after u ≤ covered_units t a u
  covered_after u = rw (covered_installed t f s.tables after u) (covered_less t a after ended.positions u)

  no_more_positions_lem : (c : ℕ) → t.n ≤ c → position after c ≡ no_position
  no_more_positions_lem c h = position_netted t a after ended.positions c ∙ ap netted (s.no_more_positions c h) ∙ nothing_netted

  -- past the contracts of the tables nothing is held
  calls-after : (c : ℕ) → (contract new c).right ≡ Put → (position after c).covered.0 ≡ 0
  calls-after c put =
      elim (dec_lt c t.n) [
        | yes there ↦ omega (arith, count_less t a after ended.positions Covered c, s.calls c (sym (same_right t f s.tables c there) ∙ put))
        | no past ↦ ap (λ (p : Position). p.covered.0) (no_more_positions_lem c (omega (arith, past)))
      ]

  holding_known : (u : ℕ) → u < new.m → holding after u ≡ covering (covered_units new after u)
  holding_known u h = ended.holding u (omega (arith, known u h, s.tables.few_underlyings))

  after_sound : Sound new after
  unfolding rights_in total_in
  after_sound =
      record {
        tables = tables_after_lem;
        position_rows = ap length ended.positions ∙ length-map a.positions netted ∙ s.position_rows;
        order_rows = held.rows;
        holding_rows = ended.rows;
        ceiling = omega (arith, ended.money, s.ceiling);
        holds = held.holds;
        reach = held.reach;
        waiting = omega (arith, ended.waits, s.waiting);
        margin = ended.margin;
        rights = λ u h. omega (arith, s.rights u (known u h), count_after Long u, none.resting (is_kind BuyOpen) u, same_rights t f s.tables u (known u h));
        total = λ u h. omega (arith, s.total u (known u h), count_after Long u, count_after Short u, count_after Covered u, none.resting is_open u, same_total t f s.tables u (known u h));
        counted = λ u h. omega (arith, none.resting (is_kind BuyOpen) u);
        daily = λ u h. rw (holding_known u h) (omega arith);
        closes = λ kind close c. omega (arith, none.closes kind c);
        units = λ u h. rw (holding_known u h) (omega (arith, none.reserve u));
        locked = λ u h. rw (holding_known u h) (omega (arith, covered_after u, covered_in s u (known u h)));
        calls = calls-after;
        emptied = held.emptied;
        resting = λ i h some. absurd (none.numbers i some);
        distinct = λ i j hi hj some same. absurd (none.numbers i some);
        running_rows = ended.running_rows;
        closing_rows = ap length ended.closing ∙ length-replicate 64 no_position;
        running = ended.running;
        closing = λ c h. rw ended.closing (untouched 64 c no_position) ∙ sym (closes_none none c);
        free = ended.free ∙ sym (all_free_lem new after ended.orders);
        no_more_positions = λ c h. no_more_positions_lem c (omega (arith, h, same_n t f));
        no_more_holdings = nothing_locked new a after tables_after_lem ended;
      }

pub day_end_sound : (t : Tables) (a : Account) (n m : ℕ) (f : Figures) → Sound t a → day_end_verdict t n m f ≡ accept → Sound (figures_installed t f) (day_ended (figures_installed t f) a)
day_end_sound t a n m f s e = after_sound t a f s (figures_passed t n m f e)
