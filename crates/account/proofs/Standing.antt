-- Counts, margin, holds and what rests are totals over the positions and the orders alone, so where those stand the account stays sound as long as money, with what waits, and locked units keep within their own bounds.
use mathlib.Core.Path.{◌≡◌, ap, ◌∙◌}
use mathlib.Core.List.{List}
use Prim.Native.Nat.{ℕ, ◌+◌, ◌≤◌, ◌<◌}
use native.Mathlib.Omega.{arith}
use lib.ListN.{length, set, get_or-eq_default}
use lib.Seq.{set_out, set-get_or}
use Rattle.std.specs.Prelude.{Option}
use Rattle.account.specs.Changes.{applied, closing_after, running_after, waiting_after, without_position}
use Rattle.account.specs.Money.{margin_in}
use Rattle.account.specs.Rows.{free, no_holding, no_position, holding, order, position}
use Rattle.account.specs.Running.{closing, free_in, no_running, ordered, running}
use Rattle.account.specs.Sound.{Sound}
use Rattle.account.specs.Totals.{count_in, over_orders, rights_in, total_in, covered_units, reserved_units}
use Rattle.account.specs.declared.account.Account.{Account}
use Rattle.account.specs.declared.account.Holding.{Holding}
use Rattle.account.specs.declared.account.Sheet.{Sheet}
use Rattle.account.specs.declared.tables.Tables.{Tables}
use Rattle.account.proofs.Held.{Held}
use Rattle.account.proofs.Instead.{closing_unmoved, running_unmoved}

-- the account with another sheet, another payout that waits and other holdings
abbrev pub standing : Account → Sheet → ℕ → List Holding → Account
standing a sheet waiting holdings =
    record { sheet = sheet; waiting = waiting; positions = a.positions; orders = a.orders; holdings = holdings; running = a.running; closing = a.closing; free = a.free; last = a.last }

-- what its money must keep
pub record Moneyed (t : Tables) (a b : Account) : Type 0 where
  pub ceiling : b.sheet.cash + b.sheet.premium ≤ 1_000_000_000_000_000
  pub held : Held t b
  pub waiting : b.waiting ≤ 10_000_000_000_000
  pub margin : b.sheet.margin ≡ a.sheet.margin

-- and what its holdings must
pub record Stocked (t : Tables) (a b : Account) : Type 0 where
  pub rows : length b.holdings ≡ 8
  pub bought : (u : ℕ) → (holding b u).bought.0 ≡ (holding a u).bought.0
  pub units : (u : ℕ) → u < t.m → covered_units t a u + reserved_units t a u ≤ (holding b u).locked.0
  pub locked : (u : ℕ) → u < t.m → (holding b u).locked.0 ≤ 2_000_000_000
  pub no_more : (u : ℕ) → t.m ≤ u → holding b u ≡ no_holding

module _ (t : Tables) (a : Account) (s : Sound t a) where
  pub standing_sound : (sheet : Sheet) (waiting : ℕ) (holdings : List Holding) → Moneyed t a (standing a sheet waiting holdings) → Stocked t a (standing a sheet waiting holdings)
      → Sound t (standing a sheet waiting holdings)
  unfolding margin_in rights_in total_in count_in over_orders covered_units reserved_units free_in
  standing_sound sheet waiting holdings money stock =
      record {
        tables = s.tables;
        position_rows = s.position_rows;
        order_rows = s.order_rows;
        holding_rows = stock.rows;
        ceiling = money.ceiling;
        holds = money.held.holds;
        reach = money.held.reach;
        waiting = money.waiting;
        margin = money.margin ∙ s.margin;
        rights = s.rights;
        total = s.total;
        counted = λ u h. rw (stock.bought u) (s.counted u h);
        daily = λ u h. rw (stock.bought u) (s.daily u h);
        closes = s.closes;
        units = stock.units;
        locked = stock.locked;
        calls = s.calls;
        emptied = s.emptied;
        resting = s.resting;
        distinct = s.distinct;
        running_rows = s.running_rows;
        closing_rows = s.closing_rows;
        running = s.running;
        closing = s.closing;
        free = s.free;
        no_more_positions = s.no_more_positions;
        no_more_holdings = stock.no_more;
      }

  -- no contract has the number 64 and no place the number 32, so nothing is taken off what is kept, and nothing put on
  pub stands : (sheet : Sheet) (waiting : (Option ℕ)) (u : ℕ) (h : Holding)
      → applied a (without_position sheet waiting 32 free 0 u h a.last) ≡ standing a sheet (waiting_after waiting a.waiting) (set a.holdings u h)
  unfolding applied
  stands sheet waiting u h =
      let change = without_position sheet waiting 32 free 0 u h a.last in
      let positions = set_out a.positions 64 no_position (omega (arith, s.position_rows)) in
      let orders = set_out a.orders 32 free (omega (arith, s.order_rows)) in
      let no_order : order a 32 ≡ free = get_or-eq_default a.orders free (omega (arith, s.order_rows)) in
      let no_position_lem : position a 64 ≡ no_position = s.no_more_positions 64 s.tables.few_contracts in
      let running : set a.running u (running_after a change) ≡ a.running = rw (no_order, no_position_lem) (ap (set a.running u) (running_unmoved (running a u)) ∙ set-get_or a.running u no_running) in
      let closing : set a.closing (ordered (order a 32) free) (closing_after a change) ≡ a.closing = rw no_order (ap (set a.closing 0) (closing_unmoved (closing a 0)) ∙ set-get_or a.closing 0 no_position) in
      λ i.
      record {
        sheet = sheet;
        waiting = waiting_after waiting a.waiting;
        positions = positions i;
        orders = orders i;
        holdings = set a.holdings u h;
        running = running i;
        closing = closing i;
        free = a.free;
        last = a.last;
      }
