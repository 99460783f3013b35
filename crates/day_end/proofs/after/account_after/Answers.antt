-- `account_after` meets its contract: margin, the units that cover and what is held are summed over the netted positions, which is all that is kept since no order rests, and put together they are the account of the definition.
use Rattle.std.proofs.Common.{◌≡◌, ℕ, ◌+◌, ◌≤◌, List, length, map, refl, sym, ap, subst, arith, rules}
use mathlib.Core.Path.{◌∙◌}
use lib.ListN.{replicate}
use Rattle.terms.specs.declared.count.Position.{Position}
use Rattle.terms.specs.declared.kind.OrderKind.TheVariants.{BuyOpen}
use Rattle.rules.specs.Netting.{netted}
use Rattle.terms.proofs.Listed.{listed_is}
use Rattle.account.specs.DayEnd.{kept_anew, orders_cancelled, positions_netted, margin_afresh, premium_joined, daily_zero, units_released, day_ended}
use Rattle.account.specs.Money.{margin_in}
use Rattle.account.specs.Rows.{free, no_holding, no_position}
use Rattle.account.specs.Running.{all_free, no_running, running_in}
use Rattle.account.specs.Sound.{Sound}
use Rattle.account.specs.Totals.{count_in, is_kind, is_open, total_in, covered_units, reserved_units}
use Rattle.account.specs.declared.account.Account.{Account}
use Rattle.account.specs.declared.account.Resting.{Resting}
use Rattle.account.specs.declared.account.Sheet.{Sheet}
use Rattle.account.specs.declared.tables.Tables.{Tables}
use Rattle.account.proofs.DayEndSound.{holding_after}
use Rattle.account.proofs.NoOrders.{NoOrders, no_orders}
use Rattle.postings.specs.Postings.{posted}
use Rattle.postings.specs.declared.Posting.TheVariants.{DayEnd}
use Rattle.day_end.specs.Passes.{Summed, of_units, count_to, margin_to, units_to, held_to, holdings_to, running_to, worked_to}
use Rattle.day_end.specs.declared.after.Worked.{Worked}
use Rattle.day_end.proofs.Summed.{positions_summed}
use Rattle.day_end.proofs.after.account_after.Goals as goal

-- where no order rests, what is kept of an underlying is what is held there
held_only : (t : Tables) (a : Account) → NoOrders t a → (u : ℕ) → running_in t a u ≡ held_to t a.positions t.n u
unfolding total_in count_in covered_units count_to units_to
held_only t a none u =
    let held = held_to t a.positions t.n u in
    let total : total_in t a u ≡ held.total.0 = omega (arith, none.resting is_open u) in
    let taken : covered_units t a u + reserved_units t a u ≡ held.taken.0 = omega (arith, none.reserve u) in
    λ i.
    record {
      long = held.long;
      total = record { 0 = total i };
      buys = record { 0 = none.resting (is_kind BuyOpen) u i };
      opens = record { 0 = none.resting is_open u i };
      taken = record { 0 = taken i };
    }

module _ (t : Tables) (a : Account) where
  positions_after : (day_ended t a).positions ≡ map netted a.positions
  unfolding day_ended kept_anew units_released daily_zero premium_joined margin_afresh positions_netted orders_cancelled
  positions_after = refl

  holding_rows : length (day_ended t a).holdings ≡ 8
  unfolding day_ended kept_anew units_released
  holding_rows = refl

  holdings_after : (day_ended t a).holdings ≡ holdings_to t (day_ended t a).positions t.n
  unfolding holdings_to units_to covered_units
  holdings_after = listed_is 8 no_holding (day_ended t a).holdings (λ u. of_units (covered_units t (day_ended t a) u)) holding_rows (holding_after t a)

  orders_after : (day_ended t a).orders ≡ replicate 32 free
  unfolding day_ended kept_anew units_released daily_zero premium_joined margin_afresh positions_netted orders_cancelled
  orders_after = refl

  module _ (sound : Sound t (day_ended t a)) where
    running_after : (day_ended t a).running ≡ running_to t (day_ended t a).positions t.n
    unfolding running_to
    running_after =
        listed_is 8 no_running (day_ended t a).running (held_to t (day_ended t a).positions t.n) sound.running_rows
        (λ u h. sound.running u h ∙ held_only t (day_ended t a) (no_orders t (day_ended t a) orders_after) u)

    money : a.sheet.cash + a.sheet.premium ≤ 1_000_000_000_000_000
    unfolding day_ended kept_anew units_released daily_zero premium_joined margin_afresh positions_netted orders_cancelled
    money = omega (arith, sound.ceiling)

    summed : (ps : List Position) → ps ≡ map netted a.positions → Summed t ps
    summed ps e = subst (Summed t) (positions_after ∙ sym e) (positions_summed t (day_ended t a) sound)

    module _ (ps : List Position) (worked : Worked) (sheet : Sheet) (positioned : ps ≡ map netted a.positions) (is : worked ≡ worked_to t ps t.n) (joined : sheet ≡ posted a.sheet (DayEnd worked.margin a.waiting)) where
      put_together : (empty : Resting) (nothing : Position) → empty ≡ free → nothing ≡ no_position
          → record { sheet = sheet; waiting = a.waiting; positions = ps; orders = replicate 32 empty; holdings = worked.holdings; running = worked.running; closing = replicate 64 nothing; free = all_free; last = a.last }
          ≡ day_ended t a
      unfolding day_ended kept_anew units_released daily_zero premium_joined margin_afresh positions_netted orders_cancelled margin_in margin_to
      put_together empty nothing none blank =
          let netted_so : worked ≡ worked_to t (map netted a.positions) t.n = is ∙ ap (λ (ps : List Position). worked_to t ps t.n) positioned in
          λ i.
          record {
            sheet = (joined ∙ ap (λ (w : Worked). posted a.sheet (DayEnd w.margin a.waiting)) netted_so) i;
            waiting = a.waiting;
            positions = positioned i;
            orders = replicate 32 (none i);
            holdings = (ap (λ (w : Worked). w.holdings) netted_so ∙ sym holdings_after) i;
            running = (ap (λ (w : Worked). w.running) netted_so ∙ sym running_after) i;
            closing = replicate 64 (blank i);
            free = all_free;
            last = a.last;
          }

pub work_out-margin-requires : goal.work_out-margin-requires
work_out-margin-requires c = summed _ _ c.requires _ c.net_all-positions.ensures

pub posted-requires : goal.posted-requires
posted-requires c = omega (arith, money _ _ c.requires)

pub returns : goal.returns
returns c = put_together c.args.tables c.args.account c.requires _ _ _ c.net_all-positions.ensures c.work_out-margin.ensures c.posted.ensures _ _ c.free.ensures (search rules)
