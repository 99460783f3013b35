-- What is held is the sum of what holds it, and cash reaches for it, on any tables: an entry that leaves the orders moves the holds by what waits. So cash reaches for what waits, also where available is below zero.
use mathlib.Core.Path.{◌≡◌, ap, ◌∙◌}
use Prim.Native.Nat.{ℕ, ◌+◌, ◌≤◌, ◌<◌}
use native.Mathlib.Omega.{arith}
use lib.ListN.{length}
use lib.Seq.{set_out}
use Rattle.account.specs.Changes.{applied, waiting_after}
use Rattle.account.specs.Money.{holds_in}
use Rattle.account.specs.Rows.{free, order}
use Rattle.account.specs.Sound.{Sound}
use Rattle.account.specs.Totals.{over_orders}
use Rattle.account.specs.declared.account.Account.{Account}
use Rattle.account.specs.declared.judged.Change.{Change}
use Rattle.account.specs.declared.tables.Tables.{Tables}

pub record Held (t : Tables) (a : Account) : Type 0 where
  pub rows : length a.orders ≡ 32
  pub emptied : (i : ℕ) → i < 32 → (order a i).number ≡ 0 → order a i ≡ free
  pub holds : a.sheet.holds ≡ holds_in t a
  pub reach : a.sheet.holds ≤ a.sheet.cash

pub sound_held : {t : Tables} {a : Account} → Sound t a → Held t a
sound_held s = record { rows = s.order_rows; emptied = s.emptied; holds = s.holds; reach = s.reach }

module _ {t : Tables} {a : Account} (held : Held t a) where
  pub waiting_held : a.waiting ≤ a.sheet.holds
  unfolding holds_in
  waiting_held = omega (arith, held.holds)

  pub waiting_paid : a.waiting ≤ a.sheet.cash
  waiting_paid = omega (arith, waiting_held, held.reach)

  -- a change that names no place leaves the orders
  pub unplaced_held : (change : Change) → 32 ≤ change.place → change.sheet.holds + a.waiting ≡ a.sheet.holds + waiting_after change.waiting a.waiting
      → change.sheet.holds ≤ change.sheet.cash → Held t (applied a change)
  unfolding applied holds_in over_orders
  unplaced_held change none moves reach =
      let same = set_out a.orders change.place change.order (omega (arith, held.rows)) in
      record {
        rows = ap length same ∙ held.rows;
        emptied = rw same held.emptied;
        holds = rw same (omega (arith, moves, held.holds));
        reach = reach;
      }
