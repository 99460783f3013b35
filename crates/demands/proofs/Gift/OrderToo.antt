-- An order that the first account accepts the richer one accepts too: its facts are the same but for higher limits and more available, which no check holds against it, and what it changes leaves cash as it was.
use mathlib.Core.Path.{◌≡◌, refl, ap, ap₂}
use mathlib.Core.Bool.{true, not, ◌||◌}
use mathlib.Core.List.{List, [], ◌∷◌}
use Prim.Native.Nat.{ℕ}
use lib.IntN.{ℤ, pos, ◌+ℤ◌}
use Rattle.std.specs.Prelude.{Ok}
use Rattle.terms.specs.Verdicts.{accept}
use Rattle.rules.specs.Count.{for_count}
use Rattle.entries.specs.declared.entry.Entry.TheVariants.{Order}
use Rattle.entries.specs.declared.entry.Figures.{Figures}
use Rattle.entries.specs.declared.entry.Order as Given
use Rattle.entries.specs.declared.entry.Underlying.{Underlying}
use Rattle.account.specs.Changes.{applied}
use Rattle.account.specs.Checks.{Check, Values, Number, Places, Closing, Rights, Total, Daily, Spare, Available, passes, columns, refusal_for, meets, walked, order_verdict}
use Rattle.account.specs.Orders.{under, order_allowed, free_place, facts_in, facts_of, order_change}
use Rattle.account.specs.Rows.{contract, underlying}
use Rattle.account.specs.Steps.{refusal_of, tables_after, account_after}
use Rattle.account.specs.Totals.{count_in, over_orders, rights_in, total_in, covered_units, reserved_units, spare_units}
use Rattle.account.specs.declared.account.Account.{Account}
use Rattle.account.specs.declared.account.Sheet.{Sheet}
use Rattle.account.specs.declared.judged.Facts.{Facts}
use Rattle.account.specs.declared.tables.Tables.{Tables}
use Rattle.account.proofs.Available.{more_cash}
use Rattle.account.proofs.Passed.{accepted_passed, facts_known}
use Rattle.demands.specs.Gift.{Roomier, RoomierTables, richer_sheet, richer}
use Rattle.demands.proofs.Gift.ChecksToo.{check_too, unless_too, under_higher, within_more}
use Rattle.demands.proofs.Gift.Relisted.{Too, relisted, hold_same}

-- the facts of an order, with other limits and other sums of money
abbrev facts_with : Facts → Underlying → Sheet → ℤ → ℕ → Facts
facts_with f limits sheet available hold =
    record {
      allowed = f.allowed;
      last = f.last;
      place = f.place;
      position = f.position;
      closing = f.closing;
      rights = f.rights;
      total = f.total;
      underlying = f.underlying;
      limits = limits;
      holding = f.holding;
      spare = f.spare;
      needed = f.needed;
      sheet = sheet;
      available = available;
      hold = hold;
      unit = f.unit;
    }

abbrev eased : ℕ → Underlying → Facts → Facts
eased X limits f = facts_with f limits (richer_sheet X f.sheet) (f.available +ℤ pos X) f.hold

-- facts at least as good: higher limits and X fen more, all else equal
pub record Easier (X : ℕ) (f f' : Facts) : Type 0 where
  pub limits : Roomier f.limits f'.limits
  pub others : f' ≡ eased X f'.limits f

passes_eased : (X : ℕ) (limits : Underlying) (f : Facts) (o : Given.Order) → Roomier f.limits limits
    → (check : Check) → passes check f o ≡ true → passes check (eased X limits f) o ≡ true
passes_eased X limits f o r Values e = e
passes_eased X limits f o r Number e = e
passes_eased X limits f o r Places e = e
passes_eased X limits f o r Closing e = e
passes_eased X limits f o r Rights e = under_higher _ _ _ r.rights e
passes_eased X limits f o r Total e = under_higher _ _ _ r.total e
passes_eased X limits f o r Daily e = under_higher _ _ _ r.daily e
passes_eased X limits f o r Spare e = e
passes_eased X limits f o r Available e = within_more f.hold X f.available e

passes_too : {X : ℕ} {f f' : Facts} → Easier X f f' → (o : Given.Order) (check : Check) → passes check f o ≡ true → passes check f' o ≡ true
passes_too {X} {f} {f'} easier o check e = rw easier.others (passes_eased X f'.limits f o easier.limits check e)

walked_too : (f f' : Facts) (o : Given.Order) → ((check : Check) → passes check f o ≡ true → passes check f' o ≡ true) → (checks : List Check)
    → walked checks f o ≡ accept → walked checks f' o ≡ accept
walked_too f f' o too [] e = refl
walked_too f f' o too (check ∷ rest) e =
    let unmet = not (meets o.kind check) in
    let first = passes check f o in
    let second = passes check f' o in
    check_too (unmet || first) (unmet || second) (refusal_for check) (walked rest f o) (walked rest f' o) (unless_too unmet first second (too check)) (walked_too f f' o too rest) e

verdict_too : {X : ℕ} {f f' : Facts} → Easier X f f' → (o : Given.Order) → order_verdict f o ≡ accept → order_verdict f' o ≡ accept
unfolding order_verdict
verdict_too {X} {f} {f'} easier o e = walked_too f f' o (passes_too easier o) columns e

change_too : {X : ℕ} {f f' : Facts} → Easier X f f' → (a : Account) (o : Given.Order) → applied (richer X a) (order_change f' o) ≡ richer X (applied a (order_change f o))
unfolding order_change applied
change_too {X} easier a o = ap (λ (f : Facts). applied (richer X a) (order_change f o)) easier.others

module _ (X : ℕ) (t : Tables) (rows : List Underlying) (roomier : RoomierTables t (relisted t rows)) (a : Account) (f : Figures) (o : Given.Order) where
  facts_in_lem : facts_in (relisted t rows) (richer X a) o ≡ eased X (underlying (relisted t rows) (under t o)) (facts_in t a o)
  unfolding free_place rights_in total_in count_in over_orders spare_units covered_units reserved_units
  facts_in_lem =
      let k = contract t o.contract in
      let u = under t o in
      ap₂ (facts_with (facts_in t a o) (underlying (relisted t rows) u) (richer_sheet X a.sheet))
      (more_cash a.sheet X)
      (ap (for_count o.quantity) (hold_same o.kind k (underlying t u) (underlying (relisted t rows) u) o.price (roomier.rows u)))

  facts_easier : order_allowed t o ≡ true → Easier X (facts_of t a o) (facts_of (relisted t rows) (richer X a) o)
  unfolding order_allowed
  facts_easier allowed =
      let easier : Easier X (facts_in t a o) (facts_in (relisted t rows) (richer X a) o) = record { limits = roomier.rows (under t o); others = facts_in_lem } in
      rw (facts_known t a o allowed, facts_known (relisted t rows) (richer X a) o allowed) easier

  pub order_too : refusal_of t a (Order o) f ≡ accept → Too X t (relisted t rows) a (Order o) f
  unfolding refusal_of account_after tables_after
  order_too e =
      let easier = facts_easier (accepted_passed t a o e).allowed in
      record { accepted = verdict_too easier o e; account = change_too easier a o; tables = roomier }
