-- What an order with allowed values sees of a sound account gives its facts: what is kept is the totals that the limits bound, the lowest free place is the lowest digit of the free places, and the order's hold is a small multiple of one contract's.
use mathlib.Core.Path.{◌≡◌, refl, ap, ◌∙◌}
use mathlib.Core.Bool.{true}
use Prim.Native.Nat.{ℕ, ◌+◌, ◌-◌, ◌*◌, ◌^◌, ◌≤◌, ◌<◌}
use native.Mathlib.Nat.{le_of_lt}
use native.Mathlib.Omega.{arith}
use lib.Count.{count_trailing_zeros}
use lib.IntN.{ℤ}
use mir.Syntax.{w64}
use mir.Val.{Fits}
use Rattle.terms.specs.Counts.{units_for}
use Rattle.terms.specs.Kinds.{moves_of}
use Rattle.terms.specs.declared.count.Units.{Units}
use Rattle.terms.specs.declared.kind.Side.{Side}
use Rattle.terms.proofs.Product.{product_below}
use Rattle.rules.specs.Count.{for_count}
use Rattle.entries.specs.declared.entry.Entry.TheVariants as Entry
use Rattle.entries.specs.declared.entry.Order.{Order}
use Rattle.account.specs.Fills.{place_of}
use Rattle.account.specs.Money.{available_of, hold_one}
use Rattle.account.specs.Orders.{facts_in, free_place, order_allowed, under}
use Rattle.account.specs.Rows.{contract, holding, underlying}
use Rattle.account.specs.Running.{closing, closing_on, running, running_in}
use Rattle.account.specs.Seen.{Sees, seen_at}
use Rattle.account.specs.Sound.{SoundSheet}
use Rattle.account.specs.Totals.{count_of, covered_units, reserved_units, rights_in, spare_units}
use Rattle.account.specs.declared.account.Account.{Account}
use Rattle.account.specs.declared.judged.Seen.{Seen}
use Rattle.account.specs.declared.tables.Tables.{Tables}
use Rattle.account.proofs.Allowed.{contract_inside, contract_known, priced, underlying_inside, underlying_known}
use Rattle.account.proofs.Bounds.{figures_allowed, limits_of, one_hold, order_figures, sheet_sound}
use Rattle.account.proofs.FreePlaces.{place_kept}
use Rattle.account.proofs.SeenRows.{order_shown}
use Rattle.money.specs.Charged.{hold_charged}
use Rattle.money.proofs.Charged.{hold_charged_lem}

module _ {t : Tables} {a : Account} {o : Order} {s : Seen} (sees : Sees t a (Entry.Order o) s) (allowed : order_allowed t o ≡ true) where
  rows : s ≡ seen_at t a (place_of a 0) o.contract (under t o)
  rows = order_shown sees allowed

  there : o.contract < t.n
  there = contract_known t o allowed

  listed : under t o < t.m
  listed = underlying_known t o allowed sees.sound.tables

  kept : running a (under t o) ≡ running_in t a (under t o)
  kept = sees.sound.running (under t o) (underlying_inside t o allowed sees.sound.tables)

  closes : closing a o.contract ≡ closing_on a o.contract
  closes = sees.sound.closing o.contract (contract_inside t o allowed sees.sound.tables)

  pub rights_most : s.running.long.0 + s.running.buys.0 ≤ 10_000
  unfolding rights_in
  rights_most = rw (rows, kept) (omega (arith, sees.sound.rights (under t o) listed, (limits_of sees.sound.tables (under t o) listed).rights))

  pub taken_within : s.running.taken.0 ≤ s.holding.locked.0
  taken_within = rw (rows, kept) (sees.sound.units (under t o) listed)

  pub money_sound : SoundSheet s.sheet
  money_sound = rw rows (sheet_sound sees.sound)

  -- what one contract is charged, by the rows seen, is its hold
  held_one : (one : ℕ) → one ≡ hold_charged o.kind s.contract s.limits o.price → one ≡ hold_one t o.kind o.contract o.price
  held_one one e =
      e ∙ rw rows (hold_charged_lem (contract t o.contract) (underlying t (under t o)) (figures_allowed sees.sound.tables o.contract there) o.kind o.price (priced t o allowed))

  pub hold_fits : (one : ℕ) → one ≡ hold_charged o.kind s.contract s.limits o.price → Fits w64 (o.quantity * one)
  hold_fits one e =
      let figures = order_figures o allowed in
      let most : one ≤ 20_000_000_000 = rw (held_one one e) (le_of_lt (one_hold sees.sound.tables o.contract there o.kind o.price figures.price)) in
      record { fits = product_below (2 ^ 64) o.quantity one figures.quantity most tt }

  -- the facts as they are put together are those of the definition
  pub put_together : (moved closed one : ℕ) (side : Side) (needed : Units) (available : ℤ)
      → moved ≡ count_of side s.position → closed ≡ count_of side s.closing → side ≡ moves_of o.kind
      → needed ≡ units_for (record { 0 = o.quantity }) s.contract.unit → available ≡ available_of s.sheet → one ≡ hold_charged o.kind s.contract s.limits o.price
      → record {
        allowed = true;
        last = s.last;
        place = count_trailing_zeros 32 s.free;
        position = record { 0 = moved };
        closing = record { 0 = closed };
        rights = record { 0 = s.running.long.0 + s.running.buys.0 };
        total = s.running.total;
        underlying = s.contract.underlying;
        limits = s.limits;
        holding = s.holding;
        spare = record { 0 = s.holding.locked.0 - s.running.taken.0 };
        needed = needed;
        sheet = s.sheet;
        available = available;
        hold = o.quantity * one;
        unit = s.contract.unit;
      }
      ≡ facts_in t a o
  unfolding rights_in spare_units for_count
  put_together moved closed one side needed available counts closing moves needs reach holds =
      let lowest : count_trailing_zeros 32 a.free ≡ free_place a = ap (count_trailing_zeros 32) sees.sound.free ∙ place_kept a in
      let u = under t o in
      let spare : (holding a u).locked.0 - (covered_units t a u + reserved_units t a u) ≡ (spare_units t a u).0 = omega arith in
      rw (counts, closing, needs, reach, held_one one holds, rows, lowest, closes, kept, moves, spare) refl
