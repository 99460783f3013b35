-- A day end is judged by its counts and figures alone. The new figures go into the rows of both tables, the closes equal and the limits as they were; so each contract asks the same margin, and cash and premium join to X fen more.
use mathlib.Core.Path.{◌≡◌, refl, ap, ap₂}
use mathlib.Core.Bool.{Bool, true, false, cond}
use mathlib.Core.List.{List}
use Prim.Native.Nat.{ℕ}
use native.Mathlib.Decide.{dec_lt}
use native.Mathlib.Omega.{arith}
use lib.Dec.{ltb}
use lib.ListN.{get_or, get_or-eq_default}
use Rattle.std.specs.Prelude.{Ok}
use Rattle.terms.specs.Verdicts.{accept}
use Rattle.rules.specs.Count.{for_count}
use Rattle.entries.specs.declared.entry.Entry.TheVariants.{DayEnd}
use Rattle.entries.specs.declared.entry.Figures.{Figures}
use Rattle.entries.specs.declared.entry.Underlying.{Underlying}
use Rattle.account.specs.DayEnd.{kept_anew, close_of, closed, with_sheet, day_end_verdict, orders_cancelled, positions_netted, figures_installed, margin_afresh, premium_joined, daily_zero, units_released, day_ended}
use Rattle.terms.specs.Listed.{listed}
use Rattle.account.specs.Money.{margin_in}
use Rattle.account.specs.Rows.{no_underlying, contract, underlying, position}
use Rattle.account.specs.Steps.{account_after, refusal_of, tables_after}
use Rattle.account.specs.Totals.{count_in, covered_units, over_orders, reserved_units, total_in}
use Rattle.account.specs.declared.account.Account.{Account}
use Rattle.account.specs.declared.tables.Tables.{Tables}
use Rattle.terms.proofs.Listed.{listed_length, listed_at}
use Rattle.terms.proofs.Sums.{Σ-same}
use Rattle.demands.specs.Gift.{Roomier, RoomierTables, richer}
use Rattle.demands.proofs.Gift.Relisted.{Too, margin_same, relisted, same_row}

-- a row with a new close, or as it was where the tables have no such row
closed_roomier : (there : Bool) (p q : Underlying) (price : ℕ) → Roomier p q → Roomier (cond there (closed p price) p) (cond there (closed q price) q)
closed_roomier true p q price r = record { class = r.class; close = refl; rights = r.rights; total = r.total; daily = r.daily }
closed_roomier false p q price r = r

-- row beside row, and nothing past the last
listed_roomier : (size : ℕ) (p q : ℕ → Underlying) → ((u : ℕ) → Roomier (p u) (q u))
    → (u : ℕ) → Roomier (get_or (listed size p) u no_underlying) (get_or (listed size q) u no_underlying)
listed_roomier size p q each u =
    elim (dec_lt u size) [
      | yes h ↦ rw (listed_at size p u no_underlying h, listed_at size q u no_underlying h) (each u)
      | no past ↦
          let first = get_or-eq_default (listed size p) no_underlying {n = u} (omega (arith, listed_length size p)) in
          let second = get_or-eq_default (listed size q) no_underlying {n = u} (omega (arith, listed_length size q)) in
          rw (first, second) (same_row no_underlying)
    ]

module _ (t : Tables) (rows : List Underlying) (roomier : RoomierTables t (relisted t rows)) where
  margin_too : (a : Account) → margin_in (relisted t rows) a ≡ margin_in t a
  unfolding margin_in
  margin_too a =
      Σ-same t.n _ _ (λ c h.
      let k = contract t c in
      let same = margin_same k (underlying t k.underlying) (underlying (relisted t rows) k.underlying) (roomier.rows k.underlying) in
      ap (for_count (position a c).short.0) same)

  ended_too : (X : ℕ) (a : Account) → day_ended (relisted t rows) (richer X a) ≡ richer X (day_ended t a)
  unfolding day_ended kept_anew units_released daily_zero premium_joined margin_afresh positions_netted orders_cancelled count_in total_in over_orders covered_units reserved_units margin_in
  ended_too X a =
      let after = day_ended t a in
      ap₂ (λ (cash margin : ℕ). with_sheet after (record { cash = cash; premium = 0; holds = a.waiting; margin = margin }))
      (omega arith)
      (margin_too (positions_netted (orders_cancelled a)))

module _ (X : ℕ) (t : Tables) (rows : List Underlying) (roomier : RoomierTables t (relisted t rows)) (a : Account) (f : Figures) (n m : ℕ) where
  figures_roomier : RoomierTables (figures_installed t f) (figures_installed (relisted t rows) f)
  unfolding figures_installed
  figures_roomier =
      let each : (u : ℕ) → _ = λ u. closed_roomier (ltb u t.m) (underlying t u) (underlying (relisted t rows) u) (close_of f u) (roomier.rows u) in
      record { contracts = refl; n = refl; m = refl; rows = listed_roomier 8 _ _ each }

  pub day_end_too : refusal_of t a (DayEnd n m) f ≡ accept → Too X t (relisted t rows) a (DayEnd n m) f
  unfolding refusal_of account_after tables_after day_end_verdict figures_installed
  day_end_too e =
      record {
        accepted = e;
        account = ended_too (figures_installed t f) (figures_installed (relisted t rows) f).underlyings figures_roomier X a;
        tables = figures_roomier;
      }
