-- A pass finds the running totals contract by contract: what is held of a contract joins its underlying's, and no other underlying's.
use mathlib.Core.Path.{◌≡◌, sym, ap, subst, ◌∙◌}
use mathlib.Core.Logic.{◌≢◌}
use mathlib.Core.List.{List}
use Prim.Native.Nat.{ℕ, ◌+◌, ◌*◌, ◌≤◌, ◌<◌}
use native.Mathlib.Omega.{arith}
use lib.ListN.{get_or, set, replicate}
use Rattle.terms.specs.declared.count.Position.{Position}
use Rattle.terms.specs.declared.kind.Side.{Side}
use Rattle.terms.specs.declared.kind.Side.TheVariants.{Long, Short, Covered}
use Rattle.entries.specs.declared.entry.Contract.{Contract}
use Rattle.account.specs.Rows.{no_position, contract}
use Rattle.account.specs.Running.{no_running}
use Rattle.terms.specs.Sums.{Σ}
use Rattle.account.specs.Totals.{count_of}
use Rattle.account.specs.declared.running.Running.{Running}
use Rattle.account.specs.declared.tables.Tables.{Tables}
use Rattle.day_end.specs.Passes.{HeldFits, Summed, count_to, units_to, held_to, with_held, running_to}
use Rattle.day_end.proofs.RowPass.{Pass, of, joins, stays}
use Rattle.day_end.proofs.RowPass as rows
use Rattle.day_end.proofs.Turn.{Turn}
use Rattle.day_end.proofs.UnitsPass as units

module _ (t : Tables) (ps : List Position) where
  abbrev count : Side → ℕ → ℕ
  count side k = count_of side (get_or ps k no_position)

  abbrev more : ℕ → Running → Running
  more k r = with_held r (get_or ps k no_position) (contract t k).unit

  pub none : (r : Running) → r ≡ no_running → replicate 8 r ≡ running_to t ps 0
  unfolding running_to count_to units_to Σ
  none r e = ap (replicate 8) e

  counted : (side : Side) (k : ℕ) → count_to side t ps k (of t k) + count side k ≡ count_to side t ps (k + 1) (of t k)
  unfolding count_to
  counted side = joins t (count side)

  uncounted : (side : Side) (k u : ℕ) → u ≢ of t k → count_to side t ps k u ≡ count_to side t ps (k + 1) u
  unfolding count_to
  uncounted side = stays t (count side)

  here : (k : ℕ) → more k (held_to t ps k (of t k)) ≡ held_to t ps (k + 1) (of t k)
  here k =
      let total : (held_to t ps k (of t k)).total.0 + count Long k + count Short k + count Covered k ≡ (held_to t ps (k + 1) (of t k)).total.0 =
      omega (arith, counted Long k, counted Short k, counted Covered k) in
      λ i.
      record {
        long = record { 0 = counted Long k i };
        total = record { 0 = total i };
        buys = record { 0 = 0 };
        opens = record { 0 = 0 };
        taken = record { 0 = units.here t ps k i };
      }

  elsewhere : (k u : ℕ) → u ≢ of t k → held_to t ps k u ≡ held_to t ps (k + 1) u
  elsewhere k u other =
      λ i.
      record {
        long = record { 0 = uncounted Long k u other i };
        total = record { 0 = uncounted Long k u other i + uncounted Short k u other i + uncounted Covered k u other i };
        buys = record { 0 = 0 };
        opens = record { 0 = 0 };
        taken = record { 0 = units.elsewhere t ps k u other i };
      }

  pass : Pass t (held_to t ps) more
  pass = record { here = here; elsewhere = elsewhere }

  module _ (k : ℕ) (row : Contract) (held : Position) (at : Turn t ps k row held) (rs : List Running) (so_far : rs ≡ running_to t ps k) where
    inside : of t k < 8
    inside = subst (λ (row : Contract). row.underlying < 8) at.row_is at.inside

    same : with_held (get_or rs row.underlying no_running) held row.unit ≡ more k (get_or rs (of t k) no_running)
    same = λ i. with_held (get_or rs (at.row_is i).underlying no_running) (at.held_is i) (at.row_is i).unit

    pub next : (r : Running) → r ≡ with_held (get_or rs row.underlying no_running) held row.unit → set rs row.underlying r ≡ running_to t ps (k + 1)
    unfolding running_to
    next r e = ap (λ (row : Contract). set rs row.underlying r) at.row_is ∙ rows.next no_running pass k inside rs so_far r (e ∙ same)

    row_after : more k (get_or rs (of t k) no_running) ≡ held_to t ps (k + 1) (of t k)
    unfolding running_to
    row_after = rows.row no_running pass k inside rs so_far

    pub fits : Summed t ps → HeldFits (with_held (get_or rs row.underlying no_running) held row.unit)
    fits summed =
        let few : k + 1 ≤ t.n = omega (arith, at.there) in
        let counts : (side : Side) → count_to side t ps (k + 1) (of t k) ≤ 64 * 10_000 = λ side. summed.counts side (k + 1) (of t k) few in
        let units = summed.units (k + 1) (of t k) few in
        subst HeldFits (sym (same ∙ row_after)) (omega (arith, counts Long), omega (arith, counts Long, counts Short, counts Covered), omega arith)
