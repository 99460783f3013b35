-- A pass finds the units that cover contract by contract: a contract's units join its underlying's, and no other underlying's.
use mathlib.Core.Path.{◌≡◌, ap, subst, ◌∙◌}
use mathlib.Core.Logic.{◌≢◌}
use mathlib.Core.List.{List}
use Prim.Native.Nat.{ℕ, ◌+◌, ◌^◌, ◌<◌}
use native.Mathlib.Omega.{arith}
use lib.ListN.{get_or, set, replicate}
use Rattle.terms.specs.Counts.{units_for}
use Rattle.terms.specs.declared.count.Position.{Position}
use Rattle.entries.specs.declared.entry.Contract.{Contract}
use Rattle.account.specs.Rows.{no_holding, no_position, contract}
use Rattle.terms.specs.Sums.{Σ}
use Rattle.account.specs.declared.account.Holding.{Holding}
use Rattle.account.specs.declared.tables.Tables.{Tables}
use Rattle.day_end.specs.Passes.{Summed, of_units, units_to, with_units, holdings_to}
use Rattle.day_end.proofs.RowPass.{Pass, of, joins, stays}
use Rattle.day_end.proofs.RowPass as rows
use Rattle.day_end.proofs.Turn.{Turn}

module _ (t : Tables) (ps : List Position) where
  abbrev units : ℕ → ℕ
  units k = (units_for (get_or ps k no_position).covered (contract t k).unit).0

  abbrev more : ℕ → Holding → Holding
  more k h = with_units h (get_or ps k no_position).covered (contract t k).unit

  pub none : (h : Holding) → h ≡ no_holding → replicate 8 h ≡ holdings_to t ps 0
  unfolding holdings_to units_to Σ
  none h e = ap (replicate 8) e

  pub here : (k : ℕ) → units_to t ps k (of t k) + units k ≡ units_to t ps (k + 1) (of t k)
  unfolding units_to
  here = joins t units

  pub elsewhere : (k u : ℕ) → u ≢ of t k → units_to t ps k u ≡ units_to t ps (k + 1) u
  unfolding units_to
  elsewhere = stays t units

  pass : Pass t (λ k u. of_units (units_to t ps k u)) more
  pass = record { here = λ k. ap of_units (here k); elsewhere = λ k u other. ap of_units (elsewhere k u other) }

  module _ (k : ℕ) (row : Contract) (held : Position) (at : Turn t ps k row held) (hs : List Holding) (so_far : hs ≡ holdings_to t ps k) where
    inside : of t k < 8
    inside = subst (λ (row : Contract). row.underlying < 8) at.row_is at.inside

    same : with_units (get_or hs row.underlying no_holding) held.covered row.unit ≡ more k (get_or hs (of t k) no_holding)
    same = λ i. with_units (get_or hs (at.row_is i).underlying no_holding) (at.held_is i).covered (at.row_is i).unit

    pub next : (h : Holding) → h ≡ with_units (get_or hs row.underlying no_holding) held.covered row.unit → set hs row.underlying h ≡ holdings_to t ps (k + 1)
    unfolding holdings_to
    next h e = ap (λ (row : Contract). set hs row.underlying h) at.row_is ∙ rows.next no_holding pass k inside hs so_far h (e ∙ same)

    row_after : more k (get_or hs (of t k) no_holding) ≡ of_units (units_to t ps (k + 1) (of t k))
    unfolding holdings_to
    row_after = rows.row no_holding pass k inside hs so_far

    pub fits : Summed t ps → (with_units (get_or hs row.underlying no_holding) held.covered row.unit).locked.0 < 2 ^ 64
    fits summed =
        omega (arith, summed.units (k + 1) (of t k) (omega (arith, at.there)), ap (λ (h : Holding). h.locked.0) (same ∙ row_after))
