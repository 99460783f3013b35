-- A pass sums the margin contract by contract: each adds what is charged for it, since its figures are in their ranges.
use mathlib.Core.Path.{◌≡◌, refl, ap, ◌∙◌}
use mathlib.Core.List.{List}
use Prim.Native.Nat.{ℕ, ◌+◌, ◌*◌, ◌≤◌}
use native.Mathlib.Numerals.{add-one}
use native.Mathlib.Omega.{arith}
use lib.ListN.{get_or}
use Rattle.terms.specs.declared.count.Position.{Position}
use Rattle.entries.specs.declared.entry.Contract.{Contract}
use Rattle.rules.specs.Count.{for_count}
use Rattle.account.specs.Money.{margin_one}
use Rattle.account.specs.Rows.{no_position, underlying}
use Rattle.terms.specs.Sums.{Σ}
use Rattle.account.specs.declared.tables.Tables.{Tables}
use Rattle.account.proofs.Bounds.{figures_allowed}
use Rattle.money.specs.Charged.{margin_charged}
use Rattle.money.proofs.Charged.{margin_charged_lem}
use Rattle.day_end.specs.Passes.{Summed, margin_to}
use Rattle.day_end.proofs.Turn.{Turn}

module _ (t : Tables) (ps : List Position) where
  pub none : 0 ≡ margin_to t ps 0
  unfolding margin_to Σ
  none = refl

  one_more : (k : ℕ) → margin_to t ps k + (get_or ps k no_position).short.0 * margin_one t k ≡ margin_to t ps (k + 1)
  unfolding margin_to Σ for_count
  one_more k = rw add-one refl

  module _ (summed : Summed t ps) (k : ℕ) (row : Contract) (held : Position) (at : Turn t ps k row held) (sum one : ℕ) (so_far : sum ≡ margin_to t ps k) (charged : one ≡ margin_charged row (underlying t row.underlying)) where
    pub next : sum + held.short.0 * one ≡ margin_to t ps (k + 1)
    next =
        let margin : one ≡ margin_one t k =
        charged
        ∙ ap (λ (row : Contract). margin_charged row (underlying t row.underlying)) at.row_is
        ∙ margin_charged_lem _ _ (figures_allowed summed.tables k at.there) in
        (λ i. so_far i + (at.held_is i).short.0 * margin i) ∙ one_more k

    pub most : sum + held.short.0 * one ≤ 64 * (10_000 * 20_000_000_000)
    most = rw next (summed.margin (k + 1) (omega (arith, at.there)))
