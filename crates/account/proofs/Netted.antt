-- Netting raises no count and leaves an empty position empty, so no sum over the contracts that grows with a count grows.
use mathlib.Core.Path.{◌≡◌, refl, sym, ap, ◌∙◌}
use mathlib.Core.Bool.{Bool, true, false}
use mathlib.Core.List.{map}
use Prim.Native.Nat.{ℕ, ◌≤◌}
use native.Mathlib.Nat.{mul-le-mul_right}
use native.Mathlib.Omega.{arith}
use lib.ListN.{get_or, get_or-map}
use Rattle.terms.specs.declared.count.Position.{Position}
use Rattle.terms.specs.declared.kind.Side.{Side}
use Rattle.terms.specs.declared.kind.Side.TheVariants.{Long, Short, Covered}
use Rattle.rules.specs.Netting.{netted, against_short, against_covered}
use Rattle.rules.proofs.Netting.{raises_none}
use Rattle.account.specs.Rows.{no_position, contract, position}
use Rattle.terms.specs.Sums.{◌when◌}
use Rattle.account.specs.Totals.{is_of, count_of, count_in, covered_units}
use Rattle.account.specs.declared.account.Account.{Account}
use Rattle.account.specs.declared.tables.Tables.{Tables}
use Rattle.terms.proofs.Sums.{Σ-less}

pub nothing_netted : netted no_position ≡ no_position
unfolding netted against_short against_covered
nothing_netted = refl

raises : (side : Side) (p : Position) → count_of side (netted p) ≤ count_of side p
raises Long p = (raises_none p).0
raises Short p = (raises_none p).1
raises Covered p = (raises_none p).2

when_less : (test : Bool) {x y : ℕ} → x ≤ y → (x when test) ≤ (y when test)
when_less true h = h
when_less false h = omega arith

-- b's positions are a's, each netted
module _ (t : Tables) (a b : Account) (positions : b.positions ≡ map netted a.positions) where
  pub position_netted : (c : ℕ) → position b c ≡ netted (position a c)
  position_netted c = rw positions (ap (get_or (map netted a.positions) c) (sym nothing_netted) ∙ get_or-map netted a.positions c no_position)

  pub count_less : (side : Side) (c : ℕ) → count_of side (position b c) ≤ count_of side (position a c)
  count_less side c = rw (position_netted c) (raises side (position a c))

  pub count_in_less : (side : Side) (u : ℕ) → count_in side t b u ≤ count_in side t a u
  unfolding count_in
  count_in_less side u = Σ-less t.n _ _ (λ c h. when_less (is_of t u c) (count_less side c))

  pub covered_less : (u : ℕ) → covered_units t b u ≤ covered_units t a u
  unfolding covered_units
  covered_less u = Σ-less t.n _ _ (λ c h. when_less (is_of t u c) (mul-le-mul_right (contract t c).unit (count_less Covered c)))
