-- Counts, margin and covered units are sums over the positions and the tables alone, so they are kept where the positions are.
use mathlib.Core.Path.{◌≡◌}
use Prim.Native.Nat.{ℕ}
use Rattle.terms.specs.declared.kind.Side.{Side}
use Rattle.account.specs.Money.{margin_in}
use Rattle.account.specs.Totals.{count_in, covered_units}
use Rattle.account.specs.declared.account.Account.{Account}
use Rattle.account.specs.declared.tables.Tables.{Tables}

module _ (t : Tables) (a b : Account) (kept : b.positions ≡ a.positions) where
  pub count_kept : (side : Side) (u : ℕ) → count_in side t b u ≡ count_in side t a u
  unfolding count_in
  count_kept side u = rw kept

  pub margin_kept : margin_in t b ≡ margin_in t a
  unfolding margin_in
  margin_kept = rw kept

  pub covered_kept : (u : ℕ) → covered_units t b u ≡ covered_units t a u
  unfolding covered_units
  covered_kept u = rw kept
