-- Netting takes the lesser of long and short off both, then the lesser of what is left of long and covered off both: each fact is one of linear arithmetic with the lesser of two numbers.
use mathlib.Core.Path.{◌≡◌}
use Prim.Native.Nat.{◌+◌, ◌-◌, ◌≤◌, ◌<◌, min}
use native.Mathlib.Nat.{sub-zero}
use native.Mathlib.Omega.{arith}
use Rattle.terms.specs.declared.count.Position.{Position}
use Rattle.rules.specs.Netting.{netted, against_short, against_covered}

-- where long meets neither short nor covered, netting changes nothing
unmet : (p : Position) → min p.long.0 p.short.0 ≡ 0 → min p.long.0 p.covered.0 ≡ 0 → netted p ≡ p
unfolding netted against_short against_covered
unmet p s c = simp (s, c, sub-zero)

module _ (p : Position) where
  -- no count is raised
  pub raises_none : ((netted p).long.0 ≤ p.long.0) × ((netted p).short.0 ≤ p.short.0) × ((netted p).covered.0 ≤ p.covered.0)
  unfolding netted against_short against_covered
  raises_none = omega arith

  -- long less short less covered is kept, as a signed number
  pub keeps_balance : (netted p).long.0 + (p.short.0 + p.covered.0) ≡ p.long.0 + ((netted p).short.0 + (netted p).covered.0)
  unfolding netted against_short against_covered
  keeps_balance = omega arith

  -- so it is kept where it is at least zero, and what it lacks of zero where it is not
  pub keeps_excess : (netted p).long.0 - ((netted p).short.0 + (netted p).covered.0) ≡ p.long.0 - (p.short.0 + p.covered.0)
  keeps_excess = omega (arith, keeps_balance)

  pub keeps_lack : (netted p).short.0 + (netted p).covered.0 - (netted p).long.0 ≡ p.short.0 + p.covered.0 - p.long.0
  keeps_lack = omega (arith, keeps_balance)

  -- at most one of long and short is left, and at most one of long and covered
  pub one_side : min (netted p).long.0 (netted p).short.0 ≡ 0
  unfolding netted against_short against_covered
  one_side = omega arith

  no_cover_left : min (netted p).long.0 (netted p).covered.0 ≡ 0
  unfolding netted against_short against_covered
  no_cover_left = omega arith

  -- covered is touched only once short is gone
  pub short_first : (netted p).covered.0 < p.covered.0 → (netted p).short.0 ≡ 0
  unfolding netted against_short against_covered
  short_first h = omega arith

  -- netting again changes nothing
  pub settled : netted (netted p) ≡ netted p
  settled = unmet (netted p) one_side no_cover_left
