-- What the postings of a fill leave is the sheet of the definition: each moves one of its sums, and which one follows from side and direction.
use mathlib.Core.Path.{◌≡◌, refl}
use mathlib.Core.Bool.{Bool, true, false}
use Prim.Native.Nat.{ℕ, ◌-◌}
use Rattle.terms.specs.declared.kind.Side.{Side}
use Rattle.terms.specs.declared.kind.Side.TheVariants.{Long, Short, Covered}
use Rattle.account.specs.Fills.{cash_after, margin_after, premium_after}
use Rattle.account.specs.declared.account.Sheet.{Sheet}
use Rattle.postings.specs.Postings.{all_posted}
use Rattle.fills.specs.Posts.{fill_postings}

pub fill_posted : (s : Sheet) (share paid asked : ℕ) (side : Side) (buys opens : Bool) → all_posted s (fill_postings side buys opens share paid asked)
    ≡ record { cash = cash_after side buys s.cash paid; premium = premium_after side buys s.premium paid; holds = s.holds - share; margin = margin_after side opens s.margin asked }
fill_posted s share paid asked Long true opens = refl
fill_posted s share paid asked Long false opens = refl
fill_posted s share paid asked Short true true = refl
fill_posted s share paid asked Short true false = refl
fill_posted s share paid asked Short false true = refl
fill_posted s share paid asked Short false false = refl
fill_posted s share paid asked Covered true opens = refl
fill_posted s share paid asked Covered false opens = refl
