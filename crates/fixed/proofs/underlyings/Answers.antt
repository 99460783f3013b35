-- The first rows are made for their numbers, and what is made is allowed.
use Rattle.std.proofs.Common.{rules}
use Rattle.account.specs.Rows.{no_underlying}
use Rattle.fixed.proofs.Filling.{filled}
use Rattle.fixed.proofs.underlyings.Goals as goal

pub returns : goal.returns
returns c = filled no_underlying _ _ _ _ (search rules) c.fill.auto.rows (λ i h. let made = c.fill.ensures i no_underlying h in search rules)
