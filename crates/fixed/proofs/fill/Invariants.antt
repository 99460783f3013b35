-- The rows that were passed are made for their numbers.
use Rattle.std.proofs.Common.{ℕ, ◌<◌, get_or}
use Rattle.fixed.proofs.fill.Given as goal

abbrev pub invariant-loop-i : goal.invariant-loop-i
invariant-loop-i g l = (i : ℕ) (none : _) → i < l.i → goal.F-post g l.row_of i (get_or l.rows i none)
