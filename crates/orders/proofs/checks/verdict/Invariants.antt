-- After each column the rest of the walk still gives what the whole walk gives.
use Rattle.std.proofs.Common.{◌≡◌, ◌-◌, ◌≤◌}
use Rattle.orders.proofs.Walk.{walk_at}
use Rattle.orders.proofs.checks.verdict.Given as goal

abbrev pub invariant-loop-column : goal.invariant-loop-column
invariant-loop-column l = (l.column ≤ 9) × (walk_at 9 l.row l.check-items 0 ≡ walk_at (9 - l.column) l.row l.check-items l.column)

abbrev pub decreases-loop-column : goal.decreases-loop-column
decreases-loop-column l = 9 - l.column
