-- A line starts among the bytes or at their end, and ends no earlier than it starts; each turn leaves fewer of them.
use Rattle.std.proofs.Common.{◌-◌, ◌≤◌}
use Rattle.expiry.proofs.Input.whole_lines.Given as goal

abbrev pub invariant-loop-stop : goal.invariant-loop-stop
invariant-loop-stop l = (l.start ≤ l.end) × (l.start ≤ l.stop)

abbrev pub decreases-loop-stop : goal.decreases-loop-stop
decreases-loop-stop l = l.end - l.start
