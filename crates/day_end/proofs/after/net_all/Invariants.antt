-- The positions passed are netted, and those ahead are as they were.
use Rattle.std.proofs.Common.{◌≡◌, ◌++◌, map, take, drop}
use Rattle.rules.specs.Netting.{netted}
use Rattle.day_end.proofs.after.net_all.Given as goal

abbrev pub invariant-loop-position : goal.invariant-loop-position
invariant-loop-position l = l.position-items ≡ map netted (take l.position-index l.fn.positions) ++ drop l.position-index l.fn.positions
