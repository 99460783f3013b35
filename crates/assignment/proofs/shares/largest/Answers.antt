-- `largest` meets its contract: after the last account `best` is the first of the largest.
use Rattle.std.proofs.Common.{arith}
use Rattle.assignment.proofs.Largest.{first_best}
use Rattle.assignment.proofs.shares.largest.Goals as goal

pub returns : goal.returns
returns c = (first_best _ c.loop-i.i _ c.loop-i.invariant (omega arith), omega arith)
