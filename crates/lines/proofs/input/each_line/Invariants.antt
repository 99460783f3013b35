-- A line's end lies at its start or behind it, so the next line starts nearer to the end of what is read.
use Rattle.std.proofs.Common.{length, ◌-◌}
use denote.Param.Always.{always_mut}
use Rattle.lines.proofs.input.each_line.Given as goal

abbrev pub invariant-loop-start : goal.invariant-loop-start
invariant-loop-start g l = always_mut g.F.FnMut l.initial.visit → always_mut g.F.FnMut l.visit

abbrev pub decreases-loop-start : goal.decreases-loop-start
decreases-loop-start g l = length l.s - l.start
