-- Of the accounts so far `best` has the largest fraction, the first that has it.
use Rattle.std.proofs.Common.{nat_lt}
use Rattle.std.specs.List.{IsFirstBest}
use Rattle.assignment.proofs.shares.largest.Given as goal

abbrev pub invariant-loop-i : goal.invariant-loop-i
invariant-loop-i l = IsFirstBest (λ x y. nat_lt y x) l.fractions l.i l.best
