-- The first i places hold the numbers read, the others what they came with.
use Rattle.std.proofs.Common.{◌≡◌, ◌++◌, drop, replicate}
use Rattle.entries.specs.Numbers.{numbers_at}
use Rattle.reading.proofs.numbers.numbers4.Given as goal

abbrev pub invariant-loop-i : goal.invariant-loop-i
invariant-loop-i l = l.into ≡ numbers_at (replicate l.i 4) l.r l.at ++ drop l.i l.fn.into
