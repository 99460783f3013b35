-- The first i numbers are put.
use Rattle.std.proofs.Common.{◌≡◌, take, replicate}
use Rattle.std.proofs.lemmas.List.Edits.{sets}
use Rattle.entries.specs.Numbers.{packed}
use Rattle.writing.proofs.numbers.puts4.Given as goal

abbrev pub invariant-loop-i : goal.invariant-loop-i
invariant-loop-i l = l.buffer ≡ sets l.fn.buffer l.at (packed (replicate l.i 4) (take l.i l.xs))
