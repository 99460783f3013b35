-- The lines of the first i records are on the page, 32 bytes at most each.
use Rattle.std.proofs.Common.{◌≡◌, suc, ◌*◌, ◌≤◌, length, take}
use Rattle.book.specs.Lines.{lines_from}
use Rattle.book.proofs.text.lines.Given as goal

abbrev pub invariant-loop-i : goal.invariant-loop-i
invariant-loop-i l = record {
  put : l.page.bytes ≡ lines_from (suc l.first) (take l.i l.refusals) (take l.i l.sums);
  short : length l.page.bytes ≤ 32 * l.i;
}
