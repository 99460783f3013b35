-- What is written and the lines to come from where the book in hand stands are all that is printed. A record has a byte at least, and a page goes on by one at least.
use Rattle.std.proofs.Common.{◌*◌, ◌-◌, ◌≤◌, length}
use Rattle.set_up.specs.Sound.{SoundBook}
use Rattle.book.proofs.Paging.{Printed, to_come}
use Rattle.book.proofs.print.Given as goal

abbrev pub invariant-loop-place : goal.invariant-loop-place
invariant-loop-place l = record {
  printed : Printed l.bytes l.written (to_come l.bytes l.first l.place l.book);
  sound : SoundBook l.book;
  counted : l.first ≤ l.place;
  short : l.written ≤ 4_096 * l.place;
}

abbrev pub decreases-loop-place : goal.decreases-loop-place
decreases-loop-place l = length l.bytes - l.place
