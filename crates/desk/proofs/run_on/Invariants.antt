-- What the slices hold and what is still to be answered are together the whole run; the book in hand is sound.
use Rattle.std.proofs.Common.{◌-◌, ◌≤◌}
use Rattle.set_up.specs.Sound.{SoundBook}
use Rattle.desk.specs.Runs.{places_in, run_from}
use Rattle.desk.proofs.Turns.{Stands}
use Rattle.desk.proofs.run_on.Given as goal

abbrev pub invariant-loop-k : goal.invariant-loop-k
invariant-loop-k l =
    let places = places_in l.fn.numbers l.fn.sums in
    (l.k ≤ places)
    × SoundBook l.book
    × Stands (run_from places l.bytes l.fn.place l.fn.book) (run_from (places - l.k) l.bytes l.place l.book) l.k l.fn.numbers l.numbers l.fn.sums l.sums

abbrev pub decreases-loop-k : goal.decreases-loop-k
decreases-loop-k l = places_in l.fn.numbers l.fn.sums - l.k
