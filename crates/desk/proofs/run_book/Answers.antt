-- `run_book` meets its contract: a run from a book before its first record.
use Rattle.std.proofs.Common.{sym, subst}
use Rattle.set_up.specs.Sound.{SoundBook}
use Rattle.set_up.proofs.EnteredSound.{new_sound}
use Rattle.desk.proofs.run_book.Goals as goal

pub run_on-requires : goal.run_on-requires
run_on-requires c = subst SoundBook (sym c.new.ensures) new_sound
