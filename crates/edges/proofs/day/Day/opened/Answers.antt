-- An opening within its range on sound tables is sound.
use Rattle.account.proofs.OpeningSound.{opening_sound}
use Rattle.edges.proofs.day.Day.opened.Goals as goal

pub invariant_of-result : goal.invariant_of-result
invariant_of-result c = record { sound = rw c.opening.ensures (opening_sound _ _ c.tables.ensures c.requires) }
