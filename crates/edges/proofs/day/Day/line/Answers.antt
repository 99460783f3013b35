-- What is booked is sound, so its sheet has an available sum.
use Rattle.account.proofs.Bounds.{sheet_sound}
use Rattle.edges.proofs.day.Day.line.Goals as goal

pub show-requires : goal.show-requires
show-requires c = sheet_sound c.booked.new.self.sound
