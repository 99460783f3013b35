-- The step keeps tables and account sound.
use Rattle.account.proofs.StepSound.{step_sound}
use Rattle.edges.proofs.day.Day.booked.Goals as goal

pub invariant_of-self : goal.invariant_of-self
invariant_of-self c = record { sound = rw c.step-after.ensures (step_sound _ _ _ _ c.args.self.now.sound) }
