-- The leftover falls by one.
use Rattle.assignment.proofs.shares.+hand_out.Given as goal

abbrev pub decreases-hand_out : goal.decreases-hand_out
decreases-hand_out l = l.left
