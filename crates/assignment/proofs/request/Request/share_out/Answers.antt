-- `share_out` meets its contract: it hands out what `whole_parts` leaves, by the fractions that it wrote, as the definition does.
use Rattle.std.proofs.Common.{◌∙◌}
use Rattle.assignment.proofs.Divided.{allowed}
use Rattle.assignment.proofs.HandedOut.{all_handable, put_together}
use Rattle.assignment.proofs.request.Request.share_out.Goals as goal

pub hand_out-requires : goal.hand_out-requires
hand_out-requires c =
    let parts = c.whole_parts-left.ensures in
    all_handable _ _ _ (allowed _ _ _ c.args.self.now.allowed) _ _ _ parts.left parts.shares parts.fractions

pub returns : goal.returns
returns c =
    let parts = c.whole_parts-left.ensures in
    c.hand_out.ensures ∙ put_together _ _ _ (allowed _ _ _ c.args.self.now.allowed) _ _ _ parts.left parts.shares parts.fractions
