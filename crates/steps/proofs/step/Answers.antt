-- `step` meets its contract: an entry is decided by what it sees and what is decided is booked, which is the step; a decision on a sound account rests on what booking asks.
use Rattle.std.proofs.Common.{sym, ap, subst}
use mathlib.Core.Path.{◌∙◌}
use Rattle.account.specs.Seen.{Sees}
use Rattle.steps.specs.Booked.{Rests, booked_by}
use Rattle.steps.proofs.Booking.{rests, stepped}
use Rattle.steps.proofs.step.Goals as goal

pub booked-requires : goal.booked-requires
booked-requires c =
    let args = c.args in
    let sees : Sees args.tables args.account args.entry c.see-seen.result = record { sound = c.requires; is = c.see-seen.ensures } in
    (c.requires, subst (Rests args.tables args.account args.figures) (sym (c.decide.ensures args.tables args.account sees)) (rests args.tables args.figures args.account c.requires args.entry))

pub returns : goal.returns
returns c =
    let args = c.args in
    let sees : Sees args.tables args.account args.entry c.see-seen.result = record { sound = c.requires; is = c.see-seen.ensures } in
    c.booked.ensures ∙ ap (booked_by args.tables args.account args.figures) (c.decide.ensures args.tables args.account sees) ∙ stepped args.tables args.account args.figures args.entry
