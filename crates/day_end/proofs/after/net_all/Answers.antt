-- `net_all` meets its contract: each turn nets the next position where it lies.
use Rattle.std.proofs.Common.{ap, arith, rules}
use mathlib.Core.Path.{◌∙◌}
use lib.ListN.{set}
use Rattle.std.proofs.lemmas.List.Edits.{map_over_more}
use Rattle.rules.specs.Netting.{netted}
use Rattle.day_end.proofs.after.net_all.Goals as goal

pub loop-position-preserved : goal.loop-position-preserved
loop-position-preserved c =
    let items = c.loop-position.position-items in
    let i = c.loop-position.position-index in
    ap (set items i) c.net.ensures ∙ map_over_more netted c.args.positions items i _ (omega arith) c.loop-position.invariant (search rules)
