-- `run_list` meets its contract: a run from the opened book where tables and cash are accepted, and nothing where they are refused.
use Rattle.std.proofs.Common.{◌≡◌, length, sym, subst, rules}
use mathlib.Core.Path.{◌∙◌}
use Rattle.terms.proofs.Listed.{counted}
use Rattle.set_up.specs.Sound.{SoundBook}
use Rattle.set_up.proofs.EnteredSound.{list_sound}
use Rattle.desk.proofs.run_list.Goals as goal

pub run_on-requires : goal.run_on-requires
run_on-requires c =
    let underlyings : length c.args.tables.underlyings ≡ 8 = search (counted, rules) in
    let contracts : length c.args.tables.contracts ≡ 64 = search (counted, rules) in
    subst SoundBook (sym c.opened.ensures) (list_sound _ _ underlyings contracts (sym c.list_verdict-verdict.ensures ∙ c.in-Ok.is))
