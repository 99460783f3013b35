-- `judged` meets its contract: what a record sees is read off the sound book in hand.
use Rattle.std.proofs.Common.{refl, sym, ap}
use mathlib.Core.Path.{◌∙◌}
use Rattle.reading.specs.declared.Answer.{Answer}
use Rattle.desk.specs.Ruled.{ruling_by}
use Rattle.desk.proofs.judged.Goals as goal

pub rule-requires : goal.rule-requires
rule-requires c = record { book = c.args.book.now; sees = record { sound = c.requires; stands = refl; is = c.see-seen.ensures } }

pub returns-in-Found : goal.returns-in-Found
returns-in-Found c =
    c.rule.ensures c.args.book.now (record { sound = c.requires; stands = refl; is = c.see-seen.ensures })
    ∙ sym (ap (λ (answer : Answer). ruling_by c.args.book.now c.args.reading.now.figures answer) c.in-Found.is)

pub returns-in-Refused : goal.returns-in-Refused
returns-in-Refused c = sym (ap (λ (answer : Answer). ruling_by c.args.book.now c.args.reading.now.figures answer) c.in-Refused.is)
