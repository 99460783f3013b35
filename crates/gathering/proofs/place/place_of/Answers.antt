-- `place_of` meets its contract: the first order that has the number is at the lowest place that has it.
use Rattle.std.proofs.Common.{rules, ◌≡◌, ℕ, length, ap}
use mathlib.Core.Path.{◌∙◌}
use Rattle.std.specs.Prelude.{Option}
use Rattle.std.specs.Option.{unwrap_or}
use Rattle.terms.proofs.Listed.{counted}
use Rattle.gathering.proofs.Named.{first_named}
use Rattle.gathering.proofs.place.place_of.Goals as goal

pub returns : goal.returns
returns c =
    let size : length c.args.orders.now ≡ 32 = search (counted, rules) in
    c.unwrap_or.ensures ∙ ap (λ (r : Option ℕ). unwrap_or r 32) c.first.ensures ∙ first_named _ _ size c.if-number-eq-NO_ORDER.false
