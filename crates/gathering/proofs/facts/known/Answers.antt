-- `known` meets its contract: each sum of what is seen fits, and put together they are the facts of the definition.
use Rattle.std.proofs.Common.{arith}
use mathlib.Core.Path.{◌∙◌}
use mir.Syntax.{w64}
use mir.ValLaws.{to_z-of_z}
use Rattle.gathering.proofs.Known as known
use Rattle.gathering.proofs.facts.known.Goals as goal

pub overflow_add-result : goal.overflow_add-result
overflow_add-result c = omega (arith, known.rights_most c.requires.of.sees c.requires.allowed)

pub overflow_sub-result : goal.overflow_sub-result
overflow_sub-result c = known.taken_within c.requires.of.sees c.requires.allowed

pub available-requires : goal.available-requires
available-requires c = known.money_sound c.requires.of.sees c.requires.allowed

pub overflow_mul-result : goal.overflow_mul-result
overflow_mul-result c = known.hold_fits c.requires.of.sees c.requires.allowed _ c.hold_one-one.ensures

pub returns : goal.returns
returns c t a sees allowed =
    known.put_together sees allowed _ _ _ _ _ _ c.count.ensures c.count-2.ensures c.moves-side.ensures c.units.ensures
    (to_z-of_z w64 c.available.result (record { sfits = c.available.type_inv }) ∙ c.available.ensures) c.hold_one-one.ensures
