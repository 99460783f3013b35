-- The bytes before the place and those behind the bytes put stay.
use Rattle.std.proofs.Common.{arith}
use Rattle.std.proofs.lemmas.Grind.{common_steps}
use Rattle.std.proofs.lemmas.List.Edits.{sets-eq}
use Rattle.writing.proofs.numbers.put_bytes.Goals as goal

pub returns : goal.returns
returns g c = grind (arith, common_steps, sets-eq)
