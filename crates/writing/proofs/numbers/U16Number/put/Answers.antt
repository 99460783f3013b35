-- The bytes that the library takes off the number are its bytes.
use Rattle.std.proofs.Common.{ap, ◌∙◌}
use Rattle.std.proofs.lemmas.List.Edits.{sets}
use Rattle.entries.proofs.LittleEndian.{bytes_taken}
use Rattle.writing.proofs.numbers.U16Number.put.Goals as goal

pub returns : goal.returns
returns c = c.put_bytes.ensures ∙ ap (sets c.args.buffer.now c.args.at) (c.to_le_bytes.ensures ∙ bytes_taken 2 c.args.self)
