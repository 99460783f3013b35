-- The library adds the bytes at the place up to the number that stands there.
use Rattle.std.proofs.Common.{◌∙◌, rules}
use Rattle.entries.proofs.LittleEndian.{number_made}
use Rattle.reading.proofs.numbers.U16Number.at.Goals as goal

pub returns : goal.returns
returns c = c.from_le_bytes.ensures ∙ number_made 1 _ _ _ c.bytes_at.ensures (search rules)
