-- "A reader holds the lent bytes and the place of the next record. Its answer is either the entry with its length or a refusal with the record's place, the place then unmoved" (Records).
use Rattle.std.specs.Prelude.{ℕ, ◌+◌, List}
use Rattle.reading.specs.Reading.{read_at}
use Rattle.reading.specs.declared.Answer.{Answer}
use Rattle.reading.specs.declared.Answer.TheVariants.{Found, Refused}
use Rattle.reader.specs.declared.Read.{Read}
use Rattle.reader.specs.declared.Reader.{Reader}

-- the next record stands behind one that was read; after a refusal it is the refused one (Records)
abbrev pub next_place : ℕ → Answer → ℕ
next_place place (Found entry len) = place + len
next_place place (Refused why at) = place

-- the answer at a place, and the place of the next record (house)
abbrev pub found_at : List ℕ → ℕ → Read
found_at bytes place = record { reading = read_at bytes place; next = next_place place (read_at bytes place).answer }

-- the reader afterwards: the same bytes, at the place of the next record (Records)
abbrev pub moved_on : Reader → Reader
moved_on r = record { bytes = r.bytes; place = (found_at r.bytes.now r.place).next }
