-- Writing: "a day end with n or m out of range 3, then 17; on refusal no byte is written, else only the record's bytes" (Refusal numbers).
use Rattle.std.specs.Prelude.{ℕ, Bool, cond, not, ◌&&◌, List, [], ◌∷◌, ◌++◌, ltb, drop, Result, Ok, Err}
use Rattle.terms.specs.declared.refusal.Refusal.{Refusal}
use Rattle.terms.specs.declared.refusal.Refusal.TheVariants.{Misshapen, BufferTooShort}
use Rattle.entries.specs.Entries.{kind_of, fields_in, figures_in, ◌!◌}
use Rattle.entries.specs.Numbers.{packed}
use Rattle.entries.specs.Table.{code_of, fields_of, is_day_end, figures_of, length_of, counts_allowed}
use Rattle.entries.specs.declared.entry.Entry.{Entry}
use Rattle.entries.specs.declared.entry.Figures.{Figures}

-- n and m are a day end's two fields; no other entry has figures (house)
abbrev pub n_of : Entry → ℕ
n_of entry = cond (is_day_end (kind_of entry)) (fields_in entry ! 0) 0

abbrev pub m_of : Entry → ℕ
m_of entry = cond (is_day_end (kind_of entry)) (fields_in entry ! 1) 0

-- how long an entry's record is (house)
abbrev pub length_for : Entry → ℕ
length_for entry = length_of (kind_of entry) (n_of entry) (m_of entry)

-- "length of the whole record (2 bytes), kind (2 bytes), fields" (house)
abbrev pub head_of : Entry → List ℕ
head_of entry = packed (2 ∷ 2 ∷ fields_of (kind_of entry)) (length_for entry ∷ code_of (kind_of entry) ∷ fields_in entry)

-- an entry's record: a day end's figures follow its fields (house)
unfoldable pub record_of : Entry → Figures → List ℕ
record_of entry f = head_of entry ++ cond (is_day_end (kind_of entry)) (packed (figures_of (n_of entry) (m_of entry)) (figures_in (n_of entry) (m_of entry) f)) []

-- "a day end with n or m out of range" (house)
abbrev pub counts_barred : Entry → Bool
counts_barred entry = is_day_end (kind_of entry) && not (counts_allowed (n_of entry) (m_of entry))

-- the answer, by the size of the lent buffer: how many bytes were written, or the refusal (house)
unfoldable pub written_for : Entry → ℕ → Result ℕ Refusal
written_for entry size =
    cond (counts_barred entry) (Err Misshapen)
    (cond (ltb size (length_for entry)) (Err BufferTooShort)
    (Ok (length_for entry)))

-- the buffer afterwards: the record at its start and the rest as it was, or all as it was (house)
abbrev pub buffer_after : Result ℕ Refusal → List ℕ → List ℕ → List ℕ
buffer_after (Ok n) rec buffer = rec ++ drop n buffer
buffer_after (Err why) rec buffer = buffer
