-- Reading: "its answer is either the entry with its length or a refusal with the record's place" (Records). The tests are those of "Refusal numbers", its sentence from the last clause to the first, since a definition stands above its use.
use Rattle.std.specs.Prelude.{ℕ, Bool, cond, not, List, ltb, length, drop, Result, Ok, Err}
use Rattle.terms.specs.declared.unlisted.Unlisted.{Unlisted}
use Rattle.entries.specs.declared.entry.Entry.{Entry}
use Rattle.terms.specs.Refusals.{number_of}
use Rattle.terms.specs.declared.refusal.Refusal.{Refusal}
use Rattle.terms.specs.declared.refusal.Refusal.TheVariants.{CutShort, UnknownKind, Misshapen}
use Rattle.entries.specs.Entries.{entry_of, figures_from, no_figures}
use Rattle.entries.specs.Numbers.{number_at, numbers_at}
use Rattle.entries.specs.Table.{kind_coded, fields_of, is_day_end, figures_of, length_fits, counts_fit}
use Rattle.entries.specs.declared.entry.Figures.{Figures}
use Rattle.entries.specs.declared.kind.Kind.{Kind}
use Rattle.entries.specs.declared.kind.Kind.TheVariants.{DayEnd}
use Rattle.reading.specs.declared.Answer.{Answer}
use Rattle.reading.specs.declared.Answer.TheVariants.{Found, Refused}
use Rattle.reading.specs.declared.Reading.{Reading}

-- where the length, the kind and a day end's counts stand in a record, r being the bytes from its place on (house)
abbrev pub length_at : List ℕ → ℕ
length_at r = number_at 2 r 0

abbrev pub kind_at : List ℕ → Result Kind Unlisted
kind_at r = kind_coded (number_at 2 r 2)

abbrev pub n_at : List ℕ → ℕ
n_at r = number_at 2 r 4

abbrev pub m_at : List ℕ → ℕ
m_at r = number_at 2 r 6

-- the fields that stand there (house)
abbrev pub fields_at : Kind → List ℕ → List ℕ
fields_at kind r = numbers_at (fields_of kind) r 4

-- a day end's figures, behind its counts (house)
abbrev pub figures_at : List ℕ → Figures
figures_at r = figures_from (n_at r) (m_at r) (numbers_at (figures_of (n_at r) (m_at r)) r 8)

-- a refusal carries the record's place, and no figures stand beside it (house)
abbrev pub refused : Refusal → ℕ → Reading
refused why place = record { answer = Refused why place; figures = no_figures }

-- an answer in the paper's numbers: 0, or the refusal's number (house)
abbrev pub number_in : Answer → ℕ
number_in (Found entry len) = 0
number_in (Refused why place) = number_of why

-- what is answered at a place where reading says so, or refuses (house)
abbrev pub answered : ℕ → Result Reading Refusal → Reading
answered place (Ok reading) = reading
answered place (Err why) = refused why place

infixr 5 ◌at◌when◌else◌
-- a refusal where a test says so, else what comes next (house)
abbrev pub ◌at◌when◌else◌ : Refusal → ℕ → Bool → Reading → Reading
why at place when test else next = cond test (refused why place) next

-- "codes 3", else the entry with its length and its figures beside it (house)
abbrev pub known : ℕ → ℕ → Figures → Result Entry Unlisted → Reading
known place len figures (Ok entry) = record { answer = Found entry len; figures = figures }
known place len figures (Err none) = refused Misshapen place

-- "fewer bytes than the length 1; codes 3" (house)
unfoldable pub whole_at : ℕ → List ℕ → ℕ → Kind → Figures → Reading
whole_at place r len kind figures = CutShort at place when ltb (length r) len else known place len figures (entry_of kind (fields_at kind r))

-- "kind 8 with fewer than 8 bytes 1; its counts out of range or unlike the length 3" (house)
unfoldable pub counted : ℕ → List ℕ → ℕ → Reading
counted place r len =
    CutShort at place when ltb (length r) 8 else
    Misshapen at place when not (counts_fit (n_at r) (m_at r) len) else
    whole_at place r len DayEnd (figures_at r)

-- "then a length that can't fit 3"; only a day end has counts and figures (house)
unfoldable pub of_kind : ℕ → List ℕ → Kind → Reading
of_kind place r kind =
    Misshapen at place when not (length_fits kind (length_at r)) else
    cond (is_day_end kind) (counted place r (length_at r)) (whole_at place r (length_at r) kind no_figures)

-- "then 2" (house)
abbrev pub listed : ℕ → List ℕ → Result Kind Unlisted → Reading
listed place r (Ok kind) = of_kind place r kind
listed place r (Err none) = refused UnknownKind place

-- "fewer than 4 bytes 1" (house)
unfoldable pub read_from : ℕ → List ℕ → Reading
read_from place r = CutShort at place when ltb (length r) 4 else listed place r (kind_at r)

-- what reading finds at a place of the lent bytes; with no byte left, or with a place past the end, none is left to read (house)
unfoldable pub read_at : List ℕ → ℕ → Reading
read_at s place = read_from place (drop place s)
