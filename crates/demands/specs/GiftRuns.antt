-- Demand 3 of two runs from their bytes: what the second may differ in, and what then comes of both.
use Rattle.std.specs.Prelude.{true, List, ◌≡◌, ℕ, suc, ◌+◌, ◌≤◌, ◌<◌, ℤ, pos, ◌+ℤ◌, get_or, length, take, Ok}
use Rattle.terms.specs.Verdicts.{accept}
use Rattle.entries.specs.Entries.{kind_of}
use Rattle.entries.specs.Table.{code_of}
use Rattle.entries.specs.declared.entry.Entry.{Entry}
use Rattle.entries.specs.declared.entry.Entry.TheVariants as Entry·of
use Rattle.entries.specs.declared.entry.Figures.{Figures}
use Rattle.entries.specs.declared.entry.Underlying.{Underlying}
use Rattle.reading.specs.Reading.{read_at}
use Rattle.reading.specs.declared.Answer.TheVariants as Answer·of
use Rattle.reading.specs.declared.Reading.{Reading}
use Rattle.account.specs.Rows.{underlying}
use Rattle.account.specs.Sound.{underlying_allowed}
use Rattle.account.specs.declared.tables.Tables.{Tables}
use Rattle.set_up.specs.declared.stages.Book.{Book}
use Rattle.set_up.specs.declared.stages.Stage.TheVariants.{Entries}
use Rattle.desk.specs.Runs.{Ran, book_run}
use Rattle.desk.specs.declared.Run.{Run}
use Rattle.demands.specs.Each.{Each}
use Rattle.demands.specs.Gift.{RoomFor, Roomier, RoomierTables, XMore}

-- a list's tables and cash beside another's: the limits higher, and themselves in their range; X fen more
pub record GivenBeside (X : ℕ) (t t' : Tables) (cash cash' : ℕ) : Type 0 where
  pub tables : RoomierTables t t'
  pub allowed : (u : ℕ) → u < t'.m → underlying_allowed (underlying t' u) ≡ true
  pub richer : cash' ≡ cash + X

-- a record of a book beside another's: an underlying's with higher limits, an opening with X fen more, every other the same
pub data Alike (X : ℕ) : Entry → Entry → Type 0 where
  higher : (p q : Underlying) → Roomier p q → underlying_allowed q ≡ true → Alike X (Entry·of.Underlying p) (Entry·of.Underlying q)
  more : (cash : ℕ) → Alike X (Entry·of.Opening cash) (Entry·of.Opening (cash + X))
  same : (entry : Entry) → code_of (kind_of entry) < 18 → Alike X entry entry  -- of any kind but 18, the opening

-- two records of alike entries with the same figures
abbrev pub AlikeRecord : ℕ → Entry × Figures → Entry × Figures → Type 0
AlikeRecord X e e' = Alike X e.0 e'.0 × (e'.1 ≡ e.1)

-- what the first reads as an entry, the second reads as one alike, of the same length and with the same figures
abbrev pub ReadAlike : ℕ → Reading → Reading → Type 0
ReadAlike X first second =
    (entry : Entry) (len : ℕ) → first.answer ≡ Answer·of.Found entry len
    → (entry' : Entry) × Alike X entry entry' × (second ≡ record { answer = Answer·of.Found entry' len; figures = first.figures })

-- "a book whose set-up differs in the limits and the opening alone": so it is of each record of the first
pub record BooksAlike (X : ℕ) (s s' : List ℕ) : Type 0 where
  pub size : length s' ≡ length s
  pub records : (k : ℕ) → ReadAlike X (read_at s (book_run k s).place) (read_at s' (book_run k s).place)

-- two books after as many records; before the opening there is no account to compare
pub record BookBeside (X : ℕ) (first second : Book) : Type 0 where
  pub stage : second.stage ≡ first.stage
  pub tables : RoomierTables first.tables second.tables
  pub account : first.stage ≡ Entries → XMore X first.account second.account

-- "where the first accepts a whole list (and the ceiling holds with X added)", at the opening and after each entry; `runs k` is the run as far as k answers
pub record FirstAccepts (X : ℕ) (runs : ℕ → Ran) (r : Run) (numbers : List ℕ) : Type 0 where
  pub verdict : r.verdict ≡ accept
  pub all : Each (λ number. number ≡ 0) (take r.answered numbers)
  pub ceiling : (k : ℕ) → k ≤ r.answered → (runs k).book.stage ≡ Entries → RoomFor X (runs k).book.account

-- "the second accepts it too, and after each entry both hold the same .., the second exactly X more available": what was returned, and what was written
pub record SecondToo (X : ℕ) (runs runs' : ℕ → Ran) (r r' : Run) (numbers' : List ℕ) (sums sums' : List ℤ) : Type 0 where
  pub verdict : r'.verdict ≡ accept
  pub answered : r'.answered ≡ r.answered
  pub place : r'.place ≡ r.place
  pub all : Each (λ number. number ≡ 0) (take r'.answered numbers')
  pub after : (k : ℕ) → k ≤ r.answered → BookBeside X (runs k).book (runs' k).book
  pub available : (k : ℕ) → k < r.answered → (runs (suc k)).book.stage ≡ Entries → get_or sums' k (pos 0) ≡ get_or sums k (pos 0) +ℤ pos X
  pub returned : BookBeside X r.book r'.book
