-- A run over the bytes of a list or a book: a refusal number or 0, and available, for each record, one after the other (Records; Figures to meet).
use Rattle.std.specs.Prelude.{ℕ, zero, suc, min, Bool, true, false, cond, List, [], ◌∷◌, ◌++◌, map, ltb, ℤ, pos, length, drop, Ok, Err}
use Rattle.terms.specs.Refusals.{number_of}
use Rattle.entries.specs.declared.entry.Figures.{Figures}
use Rattle.reading.specs.Reading.{read_at}
use Rattle.reading.specs.declared.Answer.{Answer}
use Rattle.reading.specs.declared.Answer.TheVariants as Answer·of
use Rattle.reading.specs.declared.Reading.{Reading}
use Rattle.reader.specs.Reader.{found_at}
use Rattle.account.specs.Money.{available_of}
use Rattle.terms.specs.Verdicts.{number_in}
use Rattle.account.specs.declared.account.Sheet.{Sheet}
use Rattle.terms.specs.Verdicts.{Verdict}
use Rattle.account.specs.declared.tables.Tables.{Tables}
use Rattle.rows.specs.Given.{list_verdict}
use Rattle.set_up.specs.Stages.{Entered, entered, new_book, opened, waiting}
use Rattle.set_up.specs.declared.stages.Book.{Book}
use Rattle.set_up.specs.declared.stages.Stage.{Stage}
use Rattle.set_up.specs.declared.stages.Stage.TheVariants.{Underlyings, Contracts, Entries}
use Rattle.desk.specs.declared.Run.{Run}

-- "available (0 before the opening)" (Figures to meet)
abbrev pub available_at : Stage → Sheet → ℤ
available_at Underlyings sheet = pos 0
available_at Contracts sheet = pos 0
available_at Entries sheet = available_of sheet

abbrev pub available_in : Book → ℤ
available_in b = available_at b.stage b.account.sheet

-- the answer to one record: the refusal number or 0, and available; whether the run ends with it, and the book after it (house)
pub record Answered : Type 0 where
  pub number : ℕ
  pub available : ℤ
  pub ends : Bool
  pub book : Book

-- what an entered record is answered with (house)
abbrev pub answer_for : Entered → Answered
answer_for after = record { number = number_in after.verdict; available = available_in after.book; ends = false; book = after.book }

-- what the record that was read leads to: an entry is entered; "refusals 1 to 3 end the reading of a book" (Refusal numbers)
abbrev pub answer_by : Book → Figures → Answer → Answered
answer_by b f (Answer·of.Found entry len) = answer_for (entered b entry f)
answer_by b f (Answer·of.Refused why place) = record { number = number_of why; available = available_in b; ends = true; book = b }

unfoldable pub answer_to : Book → Reading → Answered
answer_to b reading = answer_by b reading.figures reading.answer

-- a run: the answers, the place of the next record, whether it stopped at one that could not be read, and the book as it then is (house)
pub record Ran : Type 0 where
  pub answers : List (ℕ × ℤ)
  pub place : ℕ
  pub stopped : Bool
  pub book : Book

-- nothing more is answered: no byte or no place is left, or "it stops after 1, 2 or 3" (Figures to meet)
abbrev pub ended : ℕ → Book → Ran
ended place b = record { answers = []; place = place; stopped = false; book = b }

abbrev pub stopped_at : ℕ → Book → Ran
stopped_at place b = record { answers = []; place = place; stopped = true; book = b }

infixr 5 ◌before◌
-- an answer before those of the rest (house)
abbrev pub ◌before◌ : Answered → Ran → Ran
answer before rest = record { answers = (answer.number, answer.available) ∷ rest.answers; place = rest.place; stopped = rest.stopped; book = rest.book }

-- from a place of the bytes on, by how a record is answered, each time where the reader then stands: "it stops after 1, 2 or 3, or when no byte is left", or when no place is left for an answer (Records; Figures to meet; house)
abbrev pub run_by : (Book → Reading → Answered) → ℕ → List ℕ → ℕ → Book → Ran
run_by answers zero s place b = ended place b
run_by answers (suc places) s place b =
    let answer = answers b (read_at s place) in
    cond (ltb place (length s))
    (answer before cond answer.ends (stopped_at place answer.book) (run_by answers places s (found_at s place).next answer.book))
    (ended place b)

unfoldable pub run_from : ℕ → List ℕ → ℕ → Book → Ran
run_from places s place b = run_by answer_to places s place b

-- as many records are answered as both slices have places for (house)
abbrev pub places_in : List ℕ → List ℤ → ℕ
places_in numbers sums = min (length numbers) (length sums)

-- a book, and a list on its tables and opening cash; where these are refused nothing is run (Records; house)
abbrev pub book_run : ℕ → List ℕ → Ran
book_run places s = run_from places s 0 new_book

abbrev pub list_by : Verdict → Tables → ℕ → ℕ → List ℕ → Ran
list_by (Ok tt) t cash places s = run_from places s 0 (opened t cash)
list_by (Err why) t cash places s = ended 0 (waiting t)

abbrev pub list_run : Tables → ℕ → ℕ → List ℕ → Ran
list_run t cash = list_by (list_verdict t cash) t cash

-- what the caller is told, and what the lent slices hold afterwards: the answers from the first place on, behind them what was there (house)
abbrev pub told : Verdict → Ran → Run
told v r = record { verdict = v; answered = length r.answers; place = r.place; stopped = r.stopped; book = r.book }

abbrev pub numbers_left : Ran → List ℕ → List ℕ
numbers_left r numbers = map (λ answer. answer.0) r.answers ++ drop (length r.answers) numbers

abbrev pub sums_left : Ran → List ℤ → List ℤ
sums_left r sums = map (λ answer. answer.1) r.answers ++ drop (length r.answers) sums
