-- The desk as it stood before #112, with check 18 still in: kept to be compared with the one that stands.
use Rattle.std.specs.Prelude.{ℕ, ◌+◌, not, ◌&&◌, ◌||◌, List, leb, ltb, Ok}
use Rattle.terms.specs.Kinds.{buys_of}
use Rattle.terms.specs.Ranges.{range_of, ◌∈◌}
use Rattle.terms.specs.declared.measure.Measure.TheVariants.{Price, Quantity, Money}
use Rattle.terms.specs.declared.refusal.Refusal.TheVariants.{OutOfRange, OutOfPlace, NoSuchOrder, FillBarred, CeilingPassed, CashBelowZero}
use Rattle.entries.specs.declared.entry.Entry.{Entry}
use Rattle.entries.specs.declared.entry.Entry.TheVariants as Entry·of
use Rattle.entries.specs.declared.entry.Figures.{Figures}
use Rattle.entries.specs.declared.entry.Fill.{Fill}
use Rattle.reading.specs.declared.Answer.{Answer}
use Rattle.reading.specs.declared.Answer.TheVariants as Answer·of
use Rattle.reading.specs.declared.Reading.{Reading}
use Rattle.account.specs.Fills.{named, paid, price_allowed}
use Rattle.account.specs.Money.{kind_of}
use Rattle.terms.specs.Verdicts.{◌else◌then◌, accept}
use Rattle.account.specs.declared.judged.Named.{Named}
use Rattle.terms.specs.Verdicts.{Verdict}
use Rattle.set_up.specs.Stages.{book_after, entered_as, in_place, new_book, record_verdict}
use Rattle.set_up.specs.declared.stages.Book.{Book}
use Rattle.desk.specs.Runs.{Answered, Ran, answer_by, answer_for, run_by}

-- "Fill: 7, 16, 15, 18", the last where the "fill would bring cash below zero" (Refusal numbers)
unfoldable pub fill_verdict_with18 : Named → Fill → Verdict
fill_verdict_with18 f fill =
    let buys = buys_of (kind_of f.order) in
    (fill.quantity ∈ range_of Quantity) && (fill.price ∈ range_of Price) else OutOfRange then
    ltb f.place 32 else NoSuchOrder then
    leb fill.quantity f.order.left.0 && price_allowed buys f.order.price fill.price else FillBarred then
    buys || (f.sheet.cash + f.sheet.premium + paid f fill ∈ range_of Money) else CeilingPassed then
    not buys || leb (paid f fill) f.sheet.cash else CashBelowZero then
    accept

-- something for a fill, and for all other entries (house)
abbrev by_fill : {A : Type 0} → (Fill → A) → A → Entry → A
by_fill for_fill other (Entry·of.Deposit amount) = other
by_fill for_fill other (Entry·of.Withdraw amount) = other
by_fill for_fill other (Entry·of.Lock u units) = other
by_fill for_fill other (Entry·of.Unlock u units) = other
by_fill for_fill other (Entry·of.Order o) = other
by_fill for_fill other (Entry·of.Fill fill) = for_fill fill
by_fill for_fill other (Entry·of.Cancel number) = other
by_fill for_fill other (Entry·of.DayEnd n m) = other
by_fill for_fill other Entry·of.Pay = other
by_fill for_fill other Entry·of.Drop = other
by_fill for_fill other (Entry·of.Underlying row) = other
by_fill for_fill other (Entry·of.Contract row) = other
by_fill for_fill other (Entry·of.Opening cash) = other

-- a record of a book: only the verdict on a fill, kind 6, has changed
abbrev pub record_verdict_with18 : Book → Entry → Figures → Verdict
record_verdict_with18 b entry f =
    by_fill (λ fill. in_place b.stage 6 else OutOfPlace then fill_verdict_with18 (named b.tables b.account fill.number) fill)
    (record_verdict b entry f) entry

-- its answer, and the run of a book
abbrev pub answer_by_with18 : Book → Figures → Answer → Answered
answer_by_with18 b f (Answer·of.Found entry len) = answer_for (entered_as (record_verdict_with18 b entry f) b (book_after b entry f))
answer_by_with18 b f (Answer·of.Refused why place) = answer_by b f (Answer·of.Refused why place)

abbrev pub answer_with18 : Book → Reading → Answered
answer_with18 b reading = answer_by_with18 b reading.figures reading.answer

abbrev pub book_run_with18 : ℕ → List ℕ → Ran
book_run_with18 places s = run_by answer_with18 places s 0 new_book
