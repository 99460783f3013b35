-- `run_on` meets its contract: what the slices hold and what is still to be answered are together the whole run, turn by turn, and at the end nothing is left to answer. In a turn the rows read are those that the record sees, and however its ruling is booked, the book is the one after it.
use Rattle.std.proofs.Common.{◌≡◌, ℕ, ◌+◌, ◌-◌, ◌≤◌, ◌<◌, length, refl, sym, ap, subst, arith}
use mathlib.Core.Path.{◌∙◌}
use mathlib.Core.Bool.{true, false}
use mathlib.Core.Logic.{◌⊎◌, ⊎_elim, inl, inr}
use lib.ListN.{set}
use mir.Syntax.{w64}
use mir.Val.{of_z, to_z}
use mir.ValLaws.{to_z-of_z}
use Rattle.std.specs.Prelude.{Result, Ok, Err}
use Rattle.terms.specs.declared.refusal.Refusal.{Refusal}
use Rattle.entries.specs.Names.{contract_named, order_named, underlying_named}
use Rattle.entries.specs.declared.entry.Entry.{Entry}
use Rattle.entries.specs.declared.entry.Figures.{Figures}
use Rattle.reading.specs.declared.Answer.{Answer}
use Rattle.reading.specs.declared.Reading.{Reading}
use Rattle.reader.specs.declared.Read.{Read}
use Rattle.account.specs.Rows.{contract, holding, order, position, underlying}
use Rattle.account.specs.Running.{closing, running}
use Rattle.account.specs.Seen.{row_of}
use Rattle.account.proofs.Bounds.{sheet_sound}
use Rattle.gathering.specs.Places.{place_among}
use Rattle.gathering.proofs.RowsRead.{rows_read}
use Rattle.set_up.specs.Rulings.{RestsOn, ruled_by}
use Rattle.set_up.specs.Sound.{SeesBook, SoundBook}
use Rattle.set_up.specs.declared.ruling.Ruling.{Ruling}
use Rattle.set_up.specs.declared.ruling.Ruling.TheVariants.{Changes, Renews}
use Rattle.set_up.specs.declared.stages.Book.{Book}
use Rattle.desk.specs.Runs.{Answered, answer_to, ended, places_in, run_from}
use Rattle.desk.proofs.Answered.{answer_sound}
use Rattle.desk.specs.Ruled.{ruling_by}
use Rattle.desk.proofs.Ruled.{book_by, moves_on, rests_by, ruled_answer, stays_ends}
use Rattle.desk.proofs.Turns.{Stands, at_end, done_so, goes_on, goes_so, numbers_left_lem, rest, same_lengths, stopped_so, stops, sums_left_lem, turned}
use Rattle.desk.proofs.run_on.Goals as goal
use Rattle.desk.proofs.run_on.Goals.{After-available_in, After-loop-k}

-- the book after a ruling is sound
sound_after : (b : Book) → SoundBook b → (reading : Reading) (ruling : Result Ruling Refusal) (after : Book) → ruling ≡ ruling_by b reading.figures reading.answer → after ≡ ruled_by b reading.figures ruling → SoundBook after
unfolding answer_to
sound_after b sound reading ruling after ruled books =
    let is = books ∙ ap (ruled_by b reading.figures) ruled ∙ book_by b reading.figures reading.answer in
    subst SoundBook (sym is) (answer_sound b reading sound)

pub judged-ruling-requires : goal.judged-ruling-requires
judged-ruling-requires c = c.loop-k.invariant.1

pub enter-requires : goal.enter-requires
enter-requires c =
    let b = c.loop-k.book in
    let reading = c.read_next-read.result.reading in
    (c.loop-k.invariant.1, subst (RestsOn b reading.figures) (sym c.judged-ruling.ensures) (rests_by b reading.figures c.loop-k.invariant.1 reading.answer))

pub available_in-requires : goal.available_in-requires
available_in-requires c opened =
    sheet_sound ((sound_after c.loop-k.book c.loop-k.invariant.1 c.read_next-read.result.reading _ _ c.judged-ruling.ensures c.enter.ensures).account opened)

-- the turn's answer: what is told and booked is what the record leads to
module _ (c : After-available_in) where
  abbrev before : Book
  before = c.loop-k.book

  abbrev after : Book
  after = c.enter.new.self

  abbrev reading : Reading
  reading = c.read_next-read.result.reading

  is_sound : SoundBook after
  is_sound = sound_after before c.loop-k.invariant.1 reading _ after c.judged-ruling.ensures c.enter.ensures

  abbrev said : Answered
  said = record { number = c.number.result; available = c.available_in.result; ends = (answer_to before reading).ends; book = after }

  said_is : said ≡ answer_to before reading
  unfolding answer_to
  said_is = ruled_answer before reading.figures reading.answer _ c.number.result after c.available_in.result c.judged-ruling.ensures c.enter.ensures c.number.ensures c.available_in.ensures

  -- the sum is stored as the machine holds it, and read back as it was
  stored : to_z w64 (of_z w64 c.available_in.result) ≡ c.available_in.result
  stored = to_z-of_z w64 c.available_in.result (record { sfits = c.available_in.type_inv })

  -- the loop's test says that there is a place in each slice, and a byte
  tests : (c.loop-k.k < length c.loop-k.numbers) × (c.loop-k.k < length c.loop-k.sums) × (c.loop-k.place < length c.args.bytes.now)
  tests = goes_on c.loop-k.k (length c.loop-k.numbers) (length c.loop-k.sums) c.loop-k.place (length c.args.bytes.now) c.loop-k-test.true

  lengths : (length c.loop-k.numbers ≡ length c.args.numbers.now) × (length c.loop-k.sums ≡ length c.args.sums.now)
  lengths = same_lengths _ _ _ _ _ _ _ c.loop-k.invariant.2

  -- what is still to come after it
  to_come :
      let places = places_in c.args.numbers.now c.args.sums.now in
      Stands (run_from places c.args.bytes.now c.args.place c.args.book) (rest c.args.bytes.now c.loop-k.place (places - (c.loop-k.k + 1)) said)
      (c.loop-k.k + 1) c.args.numbers.now (set c.loop-k.numbers c.loop-k.k said.number) c.args.sums.now (set c.loop-k.sums c.loop-k.k (to_z w64 (of_z w64 said.available)))
  to_come =
      let is = said_is ∙ ap (λ (r : Read). answer_to before r.reading) c.read_next-read.ensures in
      rw stored (turned _ _ _ _ _ _ _ _ _ _ said is (omega (arith, tests, lengths)) tests.2 c.loop-k.invariant.2)

  -- where the reader stayed the run ends, and where it moved it goes on
  ends : c.read_next-read.result.next ≡ c.loop-k.place → said.ends ≡ true
  ends stays =
      ap (λ (r : Read). (answer_to before r.reading).ends) c.read_next-read.ensures
      ∙ stays_ends _ _ _ (sym (ap (λ (r : Read). r.next) c.read_next-read.ensures) ∙ stays)

  goes : (c.read_next-read.result.next ≡ c.loop-k.place → ⊥) → said.ends ≡ false
  goes moves =
      ap (λ (r : Read). (answer_to before r.reading).ends) c.read_next-read.ensures
      ∙ moves_on _ _ _ (λ stays. moves (ap (λ (r : Read). r.next) c.read_next-read.ensures ∙ stays))

pub returns-then-read-place-clause-run : goal.returns-then-read-place-clause-run
returns-then-read-place-clause-run c =
    let answer = (goal.at.returns-then-read-place-clause-run c).After-available_in in
    at_end _ _ _ _ _ _ _ _ _ (stopped_so _ _ _ _ _ _ _ _ _ (said answer) (ends answer c.if-read-place.true) (to_come answer)) _

pub returns-then-read-place-clause-numbers : goal.returns-then-read-place-clause-numbers
returns-then-read-place-clause-numbers c =
    let answer = (goal.at.returns-then-read-place-clause-numbers c).After-available_in in
    let so = stopped_so _ _ _ _ _ _ _ _ _ (said answer) (ends answer c.if-read-place.true) (to_come answer) in
    numbers_left_lem _ _ _ _ _ _ _ _ _ so (omega (arith, tests answer, lengths answer))

pub returns-then-read-place-clause-sums : goal.returns-then-read-place-clause-sums
returns-then-read-place-clause-sums c =
    let answer = (goal.at.returns-then-read-place-clause-sums c).After-available_in in
    let so = stopped_so _ _ _ _ _ _ _ _ _ (said answer) (ends answer c.if-read-place.true) (to_come answer) in
    sums_left_lem _ _ _ _ _ _ _ _ _ so (omega (arith, tests answer, lengths answer))

pub loop-k-preserved : goal.loop-k-preserved
loop-k-preserved c =
    let answer = (goal.at.loop-k-preserved c).After-available_in in (
      omega (arith, tests answer, lengths answer),
      is_sound answer,
      rw (ap (λ (r : Read). r.next) c.read_next-read.ensures) (goes_so _ _ _ _ _ _ _ _ _ (said answer) (goes answer c.if-read-place.false) (to_come answer)),
    )

-- at the loop's end no place or no byte is left
module _ (c : After-loop-k) where
  few : (places_in c.args.numbers.now c.args.sums.now ≤ c.loop-k.k) ⊎ (length c.args.bytes.now ≤ c.loop-k.place)
  few =
      let same = same_lengths _ _ _ _ _ _ _ c.loop-k.invariant.2 in
      ⊎_elim (λ w. inl (omega (arith, w, same))) (λ w. inr w)
      (stops c.loop-k.k (length c.loop-k.numbers) (length c.loop-k.sums) c.loop-k.place (length c.args.bytes.now) c.loop-k-test.false)

  over : let places = places_in c.args.numbers.now c.args.sums.now in
      Stands (run_from places c.args.bytes.now c.args.place c.args.book) (ended c.loop-k.place c.loop-k.book) c.loop-k.k c.args.numbers.now c.loop-k.numbers c.args.sums.now c.loop-k.sums
  over = done_so _ _ _ _ _ _ _ _ _ _ few c.loop-k.invariant.2

pub returns-clause-run : goal.returns-clause-run
returns-clause-run c = at_end _ _ _ _ _ _ _ _ _ (over c) _

pub returns-clause-numbers : goal.returns-clause-numbers
returns-clause-numbers c = numbers_left_lem _ _ _ _ _ _ _ _ _ (over c) (omega arith)

pub returns-clause-sums : goal.returns-clause-sums
returns-clause-sums c = sums_left_lem _ _ _ _ _ _ _ _ _ (over c) (omega arith)
