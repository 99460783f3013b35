-- No book ever reached 18, and taking the check out changes no answer: a buy pays at most its share of the hold, that share is among the holds with what waits, and cash reaches for them, so the last check of a fill is passed wherever all others are.
use mathlib.Core.Path.{◌≡◌, refl, sym, ap, ◌∙◌}
use mathlib.Core.Bool.{Bool, true, false, cond, not, ◌&&◌, ◌||◌}
use mathlib.Core.List.{List, [], ◌∷◌, ◌++◌}
use Prim.Native.Nat.{ℕ, zero, suc, ◌+◌}
use native.Mathlib.Omega.{arith}
use borrow.Author.Tests.{le-leb}
use lib.Dec.{leb, ltb}
use lib.ListN.{length}
use Rattle.std.specs.Prelude.{Ok}
use Rattle.terms.specs.Kinds.{buys_of}
use Rattle.terms.specs.Ranges.{range_of, ◌∈◌}
use Rattle.terms.specs.declared.measure.Measure.TheVariants.{Price, Quantity, Money}
use Rattle.terms.specs.declared.refusal.Refusal.{Refusal}
use Rattle.terms.specs.declared.refusal.Refusal.TheVariants.{OutOfRange, OutOfPlace, NoSuchOrder, FillBarred, CeilingPassed, CashBelowZero}
use Rattle.entries.specs.declared.entry.Entry.{Entry}
use Rattle.entries.specs.declared.entry.Entry.TheVariants.{Deposit, Withdraw, Lock, Unlock, Order, Fill, Cancel, DayEnd, Pay, Drop, Underlying, Contract, Opening}
use Rattle.entries.specs.declared.entry.Figures.{Figures}
use Rattle.entries.specs.declared.entry.Fill as Given
use Rattle.reading.specs.Reading.{read_at}
use Rattle.reading.specs.declared.Answer.{Answer}
use Rattle.reading.specs.declared.Answer.TheVariants as Answer·of
use Rattle.reading.specs.declared.Reading.{Reading}
use Rattle.reader.specs.Reader.{found_at}
use Rattle.account.specs.Fills.{named, paid, price_allowed, fill_verdict}
use Rattle.account.specs.Money.{kind_of}
use Rattle.account.specs.Sound.{Sound}
use Rattle.account.specs.Steps.{refusal_of}
use Rattle.terms.specs.Verdicts.{◌else◌then◌, accept}
use Rattle.account.specs.declared.account.Account.{Account}
use Rattle.account.specs.declared.judged.Named.{Named}
use Rattle.terms.specs.Verdicts.{Verdict}
use Rattle.account.specs.declared.tables.Tables.{Tables}
use Rattle.account.proofs.Decided.{checked}
use Rattle.account.proofs.Filled.{fill_passed, fill_reached}
use Rattle.account.proofs.Held.{sound_held}
use Rattle.rows.specs.Given.{list_verdict}
use Rattle.set_up.specs.Sound.{SoundBook}
use Rattle.set_up.specs.Stages.{book_after, entered, entered_as, in_place, new_book, opened, record_verdict}
use Rattle.set_up.specs.declared.stages.Book.{Book}
use Rattle.set_up.proofs.EnteredSound.{list_sound, new_sound}
use Rattle.set_up.proofs.Entering.{open_stage}
use Rattle.desk.specs.Runs.{Answered, Ran, ◌before◌, answer_by, answer_for, answer_to, book_run, ended, list_by, list_run, run_by, run_from, stopped_at}
use Rattle.desk.proofs.Answered.{answer_sound}
use Rattle.demands.specs.WithEighteen.{answer_by_with18, answer_with18, book_run_with18, fill_verdict_with18, record_verdict_with18}

-- a check before verdicts that are the same where it is passed
same_behind : (passed : Bool) (why : Refusal) (rest rest' : Verdict) → (passed ≡ true → rest ≡ rest') → (passed else why then rest) ≡ (passed else why then rest')
same_behind true why rest rest' same = same refl
same_behind false why rest rest' same = refl

-- a last check that is passed wherever all others are changes no verdict
one_more : (checks : List (Bool × Refusal)) (passed : Bool) (why : Refusal) → (checked checks ≡ accept → passed ≡ true) → checked (checks ++ (passed, why) ∷ []) ≡ checked checks
one_more [] passed why too = ap (λ (p : Bool). p else why then accept) (too refl)
one_more (check ∷ rest) passed why too =
    same_behind check.0 check.1 (checked (rest ++ (passed, why) ∷ [])) (checked rest) (λ first. one_more rest passed why (λ accepted. too (rw first accepted)))

-- a check that only some meet
where_met : (met test : Bool) → (met ≡ true → test ≡ true) → (not met || test) ≡ true
where_met true test passes = passes refl
where_met false test passes = refl

-- "A fill pays at most what its order held": with and without the check the verdict on a fill is the same
pub fill_same : (t : Tables) (a : Account) (fill : Given.Fill) → Sound t a → let f = named t a fill.number in fill_verdict_with18 f fill ≡ fill_verdict f fill
unfolding fill_verdict_with18 fill_verdict
fill_same t a fill sound =
    let f : Named = named t a fill.number in
    let buys : Bool = buys_of (kind_of f.order) in
    one_more
    (((fill.quantity ∈ range_of Quantity) && (fill.price ∈ range_of Price), OutOfRange)
    ∷ (ltb f.place 32, NoSuchOrder)
    ∷ (leb fill.quantity f.order.left.0 && price_allowed buys f.order.price fill.price, FillBarred)
    ∷ (buys || (f.sheet.cash + f.sheet.premium + paid f fill ∈ range_of Money), CeilingPassed)
    ∷ [])
    (not buys || leb (paid f fill) f.sheet.cash) CashBelowZero
    (λ accepted. where_met buys (leb (paid f fill) f.sheet.cash) (λ pays. le-leb _ _ (fill_reached t a fill (sound_held sound) (fill_passed f fill accepted) pays)))

record_same : (b : Book) (f : Figures) → SoundBook b → (entry : Entry) → record_verdict_with18 b entry f ≡ record_verdict b entry f
unfolding record_verdict refusal_of
record_same b f sound (Deposit amount) = refl
record_same b f sound (Withdraw amount) = refl
record_same b f sound (Lock u units) = refl
record_same b f sound (Unlock u units) = refl
record_same b f sound (Order o) = refl
record_same b f sound (Fill fill) =
    same_behind (in_place b.stage 6) OutOfPlace _ _
    (λ placed. fill_same b.tables b.account fill (sound.account (open_stage b.stage 6 (omega arith) placed)))
record_same b f sound (Cancel number) = refl
record_same b f sound (DayEnd n m) = refl
record_same b f sound Pay = refl
record_same b f sound Drop = refl
record_same b f sound (Underlying row) = refl
record_same b f sound (Contract row) = refl
record_same b f sound (Opening cash) = refl

answer_same : (b : Book) (reading : Reading) → SoundBook b → answer_with18 b reading ≡ answer_to b reading
unfolding answer_to entered
answer_same b reading sound = go reading.answer
  where
    f : Figures
    f = reading.figures

    go : (answer : Answer) → answer_by_with18 b f answer ≡ answer_by b f answer
    go (Answer·of.Found entry len) = ap (λ (v : Verdict). answer_for (entered_as v b (book_after b entry f))) (record_same b f sound entry)
    go (Answer·of.Refused why place) = refl

-- so a run from a sound book is the same run
run_same : (places : ℕ) (s : List ℕ) (place : ℕ) (b : Book) → SoundBook b → run_by answer_with18 places s place b ≡ run_from places s place b
unfolding run_from
run_same zero s place b sound = refl
run_same (suc places) s place b sound =
    let answer = answer_to b (read_at s place) in
    let turned : Answered → Ran → Ran = λ answer more. cond (ltb place (length s)) (answer before cond answer.ends (stopped_at place answer.book) more) (ended place b) in
    ap (λ (x : Answered). turned x (run_by answer_with18 places s (found_at s place).next x.book)) (answer_same b (read_at s place) sound)
    ∙ ap (turned answer) (run_same places s (found_at s place).next answer.book (answer_sound b (read_at s place) sound))

-- no answer of any book changes, nor where it stops, nor the book at the end
pub book_same : (places : ℕ) (s : List ℕ) → book_run_with18 places s ≡ book_run places s
book_same places s = run_same places s 0 new_book new_sound

-- the same of a list whose tables and cash are accepted, of tables that have as many rows as their type says
pub list_same : (t : Tables) (cash places : ℕ) (s : List ℕ) → list_verdict t cash ≡ accept → length t.underlyings ≡ 8 → length t.contracts ≡ 64
    → run_by answer_with18 places s 0 (opened t cash) ≡ list_run t cash places s
list_same t cash places s accepted underlyings contracts =
    run_same places s 0 (opened t cash) (list_sound t cash underlyings contracts accepted) ∙ ap (λ (v : Verdict). list_by v t cash places s) (sym accepted)
