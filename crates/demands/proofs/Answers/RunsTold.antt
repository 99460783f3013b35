-- What follows from how a run is made: a record that can't be read ends it and no other does; every answer has a number that a run answers with; a refused list leaves both slices as they were, and what a run does not answer it leaves alone.
use mathlib.Core.Path.{◌≡◌, refl, sym, ap, subst, ◌∙◌}
use mathlib.Core.Bool.{Bool, true, false, cond}
use mathlib.Core.List.{List, [], ◌∷◌, map}
use Prim.Native.Nat.{ℕ, zero, suc, ◌+◌, ◌≤◌, ◌<◌}
use native.Mathlib.Omega.{arith}
use borrow.Author.Tests.{lt-ltb}
use lib.Dec.{ltb}
use lib.IntN.{ℤ}
use lib.ListN.{length, drop, take}
use Rattle.std.specs.Prelude.{Ok, Err}
use Rattle.terms.specs.Refusals.{number_of}
use Rattle.terms.specs.declared.refusal.Refusal.{Refusal}
use Rattle.entries.specs.declared.entry.Entry.{Entry}
use Rattle.entries.specs.declared.entry.Figures.{Figures}
use Rattle.reading.specs.Reading as reading
use Rattle.reading.specs.Reading.{kind_at, read_at}
use Rattle.reader.specs.Reader.{found_at}
use Rattle.reading.specs.declared.Answer.{Answer}
use Rattle.reading.specs.declared.Answer.TheVariants as Reading·of
use Rattle.reading.specs.declared.Reading.{Reading}
use Rattle.terms.specs.Verdicts.{number_in, accept}
use Rattle.terms.specs.Verdicts.{Verdict}
use Rattle.account.specs.declared.tables.Tables.{Tables}
use Rattle.set_up.specs.Stages.{Entered, entered, opened}
use Rattle.set_up.specs.declared.stages.Book.{Book}
use Rattle.set_up.proofs.Entering.{entered_verdict}
use Rattle.desk.specs.Runs.{Ran, ◌before◌, answer_by, answer_to, available_in, ended, list_by, run_from, stopped_at}
use Rattle.desk.specs.declared.Run.{Run}
use Rattle.desk.proofs.Started.{Leaves}
use Rattle.reading.proofs.Within.{Within, read_within}
use Rattle.demands.specs.Each.{Each, OneOf, run_numbers}
use Rattle.demands.specs.InOrder.{reading_tests}
use Rattle.demands.proofs.Answers.EntriesTold.{verdict_among}
use Rattle.demands.proofs.Answers.LentSlices.{beyond_answers, first_answers}
use Rattle.demands.proofs.Answers.PaperNumbers.{first_among}
use Rattle.demands.proofs.Answers.RecordsTold.{read_number}

answer_number : (b : Book) (s : List ℕ) (place : ℕ) → OneOf run_numbers (answer_to b (read_at s place)).number
unfolding answer_to
answer_number b s place = go (read_at s place).answer refl
  where
    f : Figures
    f = (read_at s place).figures

    go : (answer : Answer) → (read_at s place).answer ≡ answer → OneOf run_numbers (answer_by b f answer).number
    go (Reading·of.Found entry len) e = subst (λ (v : Verdict). OneOf run_numbers (number_in v)) (sym (entered_verdict b entry f)) (verdict_among b f entry)
    go (Reading·of.Refused why p) e =
        let rest = drop place s in
        let said = sym (read_number s place) ∙ ap reading.number_in e in
        subst (OneOf run_numbers) said (first_among run_numbers (reading_tests rest (kind_at rest)) refl search)

-- a run's answers, each with its number
abbrev AllNumbered : Ran → Type 0
AllNumbered run = Each (OneOf run_numbers) (map (λ answer. answer.0) run.answers)

pub run_numbers_lem : (places : ℕ) (s : List ℕ) (place : ℕ) (b : Book) → AllNumbered (run_from places s place b)
unfolding run_from
run_numbers_lem zero s place b = tt
run_numbers_lem (suc places) s place b =
    let answer = answer_to b (read_at s place) in
    go (ltb place (length s)) answer.ends _ (run_numbers_lem places s (found_at s place).next answer.book)
  where
    go : (there ends : Bool) (more : Ran) → AllNumbered more
        → let answer = answer_to b (read_at s place) in AllNumbered (cond there (answer before cond ends (stopped_at place answer.book) more) (ended place b))
    go false ends more rest = tt
    go true true more rest = (answer_number b s place, tt)
    go true false more rest = (answer_number b s place, rest)

pub list_run_numbers : (v : Verdict) (t : Tables) (cash n : ℕ) (s : List ℕ) → AllNumbered (list_by v t cash n s)
list_run_numbers (Ok tt) t cash n s = run_numbers_lem n s 0 (opened t cash)
list_run_numbers (Err why) t cash n s = tt

-- the answer to an entered record, before those of the rest
abbrev pub led : Entered → Ran → Ran
led after rest = record { answers = (number_in after.verdict, available_in after.book) ∷ rest.answers; place = rest.place; stopped = rest.stopped; book = rest.book }

-- "refusals 1 to 3 end the reading of a book": a record that can't be read is answered by such a number, and nothing follows
module _ (places : ℕ) (s : List ℕ) (place : ℕ) (b : Book) (there : place < length s) where
  pub unread_ends : (why : Refusal) (p : ℕ) → (read_at s place).answer ≡ Reading·of.Refused why p
      → (run_from (suc places) s place b ≡ record { answers = (number_of why, available_in b) ∷ []; place = place; stopped = true; book = b }) × ((1 ≤ number_of why) × (number_of why ≤ 3))
  unfolding run_from answer_to
  unread_ends why p e =
      (rw (lt-ltb place (length s) there, e) refl, subst (Within (length (drop place s))) e (read_within s place))

  -- "all others leave it able to go on", whatever the verdict on the entry is
  pub read_goes_on : (entry : Entry) (len : ℕ) → (read_at s place).answer ≡ Reading·of.Found entry len
      → let after = entered b entry (read_at s place).figures in run_from (suc places) s place b ≡ led after (run_from places s (place + len) after.book)
  unfolding run_from answer_to
  read_goes_on entry len e = rw (lt-ltb place (length s) there, e) refl

  -- the same, where the figures that were read are known too
  pub read_so : (entry : Entry) (len : ℕ) (f : Figures) → read_at s place ≡ record { answer = Reading·of.Found entry len; figures = f }
      → run_from (suc places) s place b ≡ led (entered b entry f) (run_from places s (place + len) (entered b entry f).book)
  read_so entry len f e =
      read_goes_on entry len (ap (λ (r : Reading). r.answer) e)
      ∙ ap (λ (r : Reading). led (entered b entry r.figures) (run_from places s (place + len) (entered b entry r.figures).book)) e

-- what both slices then hold, and what the caller is told
module _ (v : Verdict) (run : Ran) (r : Run) (numbers₀ numbers : List ℕ) (sums₀ sums : List ℤ) (left : Leaves v run r numbers₀ numbers sums₀ sums) where
  pub answered_numbers : AllNumbered run → Each (OneOf run_numbers) (take r.answered numbers)
  answered_numbers each =
      subst (λ (x : Run). Each (OneOf run_numbers) (take x.answered numbers)) (sym left.0) (subst (Each (OneOf run_numbers)) (sym (first_answers (λ answer. answer.0) run.answers numbers₀ numbers left.1.0)) each)

  pub beyond_answered : let k = r.answered in (drop k numbers ≡ drop k numbers₀) × (drop k sums ≡ drop k sums₀)
  beyond_answered =
      subst (λ (x : Run). let k = x.answered in (drop k numbers ≡ drop k numbers₀) × (drop k sums ≡ drop k sums₀)) (sym left.0)
      (beyond_answers (λ answer. answer.0) run.answers numbers₀ numbers left.1.0, beyond_answers (λ answer. answer.1) run.answers sums₀ sums left.1.1)

pub refused_list : (n : ℕ) (s : List ℕ) (r : Run) (numbers₀ numbers : List ℕ) (sums₀ sums : List ℤ) (v : Verdict) (t : Tables) (cash : ℕ)
    → Leaves v (list_by v t cash n s) r numbers₀ numbers sums₀ sums → (why : Refusal) → r.verdict ≡ Err why → (numbers ≡ numbers₀) × (sums ≡ sums₀) × (r.answered ≡ 0)
refused_list n s r numbers₀ numbers sums₀ sums (Ok tt) t cash left why refused =
    let accepted = ap (λ (run : Run). run.verdict) left.0 in
    let never : ◌≡◌ {A = ℕ} 0 1 = cc in
    absurd (omega arith)
refused_list n s r numbers₀ numbers sums₀ sums (Err other) t cash left why refused = (left.1.0, left.1.1, ap (λ (run : Run). run.answered) left.0)
