-- Every input gets an answer, by number: each public function is proved to meet its contract, which asks nothing, gives one of the paper's numbers, and where it refuses leaves what was lent as it was.
use mathlib.Core.Bool.{Bool, true, false, cond}
use mathlib.Core.List.{List, [], ◌∷◌}
use mathlib.Core.Path.{◌≡◌, refl, sym, ap, subst, ◌∙◌}
use Prim.Native.Nat.{ℕ}
use native.Mathlib.Omega.{arith}
use lib.Dec.{ltb}
use lib.IntN.{ℤ}
use lib.ListN.{drop, length, take}
use lib.Seq.{drop_at}
use Rattle.std.specs.Prelude.{Result, Ok, Err}
use Rattle.terms.specs.declared.refusal.Refusal.{Refusal}
use Rattle.terms.specs.declared.refusal.Refusal.TheVariants.{BufferTooShort, Misshapen}
use Rattle.rules.specs.Charges as charges
use Rattle.rules.proofs.margin.Met as margin_met
use Rattle.rules.proofs.margin.Reads as margin
use Rattle.rules.proofs.margin.Statement as margin_statement
use Rattle.rules.proofs.premium.Met as premium_met
use Rattle.rules.proofs.premium.Reads as premium
use Rattle.rules.proofs.premium.Statement as premium_statement
use Rattle.rules.proofs.net.Met as net_met
use Rattle.rules.proofs.net.Reads as net
use Rattle.rules.proofs.net.Statement as net_statement
use Rattle.entries.specs.declared.entry.Entry.{Entry}
use Rattle.reading.specs.Reading as reading
use Rattle.reading.specs.Reading.{kind_at, read_at}
use Rattle.reading.specs.declared.Reading.{Reading}
use Rattle.reading.proofs.read.Met as read_met
use Rattle.reading.proofs.read.Reads as read
use Rattle.reading.proofs.read.Statement as read_statement
use Rattle.reader.proofs.Reader.new.Met as new_met
use Rattle.reader.proofs.Reader.new.Statement as new_statement
use Rattle.reader.proofs.Reader.next.Met as next_met
use Rattle.reader.proofs.Reader.next.Statement as next_statement
use Rattle.reader.proofs.read_next.Met as read_next_met
use Rattle.reader.proofs.read_next.Reads as read_next
use Rattle.reader.proofs.read_next.Statement as read_next_statement
use Rattle.reader.specs.declared.Read.{Read}
use Rattle.writing.specs.Writing.{buffer_after, counts_barred, length_for, record_of, written_for}
use Rattle.writing.proofs.write.Met as write_met
use Rattle.writing.proofs.write.Reads as write
use Rattle.writing.proofs.write.Statement as write_statement
use Rattle.terms.specs.Verdicts.{number_in, accept}
use Rattle.rows.specs.Given.{list_verdict}
use Rattle.set_up.specs.Stages.{new_book}
use Rattle.desk.specs.Runs.{book_run, list_run, places_in, run_from}
use Rattle.desk.specs.declared.Run.{Run}
use Rattle.desk.proofs.run_book.Met as run_book_met
use Rattle.desk.proofs.run_book.Reads as run_book
use Rattle.desk.proofs.run_book.Statement as run_book_statement
use Rattle.archive.proofs.ravundesk_run_book.Met as ravundesk_run_book_met
use Rattle.archive.proofs.ravundesk_run_book.Reads as ravundesk_run_book
use Rattle.archive.proofs.ravundesk_run_book.Statement as ravundesk_run_book_statement
use Rattle.desk.proofs.run_list.Met as run_list_met
use Rattle.desk.proofs.run_list.Reads as run_list
use Rattle.desk.proofs.run_list.Statement as run_list_statement
use Rattle.desk.proofs.run_on.Reads as run_on
use Rattle.reader.proofs.Reader.new.Reads as new
use Rattle.reader.proofs.Reader.next.Reads as next
use Rattle.demands.specs.Each.{Each, OneOf, run_numbers}
use Rattle.demands.specs.InOrder.{list_tests, reading_tests, writing_tests}
use Rattle.demands.specs.Records.{Typed}
use Rattle.demands.proofs.Answers.EntriesTold.{list_number}
use Rattle.demands.proofs.Answers.PaperNumbers.{chosen, first_among}
use Rattle.demands.proofs.Answers.RecordsTold.{read_number, write_number, write_untouched}
use Rattle.demands.proofs.Answers.RunsTold.{answered_numbers, beyond_answered, list_run_numbers, run_numbers_lem, refused_list}
use Rattle.demands.proofs.Answers.Told.{margin_says, premium_says}
use Rattle.demands.proofs.Records.WrittenRead.{record_length}

-- "every input gets an answer": run on whatever its types allow, each public function ends in what its contract says
pub margin_answers : (M : Type 1) → margin_statement.statement M
margin_answers M = margin_met.met

pub premium_answers : (M : Type 1) → premium_statement.statement M
premium_answers M = premium_met.met

pub net_answers : (M : Type 1) → net_statement.statement M
net_answers M = net_met.met

pub read_answers : (M : Type 1) → read_statement.statement M
read_answers M = read_met.met

pub new_answers : (M : Type 1) → new_statement.statement M
new_answers M = new_met.met

pub next_answers : (M : Type 1) → next_statement.statement M
next_answers M = next_met.met

pub read_next_answers : (M : Type 1) → read_next_statement.statement M
read_next_answers M = read_next_met.met

pub write_answers : (M : Type 1) → write_statement.statement M
write_answers M = write_met.met

pub run_list_answers : (M : Type 1) → run_list_statement.statement M
run_list_answers M = run_list_met.met

pub run_book_answers : (M : Type 1) → run_book_statement.statement M
run_book_answers M = run_book_met.met

pub ravundesk_run_book_answers : (M : Type 1) → ravundesk_run_book_statement.statement M
ravundesk_run_book_answers M = ravundesk_run_book_met.met

-- "nobody has to check first"
pub margin_asks : (κs : _) (a : _) → margin.Pre κs a
margin_asks κs a = tt

pub premium_asks : (κs : _) (a : _) → premium.Pre κs a
premium_asks κs a = tt

pub net_asks : (κs : _) (a : _) → net.Pre κs a
net_asks κs a = tt

pub read_asks : (κs : _) (a : _) → read.Pre κs a
read_asks κs a = tt

pub new_asks : (κs : _) (a : _) → new.Pre κs a
new_asks κs a = tt

pub next_asks : (κs : _) (a : _) → next.Pre κs a
next_asks κs a = tt

pub read_next_asks : (κs : _) (a : _) → read_next.Pre κs a
read_next_asks κs a = tt

pub write_asks : (κs : _) (a : _) → write.Pre κs a
write_asks κs a = tt

pub run_list_asks : (κs : _) (a : _) → run_list.Pre κs a
run_list_asks κs a = tt

pub run_book_asks : (κs : _) (a : _) → run_book.Pre κs a
run_book_asks κs a = tt

pub ravundesk_run_book_asks : (κs : _) (a : _) → ravundesk_run_book.Pre κs a
ravundesk_run_book_asks κs a = tt

-- "refuses bad input by number"
charge_number : (allowed : Bool) (charge r : (Result ℕ Refusal)) → r ≡ charge → number_in charge ≡ cond allowed 0 4 → OneOf (0 ∷ 4 ∷ []) (number_in r)
charge_number allowed charge r e says = subst (OneOf (0 ∷ 4 ∷ [])) (sym (ap number_in e ∙ says)) (chosen (0 ∷ 4 ∷ []) allowed 0 4 refl refl)

pub margin_numbers : (κs : _) (a : _) (r : _) (s : _) → margin.Post κs a r s → OneOf (0 ∷ 4 ∷ []) (number_in r)
margin_numbers κs a r s p = charge_number (charges.margin_allowed a.1.1.0 a.1.1.1.0 a.1.1.1.1.0 a.1.1.1.1.1.0) _ r p (margin_says a.0 a.1.0 _ _ _ _).0

pub premium_numbers : (κs : _) (a : _) (r : _) (s : _) → premium.Post κs a r s → OneOf (0 ∷ 4 ∷ []) (number_in r)
premium_numbers κs a r s p = charge_number (charges.premium_allowed a.0 a.1.0) _ r p (premium_says a.0 a.1.0).0

read_among : (s : List ℕ) (place : ℕ) (r : Reading) → r ≡ read_at s place → OneOf (0 ∷ 1 ∷ 2 ∷ 3 ∷ []) (reading.number_in r.answer)
read_among s place r is =
    let rest = drop place s in
    let said = ap (λ (x : Reading). reading.number_in x.answer) is ∙ read_number s place in
    subst (OneOf (0 ∷ 1 ∷ 2 ∷ 3 ∷ [])) (sym said) (first_among (0 ∷ 1 ∷ 2 ∷ 3 ∷ []) (reading_tests rest (kind_at rest)) refl search)

pub read_numbers : (κs : _) (a : _) (r : _) (s : _) → read.Post κs a r s → OneOf (0 ∷ 1 ∷ 2 ∷ 3 ∷ []) (reading.number_in r.answer)
read_numbers κs a r s p = read_among a.0.now a.1.0 r p

pub next_numbers : (κs : _) (a : _) (r : _) (s : _) → next.Post κs a r s → OneOf (0 ∷ 1 ∷ 2 ∷ 3 ∷ []) (reading.number_in r.answer)
next_numbers κs a r s p = read_among a.0.now.bytes.now a.0.now.place r p.0

pub read_next_numbers : (κs : _) (a : _) (r : _) (s : _) → read_next.Post κs a r s → OneOf (0 ∷ 1 ∷ 2 ∷ 3 ∷ []) (reading.number_in r.reading.answer)
read_next_numbers κs a r s p = read_among a.0.now a.1.0 r.reading (ap (λ (x : Read). x.reading) p)

pub write_numbers : (κs : _) (a : _) (r : _) (s : _) → write.Post κs a r s → OneOf (0 ∷ 3 ∷ 17 ∷ []) (number_in r)
write_numbers κs a r s p =
    let said = ap number_in p.0 ∙ write_number a.0 (length a.1.1.0.now) in
    subst (OneOf (0 ∷ 3 ∷ 17 ∷ [])) (sym said) (first_among (0 ∷ 3 ∷ 17 ∷ []) (writing_tests a.0 (length a.1.1.0.now)) refl search)

pub list_verdict_numbers : (κs : _) (a : _) (r : _) (s : _) → run_list.Post κs a r s → OneOf (0 ∷ 4 ∷ 5 ∷ []) (number_in r.verdict)
list_verdict_numbers κs a r s p =
    let said = ap (λ (run : Run). number_in run.verdict) p.0 ∙ list_number a.0 a.1.0 in
    subst (OneOf (0 ∷ 4 ∷ 5 ∷ [])) (sym said) (first_among (0 ∷ 4 ∷ 5 ∷ []) (list_tests a.0 a.1.0) refl search)

pub book_verdict : (κs : _) (a : _) (r : _) (s : _) → run_book.Post κs a r s → r.verdict ≡ accept
book_verdict κs a r s p = ap (λ (run : Run). run.verdict) p.0

pub list_numbers : (κs : _) (a : _) (r : _) (s : _) → run_list.Post κs a r s → Each (OneOf run_numbers) (take r.answered s.1.1.1.0.now)
list_numbers κs a r s p = answered_numbers _ (list_run a.0 a.1.0 (places_in a.1.1.1.0.now a.1.1.1.1.0.now) a.1.1.0.now) r _ _ _ _ p (list_run_numbers (list_verdict a.0 a.1.0) a.0 a.1.0 _ _)

pub book_numbers : (κs : _) (a : _) (r : _) (s : _) → run_book.Post κs a r s → Each (OneOf run_numbers) (take r.answered s.1.0.now)
book_numbers κs a r s p = answered_numbers _ (book_run (places_in a.1.0.now a.1.1.0.now) a.0.now) r _ _ _ _ p (run_numbers_lem _ _ 0 new_book)

pub on_numbers : (κs : _) (a : _) (r : _) (s : _) → run_on.Post κs a r s → Each (OneOf run_numbers) (take r.answered s.1.1.1.0.now)
on_numbers κs a r s p = answered_numbers _ (run_from (places_in a.1.1.1.0.now a.1.1.1.1.0.now) a.1.0.now a.1.1.0 a.0) r _ _ _ _ p (run_numbers_lem _ _ _ _)

-- "and a refused entry changes neither the account nor one byte lent to us, except for the answer"
pub write_refused : (κs : _) (a : _) (r : _) (s : _) → write.Post κs a r s → (number_in r ≡ 0 → ⊥) → s.1.1.0.now ≡ a.1.1.0.now
write_refused κs a r s p refused = p.1 ∙ write_untouched r _ _ refused

-- the answer says how many bytes were written, and they are the record's
written_all : (entry : Entry) (size n : ℕ) → written_for entry size ≡ Ok n → (counts_barred entry ≡ false) × (n ≡ length_for entry)
unfolding written_for
written_all entry size n = go (counts_barred entry) (ltb size (length_for entry))
  where
    go : (barred short : Bool) → cond barred (Err Misshapen) (cond short (Err BufferTooShort) (Ok (length_for entry))) ≡ Ok n
        → (barred ≡ false) × (n ≡ length_for entry)
    go true short e = let never : ◌≡◌ {A = ℕ} 0 1 = cc in absurd (omega arith)
    go false true e = let never : ◌≡◌ {A = ℕ} 0 1 = cc in absurd (omega arith)
    go false false e = (refl, cc)

-- "else only the record's bytes"
pub write_rest : (κs : _) (a : _) (r : _) (s : _) → write.Post κs a r s → Typed a.0 a.1.0 → (n : ℕ) → r ≡ Ok n → drop n s.1.1.0.now ≡ drop n a.1.1.0.now
write_rest κs a r s p typed n e =
    let all = written_all a.0 (length a.1.1.0.now) n (sym p.0 ∙ e) in
    ap (drop n) (p.1 ∙ ap (λ (w : (Result ℕ Refusal)). buffer_after w (record_of a.0 a.1.0) a.1.1.0.now) e)
    ∙ drop_at (record_of a.0 a.1.0) _ n (record_length a.0 a.1.0 typed all.0 ∙ sym all.1)

-- a list that is refused whole
pub list_refused : (κs : _) (a : _) (r : _) (s : _) → run_list.Post κs a r s → (why : Refusal) → r.verdict ≡ Err why
    → let (numbers, sums) : List ℕ × List ℤ = (a.1.1.1.0.now, a.1.1.1.1.0.now) in
    let (numbers', sums') : List ℕ × List ℤ = (s.1.1.1.0.now, s.1.1.1.1.0.now) in
    (numbers' ≡ numbers) × (sums' ≡ sums) × (r.answered ≡ 0)
list_refused κs a r s p = refused_list _ _ r _ _ _ _ _ _ _ p

-- behind the answers every place is as it was lent
pub list_beyond : (κs : _) (a : _) (r : _) (s : _) → run_list.Post κs a r s
    → let (numbers, sums) : List ℕ × List ℤ = (a.1.1.1.0.now, a.1.1.1.1.0.now) in
    let (numbers', sums') : List ℕ × List ℤ = (s.1.1.1.0.now, s.1.1.1.1.0.now) in
    (drop r.answered numbers' ≡ drop r.answered numbers) × (drop r.answered sums' ≡ drop r.answered sums)
list_beyond κs a r s p = beyond_answered _ (list_run a.0 a.1.0 (places_in a.1.1.1.0.now a.1.1.1.1.0.now) a.1.1.0.now) r _ _ _ _ p

pub book_beyond : (κs : _) (a : _) (r : _) (s : _) → run_book.Post κs a r s
    → let (numbers, sums) : List ℕ × List ℤ = (a.1.0.now, a.1.1.0.now) in
    let (numbers', sums') : List ℕ × List ℤ = (s.1.0.now, s.1.1.0.now) in
    (drop r.answered numbers' ≡ drop r.answered numbers) × (drop r.answered sums' ≡ drop r.answered sums)
book_beyond κs a r s p = beyond_answered _ (book_run (places_in a.1.0.now a.1.1.0.now) a.0.now) r _ _ _ _ p
