-- Books written from alike entries are alike: alike entries have one kind, so their records have one length and both books' records begin at the same places; a run goes from record to record, and there each book reads its own entry back; behind the last record none is read.
use mathlib.Core.List.{List, [], ◌∷◌, ◌++◌, append_assoc}
use mathlib.Core.Path.{◌≡◌, refl, sym, ap, subst, ◌∙◌}
use Prim.Native.Nat.{ℕ, zero, suc}
use native.Mathlib.Omega.{arith}
use lib.ListN.{length, drop, length-append}
use lib.Seq.{drop-append_seam}
use Rattle.entries.specs.declared.entry.Entry.{Entry}
use Rattle.entries.specs.declared.entry.Figures.{Figures}
use Rattle.reading.specs.Reading.{read_at}
use Rattle.reading.specs.declared.Answer.TheVariants.{Found}
use Rattle.set_up.specs.Stages.{entered, new_book}
use Rattle.set_up.specs.declared.stages.Book.{Book}
use Rattle.desk.specs.Runs.{Ran, run_from}
use Rattle.desk.proofs.Turns.{no_byte}
use Rattle.reading.proofs.Within.{Within, read_within}
use Rattle.writing.specs.Writing.{length_for, record_of}
use Rattle.demands.specs.Each.{Each, EachPair}
use Rattle.demands.specs.GiftRuns.{Alike, AlikeRecord, BooksAlike, ReadAlike, higher, more, same}
use Rattle.demands.specs.Records.{Carried, records_of}
use Rattle.demands.proofs.Entries.ListOfRecords.{carried_goes_on, carried_read, read_of}
use Rattle.demands.proofs.Records.WrittenRead.{record_length}

-- alike entries are of one kind, and a day end is the same in both
alike_length : {X : ℕ} {entry entry' : Entry} → Alike X entry entry' → length_for entry' ≡ length_for entry
alike_length (higher p q roomier allowed) = refl
alike_length (more cash) = refl
alike_length (same entry listed) = refl

read_alike : {X : ℕ} (e e' : Entry × Figures) → AlikeRecord X e e' → ReadAlike X (read_of e.0 e.1) (read_of e'.0 e'.1)
read_alike {X} e e' (alike, figures) entry len found =
    let entries : e.0 ≡ entry = cc in
    let lengths : length_for e'.0 ≡ len = alike_length alike ∙ (cc) in
    (e'.0, subst (λ (x : Entry). Alike X x e'.0) entries alike, λ i. record { answer = Found e'.0 (lengths i); figures = figures i })

-- behind the last byte nothing is found: a record has at least 4 bytes
end_unread : (before : List ℕ) (entry : Entry) (len : ℕ) → (read_at (before ++ []) (length before)).answer ≡ Found entry len → ⊥
end_unread before entry len found =
    let within = subst (Within (length (drop (length before) (before ++ [])))) found (read_within (before ++ []) (length before)) in
    omega (arith, within.0, within.1, ap length (drop-append_seam before []))

module _ (X : ℕ) where
  -- as long as the lengths say
  record_sizes : (e e' : Entry × Figures) → Carried e.0 e.1 → Carried e'.0 e'.1 → AlikeRecord X e e' → length (record_of e'.0 e'.1) ≡ length (record_of e.0 e.1)
  record_sizes e e' carried carried' alike =
      record_length e'.0 e'.1 carried'.typed carried'.counts ∙ alike_length alike.0 ∙ sym (record_length e.0 e.1 carried.typed carried.counts)

  -- where the first book's run stands after k answers, the bytes before these entries being as many in both
  alike_from : (k : ℕ) (before before' : List ℕ) (b : Book) (entries entries' : List (Entry × Figures)) → length before' ≡ length before
      → Each (λ e. Carried e.0 e.1) entries → Each (λ e. Carried e.0 e.1) entries' → EachPair (AlikeRecord X) entries entries'
      → let s = before ++ records_of entries in
      let at = (run_from k s (length before) b).place in
      ReadAlike X (read_at s at) (read_at (before' ++ records_of entries') at)
  unfolding run_from
  alike_from k before before' b [] [] level carried carried' alike =
      let ended = no_byte (before ++ []) (length before) b k (omega (arith, length-append before [])) in
      subst (λ (r : Ran). ReadAlike X (read_at (before ++ []) r.place) (read_at (before' ++ []) r.place)) (sym ended) (λ entry len found. absurd (end_unread before entry len found))
  alike_from k before before' b [] (e' ∷ es') level carried carried' alike = elim alike [ ]
  alike_from zero before before' b (e ∷ es) [] level carried carried' alike = elim alike [ ]
  alike_from (suc k) before before' b (e ∷ es) [] level carried carried' alike = elim alike [ ]
  alike_from zero before before' b (e ∷ es) (e' ∷ es') level carried carried' alike =
      let second = ap (read_at (before' ++ records_of (e' ∷ es'))) (sym level) ∙ carried_read before' e' es' carried'.0 in
      rw (carried_read before e es carried.0, second) (read_alike e e' alike.0)
  alike_from (suc k) before before' b (e ∷ es) (e' ∷ es') level carried carried' alike =
      let (record₀, record₁) : List ℕ × List ℕ = (record_of e.0 e.1, record_of e'.0 e'.1) in
      let level' : length (before' ++ record₁) ≡ length (before ++ record₀) = omega (arith, length-append before record₀, length-append before' record₁, record_sizes e e' carried.0 carried'.0 alike.0) in
      let rest = alike_from k (before ++ record₀) (before' ++ record₁) (entered b e.0 e.1).book es es' level' carried.1 carried'.1 alike.1 in
      rw (carried_goes_on before e es carried.0 k b, ← append_assoc before record₀ (records_of es), ← append_assoc before' record₁ (records_of es')) rest

  -- hence both books are of one size
  alike_size : (entries entries' : List (Entry × Figures)) → Each (λ e. Carried e.0 e.1) entries → Each (λ e. Carried e.0 e.1) entries'
      → EachPair (AlikeRecord X) entries entries' → length (records_of entries') ≡ length (records_of entries)
  alike_size [] [] carried carried' alike = refl
  alike_size [] (e' ∷ es') carried carried' alike = elim alike [ ]
  alike_size (e ∷ es) [] carried carried' alike = elim alike [ ]
  alike_size (e ∷ es) (e' ∷ es') carried carried' alike =
      let (record₀, record₁) : List ℕ × List ℕ = (record_of e.0 e.1, record_of e'.0 e'.1) in
      let rest = alike_size es es' carried.1 carried'.1 alike.1 in
      omega (arith, rest, length-append record₀ (records_of es), length-append record₁ (records_of es'), record_sizes e e' carried.0 carried'.0 alike.0)

  pub written_alike : (entries entries' : List (Entry × Figures)) → Each (λ e. Carried e.0 e.1) entries → Each (λ e. Carried e.0 e.1) entries'
      → EachPair (AlikeRecord X) entries entries' → BooksAlike X (records_of entries) (records_of entries')
  written_alike entries entries' carried carried' alike = record {
    size = alike_size entries entries' carried carried' alike;
    records = λ k. alike_from k [] [] new_book entries entries' refl carried carried' alike;
  }
