-- Two runs that read alike go side by side: turn by turn the second accepts what the first accepts, so both books stay abreast after each answer and both runs end together.
use mathlib.Core.Path.{◌≡◌, refl, ap, subst}
use mathlib.Core.List.{List, map}
use Prim.Native.Nat.{ℕ, zero, suc, ◌+◌, ◌≤◌, ◌<◌}
use native.Mathlib.Decide.{dec_lt}
use native.Mathlib.Omega.{arith}
use lib.ListN.{length}
use Rattle.std.specs.Prelude.{Ok, Err}
use Rattle.terms.proofs.Refusals.{some_number}
use Rattle.entries.specs.declared.entry.Entry.{Entry}
use Rattle.reading.specs.Reading.{read_at}
use Rattle.reading.specs.declared.Answer.{Answer}
use Rattle.reading.specs.declared.Answer.TheVariants as Answer·of
use Rattle.terms.specs.Verdicts.{number_in, accept}
use Rattle.terms.specs.Verdicts.{Verdict}
use Rattle.set_up.specs.Stages.{Entered, entered}
use Rattle.set_up.specs.declared.stages.Book.{Book}
use Rattle.desk.specs.Runs.{Ran, ended, run_from}
use Rattle.desk.proofs.Turns.{no_byte}
use Rattle.demands.specs.Each.{Each}
use Rattle.demands.specs.GiftRuns.{Alike}
use Rattle.demands.proofs.Answers.RunsTold.{led, read_goes_on, read_so, unread_ends}
use Rattle.demands.proofs.Gift.BooksBeside.{Abreast, Room, entered_onward}

-- no refusal has the number 0
accepted_number : (v : Verdict) → number_in v ≡ 0 → v ≡ accept
accepted_number (Ok tt) e = refl
accepted_number (Err why) e = absurd (omega (arith, some_number why, e))

-- the numbers of the answers are all 0
abbrev pub AllAccepted : Ran → Type 0
AllAccepted r = Each (λ number. number ≡ 0) (map (λ answer. answer.0) r.answers)

-- a run beside the first's
pub record InStep (X : ℕ) (first second : Ran) : Type 0 where
  pub answered : length second.answers ≡ length first.answers
  pub place : second.place ≡ first.place
  pub all : AllAccepted second
  pub abreast : Abreast X first.book second.book

-- the same of runs that equal these
pub both_so : {X : ℕ} {first second first' second' : Ran} → first ≡ first' → second ≡ second' → InStep X first' second' → InStep X first second
both_so e e' so = rw (e, e') so

-- where there is nothing to answer
at_once : {X : ℕ} {place : ℕ} {b b' : Book} → Abreast X b b' → InStep X (ended place b) (ended place b')
at_once abreast = record { answered = refl; place = refl; all = tt; abreast = abreast }

-- where the first run stands at a place with a book, the second reads what the first accepts alike, and so from the place behind it on; how it stands differs between a list and a book
abbrev pub ReadsOn : ℕ → List ℕ → List ℕ → (ℕ → Book → Type 0) → Type 0
ReadsOn X s s' Stands =
    (place : ℕ) (b : Book) (entry : Entry) (len : ℕ) → let f = (read_at s place).figures in
    Stands place b → place < length s → (read_at s place).answer ≡ Answer·of.Found entry len → (entered b entry f).verdict ≡ accept
    → (entry' : Entry) × Alike X entry entry' × (read_at s' place ≡ record { answer = Answer·of.Found entry' len; figures = f }) × Stands (place + len) (entered b entry f).book

-- one answer more, the second's 0
led_on : {X : ℕ} {rest rest' : Ran} (after after' : Entered) → after'.verdict ≡ accept → InStep X rest rest' → InStep X (led after rest) (led after' rest')
led_on after after' accepted so = record { answered = ap suc so.answered; place = so.place; all = (ap number_in accepted, so.all); abreast = so.abreast }

module _ (X : ℕ) (s s' : List ℕ) (size : length s' ≡ length s) (Stands : ℕ → Book → Type 0) (reads : ReadsOn X s s' Stands) where
  -- the runs with k places, where all answers of the first with n places are 0
  abbrev Together : ℕ → ℕ → Type 0
  Together k n =
      (place : ℕ) (b b' : Book) → Stands place b → Abreast X b b' → AllAccepted (run_from n s place b)
      → ((i : ℕ) → i ≤ length (run_from n s place b).answers → Room X (run_from i s place b).book) → InStep X (run_from k s place b) (run_from k s' place b')

  module _ (k n : ℕ) (again : Together k n) (place : ℕ) (b b' : Book) (stands : Stands place b) (abreast : Abreast X b b') (all : AllAccepted (run_from (suc n) s place b))
      (room : (i : ℕ) → i ≤ length (run_from (suc n) s place b).answers → Room X (run_from i s place b).book) where
    read_on : place < length s → (entry : Entry) (len : ℕ) → (read_at s place).answer ≡ Answer·of.Found entry len → InStep X (run_from (suc k) s place b) (run_from (suc k) s' place b')
    unfolding run_from
    read_on there entry len e =
        let f = (read_at s place).figures in
        let after = entered b entry f in
        let on : (places : ℕ) → run_from (suc places) s place b ≡ led after (run_from places s (place + len) after.book) = λ places. read_goes_on places s place b there entry len e in
        let answered = subst (λ (r : Ran). AllAccepted r) (on n) all in
        let accepted = accepted_number after.verdict answered.0 in
        let next = reads place b entry len stands there e accepted in
        let many : length (run_from (suc n) s place b).answers ≡ suc (length (run_from n s (place + len) after.book).answers) = ap (λ (r : Ran). length r.answers) (on n) in
        let too = entered_onward X b b' f abreast entry next.0 next.1 accepted (subst (λ (r : Ran). Room X r.book) (on 0) (room 1 (omega (arith, many)))) in
        let rest = again (place + len) after.book (entered b' next.0 f).book next.3 too.1 answered.1 (λ i few. subst (λ (r : Ran). Room X r.book) (on i) (room (suc i) (omega (arith, many, few)))) in
        let step = led_on after (entered b' next.0 f) too.0 rest in
        let there' : place < length s' = omega arith in
        both_so (on k) (read_so k s' place b' there' next.0 len f next.2) step

    one_more : InStep X (run_from (suc k) s place b) (run_from (suc k) s' place b')
    one_more =
        elim (dec_lt place (length s)) [
          | no none ↦ both_so (no_byte s place b (suc k) (omega arith)) (no_byte s' place b' (suc k) (omega arith)) (at_once abreast)
          | yes there ↦ read (read_at s place).answer refl there
        ]
      where
        read : (answer : Answer) → (read_at s place).answer ≡ answer → place < length s → InStep X (run_from (suc k) s place b) (run_from (suc k) s' place b')
        read (Answer·of.Found entry len) e there = read_on there entry len e
        read (Answer·of.Refused why p) e there =
            let ends = unread_ends n s place b there why p e in
            let nought = subst (λ (r : Ran). AllAccepted r) ends.0 all in
            absurd (omega (arith, nought.0, ends.1.0))

  pub together : (k n : ℕ) → k ≤ n → Together k n
  unfolding run_from
  together zero n few = λ place b b' stands abreast all room. at_once abreast
  together (suc k) zero few = absurd (omega arith)
  together (suc k) (suc n) few = one_more k n (together k n (omega arith))
