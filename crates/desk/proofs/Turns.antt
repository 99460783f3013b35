-- A run turn by turn: each answer takes the next place of both slices and the rest of the run follows, so what is written so far and the rest together are the whole run.
use mathlib.Core.Path.{◌≡◌, refl, sym, ap, subst, ◌∙◌}
use mathlib.Core.Bool.{Bool, true, false, cond, ◌&&◌}
use mathlib.Core.Logic.{◌⊎◌, inl, inr}
use mathlib.Core.List.{List, [], map, ◌++◌}
use Prim.Native.Nat.{ℕ, zero, suc, ◌+◌, ◌-◌, ◌≤◌, ◌<◌, min}
use native.Mathlib.Numerals.{add-one}
use native.Mathlib.Omega.{arith}
use borrow.Author.Tests.{lt-ltb, le-ltb, ltb-true, ltb-false}
use lib.Dec.{ltb}
use lib.IntN.{ℤ}
use lib.ListN.{length, length-map, set, take, drop}
use lib.Seq.{sets, sets-eq, length-sets}
use Rattle.terms.proofs.Ranges.{first_holds, second_holds}
use Rattle.reading.specs.Reading.{read_at}
use Rattle.reader.specs.Reader.{found_at}
use Rattle.terms.specs.Verdicts.{Verdict}
use Rattle.set_up.specs.declared.stages.Book.{Book}
use Rattle.desk.specs.Runs.{Answered, Ran, answer_to, ended, stopped_at, ◌before◌, run_from, told, numbers_left, sums_left}

-- what follows an answer
abbrev pub rest : List ℕ → ℕ → ℕ → Answered → Ran
rest s place places answer = cond answer.ends (stopped_at place answer.book) (run_from places s (found_at s place).next answer.book)

module _ (s : List ℕ) (place : ℕ) (b : Book) where
  pub no_byte : (places : ℕ) → length s ≤ place → run_from places s place b ≡ ended place b
  unfolding run_from
  no_byte zero h = refl
  no_byte (suc places) h = rw (le-ltb place (length s) h) refl

  all_done : (places k : ℕ) → (places ≤ k) ⊎ (length s ≤ place) → run_from (places - k) s place b ≡ ended place b
  unfolding run_from
  all_done places k (inl none) = let gone : places - k ≡ 0 = omega (arith, none) in ap (λ (n : ℕ). run_from n s place b) gone
  all_done places k (inr none) = no_byte (places - k) none

  pub turn : (places : ℕ) → place < length s → run_from (suc places) s place b ≡ (answer_to b (read_at s place) before rest s place places (answer_to b (read_at s place)))
  unfolding run_from
  turn places h = rw (lt-ltb place (length s) h) refl

-- the slices hold the first k answers of the whole run, and the others are still to come
pub record Stands (whole rest : Ran) (k : ℕ) (numbers₀ numbers : List ℕ) (sums₀ sums : List ℤ) : Type 0 where
  pub answered : length whole.answers ≡ k + length rest.answers
  pub place : whole.place ≡ rest.place
  pub stopped : whole.stopped ≡ rest.stopped
  pub book : whole.book ≡ rest.book
  pub numbers_laid : sets numbers₀ 0 (map (λ answer. answer.0) whole.answers) ≡ sets numbers k (map (λ answer. answer.0) rest.answers)
  pub sums_laid : sets sums₀ 0 (map (λ answer. answer.1) whole.answers) ≡ sets sums k (map (λ answer. answer.1) rest.answers)

as_long : {A : Type 0} (lent now : List A) (k : ℕ) (all more : List A) → sets lent 0 all ≡ sets now k more → length now ≡ length lent
as_long lent now k all more e = sym (length-sets now k more) ∙ sym (ap length e) ∙ length-sets lent 0 all

module _ (whole : Ran) (k : ℕ) (numbers₀ numbers : List ℕ) (sums₀ sums : List ℤ) where
  one_turn : (answer : Answered) (more : Ran) → Stands whole (answer before more) k numbers₀ numbers sums₀ sums
      → Stands whole more (k + 1) numbers₀ (set numbers k answer.number) sums₀ (set sums k answer.available)
  one_turn answer more so =
      record {
        answered = omega (arith, so.answered);
        place = so.place;
        stopped = so.stopped;
        book = so.book;
        numbers_laid = so.numbers_laid ∙ ap (λ (i : ℕ). sets (set numbers k answer.number) i (map (λ said. said.0) more.answers)) (sym (add-one k));
        sums_laid = so.sums_laid ∙ ap (λ (i : ℕ). sets (set sums k answer.available) i (map (λ said. said.1) more.answers)) (sym (add-one k));
      }

  -- the same of a run from a place on, with so many places for answers
  module _ (s : List ℕ) (place : ℕ) (b : Book) (places : ℕ) (answer : Answered) (is : answer ≡ answer_to b (read_at s place)) where
    pub turned : k < places → place < length s → Stands whole (run_from (places - k) s place b) k numbers₀ numbers sums₀ sums
        → Stands whole (rest s place (places - (k + 1)) answer) (k + 1) numbers₀ (set numbers k answer.number) sums₀ (set sums k answer.available)
    turned few there so =
        let one : places - k ≡ suc (places - (k + 1)) = omega (arith, few) in
        let next = places - (k + 1) in
        let run : run_from (places - k) s place b ≡ (answer before rest s place next answer) =
        ap (λ (n : ℕ). run_from n s place b) one ∙ turn s place b next there ∙ ap (λ (x : Answered). x before rest s place next x) (sym is) in
        one_turn answer (rest s place next answer) (subst (λ (r : Ran). Stands whole r k numbers₀ numbers sums₀ sums) run so)

  -- where the run ends with the answer, where it goes on, and where no place or no byte is left
  pub stopped_so : (s : List ℕ) (place places : ℕ) (answer : Answered) → answer.ends ≡ true
      → Stands whole (rest s place places answer) k numbers₀ numbers sums₀ sums → Stands whole (stopped_at place answer.book) k numbers₀ numbers sums₀ sums
  stopped_so s place places answer e =
      subst (λ (ends : Bool). Stands whole (cond ends (stopped_at place answer.book) (run_from places s (found_at s place).next answer.book)) k numbers₀ numbers sums₀ sums) e

  pub goes_so : (s : List ℕ) (place places : ℕ) (answer : Answered) → answer.ends ≡ false
      → Stands whole (rest s place places answer) k numbers₀ numbers sums₀ sums → Stands whole (run_from places s (found_at s place).next answer.book) k numbers₀ numbers sums₀ sums
  goes_so s place places answer e =
      subst (λ (ends : Bool). Stands whole (cond ends (stopped_at place answer.book) (run_from places s (found_at s place).next answer.book)) k numbers₀ numbers sums₀ sums) e

  pub done_so : (s : List ℕ) (place : ℕ) (b : Book) (places : ℕ) → (places ≤ k) ⊎ (length s ≤ place)
      → Stands whole (run_from (places - k) s place b) k numbers₀ numbers sums₀ sums → Stands whole (ended place b) k numbers₀ numbers sums₀ sums
  done_so s place b places none = subst (λ (r : Ran). Stands whole r k numbers₀ numbers sums₀ sums) (all_done s place b places k none)

  pub same_lengths : (more : Ran) → Stands whole more k numbers₀ numbers sums₀ sums → (length numbers ≡ length numbers₀) × (length sums ≡ length sums₀)
  same_lengths more so =
      (as_long numbers₀ numbers k (map (λ said. said.0) whole.answers) (map (λ said. said.0) more.answers) so.numbers_laid, as_long sums₀ sums k (map (λ said. said.1) whole.answers) (map (λ said. said.1) more.answers) so.sums_laid)

  -- what is left in a slice when the run has ended
  laid : {A : Type 0} (lent : List A) (said : ℕ × ℤ → A) → length whole.answers ≤ length lent
      → sets lent 0 (map said whole.answers) ≡ map said whole.answers ++ drop (length whole.answers) lent
  laid lent said few =
      let many = length-map whole.answers said in
      let all : 0 + length (map said whole.answers) ≡ length whole.answers = omega (arith, many) in
      sets-eq (map said whole.answers) lent 0 (omega (arith, few, many)) ∙ ap (λ (n : ℕ). take 0 lent ++ map said whole.answers ++ drop n lent) all

  module _ (place : ℕ) (stops : Bool) (b : Book) (so : Stands whole (record { answers = []; place = place; stopped = stops; book = b }) k numbers₀ numbers sums₀ sums) where
    pub at_end : (v : Verdict) → record { verdict = v; answered = k; place = place; stopped = stops; book = b } ≡ told v whole
    at_end v i = record { verdict = v; answered = count i; place = sym so.place i; stopped = sym so.stopped i; book = sym so.book i }
      where
        count : k ≡ length whole.answers
        count = omega (arith, so.answered)

    pub numbers_left_lem : k ≤ length numbers₀ → numbers ≡ numbers_left whole numbers₀
    numbers_left_lem few = sym so.numbers_laid ∙ laid numbers₀ (λ said. said.0) (omega (arith, few, so.answered))

    pub sums_left_lem : k ≤ length sums₀ → sums ≡ sums_left whole sums₀
    sums_left_lem few = sym so.sums_laid ∙ laid sums₀ (λ said. said.1) (omega (arith, few, so.answered))

-- the loop's test: a place in each slice, and a byte
module _ (k a b place size : ℕ) where
  pub goes_on : ((ltb k a && ltb k b) && ltb place size) ≡ true → (k < a) × (k < b) × (place < size)
  goes_on h =
      let places = first_holds (ltb k a && ltb k b) (ltb place size) h in
      (ltb-true k a (first_holds (ltb k a) (ltb k b) places), ltb-true k b (second_holds (ltb k a) (ltb k b) places), ltb-true place size (second_holds (ltb k a && ltb k b) (ltb place size) h))

  pub stops : ((ltb k a && ltb k b) && ltb place size) ≡ false → (min a b ≤ k) ⊎ (size ≤ place)
  stops h = go (ltb k a) refl (ltb k b) refl h
    where
      go : (p : Bool) → ltb k a ≡ p → (q : Bool) → ltb k b ≡ q → ((p && q) && ltb place size) ≡ false → (min a b ≤ k) ⊎ (size ≤ place)
      go false e q e' h = inl (omega (arith, ltb-false k a e))
      go true e false e' h = inl (omega (arith, ltb-false k b e'))
      go true e true e' h = inr (ltb-false place size h)
