-- A place for each byte is enough: every record that is read takes one at least, so a run with that many places ends for want of bytes or with a record that can't be read, and more places change nothing.
use mathlib.Core.Path.{◌≡◌, refl, sym, ap, ◌∙◌}
use mathlib.Core.Bool.{Bool, true, false, cond, true≢false}
use mathlib.Core.List.{List, append-nil}
use mathlib.Core.Logic.{◌⊎◌, ⊎_elim, inl, inr}
use Prim.Native.Nat.{ℕ, zero, suc, ◌+◌, ◌≤◌}
use native.Mathlib.Omega.{arith}
use borrow.Author.Tests.{ltb-false}
use lib.Dec.{ltb}
use lib.ListN.{length}
use Rattle.reading.specs.Reading.{read_at}
use Rattle.reader.specs.Reader.{found_at}
use Rattle.set_up.specs.declared.stages.Book.{Book}
use Rattle.desk.specs.Runs.{Ran, ◌before◌, answer_to, ended, run_from, stopped_at}
use Rattle.desk.proofs.Answered.{answer_moves}
use Rattle.desk.proofs.Onward.{◌onward◌, goes_onward}
use Rattle.desk.proofs.Turns.{no_byte}

-- a run that did not stop has moved by a byte at least with each answer, and has no byte or no place left
pub record Went (s : List ℕ) (place places : ℕ) (r : Ran) : Type 0 where
  pub moved : place + length r.answers ≤ r.place
  pub used : (length s ≤ r.place) ⊎ (length r.answers ≡ places)

pub went : (places : ℕ) (s : List ℕ) (place : ℕ) (b : Book) → (run_from places s place b).stopped ≡ false → Went s place places (run_from places s place b)
unfolding run_from
went zero s place b = λ on. record { moved = omega arith; used = inr refl }
went (suc places) s place b =
    let answer = answer_to b (read_at s place) in
    go (ltb place (length s)) refl answer.ends refl _ (went places s (found_at s place).next answer.book)
  where
    go : (there : Bool) → ltb place (length s) ≡ there → (ends : Bool) → (answer_to b (read_at s place)).ends ≡ ends → (more : Ran) → (more.stopped ≡ false → Went s (found_at s place).next places more)
        → let answer = answer_to b (read_at s place) in
        let whole = cond there (answer before cond ends (stopped_at place answer.book) more) (ended place b) in
        whole.stopped ≡ false → Went s place (suc places) whole
    go false none ends e more rest on = record { moved = omega arith; used = inl (ltb-false place (length s) none) }
    go true there true e more rest on = absurd (true≢false on)
    go true there false e more rest on =
        let so = rest on in
        record { moved = omega (arith, so.moved, answer_moves b s place e); used = ⊎_elim inl (λ all. inr (ap suc all)) so.used }

more_change_nothing : (places more : ℕ) (s : List ℕ) (place : ℕ) (b : Book) → length s ≤ place + places → run_from (places + more) s place b ≡ run_from places s place b
more_change_nothing places more s place b few = goes_onward places more s place b ∙ go (run_from places s place b).stopped refl
  where
    whole : Ran
    whole = run_from places s place b

    next : Ran
    next = run_from more s whole.place whole.book

    none_left : whole.stopped ≡ false → length s ≤ whole.place
    none_left on = let so = went places s place b on in ⊎_elim (λ none. none) (λ all. omega (arith, all, so.moved, few)) so.used

    go : (stops : Bool) → whole.stopped ≡ stops → (whole onward run_from more s) ≡ whole
    go true e = rw e refl
    go false e =
        let ends = no_byte s whole.place whole.book more (none_left e) in
        rw (e, ends) (λ i. record { answers = append-nil whole.answers i; place = whole.place; stopped = false; book = whole.book })

-- any two numbers of places that are enough give the same run
pub enough : (places others : ℕ) (s : List ℕ) (place : ℕ) (b : Book) → length s ≤ place + places → length s ≤ place + others → run_from places s place b ≡ run_from others s place b
enough places others s place b few fewer =
    let same : places + others ≡ others + places = omega arith in
    sym (more_change_nothing places others s place b few)
    ∙ ap (λ (n : ℕ). run_from n s place b) same
    ∙ more_change_nothing others places s place b fewer

-- and a run gives no more answers than there are places
pub few_answers : (places : ℕ) (s : List ℕ) (place : ℕ) (b : Book) → length (run_from places s place b).answers ≤ places
unfolding run_from
few_answers zero s place b = omega arith
few_answers (suc places) s place b =
    let answer = answer_to b (read_at s place) in
    go (ltb place (length s)) answer.ends (few_answers places s (found_at s place).next answer.book)
  where
    go : (there ends : Bool) → length (run_from places s (found_at s place).next (answer_to b (read_at s place)).book).answers ≤ places
        → let answer = answer_to b (read_at s place) in
        length (cond there (answer before cond ends (stopped_at place answer.book) (run_from places s (found_at s place).next answer.book)) (ended place b)).answers ≤ suc places
    go false ends few = omega arith
    go true true few = omega arith
    go true false few = omega (arith, few)
