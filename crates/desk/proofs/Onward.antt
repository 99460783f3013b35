-- A run goes on where it stands: with m places and n more it is the run with m places and, unless that one stopped, the run with n places from where it stands and with its book. Turn by turn, since each answer stands before both; and each turn leaves a sound book.
use mathlib.Core.Path.{◌≡◌, refl, sym, ap, ◌∙◌}
use mathlib.Core.Bool.{Bool, true, false, cond}
use mathlib.Core.List.{List, ◌++◌}
use Prim.Native.Nat.{ℕ, zero, suc, ◌+◌}
use native.Mathlib.Decide.{dec_lt}
use native.Mathlib.Omega.{arith}
use lib.Dec.{ltb}
use lib.ListN.{length}
use Rattle.reading.specs.Reading.{read_at}
use Rattle.reader.specs.Reader.{found_at}
use Rattle.set_up.specs.Sound.{SoundBook}
use Rattle.set_up.specs.declared.stages.Book.{Book}
use Rattle.desk.specs.Runs.{Answered, Ran, ◌before◌, answer_to, ended, run_from, stopped_at}
use Rattle.desk.proofs.Answered.{answer_sound}
use Rattle.desk.proofs.Turns.{no_byte, rest, turn}

infixr 5 ◌joined◌
-- two runs as one: the answers of both, and where the second then stands
abbrev pub ◌joined◌ : Ran → Ran → Ran
first joined more = record { answers = first.answers ++ more.answers; place = more.place; stopped = more.stopped; book = more.book }

infixr 4 ◌onward◌
-- a run and what follows it: nothing where it stopped, else what runs from where it stands and with its book
abbrev pub ◌onward◌ : Ran → (ℕ → Book → Ran) → Ran
first onward next = cond first.stopped first (first joined next first.place first.book)

-- an answer before a run stands before what follows it too
answer_first : (answer : Answered) (first : Ran) (next : ℕ → Book → Ran) → ((answer before first) onward next) ≡ (answer before (first onward next))
answer_first answer first next = go first.stopped (next first.place first.book)
  where
    go : (stops : Bool) (more : Ran) → cond stops (answer before first) ((answer before first) joined more) ≡ (answer before cond stops first (first joined more))
    go true more = refl
    go false more = refl

pub goes_onward : (m n : ℕ) (s : List ℕ) (place : ℕ) (b : Book) → run_from (m + n) s place b ≡ (run_from m s place b onward run_from n s)
unfolding run_from
goes_onward zero n s place b = let all : zero + n ≡ n = omega arith in ap (λ (k : ℕ). run_from k s place b) all
goes_onward (suc m) n s place b =
    elim (dec_lt place (length s)) [
      | no none ↦
          no_byte s place b (suc m + n) (omega (arith, none))
          ∙ sym (no_byte s place b n (omega (arith, none)))
          ∙ ap (λ (r : Ran). r onward run_from n s) (sym (no_byte s place b (suc m) (omega (arith, none))))
      | yes there ↦
          let answer = answer_to b (read_at s place) in
          let one_more : suc m + n ≡ suc (m + n) = omega arith in
          ap (λ (k : ℕ). run_from k s place b) one_more
          ∙ turn s place b (m + n) there
          ∙ ap (λ (r : Ran). answer before r) (go answer answer.ends (goes_onward m n s (found_at s place).next answer.book))
          ∙ sym (answer_first answer (rest s place m answer) (run_from n s))
          ∙ ap (λ (r : Ran). r onward run_from n s) (sym (turn s place b m there))
    ]
  where
    go : (answer : Answered) (ends : Bool)
        → let more : ℕ → Ran = λ places. run_from places s (found_at s place).next answer.book in
        let next : Ran → Ran = λ r. cond ends (stopped_at place answer.book) r in
        more (m + n) ≡ (more m onward run_from n s) → next (more (m + n)) ≡ (next (more m) onward run_from n s)
    go answer true same = refl
    go answer false same = same

pub run_sound : (places : ℕ) (s : List ℕ) (place : ℕ) (b : Book) → SoundBook b → SoundBook (run_from places s place b).book
unfolding run_from
run_sound zero s place b sound = sound
run_sound (suc places) s place b sound =
    let answer = answer_to b (read_at s place) in
    let next = answer_sound b (read_at s place) sound in
    go (ltb place (length s)) answer.ends _ next (run_sound places s (found_at s place).next answer.book next)
  where
    go : (there ends : Bool) (more : Ran) → let answer = answer_to b (read_at s place) in
        SoundBook answer.book → SoundBook more.book → SoundBook (cond there (answer before cond ends (stopped_at place answer.book) more) (ended place b)).book
    go false ends more next on = sound
    go true true more next on = next
    go true false more next on = on
