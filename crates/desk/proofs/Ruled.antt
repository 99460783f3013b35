-- A record that was read is answered by its ruling: what is told and what is booked are what an entered record leads to, and one that could not be read is refused and changes nothing. The reader stays where it stood exactly where the run ends.
use mathlib.Core.Path.{◌≡◌, refl, sym, ap, ◌∙◌}
use mathlib.Core.Bool.{Bool, true, false}
use mathlib.Core.List.{List}
use Prim.Native.Nat.{ℕ}
use native.Mathlib.Omega.{arith}
use lib.IntN.{ℤ}
use Rattle.std.specs.Prelude.{Result, Ok, Err}
use Rattle.terms.specs.declared.refusal.Refusal.{Refusal}
use Rattle.reading.specs.Reading.{read_at}
use Rattle.reading.specs.declared.Answer.{Answer}
use Rattle.reading.specs.declared.Answer.TheVariants.{Found, Refused}
use Rattle.reader.specs.Reader.{found_at, next_place}
use Rattle.entries.specs.declared.entry.Figures.{Figures}
use Rattle.terms.specs.Verdicts.{number_in, verdict_in}
use Rattle.set_up.specs.Rulings.{RestsOn, ruled_by, ruling_on}
use Rattle.set_up.specs.Sound.{SoundBook}
use Rattle.set_up.specs.declared.ruling.Ruling.{Ruling}
use Rattle.set_up.specs.declared.stages.Book.{Book}
use Rattle.set_up.proofs.Booking.{ruled_entered, ruling_rests, ruling_verdict}
use Rattle.set_up.proofs.Entering.{entered_verdict}
use Rattle.desk.specs.Ruled.{ruling_by}
use Rattle.desk.specs.Runs.{answer_by, answer_to, available_in}
use Rattle.desk.proofs.Answered.{answer_moves}

-- what is answered and the verdict that it tells have the same number
same_number : (answer : Result Ruling Refusal) → number_in answer ≡ number_in (verdict_in answer)
same_number (Ok ruling) = refl
same_number (Err why) = refl

module _ (b : Book) (f : Figures) where
  pub rests_by : SoundBook b → (answer : Answer) → RestsOn b f (ruling_by b f answer)
  rests_by sound (Found entry len) = ruling_rests b entry f sound
  rests_by sound (Refused why place) = tt

  pub book_by : (answer : Answer) → ruled_by b f (ruling_by b f answer) ≡ (answer_by b f answer).book
  book_by (Found entry len) = ruled_entered b entry f
  book_by (Refused why place) = refl

  number_by : (answer : Answer) → number_in (ruling_by b f answer) ≡ (answer_by b f answer).number
  number_by (Found entry len) = same_number (ruling_on b entry f) ∙ ap number_in (ruling_verdict b entry f ∙ sym (entered_verdict b entry f))
  number_by (Refused why place) = refl

  available_by : (answer : Answer) → available_in (answer_by b f answer).book ≡ (answer_by b f answer).available
  available_by (Found entry len) = refl
  available_by (Refused why place) = refl

  module _ (answer : Answer) (ruling : Result Ruling Refusal) (number : ℕ) (after : Book) (sum : ℤ) where
    pub ruled_answer : ruling ≡ ruling_by b f answer → after ≡ ruled_by b f ruling → number ≡ number_in ruling → sum ≡ available_in after
        → record { number = number; available = sum; ends = (answer_by b f answer).ends; book = after } ≡ answer_by b f answer
    ruled_answer rules books numbers sums =
        let book : after ≡ (answer_by b f answer).book = books ∙ ap (ruled_by b f) rules ∙ book_by answer in
        let count : number ≡ (answer_by b f answer).number = numbers ∙ ap number_in rules ∙ number_by answer in
        let available : sum ≡ (answer_by b f answer).available = sums ∙ ap available_in book ∙ available_by answer in
        λ i. record { number = count i; available = available i; ends = (answer_by b f answer).ends; book = book i }

module _ (b : Book) (s : List ℕ) (place : ℕ) where
  pub stays_ends : (found_at s place).next ≡ place → (answer_to b (read_at s place)).ends ≡ true
  stays_ends stays = go (answer_to b (read_at s place)).ends refl
    where
      go : (ends : Bool) → (answer_to b (read_at s place)).ends ≡ ends → ends ≡ true
      go true e = refl
      go false e = absurd (omega (arith, answer_moves b s place e, stays))

  pub moves_on : ((found_at s place).next ≡ place → ⊥) → (answer_to b (read_at s place)).ends ≡ false
  unfolding answer_to
  moves_on moves = go (read_at s place).answer moves
    where
      go : (answer : Answer) → (next_place place answer ≡ place → ⊥) → (answer_by b (read_at s place).figures answer).ends ≡ false
      go (Found entry len) moved = refl
      go (Refused why at) moved = absurd (moved refl)
