-- An answer leaves a sound book: an entered record keeps it so, and one that could not be read changes nothing. A record that was read moves the run on, since it has a byte at least.
use mathlib.Core.Path.{◌≡◌}
use mathlib.Core.Bool.{false, true≢false}
use mathlib.Core.List.{List}
use Prim.Native.Nat.{ℕ, ◌<◌}
use native.Mathlib.Omega.{arith}
use lib.ListN.{length, drop}
use Rattle.reading.specs.Reading.{read_at}
use Rattle.reading.specs.declared.Answer.{Answer}
use Rattle.reading.specs.declared.Answer.TheVariants.{Found, Refused}
use Rattle.reading.specs.declared.Reading.{Reading}
use Rattle.reading.proofs.Within.{Within, read_within}
use Rattle.reader.specs.Reader.{found_at, next_place}
use Rattle.set_up.specs.Sound.{SoundBook}
use Rattle.set_up.specs.declared.stages.Book.{Book}
use Rattle.set_up.proofs.EnteredSound.{entered_sound}
use Rattle.desk.specs.Runs.{answer_by, answer_to}

module _ (b : Book) (reading : Reading) where
  pub answer_sound : SoundBook b → SoundBook (answer_to b reading).book
  unfolding answer_to
  answer_sound sound = go reading.answer
    where
      go : (answer : Answer) → SoundBook (answer_by b reading.figures answer).book
      go (Found entry len) = entered_sound b entry reading.figures sound
      go (Refused why place) = sound

-- where a record was read, the next one stands behind it
pub answer_moves : (b : Book) (s : List ℕ) (place : ℕ) → (answer_to b (read_at s place)).ends ≡ false → place < (found_at s place).next
unfolding answer_to
answer_moves b s place = go (read_at s place).answer (read_within s place)
  where
    go : (answer : Answer) → Within (length (drop place s)) answer → (answer_by b (read_at s place).figures answer).ends ≡ false → place < next_place place answer
    go (Found entry len) so on = omega (arith, so.0)
    go (Refused why at) so on = absurd (true≢false on)
