-- What follows a record does not change how it is read: the bytes from its place are the record of the entry read, and written records read back whatever stands behind them.
use mathlib.Core.Path.{◌≡◌, sym, ap, ap₂, ◌∙◌}
use mathlib.Core.List.{List, ◌++◌, append_assoc}
use Prim.Native.Nat.{ℕ, ◌+◌}
use native.Mathlib.Omega.{arith}
use lib.ListN.{length, take, drop, length-drop, take-append-drop}
use lib.Seq.{length-take-le, take-add}
use Rattle.entries.specs.declared.entry.Entry.{Entry}
use Rattle.reading.specs.Reading.{read_at}
use Rattle.reading.specs.declared.Answer.TheVariants.{Found}
use Rattle.writing.specs.Writing.{record_of, length_for}
use Rattle.demands.specs.Records.{AreBytes, figures_kept}
use Rattle.demands.proofs.Records.ReadWritten.{read_written, read_accepted, read_typed}
use Rattle.demands.proofs.Records.WrittenRead.{written_read}

module _ (s : List ℕ) (lent : AreBytes s) (place : ℕ) {entry : Entry} {len : ℕ} (e : (read_at s place).answer ≡ Found entry len) where
  -- with anything behind the record
  read_again : (after : List ℕ) → read_at (take (place + len) s ++ after) place ≡ record { answer = Found entry (length_for entry); figures = figures_kept entry (read_at s place).figures }
  read_again after =
      let f = (read_at s place).figures in
      let facts = read_accepted s lent place e in
      let whole : take (place + len) s ≡ take place s ++ record_of entry f = take-add place len s ∙ ap (λ (r : List ℕ). take place s ++ r) (sym (read_written s lent place e)) in
      let before : length (take place s) ≡ place = length-take-le place s (omega (arith, facts, length-drop place s)) in
      ap₂ read_at (ap (λ (l : List ℕ). l ++ after) whole ∙ append_assoc (take place s) (record_of entry f) after) (sym before)
      ∙ written_read entry f (take place s) after (read_typed s lent place e) facts.0

  pub what_follows : (after : List ℕ) → read_at (take (place + len) s ++ after) place ≡ read_at s place
  what_follows after =
      read_again after
      ∙ sym (read_again (drop (place + len) s))
      ∙ ap (λ (l : List ℕ). read_at l place) (take-append-drop (place + len) s)
