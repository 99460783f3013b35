-- The round trips hold of lent buffers too: one with room for the record holds it and then what was there, which the theorems about records let follow.
use mathlib.Core.Path.{◌≡◌, ap, ap₂, ◌∙◌}
use mathlib.Core.Bool.{Bool, false, cond}
use mathlib.Core.List.{List, [], ◌++◌}
use Prim.Native.Nat.{ℕ, ◌≤◌}
use native.Mathlib.Nat.{le_trans, le_of_eq}
use borrow.Author.Tests.{le-ltb}
use lib.ListN.{length, take, drop}
use Rattle.std.specs.Prelude.{Result, Ok, Err}
use Rattle.terms.specs.declared.refusal.Refusal.{Refusal}
use Rattle.terms.specs.declared.refusal.Refusal.TheVariants.{Misshapen, BufferTooShort}
use Rattle.entries.specs.declared.entry.Entry.{Entry}
use Rattle.entries.specs.declared.entry.Figures.{Figures}
use Rattle.reading.specs.Reading.{read_at}
use Rattle.reading.specs.declared.Answer.TheVariants.{Found}
use Rattle.writing.specs.Writing.{length_for, record_of, counts_barred, written_for, buffer_after}
use Rattle.demands.specs.Records.{AreBytes, Typed, figures_kept}
use Rattle.demands.proofs.Records.ReadWritten.{read_written, read_accepted}
use Rattle.demands.proofs.Records.WrittenRead.{written_read}

taken : (entry : Entry) (size : ℕ) → counts_barred entry ≡ false → length_for entry ≤ size → written_for entry size ≡ Ok (length_for entry)
unfolding written_for
taken entry size unbarred room =
    ap₂ (λ (barred short : Bool). cond barred (Err Misshapen) (cond short (Err BufferTooShort) (Ok (length_for entry)))) unbarred (le-ltb size (length_for entry) room)

pub written_lent : (entry : Entry) (f : Figures) (buffer : List ℕ) → Typed entry f → counts_barred entry ≡ false → length_for entry ≤ length buffer
    → read_at (buffer_after (written_for entry (length buffer)) (record_of entry f) buffer) 0 ≡ record { answer = Found entry (length_for entry); figures = figures_kept entry f }
written_lent entry f buffer typed unbarred room =
    ap (λ (w : (Result ℕ Refusal)). read_at (buffer_after w (record_of entry f) buffer) 0) (taken entry (length buffer) unbarred room)
    ∙ written_read entry f [] (drop (length_for entry) buffer) typed unbarred

pub read_lent : (s : List ℕ) → AreBytes s → (place : ℕ) {entry : Entry} {len : ℕ} → (read_at s place).answer ≡ Found entry len → (buffer : List ℕ) → len ≤ length buffer
    → buffer_after (written_for entry (length buffer)) (record_of entry (read_at s place).figures) buffer ≡ take len (drop place s) ++ drop len buffer
read_lent s lent place {entry} {len} e buffer room =
    let facts = read_accepted s lent place e in
    ap (λ (w : (Result ℕ Refusal)). buffer_after w (record_of entry (read_at s place).figures) buffer) (taken entry (length buffer) facts.0 (le_trans (le_of_eq facts.1) room))
    ∙ ap₂ (λ (rec : List ℕ) (n : ℕ). rec ++ drop n buffer) (read_written s lent place e) facts.1
