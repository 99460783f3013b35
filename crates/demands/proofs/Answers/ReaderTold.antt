-- What a reader does, in the paper's words: a record that is read moves the place on by its length, a refusal carries the place and leaves it, and with no byte left or a place past the end it gives 1.
use mathlib.Core.Path.{◌≡◌, refl, sym, ap, ◌∙◌}
use mathlib.Core.List.{List}
use Prim.Native.Nat.{ℕ, ◌+◌, ◌≤◌, ◌<◌}
use native.Mathlib.Omega.{arith}
use borrow.Author.Tests.{lt-ltb}
use lib.ListN.{drop, length, length-drop}
use Rattle.terms.specs.declared.refusal.Refusal.{Refusal}
use Rattle.entries.specs.declared.entry.Entry.{Entry}
use Rattle.reading.specs.Reading.{number_in, read_at}
use Rattle.reading.specs.declared.Answer.{Answer}
use Rattle.reading.specs.declared.Answer.TheVariants.{Found, Refused}
use Rattle.reading.specs.declared.Reading.{Reading}
use Rattle.reader.specs.Reader.{moved_on, next_place}
use Rattle.reader.specs.declared.Reader.{Reader}
use Rattle.reader.proofs.Reader.next.Reads as next
use Rattle.demands.proofs.Answers.RecordsTold.{read_number, read_place}

-- no byte is left to read: the first test holds
none_left : (s : List ℕ) (place : ℕ) → length s ≤ place → number_in (read_at s place).answer ≡ 1
none_left s place none =
    let few : length (drop place s) < 4 = omega (arith, length-drop place s, none) in
    read_number s place ∙ rw (lt-ltb (length (drop place s)) 4 few) refl

module _ (before after : Reader) (r : Reading) (answer : r ≡ read_at before.bytes.now before.place) (moved : after ≡ moved_on before) where
  stands : (said : Answer) → r.answer ≡ said → after ≡ record { bytes = before.bytes; place = next_place before.place said }
  stands said e = moved ∙ ap (λ (a : Answer). record { bytes = before.bytes; place = next_place before.place a }) (sym (ap (λ (x : Reading). x.answer) answer) ∙ e)

  unmoved : (said : Answer) → r.answer ≡ said → (number_in said ≡ 0 → ⊥) → after ≡ before
  unmoved (Found entry len) e refused = absurd (refused refl)
  unmoved (Refused why place) e refused = stands (Refused why place) e

module _ (κs : _) (a : _) (r : _) (s : _) (says : next.Post κs a r s) where
  pub next_found : (entry : Entry) (len : ℕ) → r.answer ≡ Found entry len → (s.0.now.bytes ≡ a.0.now.bytes) × (s.0.now.place ≡ a.0.now.place + len)
  next_found entry len e =
      let gone = stands a.0.now s.0.now r says.0 says.1 (Found entry len) e in
      (ap (λ (x : Reader). x.bytes) gone, ap (λ (x : Reader). x.place) gone)

  pub next_refused : (why : Refusal) (place : ℕ) → r.answer ≡ Refused why place → (place ≡ a.0.now.place) × (s.0.now ≡ a.0.now)
  next_refused why place e = (
    read_place a.0.now.bytes.now a.0.now.place why place (sym (ap (λ (x : Reading). x.answer) says.0) ∙ e),
    stands a.0.now s.0.now r says.0 says.1 (Refused why place) e,
  )

  pub next_at_end : length a.0.now.bytes.now ≤ a.0.now.place → (number_in r.answer ≡ 1) × (s.0.now ≡ a.0.now)
  next_at_end none =
      let one = ap (λ (x : Reading). number_in x.answer) says.0 ∙ none_left a.0.now.bytes.now a.0.now.place none in
      (one, unmoved a.0.now s.0.now r says.0 says.1 r.answer refl (λ zero. let never : ◌≡◌ {A = ℕ} 1 0 = sym one ∙ zero in absurd (omega (arith, never))))
