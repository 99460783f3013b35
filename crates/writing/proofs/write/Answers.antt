-- The record is put at the start of the buffer: the head, and what follows it, which is a day end's figures and nothing in any other record.
use Rattle.std.proofs.Common.{◌≡◌, refl, sym, ap, ◌∙◌, false, List, [], ◌∷◌, ◌++◌, ℕ, suc, ◌+◌, ◌≤◌, arith, rules, length, drop, length-append}
use Rattle.std.proofs.lemmas.List.{length-take, length-replicate}
use Rattle.std.proofs.lemmas.Bool.{not-false}
use Rattle.std.proofs.lemmas.List.Edits.{sets, sets-eq}
use Rattle.std.proofs.Math.Nat.{zero-add}
use Rattle.entries.specs.Entries.{kind_of, fields_in, figures_in}
use Rattle.entries.specs.Numbers.{packed, total}
use Rattle.entries.specs.Table.{code_of, fields_of, is_day_end, figures_of}
use Rattle.entries.specs.declared.entry.Entry.{Entry}
use Rattle.entries.specs.declared.entry.Entry.TheVariants.{DayEnd}
use Rattle.entries.specs.declared.entry.Figures.{Figures}
use Rattle.entries.proofs.EachKind.{by_day_end, said}
use Rattle.entries.proofs.Limits.{counts_inside}
use Rattle.entries.proofs.Runs.{length_packed, sets_append}
use Rattle.writing.specs.Writing.{length_for, head_of, record_of}
use Rattle.writing.proofs.write.Goals as goal
use Rattle.writing.proofs.write.Goals.{in-DayEnd, in_default}

-- what is put at the start of a buffer that has room for it stands before the rest
at_the_start : (rec buffer : List ℕ) (len : ℕ) → length rec ≡ len → len ≤ length buffer → sets buffer 0 rec ≡ rec ++ drop len buffer
at_the_start rec buffer len long room =
    let all : 0 + length rec ≡ len = zero-add (length rec) ∙ long in
    sets-eq rec buffer 0 (omega arith) ∙ ap (λ (k : ℕ). rec ++ drop k buffer) all

length_head : (entry : Entry) → length (head_of entry) ≡ total (2 ∷ 2 ∷ fields_of (kind_of entry))
length_head entry =
    length_packed (2 ∷ 2 ∷ fields_of (kind_of entry)) (length_for entry ∷ code_of (kind_of entry) ∷ fields_in entry) (ap (λ (k : ℕ). suc (suc k)) (said entry).as_many)

-- a head and what is put behind it
module _ (entry : Entry) (f : Figures) (buffer between after : List ℕ) (len : ℕ) (is : len ≡ length_for entry) (room : len ≤ length buffer)
    (head : between ≡ sets buffer 0 (packed (2 ∷ 2 ∷ fields_of (kind_of entry)) (len ∷ code_of (kind_of entry) ∷ fields_in entry))) where
  put_behind : (tail : List ℕ) → record_of entry f ≡ head_of entry ++ tail → length (head_of entry) + length tail ≡ len → after ≡ sets between (length (head_of entry)) tail
      → after ≡ record_of entry f ++ drop len buffer
  put_behind tail says long behind =
      behind
      ∙ ap (λ (b : List ℕ). sets b (length (head_of entry)) tail) (head ∙ ap (λ (k : ℕ). sets buffer 0 (packed (2 ∷ 2 ∷ fields_of (kind_of entry)) (k ∷ code_of (kind_of entry) ∷ fields_in entry))) is)
      ∙ ap (λ (k : ℕ). sets (sets buffer 0 (head_of entry)) k tail) (sym (zero-add (length (head_of entry))))
      ∙ sym (sets_append buffer 0 (head_of entry) tail)
      ∙ at_the_start (head_of entry ++ tail) buffer len (length-append (head_of entry) tail ∙ long) room
      ∙ ap (λ (rec : List ℕ). rec ++ drop len buffer) (sym says)

  put_other : is_day_end (kind_of entry) ≡ false → after ≡ between → after ≡ record_of entry f ++ drop len buffer
  unfolding record_of
  put_other other same = put_behind [] (rw other) (omega (arith, length_head entry, rw other at is)) same

  put_day_end : (n m : ℕ) → entry ≡ DayEnd n m → n ≤ length f.settlements → m ≤ length f.closes → after ≡ sets between 8 (packed (figures_of n m) (figures_in n m f))
      → after ≡ record_of entry f ++ drop len buffer
  unfolding record_of
  put_day_end n m told few_n few_m figures =
      let tail : List ℕ = packed (figures_of n m) (figures_in n m f) in
      let eight : length (head_of entry) ≡ 8 = length_head entry ∙ rw told in
      let as_many : length (figures_in n m f) ≡ length (figures_of n m) = simp (length-append, length-take, length-replicate) (omega arith) in
      put_behind tail (rw told) (omega (arith, eight, length_packed (figures_of n m) (figures_in n m f) as_many, rw told at is)) (figures ∙ ap (λ (k : ℕ). sets between k tail) (sym eight))

-- an entry that is no day end is not of its kind
no_day_end : (entry : Entry) → ((n m : ℕ) → entry ≡ DayEnd n m → ⊥) → is_day_end (kind_of entry) ≡ false
no_day_end = by_day_end (λ entry. ((n m : ℕ) → entry ≡ DayEnd n m → ⊥) → is_day_end (kind_of entry) ≡ false) (λ n m no. absurd (no n m refl)) (λ entry other no. other)

pub returns-clause-contents : goal.returns-clause-contents
returns-clause-contents c =
    let room : c.in_ok-length.length ≤ length c.args.buffer.now = omega arith in
    let settlements : length c.args.figures.settlements ≡ 64 = search rules in
    let closes : length c.args.figures.closes ≡ 8 = search rules in
    let put : c.match-entry.buffer ≡ record_of c.args.entry c.args.figures ++ drop c.in_ok-length.length c.args.buffer.now =
    elim c.match-entry.branch [
      | in-DayEnd w ↦
          let few = counts_inside w.in-DayEnd.n w.in-DayEnd.m (not-false _ (rw w.in-DayEnd.is at c.in_ok-length.ensures.0)) in
          put_day_end _ _ _ _ _ _ c.in_ok-length.ensures.1 room c.put_head.ensures _ _ w.in-DayEnd.is (omega arith) (omega arith) (w.buffer-is ∙ w.put_figures.ensures)
      | in_default w ↦ put_other _ _ _ _ _ _ c.in_ok-length.ensures.1 room c.put_head.ensures (no_day_end _ w.in_default.not-DayEnd) w.buffer-is
    ] in
    rw c.from-2.ensures put
