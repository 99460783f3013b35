-- A record that was read is at least 4 bytes long and lies within the bytes: its length counts the head, and one that runs past the end is refused. Every refusal of reading is 1, 2 or 3.
use Rattle.std.proofs.Common.{sym, ap, subst, ◌∙◌, ◌+◌, length-drop, ◌≡◌, refl, Bool, true, false, cond, not, ◌&&◌, List, ℕ, ◌≤◌, ◌%◌, arith, eqb-true, ltb-false, eqb, ltb, length, drop, Result, Ok, Err}
use Rattle.std.proofs.lemmas.Bool.{not-false}
use Rattle.terms.specs.declared.unlisted.Unlisted.{Unlisted}
use Rattle.entries.specs.declared.entry.Entry.{Entry}
use Rattle.terms.specs.Ranges.{◌to◌, ◌∈◌}
use Rattle.terms.specs.declared.refusal.Refusal.{Refusal}
use Rattle.terms.specs.declared.refusal.Refusal.TheVariants.{CutShort, Misshapen}
use Rattle.terms.specs.Refusals.{number_of}
use Rattle.terms.proofs.Ranges.{first_holds, inside}
use Rattle.entries.specs.Entries.{entry_of, no_figures}
use Rattle.entries.specs.Table.{counts_fit, is_day_end, length_fits, length_of}
use Rattle.entries.specs.declared.entry.Figures.{Figures}
use Rattle.entries.specs.declared.kind.Kind.{Kind}
use Rattle.entries.specs.declared.kind.Kind.TheVariants.{DayEnd}
use Rattle.reading.specs.Reading.{◌at◌when◌else◌, counted, fields_at, figures_at, kind_at, known, length_at, listed, m_at, n_at, of_kind, read_at, read_from, whole_at}
use Rattle.reading.specs.declared.Answer.{Answer}
use Rattle.reading.specs.declared.Answer.TheVariants.{Found, Refused}
use Rattle.reading.specs.declared.Reading.{Reading}

-- an entry lies within so many bytes, and a refusal is 1, 2 or 3
abbrev pub Within : ℕ → Answer → Type 0
Within size (Found entry len) = (4 ≤ len) × (len ≤ size)
Within size (Refused why place) = (1 ≤ number_of why) × (number_of why ≤ 3)

fits_head : (kind : Kind) (len : ℕ) → length_fits kind len ≡ true → 4 ≤ len
unfolding length_fits
fits_head kind len = go (is_day_end kind)
  where
    day : Bool
    day = len ∈ (length_of DayEnd 1 1 to length_of DayEnd 64 8)

    go : (test : Bool) → cond test (day && eqb (len % 4) 0) (eqb len (length_of kind 0 0)) ≡ true → 4 ≤ len
    go true fits = omega (arith, (inside len (length_of DayEnd 1 1 to length_of DayEnd 64 8) (first_holds day (eqb (len % 4) 0) fits)).0)
    go false fits = omega (arith, eqb-true len (length_of kind 0 0) fits)

module _ (place : ℕ) (r : List ℕ) where
  tested : (why : Refusal) (test : Bool) (next : Reading) → Within (length r) (Refused why place) → (test ≡ false → Within (length r) next.answer) → Within (length r) (why at place when test else next).answer
  tested why true next numbered so = numbered
  tested why false next numbered so = so refl

  whole_within : (len : ℕ) (kind : Kind) (f : Figures) → 4 ≤ len → Within (length r) (whole_at place r len kind f).answer
  unfolding whole_at
  whole_within len kind f long =
      tested CutShort (ltb (length r) len) (known place len f (entry_of kind (fields_at kind r))) (omega arith, omega arith)
      (λ there. go (entry_of kind (fields_at kind r)) (ltb-false (length r) len there))
    where
      go : (coded : (Result Entry Unlisted)) → len ≤ length r → Within (length r) (known place len f coded).answer
      go (Ok entry) there = (long, there)
      go (Err none) there = (omega arith, omega arith)

  kind_within : (kind : Kind) → Within (length r) (of_kind place r kind).answer
  unfolding of_kind counted
  kind_within kind =
      tested Misshapen (not (length_fits kind (length_at r))) (cond (is_day_end kind) (counted place r (length_at r)) (whole_at place r (length_at r) kind no_figures)) (omega arith, omega arith)
      (λ shaped. go (is_day_end kind) (fits_head kind (length_at r) (not-false _ shaped)))
    where
      go : (test : Bool) → 4 ≤ length_at r → Within (length r) (cond test (counted place r (length_at r)) (whole_at place r (length_at r) kind no_figures)).answer
      go true long =
          tested CutShort (ltb (length r) 8) _ (omega arith, omega arith)
          (λ there. tested Misshapen (not (counts_fit (n_at r) (m_at r) (length_at r))) _ (omega arith, omega arith) (λ fit. whole_within (length_at r) DayEnd (figures_at r) long))
      go false long = whole_within (length_at r) kind no_figures long

  from_within : Within (length r) (read_from place r).answer
  unfolding read_from
  from_within = tested CutShort (ltb (length r) 4) (listed place r (kind_at r)) (omega arith, omega arith) (λ there. go (kind_at r))
    where
      go : (coded : (Result Kind Unlisted)) → Within (length r) (listed place r coded).answer
      go (Ok kind) = kind_within kind
      go (Err none) = (omega arith, omega arith)

pub read_within : (s : List ℕ) (place : ℕ) → Within (length (drop place s)) (read_at s place).answer
unfolding read_at
read_within s place = from_within place (drop place s)

-- a record that was found ends within the bytes
pub found_within : (s : List ℕ) (place : ℕ) (reading : Reading) (entry : Entry) (len : ℕ) → reading ≡ read_at s place → reading.answer ≡ Found entry len → place + len ≤ length s
found_within s place reading entry len is found =
    let inside : Within (length (drop place s)) (Found entry len) = subst (Within (length (drop place s))) (ap (λ (r : Reading). r.answer) (sym is) ∙ found) (read_within s place) in
    omega (arith, inside, length-drop place s)
