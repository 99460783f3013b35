-- Reading and writing refuse in the paper's order and numbers: both the definitions and the lists of tests go by the same tests, and each outcome of those computes. A refusal carries the place that was asked, and leaves every byte lent as it was.
use mathlib.Core.Path.{◌≡◌, refl}
use mathlib.Core.Bool.{Bool, true, false, cond, not}
use mathlib.Core.List.{List}
use Prim.Native.Nat.{ℕ}
use native.Mathlib.Omega.{arith}
use lib.Dec.{ltb}
use lib.ListN.{length, drop}
use Rattle.std.specs.Prelude.{Result, Ok, Err}
use Rattle.terms.specs.Verdicts.{number_in}
use Rattle.terms.specs.Codes.{not_listed}
use Rattle.terms.specs.declared.unlisted.Unlisted.{Unlisted}
use Rattle.terms.specs.declared.refusal.Refusal.{Refusal}
use Rattle.terms.specs.declared.refusal.Refusal.TheVariants.{CutShort, UnknownKind, Misshapen, BufferTooShort}
use Rattle.entries.specs.Entries.{entry_of, no_figures}
use Rattle.entries.specs.Table.{is_day_end, length_fits, counts_fit}
use Rattle.entries.specs.declared.entry.Entry.{Entry}
use Rattle.entries.specs.declared.entry.Figures.{Figures}
use Rattle.entries.specs.declared.kind.Kind.{Kind}
use Rattle.entries.specs.declared.kind.Kind.TheVariants.{DayEnd}
use Rattle.entries.proofs.EachKind.{day_end_kind}
use Rattle.reading.specs.Reading as reading
use Rattle.reading.specs.Reading.{length_at, kind_at, n_at, m_at, fields_at, figures_at, refused, known, whole_at, counted, of_kind, listed, read_from, read_at}
use Rattle.reading.specs.declared.Answer.TheVariants.{Refused}
use Rattle.reading.specs.declared.Reading.{Reading}
use Rattle.writing.specs.Writing.{length_for, counts_barred, written_for, buffer_after}
use Rattle.account.specs.InOrder.{first}
use Rattle.demands.specs.InOrder.{code_unlisted, reading_tests, writing_tests}

number : Reading → ℕ
number read = reading.number_in read.answer

module _ (place : ℕ) where
  whole_told : (cut : Bool) (len : ℕ) (f : Figures) (e : (Result Entry Unlisted)) → number (cond cut (refused CutShort place) (known place len f e)) ≡ cond cut 1 (cond (code_unlisted e) 3 0)
  unfolding number
  whole_told true len f e = refl
  whole_told false len f (Ok entry) = refl
  whole_told false len f (Err none) = refl

  refused_first : (test : Bool) (why : Refusal) (n : ℕ) (next : Reading) (m : ℕ) → number (refused why place) ≡ n → number next ≡ m → number (cond test (refused why place) next) ≡ cond test n m
  refused_first true why n next m e e' = e
  refused_first false why n next m e e' = e'

  module _ (r : List ℕ) where
    of_any : (kind : Kind) (f : Figures) → number (whole_at place r (length_at r) kind f) ≡ cond (ltb (length r) (length_at r)) 1 (cond (code_unlisted (entry_of kind (fields_at kind r))) 3 0)
    unfolding whole_at
    of_any kind f = whole_told (ltb (length r) (length_at r)) (length_at r) f (entry_of kind (fields_at kind r))

    other_told : (kind : Kind) → number (cond (not (length_fits kind (length_at r))) (refused Misshapen place) (whole_at place r (length_at r) kind no_figures))
        ≡ cond (not (length_fits kind (length_at r))) 3 (cond (ltb (length r) (length_at r)) 1 (cond (code_unlisted (entry_of kind (fields_at kind r))) 3 0))
    unfolding number
    other_told kind = refused_first (not (length_fits kind (length_at r))) Misshapen 3 _ _ refl (of_any kind no_figures)

    kind_told : (kind : Kind) → number (of_kind place r kind) ≡ first (drop 2 (reading_tests r (Ok kind)))
    unfolding number of_kind counted
    kind_told kind = go (is_day_end kind) refl
      where
        day_end_told : number (of_kind place r DayEnd) ≡ first (drop 2 (reading_tests r (Ok DayEnd)))
        day_end_told =
            refused_first (not (length_fits DayEnd (length_at r))) Misshapen 3 _ _ refl
            (refused_first (ltb (length r) 8) CutShort 1 _ _ refl
            (refused_first (not (counts_fit (n_at r) (m_at r) (length_at r))) Misshapen 3 _ _ refl (of_any DayEnd (figures_at r))))

        go : (day : Bool) → is_day_end kind ≡ day → number (of_kind place r kind) ≡ first (drop 2 (reading_tests r (Ok kind)))
        go true day = rw (day_end_kind kind day) day_end_told
        go false other = rw other (other_told kind)

    told : number (read_from place r) ≡ first (reading_tests r (kind_at r))
    unfolding number read_from
    told = refused_first (ltb (length r) 4) CutShort 1 _ _ refl (by_kind (kind_at r))
      where
        by_kind : (kind : (Result Kind Unlisted)) → number (listed place r kind) ≡ first (drop 1 (reading_tests r kind))
        by_kind (Ok kind) = kind_told kind
        by_kind (Err none) = refl

  -- a refusal carries the place that was asked
  Here : Reading → Type 0
  Here read = (why : Refusal) (p : ℕ) → read.answer ≡ Refused why p → p ≡ place

  one_of : (test : Bool) (x y : Reading) → Here x → Here y → Here (cond test x y)
  one_of true x y hx hy = hx
  one_of false x y hx hy = hy

  refused_here : (why : Refusal) → Here (refused why place)
  unfolding Here
  refused_here why why' p e = cc

  known_here : (len : ℕ) (f : Figures) (e : (Result Entry Unlisted)) → Here (known place len f e)
  unfolding Here
  known_here len f (Ok entry) why p e = let never : ◌≡◌ {A = ℕ} 0 1 = cc in absurd (omega arith)
  known_here len f (Err none) why p e = refused_here Misshapen why p e

  module _ (r : List ℕ) where
    whole_here : (kind : Kind) (f : Figures) → Here (whole_at place r (length_at r) kind f)
    unfolding whole_at
    whole_here kind f = one_of (ltb (length r) (length_at r)) _ _ (refused_here CutShort) (known_here (length_at r) f (entry_of kind (fields_at kind r)))

    kind_here : (kind : Kind) → Here (of_kind place r kind)
    unfolding of_kind counted
    kind_here kind =
        one_of (not (length_fits kind (length_at r))) _ _ (refused_here Misshapen)
        (one_of (is_day_end kind) _ _
        (one_of (ltb (length r) 8) _ _ (refused_here CutShort)
        (one_of (not (counts_fit (n_at r) (m_at r) (length_at r))) _ _ (refused_here Misshapen) (whole_here DayEnd (figures_at r))))
        (whole_here kind no_figures))

    from_here : Here (read_from place r)
    unfolding read_from
    from_here = one_of (ltb (length r) 4) _ _ (refused_here CutShort) (by_kind (kind_at r))
      where
        by_kind : (kind : (Result Kind Unlisted)) → Here (listed place r kind)
        by_kind (Ok kind) = kind_here kind
        by_kind (Err none) = refused_here UnknownKind

pub read_number : (s : List ℕ) (place : ℕ) → reading.number_in (read_at s place).answer ≡ first (reading_tests (drop place s) (kind_at (drop place s)))
unfolding read_at number
read_number s place = told place (drop place s)

pub read_place : (s : List ℕ) (place : ℕ) (why : Refusal) (p : ℕ) → (read_at s place).answer ≡ Refused why p → p ≡ place
unfolding read_at Here
read_place s place = from_here place (drop place s)

pub write_number : (entry : Entry) (size : ℕ) → number_in (written_for entry size) ≡ first (writing_tests entry size)
unfolding written_for
write_number entry size = tested (counts_barred entry) (ltb size (length_for entry))
  where
    tested : (barred short : Bool) → number_in (cond barred (Err Misshapen) (cond short (Err BufferTooShort) (Ok (length_for entry)))) ≡ cond barred 3 (cond short 17 0)
    tested true short = refl
    tested false true = refl
    tested false false = refl

-- not one byte differs
pub write_untouched : (answer : (Result ℕ Refusal)) (rec buffer : List ℕ) → (number_in answer ≡ 0 → ⊥) → buffer_after answer rec buffer ≡ buffer
write_untouched (Ok n) rec buffer refused = absurd (refused refl)
write_untouched (Err why) rec buffer refused = refl
