-- Read, then written: the same bytes, for every record that reading accepts. Each test that the record passed tells a fact (its kind's code, its length, a day end's counts, bytes enough), the entry has the kind and the fields that say it, and numbers that are read of bytes pack into the same bytes.
use mathlib.Core.Path.{◌≡◌, refl, sym, ap, ◌∙◌}
use mathlib.Core.Bool.{Bool, true, false, cond, not}
use mathlib.Core.List.{List, [], ◌∷◌, ◌++◌, append-nil}
use Prim.Native.Nat.{ℕ, zero, suc, ◌+◌, ◌-◌, ◌^◌, ◌≤◌, ◌<◌}
use native.Mathlib.Omega.{arith}
use borrow.Author.Tests.{ltb-false, eqb-true, not-false}
use lib.Dec.{ltb, eqb}
use lib.ListN.{length, take, drop, replicate, length-append, length-take, length-drop, length-replicate, take-append-drop}
use lib.Seq.{length-take-le, take-add, take_at, take_all}
use Rattle.std.specs.Prelude.{Result, Ok, Err}
use Rattle.terms.specs.Codes.{not_listed}
use Rattle.terms.specs.declared.unlisted.Unlisted.{Unlisted}
use Rattle.terms.specs.Codes.{coded, class_code, classes, right_code, rights, kind_code, kinds}
use Rattle.terms.specs.declared.refusal.Refusal.{Refusal}
use Rattle.terms.specs.declared.refusal.Refusal.TheVariants.{CutShort, Misshapen}
use Rattle.terms.proofs.Codes.{word, unlisted, reads}
use Rattle.terms.proofs.Ranges.{first_holds, second_holds}
use Rattle.entries.specs.Entries.{kind_of, fields_in, ◌!◌, order_of, underlying_of, contract_of, entry_of, figures_in, figures_from, no_figures}
use Rattle.entries.specs.Numbers.{number_at, numbers_at, total}
use Rattle.entries.specs.Table.{code_of, fields_of, is_day_end, figures_of, length_of, counts_allowed, length_fits, counts_fit, kind_coded, kinds as record_kinds}
use Rattle.entries.specs.declared.entry.Entry.{Entry}
use Rattle.entries.specs.declared.entry.Figures.{Figures}
use Rattle.entries.specs.declared.kind.Kind.{Kind}
use Rattle.entries.specs.declared.kind.Kind.TheVariants.{Deposit, Withdraw, Lock, Unlock, Order, Fill, Cancel, DayEnd, Pay, Drop, Underlying, Contract, Opening}
use Rattle.entries.proofs.Runs.{length_numbers}
use Rattle.entries.proofs.Limits.{counts_inside}
use Rattle.reading.specs.Reading.{length_at, kind_at, n_at, m_at, fields_at, figures_at, refused, ◌at◌when◌else◌, known, whole_at, counted, of_kind, listed, read_from, read_at}
use Rattle.reading.specs.declared.Answer.{Answer}
use Rattle.reading.specs.declared.Answer.TheVariants.{Found}
use Rattle.reading.specs.declared.Reading.{Reading}
use Rattle.writing.specs.Writing.{length_for, head_of, record_of, counts_barred}
use Rattle.demands.specs.Records.{Below, AreBytes, Fit, Typed}
use Rattle.demands.proofs.Records.ReadBytes.{below_take, below_drop, packed_numbers, numbers_fit}

-- an entry that was read of a code was read of a word that has it
by_word : {W : Type 0} (code : W → ℕ) (saying : W → (Result Entry Unlisted)) (ws : List W) (n : ℕ) {entry : Entry} → coded code saying (Err not_listed) ws n ≡ Ok entry → (w : W) × (code w ≡ n) × (saying w ≡ Ok entry)
by_word code saying ws n e = elim (reads code ws n) [ word w c of ↦ (w, c, sym (of _ saying (Err not_listed)) ∙ e) | unlisted of ↦ let never : ◌≡◌ {A = ℕ} 0 1 = cc (of _ saying (Err not_listed)) in absurd (omega arith) ]

-- an entry has the kind and the fields that say it
same : {said entry : Entry} → ◌≡◌ {A = Result Entry Unlisted} (Ok said) (Ok entry) → (kind_of entry ≡ kind_of said) × (fields_in entry ≡ fields_in said)
same e = (cc, cc)

says : (kind : Kind) (r : List ℕ) (entry : Entry) → entry_of kind (fields_at kind r) ≡ Ok entry → (kind_of entry ≡ kind) × (fields_in entry ≡ fields_at kind r)
says Deposit r entry e = same e
says Withdraw r entry e = same e
says Lock r entry e = same e
says Unlock r entry e = same e
says Order r entry e = let vs = fields_at Order r in let (kind, c, e') = by_word kind_code (order_of vs) kinds (vs ! 2) e in rw c at (same e')
says Fill r entry e = same e
says Cancel r entry e = same e
says DayEnd r entry e = same e
says Pay r entry e = same e
says Drop r entry e = same e
says Underlying r entry e = let vs = fields_at Underlying r in let (class, c, e') = by_word class_code (underlying_of vs) classes (vs ! 0) e in rw c at (same e')
says Contract r entry e = let vs = fields_at Contract r in let (right, c, e') = by_word right_code (contract_of vs) rights (vs ! 1) e in rw c at (same e')
says Opening r entry e = same e

-- a kind that was read of a code has it
kind_coded_lem : (n : ℕ) (kind : Kind) → kind_coded n ≡ Ok kind → code_of kind ≡ n
kind_coded_lem n kind e = elim (reads code_of record_kinds n) [ word v c of ↦ cc (of _ Ok (Err not_listed)) | unlisted of ↦ cc (of _ Ok (Err not_listed)) ]

-- numbers that fit one width are below one bound
alike : (w k : ℕ) (xs : List ℕ) → Fit (replicate k w) xs → Below (256 ^ w) xs
alike w zero [] h = tt
alike w zero (x ∷ xs) h = elim h [ ]
alike w (suc k) [] h = elim h [ ]
alike w (suc k) (x ∷ xs) h = (h.0, alike w k xs h.1)

-- up to n numbers and zeros past them, `most` in all
module _ (most n : ℕ) (xs : List ℕ) where
  padded : n ≤ most → n ≤ length xs → length (take n xs ++ replicate (most - n) 0) ≡ most
  padded few there = simp (length-append, length-take, length-replicate) (omega arith)

  padded_below : (bound : ℕ) → 0 < bound → Below bound xs → Below bound (take n xs ++ replicate (most - n) 0)
  padded_below bound positive below = appended (take n xs) (below_take bound n xs below)
    where
      zeros : (k : ℕ) → Below bound (replicate k 0)
      zeros zero = tt
      zeros (suc k) = (positive, zeros k)

      appended : (s : List ℕ) → Below bound s → Below bound (s ++ replicate (most - n) 0)
      appended [] h = zeros (most - n)
      appended (x ∷ s) h = (h.0, appended s h.1)

-- n and m figures go into the two lists and come out again
pub figures_kept_lem : (n m : ℕ) (xs : List ℕ) → length xs ≡ n + m → figures_in n m (figures_from n m xs) ≡ xs
figures_kept_lem n m xs h =
    let settlements : length (take n xs) ≡ n = length-take-le n xs (omega arith) in
    let rest : length (drop n xs) ≡ m = simp length-drop (omega arith) in
    let closes : length (take m (drop n xs)) ≡ m = length-take-le m (drop n xs) (omega arith) in
    rw (take_at (take n xs) _ n, take_at (take m (drop n xs)) _ m, take_all m (drop n xs) (omega arith), take-append-drop)

-- what is known of a record that reading accepts
record Accepted (r : List ℕ) (entry : Entry) (len : ℕ) (f : Figures) : Type 0 where
  same_bytes : record_of entry f ≡ take len r
  counts : counts_barred entry ≡ false
  exact : length_for entry ≡ len
  enough : len ≤ length r
  typed : Typed entry f

-- what is known once the fields of a kind are read
record Whole (r : List ℕ) (kind : Kind) (entry : Entry) (len : ℕ) : Type 0 where
  code : code_of kind ≡ number_at 2 r 2
  named : length_at r ≡ len
  enough : len ≤ length r
  kind_same : kind_of entry ≡ kind
  fields_same : fields_in entry ≡ fields_at kind r

module _ (r : List ℕ) (lent : AreBytes r) {kind : Kind} {entry : Entry} {len : ℕ} (w : Whole r kind entry len) where
  head_same : length_for entry ≡ len → head_of entry ≡ take (total (2 ∷ 2 ∷ fields_of kind)) r
  head_same exact =
      let within : total (2 ∷ 2 ∷ fields_of (kind_of entry)) ≤ len = omega (arith, exact) in
      let there : total (2 ∷ 2 ∷ fields_of kind) ≤ len = rw w.kind_same at within in
      let head = packed_numbers r lent (2 ∷ 2 ∷ fields_of kind) 0 (omega arith) in
      rw (exact, ← w.named, w.kind_same, w.code, w.fields_same) head

  typed_with : (n m : ℕ) (xs : List ℕ) → n ≤ 64 → m ≤ 8 → length xs ≡ n + m → Below (256 ^ 4) xs → Typed entry (figures_from n m xs)
  typed_with n m xs hn hm h below =
      record {
        fields = rw (w.kind_same, w.fields_same) (numbers_fit r lent (fields_of kind) 4);
        settlements = padded 64 n xs hn (omega arith);
        closes = padded 8 m (drop n xs) hm (simp length-drop (omega arith));
        settlements_fit = padded_below 64 n xs (256 ^ 4) (omega arith) below;
        closes_fit = padded_below 8 m (drop n xs) (256 ^ 4) (omega arith) (below_drop (256 ^ 4) n xs below);
      }

  other_accepted : is_day_end kind ≡ false → length_at r ≡ total (2 ∷ 2 ∷ fields_of kind) + 0 → Accepted r entry len no_figures
  unfolding record_of
  other_accepted other fits =
      let exact : length_for entry ≡ len = rw (w.kind_same, other) (omega arith) in
      let all : total (2 ∷ 2 ∷ fields_of kind) ≡ len = omega arith in
      record {
        same_bytes = rw (head_same exact, all, w.kind_same, other, append-nil);
        counts = rw (w.kind_same, other);
        exact = exact;
        enough = w.enough;
        typed = typed_with 0 0 [] (omega arith) (omega arith) refl tt;
      }

day_end_accepted : (r : List ℕ) → AreBytes r → {entry : Entry} {len : ℕ} → Whole r DayEnd entry len → counts_fit (n_at r) (m_at r) (length_at r) ≡ true → Accepted r entry len (figures_at r)
unfolding record_of counts_fit
day_end_accepted r lent {entry} {len} w fit =
    let n = n_at r in
    let m = m_at r in
    let figures = figures_of n m in
    let like = eqb (length_at r) (length_of DayEnd n m) in
    let allowed = first_holds (counts_allowed n m) like fit in
    let long = eqb-true (length_at r) (length_of DayEnd n m) (second_holds (counts_allowed n m) like fit) in
    let counts = counts_inside n m allowed in
    let exact : length_for entry ≡ len = rw (w.kind_same, w.fields_same) (omega arith) in
    let all : 8 + total figures ≡ len = omega arith in
    let xs = numbers_at figures r 8 in
    let many : length xs ≡ n + m = length_numbers figures r 8 ∙ length-replicate (n + m) 4 in
    let below = alike 4 (n + m) xs (numbers_fit r lent figures 8) in
    let kept = figures_kept_lem n m xs many in
    let tail = packed_numbers r lent figures 8 (omega arith) in
    record {
      same_bytes = rw (head_same r lent w exact, w.kind_same, w.fields_same, kept, tail, ← take-add 8 (total figures) r, all);
      counts = rw (w.kind_same, w.fields_same, allowed);
      exact = exact;
      enough = w.enough;
      typed = typed_with r lent w n m xs counts.1 counts.3 many below;
    }

-- what reading gives of a record that it accepts
abbrev pub found : Entry → ℕ → Figures → Reading
found entry len f = record { answer = Found entry len; figures = f }

module _ (place : ℕ) {entry : Entry} {len : ℕ} {f : Figures} where
  -- no refusal is an entry
  unrefused : {R : Type 0} {why : Refusal} → refused why place ≡ found entry len f → R
  unrefused e = let never : ◌≡◌ {A = ℕ} 0 1 = cc (ap (λ (x : Reading). x.answer) e) in absurd (omega arith)

  -- a test before an accepted answer did not refuse
  passed : (why : Refusal) (test : Bool) {next : Reading} → (why at place when test else next) ≡ found entry len f → (test ≡ false) × (next ≡ found entry len f)
  passed why true e = unrefused e
  passed why false e = (refl, e)

  module _ (r : List ℕ) where
    whole : (kind : Kind) (figures : Figures) → code_of kind ≡ number_at 2 r 2 → whole_at place r (length_at r) kind figures ≡ found entry len f → Whole r kind entry len × (figures ≡ f)
    unfolding whole_at
    whole kind figures code e =
        let there = passed CutShort (ltb (length r) (length_at r)) e in
        go (entry_of kind (fields_at kind r)) refl (ltb-false (length r) (length_at r) there.0) there.1
      where
        go : (a : (Result Entry Unlisted)) → entry_of kind (fields_at kind r) ≡ a → length_at r ≤ length r → known place (length_at r) figures a ≡ found entry len f → Whole r kind entry len × (figures ≡ f)
        go (Ok said) a there e' =
            let answers : Found said (length_at r) ≡ Found entry len = ap (λ (x : Reading). x.answer) e' in
            let named : length_at r ≡ len = cc in
            let is = says kind r entry (cc) in
            (record { code = code; named = named; enough = omega arith; kind_same = is.0; fields_same = is.1 }, ap (λ (x : Reading). x.figures) e')
        go (Err none) a there e' = unrefused e'

    kind_accepted : AreBytes r → (kind : Kind) → code_of kind ≡ number_at 2 r 2 → of_kind place r kind ≡ found entry len f → Accepted r entry len f
    unfolding of_kind counted length_fits
    kind_accepted lent kind code e =
        let shaped = passed Misshapen (not (length_fits kind (length_at r))) e in
        go (is_day_end kind) refl (not-false _ shaped.0) shaped.1
      where
        go : (test : Bool) → is_day_end kind ≡ test → length_fits kind (length_at r) ≡ true → cond test (counted place r (length_at r)) (whole_at place r (length_at r) kind no_figures) ≡ found entry len f → Accepted r entry len f
        go true day fits e' =
            let there = passed CutShort (ltb (length r) 8) e' in
            let fit = passed Misshapen (not (counts_fit (n_at r) (m_at r) (length_at r))) there.1 in
            let read = whole DayEnd (figures_at r) (sym (eqb-true _ _ day) ∙ code) fit.1 in
            rw (← read.1) (day_end_accepted r lent read.0 (not-false _ fit.0))
        go false other fits e' =
            let read = whole kind no_figures code e' in
            rw (← read.1) (other_accepted r lent read.0 other (eqb-true _ _ (rw other at fits)))

    accepted : AreBytes r → read_from place r ≡ found entry len f → Accepted r entry len f
    unfolding read_from
    accepted lent e = go (kind_at r) refl (passed CutShort (ltb (length r) 4) e).1
      where
        go : (a : (Result Kind Unlisted)) → kind_at r ≡ a → listed place r a ≡ found entry len f → Accepted r entry len f
        go (Ok kind) a e' = kind_accepted lent kind (kind_coded_lem _ kind a) e'
        go (Err none) a e' = unrefused e'

module _ (s : List ℕ) (lent : AreBytes s) (place : ℕ) {entry : Entry} {len : ℕ} (e : (read_at s place).answer ≡ Found entry len) where
  facts : Accepted (drop place s) entry len (read_at s place).figures
  unfolding read_at
  facts = accepted place (drop place s) (below_drop 256 place s lent) (ap (λ (a : Answer). record { answer = a; figures = (read_at s place).figures }) e)

  -- read, then written: the same bytes
  pub read_written : record_of entry (read_at s place).figures ≡ take len (drop place s)
  read_written = facts.same_bytes

  -- writing it again is not refused for its counts, and takes as many bytes
  pub read_accepted : (counts_barred entry ≡ false) × (length_for entry ≡ len) × (len ≤ length (drop place s))
  read_accepted = (facts.counts, facts.exact, facts.enough)

  -- the entry and its figures are as wide as their fields
  pub read_typed : Typed entry (read_at s place).figures
  read_typed = facts.typed
