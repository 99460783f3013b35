-- A record reads back as the entry that was written: the numbers of its head are packed, so they read back, and they pass reading's tests; so do a day end's figures behind them. Hence bytes tell entries apart: reading has one answer, and it says where the record ends.
use mathlib.Core.Path.{◌≡◌, refl, sym, ap, ◌∙◌}
use mathlib.Core.Bool.{true, false, cond}
use mathlib.Core.List.{List, [], ◌∷◌, ◌++◌, append_assoc}
use Prim.Native.Nat.{ℕ, zero, suc, ◌+◌, ◌^◌, ◌≤◌, ◌<◌}
use native.Mathlib.Omega.{arith}
use borrow.Author.Tests.{le-ltb, eq-eqb, not-false}
use lib.Dec.{ltb, eqb, lit<, lit≤}
use lib.ListN.{length, take, drop, replicate, length-append, replicate-append-replicate}
use lib.Seq.{drop_at, drop-append_seam, length-take-le}
use Rattle.std.specs.Prelude.{Ok}
use Rattle.entries.specs.Entries.{kind_of, fields_in, figures_in, figures_from, no_figures}
use Rattle.entries.specs.Numbers.{numbers_at, packed, total}
use Rattle.entries.specs.Table.{code_of, fields_of, is_day_end, figures_of, length_fits, counts_fit, counts_allowed}
use Rattle.entries.specs.declared.entry.Entry.{Entry}
use Rattle.entries.specs.declared.entry.Entry.TheVariants.{DayEnd}
use Rattle.entries.specs.declared.entry.Figures.{Figures}
use Rattle.entries.specs.declared.kind.Kind.{Kind}
use Rattle.entries.specs.declared.kind.Kind.TheVariants as Kind·of
use Rattle.entries.proofs.EachKind.{by_day_end, each_kind, kind_said, said}
use Rattle.entries.proofs.Limits.{counts_inside}
use Rattle.entries.proofs.Runs.{total_fours, length_packed}
use Rattle.reading.specs.Reading.{length_at, kind_at, n_at, m_at, fields_at, whole_at, counted, of_kind, read_from, read_at}
use Rattle.reading.specs.declared.Answer.TheVariants.{Found}
use Rattle.reading.specs.declared.Reading.{Reading}
use Rattle.writing.specs.Writing.{n_of, m_of, length_for, head_of, record_of, counts_barred}
use Rattle.demands.specs.Records.{Below, Fit, Typed, figures_kept}
use Rattle.demands.proofs.Records.DayEndLengths.{day_end_lengths}
use Rattle.demands.proofs.Records.Packing.{packed_read, packed_length}
use Rattle.demands.proofs.Records.ReadWritten.{figures_kept_lem, found}

-- a kind's code fits its width, and its head is short
record Row (kind : Kind) : Type 0 where
  code : code_of kind < 256 ^ 2
  short : total (2 ∷ 2 ∷ fields_of kind) ≤ 24

row : (kind : Kind) → Row kind
row = each_kind Row (search (lit<, lit≤))

-- a record's head, and the bytes that follow it
abbrev widths : Entry → List ℕ
widths entry = 2 ∷ 2 ∷ fields_of (kind_of entry)

abbrev values : Entry → List ℕ
values entry = length_for entry ∷ code_of (kind_of entry) ∷ fields_in entry

abbrev tail_of : Entry → Figures → List ℕ
tail_of entry f = cond (is_day_end (kind_of entry)) (packed (figures_of (n_of entry) (m_of entry)) (figures_in (n_of entry) (m_of entry) f)) []

-- bytes that begin with an entry's head and are enough for its record
record Begins (entry : Entry) (r : List ℕ) : Type 0 where
  head : numbers_at (widths entry) r 0 ≡ values entry
  enough : length_for entry ≤ length r

-- they are answered with the entry, with whatever figures stand beside it
module _ (entry : Entry) (place : ℕ) (r : List ℕ) (begins : Begins entry r) where
  whole : (f : Figures) → whole_at place r (length_for entry) (kind_of entry) f ≡ found entry (length_for entry) f
  unfolding whole_at
  whole f =
      let uncut : ltb (length r) (length_for entry) ≡ false = le-ltb _ _ begins.enough in
      let fields : fields_at (kind_of entry) r ≡ fields_in entry = cc in
      simp (uncut, fields, (said entry).says)

  answered : read_from place r ≡ of_kind place r (kind_of entry)
  unfolding read_from
  answered =
      let uncut : ltb (length r) 4 ≡ false = le-ltb (length r) 4 (omega arith) in
      let kind : kind_at r ≡ Ok (kind_of entry) = cc (kind_said (kind_of entry)) in
      simp (uncut, kind)

-- what a day end has for one reason and any other entry for another
record Readable (entry : Entry) (f : Figures) : Type 0 where
  small : length_for entry < 256 ^ 2
  tail : total (widths entry) + length (tail_of entry f) ≡ length_for entry
  reads : (place : ℕ) (r after : List ℕ) → Begins entry r → r ≡ head_of entry ++ (tail_of entry f ++ after) → of_kind place r (kind_of entry) ≡ found entry (length_for entry) (figures_kept entry f)

-- no other entry has counts, figures or a length but its kind's
other_readable : (entry : Entry) (f : Figures) → is_day_end (kind_of entry) ≡ false → Readable entry f
unfolding of_kind length_fits
other_readable entry f other = record {
  small = rw other (omega (arith, (row (kind_of entry)).short));
  tail = simp other;
  reads = λ place r after begins is.
      let len : length_at r ≡ length_for entry = cc in
      let fits : eqb (total (widths entry) + 0) (total (widths entry) + 0) ≡ true = eq-eqb (total (widths entry) + 0) _ refl in
      simp (len, other, fits) (rw other at (whole entry place r begins no_figures));
}

fit_append : (vs ws xs ys : List ℕ) → Fit vs xs → Fit ws ys → Fit (vs ++ ws) (xs ++ ys)
fit_append [] ws [] ys p q = q
fit_append [] ws (x ∷ xs) ys p q = elim p [ ]
fit_append (v ∷ vs) ws [] ys p q = elim p [ ]
fit_append (v ∷ vs) ws (x ∷ xs) ys p q = (p.0, fit_append vs ws xs ys p.1 q)

fit_take : (w n : ℕ) (xs : List ℕ) → n ≤ length xs → Below (256 ^ w) xs → Fit (replicate n w) (take n xs)
fit_take w zero xs h below = _
fit_take w (suc n) [] h below = absurd (omega arith)
fit_take w (suc n) (x ∷ xs) h below = (below.0, fit_take w n xs (omega arith) below.1)

-- a day end's counts are in range, so its figures fit and its length is one of a day end's
module _ (n m : ℕ) (f : Figures) (typed : Typed (DayEnd n m) f) (allowed : counts_allowed n m ≡ true) where
  figures_fit : Fit (figures_of n m) (figures_in n m f)
  figures_fit =
      let counts = counts_inside n m allowed in
      let settlements = fit_take 4 n f.settlements (omega (arith, typed)) typed.settlements_fit in
      let closes = fit_take 4 m f.closes (omega (arith, typed)) typed.closes_fit in
      rw (← replicate-append-replicate {A = ℕ} n m 4) (fit_append (replicate n 4) (replicate m 4) (take n f.settlements) (take m f.closes) settlements closes)

  day_end_reads : (place : ℕ) (r after : List ℕ) → Begins (DayEnd n m) r → r ≡ head_of (DayEnd n m) ++ (tail_of (DayEnd n m) f ++ after)
      → of_kind place r Kind·of.DayEnd ≡ found (DayEnd n m) (length_for (DayEnd n m)) (figures_kept (DayEnd n m) f)
  unfolding of_kind counted counts_fit
  day_end_reads place r after begins is =
      let len : length_at r ≡ length_for (DayEnd n m) = cc in
      let settlements : n_at r ≡ n = cc in
      let closes : m_at r ≡ m = cc in
      let fits = (day_end_lengths (length_for (DayEnd n m))).1 (n, m, allowed, refl) in
      let uncut : ltb (length r) 8 ≡ false = le-ltb (length r) 8 (omega arith) in
      let like : eqb (length_for (DayEnd n m)) (length_for (DayEnd n m)) ≡ true = eq-eqb (length_for (DayEnd n m)) _ refl in
      let eight : length (head_of (DayEnd n m)) ≡ 8 = length_packed (widths (DayEnd n m)) (values (DayEnd n m)) refl in
      let figures : numbers_at (figures_of n m) r 8 ≡ figures_in n m f =
      rw is (packed_read (figures_of n m) (figures_in n m f) (head_of (DayEnd n m)) after 8 eight figures_fit) in
      simp (len, fits, uncut, settlements, closes, allowed, like, figures) (whole (DayEnd n m) place r begins (figures_kept (DayEnd n m) f))

  day_end_readable : Readable (DayEnd n m) f
  day_end_readable = record {
    small = omega (arith, total_fours (n + m), counts_inside n m allowed);
    tail = ap (λ k. 8 + k) (packed_length (figures_of n m) (figures_in n m f) figures_fit);
    reads = day_end_reads;
  }

readable : (entry : Entry) (f : Figures) → Typed entry f → counts_barred entry ≡ false → Readable entry f
readable entry f =
    by_day_end (λ entry. Typed entry f → counts_barred entry ≡ false → Readable entry f)
    (λ n m typed unbarred. day_end_readable n m f typed (not-false _ unbarred))
    (λ entry other typed unbarred. other_readable entry f other)
    entry

module _ (entry : Entry) (f : Figures) (typed : Typed entry f) (unbarred : counts_barred entry ≡ false) where
  head_fit : Fit (widths entry) (values entry)
  head_fit = ((readable entry f typed unbarred).small, ((row (kind_of entry)).code, typed.fields))

  -- a record is as long as its length says
  pub record_length : length (record_of entry f) ≡ length_for entry
  unfolding record_of
  record_length =
      rw (length-append (head_of entry) (tail_of entry f), packed_length (widths entry) (values entry) head_fit) (readable entry f typed unbarred).tail

  begins_record : (after : List ℕ) → Begins entry (record_of entry f ++ after)
  unfolding record_of
  begins_record after = record {
    head = rw (append_assoc (head_of entry) (tail_of entry f) after) (packed_read (widths entry) (values entry) [] (tail_of entry f ++ after) 0 refl head_fit);
    enough = omega (arith, length-append (record_of entry f) after, record_length);
  }

-- a written record reads back wherever it stands, whatever stands before and after it
pub written_read : (entry : Entry) (f : Figures) (before after : List ℕ) → Typed entry f → counts_barred entry ≡ false
    → read_at (before ++ (record_of entry f ++ after)) (length before) ≡ record { answer = Found entry (length_for entry); figures = figures_kept entry f }
unfolding read_at record_of
written_read entry f before after typed unbarred =
    let r = record_of entry f ++ after in
    let begins = begins_record entry f typed unbarred after in
    let kept = (readable entry f typed unbarred).reads (length before) r after begins (append_assoc (head_of entry) (tail_of entry f) after) in
    rw (drop-append_seam before r, answered entry (length before) r begins) kept

-- the figures that come back are the same up to n and m
pub figures_same : (n m : ℕ) (f : Figures) → n ≤ length f.settlements → m ≤ length f.closes
    → figures_in n m (figures_from n m (figures_in n m f)) ≡ figures_in n m f
figures_same n m f n_there m_there = figures_kept_lem n m (figures_in n m f) (simp (length-append, length-take-le))

-- no record is the beginning of another entry's record, nor of the same entry's with other figures
pub told_apart : (e e' : Entry) (f f' : Figures) (x y : List ℕ) → Typed e f → counts_barred e ≡ false → Typed e' f' → counts_barred e' ≡ false
    → record_of e f ++ x ≡ record_of e' f' ++ y → (e ≡ e') × (figures_kept e f ≡ figures_kept e' f') × (x ≡ y)
told_apart e e' f f' x y typed unbarred typed' unbarred' same =
    let readings = sym (written_read e f [] x typed unbarred) ∙ ap (λ (s : List ℕ). read_at s 0) same ∙ written_read e' f' [] y typed' unbarred' in
    let answers : Found e (length_for e) ≡ Found e' (length_for e') = ap (λ (r : Reading). r.answer) readings in
    let lengths : length_for e ≡ length_for e' = cc in
    let here = drop_at (record_of e f) x (length_for e') (record_length e f typed unbarred ∙ lengths) in
    let there = drop_at (record_of e' f') y (length_for e') (record_length e' f' typed' unbarred') in
    (cc, ap (λ (r : Reading). r.figures) readings, sym here ∙ ap (drop (length_for e')) same ∙ there)
