-- Packed numbers read back wherever they stand: the first number's bytes are those at the place, and the others stand as far on as those bytes are many.
use mathlib.Core.Path.{◌≡◌, refl, ap}
use mathlib.Core.List.{List, [], ◌∷◌, ◌++◌, append_assoc}
use Prim.Native.Nat.{ℕ, suc, ◌+◌}
use lib.ListN.{length, length-append}
use lib.Seq.{take_at, drop_at}
use Rattle.entries.specs.Numbers.{bytes, number_at, numbers_at, packed, total}
use Rattle.entries.proofs.LittleEndian.{value_bytes, length_bytes}
use Rattle.entries.proofs.Runs.{length_packed}
use Rattle.demands.specs.Records.{Fit}

pub packed_read : (ws xs before after : List ℕ) (place : ℕ) → length before ≡ place → Fit ws xs → numbers_at ws (before ++ (packed ws xs ++ after)) place ≡ xs
unfolding number_at
packed_read [] [] before after place at fit = refl
packed_read [] (x ∷ xs) before after place at fit = elim fit [ ]
packed_read (w ∷ ws) [] before after place at fit = elim fit [ ]
packed_read (w ∷ ws) (x ∷ xs) before after place at fit =
    let later = packed_read ws xs (before ++ bytes w x) after (place + w) (simp (length-append, length_bytes, at)) fit.1 in
    simp (append_assoc, drop_at, take_at, length_bytes, value_bytes w x fit.0, simp append_assoc at later)

-- a list that fits its widths is as long as they are
fit_length : (ws xs : List ℕ) → Fit ws xs → length xs ≡ length ws
fit_length [] [] fit = refl
fit_length [] (x ∷ xs) fit = elim fit [ ]
fit_length (w ∷ ws) [] fit = elim fit [ ]
fit_length (w ∷ ws) (x ∷ xs) fit = ap suc (fit_length ws xs fit.1)

pub packed_length : (ws xs : List ℕ) → Fit ws xs → length (packed ws xs) ≡ total ws
packed_length ws xs fit = length_packed ws xs (fit_length ws xs fit)
