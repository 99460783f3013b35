-- A row that changes in its place is the changed one there and the old one elsewhere, so one row more keeps what stands below it; a row that nothing was put into is the empty one.
use mathlib.Core.Path.{◌≡◌, refl, sym, subst}
use mathlib.Core.Bool.{cond}
use mathlib.Core.List.{List}
use Prim.Native.Nat.{ℕ, zero, suc, ◌+◌, ◌<◌}
use native.Mathlib.Decide.{dec_lt, ℕ_discrete}
use native.Mathlib.Omega.{arith}
use borrow.Author.Tests.{eq-eqb, ne_eqb}
use lib.Dec.{eqb}
use lib.ListN.{length, get_or, set, replicate}
use lib.Seq.{get_or-set_same, get_or-set_other}

-- at every number, past the last row too
pub untouched : {A : Type 0} (rows at : ℕ) (empty : A) → get_or (replicate rows empty) at empty ≡ empty
untouched zero at empty = refl
untouched (suc rows) zero empty = refl
untouched (suc rows) (suc at) empty = untouched rows at empty

pub changed_row : {A : Type 0} (rows : List A) (empty : A) (place : ℕ) (change : A → A) → place < length rows → (at : ℕ)
    → get_or (set rows place (change (get_or rows place empty))) at empty ≡ cond (eqb place at) (change (get_or rows at empty)) (get_or rows at empty)
changed_row rows empty place change h at =
    elim (ℕ_discrete at place) [
      | yes e ↦ rw (e, eq-eqb place place refl) (get_or-set_same rows place _ empty h)
      | no other ↦ rw (ne_eqb place at (λ e. other (sym e))) (get_or-set_other rows place at _ empty other)
    ]

-- what the first k rows and the next one satisfy, all of them do
pub row_added : {A : Type 0} (P : A → Type 0) (rows : List A) (empty : A) (k : ℕ) (row : A) → k < length rows → P row → ((i : ℕ) → i < k → P (get_or rows i empty))
    → (i : ℕ) → i < k + 1 → P (get_or (set rows k row) i empty)
row_added P rows empty k row inside good so_far i h =
    elim (dec_lt i k) [
      | yes l ↦ subst P (sym (get_or-set_other rows k i row empty (λ e. absurd (omega (arith, e, l))))) (so_far i l)
      | no l ↦
          let same : i ≡ k = omega (arith, h, l) in
          subst (λ (j : ℕ). P (get_or (set rows k row) j empty)) (sym same) (subst P (sym (get_or-set_same rows k row empty inside)) good)
    ]
