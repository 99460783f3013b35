-- What is made or tested number by number is so at each number: by induction on how many there are, the last being made or tested last. An array has as many rows as its type says.
use mathlib.Core.Path.{◌≡◌, refl, sym, ap, subst, ◌∙◌}
use mathlib.Core.Bool.{Bool, true, false, cond, false≢true}
use mathlib.Core.List.{List, [], ◌∷◌, ◌++◌, map}
use mathlib.Core.Logic.{inl, inr}
use Prim.Native.Nat.{ℕ, zero, suc, ◌+◌, ◌≤◌, ◌<◌}
use native.Mathlib.Numerals.{add-one}
use native.Mathlib.Nat.{eq-or-lt_of_le, le_of_suc-le-suc, not-suc-le-zero}
use native.Mathlib.Omega.{arith}
use borrow.Author.Tests.{lt-ltb}
use lib.Dec.{ltb}
use lib.ListN.{length, get_or, take, length-append, length-map, get_or-append}
use lib.Seq.{ext_get_or, get_or_at}
use Rattle.std.specs.List.{list_all}
use Rattle.std.proofs.lemmas.List.Folds.{list_all_more}
use Rattle.terms.proofs.Ranges.{both_hold, first_holds, second_holds}
use Rattle.terms.specs.Listed.{listed, every}

pub listed_length : {A : Type 0} (n : ℕ) (f : ℕ → A) → length (listed n f) ≡ n
listed_length zero f = refl
listed_length (suc n) f = omega (arith, length-append (listed n f) (f n ∷ []), listed_length n f)

pub listed_at : {A : Type 0} (n : ℕ) (f : ℕ → A) (i : ℕ) (none : A) → i < n → get_or (listed n f) i none ≡ f i
listed_at zero f i none h = absurd (not-suc-le-zero h)
listed_at (suc n) f i none h =
    elim (eq-or-lt_of_le (le_of_suc-le-suc h)) [
      | inl e ↦ ap (λ (k : ℕ). get_or (listed n f ++ f n ∷ []) k none) e ∙ get_or_at (listed n f) (f n) [] none n (listed_length n f) ∙ ap f (sym e)
      | inr l ↦ get_or-append (listed n f) (f n ∷ []) none i (omega (arith, l, listed_length n f)) ∙ listed_at n f i none l
    ]

-- a list of n rows is what is listed row by row, since it is told by its length and its rows
pub listed_is : {A : Type 0} (n : ℕ) (none : A) (l : List A) (f : ℕ → A) → length l ≡ n → ((i : ℕ) → i < n → get_or l i none ≡ f i) → l ≡ listed n f
listed_is n none l f rows each =
    ext_get_or none l (listed n f) (rows ∙ sym (listed_length n f))
    (λ i h. let there : i < n = omega (arith, h, rows) in each i there ∙ sym (listed_at n f i none there))

-- where the first so many rows are put in and the others stay
pub listed_below : {A : Type 0} (n m : ℕ) (new old : ℕ → A) (i : ℕ) (none : A) → m ≤ n → i < m → get_or (listed n (λ j. cond (ltb j m) (new j) (old j))) i none ≡ new i
listed_below n m new old i none few h =
    listed_at n (λ j. cond (ltb j m) (new j) (old j)) i none (omega (arith, few, h)) ∙ rw (lt-ltb i m h)

pub each_passes : (n : ℕ) (test : ℕ → Bool) → every n test ≡ true → (i : ℕ) → i < n → test i ≡ true
each_passes zero test all i h = absurd (not-suc-le-zero h)
each_passes (suc n) test all i h =
    elim (eq-or-lt_of_le (le_of_suc-le-suc h)) [
      | inl e ↦ ap test e ∙ second_holds (every n test) (test n) all
      | inr l ↦ each_passes n test (first_holds (every n test) (test n) all) i l
    ]

pub all_pass : (n : ℕ) (test : ℕ → Bool) → ((i : ℕ) → i < n → test i ≡ true) → every n test ≡ true
all_pass zero test each = refl
all_pass (suc n) test each = both_hold (every n test) (test n) (all_pass n test (λ i h. each i (omega arith))) (each n (omega arith))

-- what a pass that tests one number after the other knows: as long as each passed, every one so far does; one that fails settles the answer
module _ (test : ℕ → Bool) where
  pub one_more : (i : ℕ) → every i test ≡ true → test i ≡ true → every (i + 1) test ≡ true
  one_more i before here = rw (add-one, before, here) refl

  pub one_fails : (n i : ℕ) → i < n → test i ≡ false → every n test ≡ false
  one_fails n i h here = go (every n test) refl
    where
      go : (b : Bool) → every n test ≡ b → b ≡ false
      go false e = refl
      go true e = absurd (false≢true (sym here ∙ each_passes n test e i h))

  pub all_passed : (i n : ℕ) → i ≡ n → every i test ≡ true → every n test ≡ true
  all_passed i n e all = subst (λ (k : ℕ). every k test ≡ true) e all

-- a test of each of a list's first rows is one of every number below as many
pub all_rows : {A : Type 0} (test : A → Bool) (rows : List A) (none : A) (n : ℕ) → n ≤ length rows → list_all test (take n rows) ≡ every n (λ i. test (get_or rows i none))
all_rows test rows none zero few = refl
all_rows test rows none (suc n) few =
    rw (← add-one) (list_all_more test rows n none (omega arith) ∙ rw (all_rows test rows none n (omega arith)) refl)

-- an array has as many rows as its type says: what is known of the machine's values, one for each row, is so of the rows
pub counted : (X Y : Type 0) (f : X → Y) (rows : List X) (n : ℕ) → length (map f rows) ≡ n → length rows ≡ n
counted X Y f rows n e = sym (length-map rows f) ∙ e
