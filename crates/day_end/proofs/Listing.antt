-- A pass that sets rows has listed them anew, since a list is told by its length and its rows.
use mathlib.Core.Path.{◌≡◌, sym, ap, ◌∙◌}
use mathlib.Core.Logic.{◌≢◌}
use mathlib.Core.Bool.{cond}
use mathlib.Core.List.{List, ◌++◌}
use Prim.Native.Nat.{ℕ, ◌+◌, ◌-◌, ◌≤◌, ◌<◌}
use native.Mathlib.Decide.{ℕ_discrete, dec_lt}
use native.Mathlib.Omega.{arith}
use borrow.Author.Tests.{lt-ltb, le-ltb}
use lib.Dec.{ltb}
use lib.ListN.{length, get_or, set, take, drop, length-set, length-append, get_or-append}
use Rattle.std.proofs.lemmas.List.{length-take-le, length-drop, get_or-take, get_or-drop, get_or-append_right}
use lib.Seq.{get_or-set_same, get_or-set_other}
use Rattle.terms.specs.Listed.{listed}
use Rattle.terms.proofs.Listed.{listed_is, listed_length, listed_at}

module _ {A : Type 0} (n : ℕ) (none : A) where
  -- one row set, the others the same
  pub listed_set : (f g : ℕ → A) (i : ℕ) (x : A) → i < n → x ≡ g i → ((j : ℕ) → j < n → j ≢ i → f j ≡ g j) → set (listed n f) i x ≡ listed n g
  listed_set f g i x h same others =
      listed_is n none (set (listed n f) i x) g (length-set (listed n f) i x ∙ listed_length n f)
      (λ j there.
      elim (ℕ_discrete j i) [
        | yes e ↦
            ap (λ (k : ℕ). get_or (set (listed n f) i x) k none) e
            ∙ get_or-set_same (listed n f) i x none (omega (arith, h, listed_length n f))
            ∙ same
            ∙ ap g (sym e)
        | no other ↦ get_or-set_other (listed n f) i j x none other ∙ listed_at n f j none there ∙ others j there other
      ])

  -- the first k rows changed, each by its number, and the others as they were
  pub first_changed : (change : ℕ → A → A) (rows first : List A) (k : ℕ) → length rows ≡ n → k ≤ n → length first ≡ length (take k rows)
      → ((i : ℕ) (d : A) → i < length (take k rows) → get_or first i d ≡ change i (get_or (take k rows) i d))
      → first ++ drop k rows ≡ listed n (λ i. cond (ltb i k) (change i (get_or rows i none)) (get_or rows i none))
  first_changed change rows first k size few same each =
      let long : length (take k rows) ≡ k = length-take-le k rows (omega (arith, few, size)) in
      listed_is n none (first ++ drop k rows) (λ i. cond (ltb i k) (change i (get_or rows i none)) (get_or rows i none))
      (omega (arith, length-append first (drop k rows), length-drop k rows, long, same, size, few))
      (λ i there.
      elim (dec_lt i k) [
        | yes h ↦
            get_or-append first (drop k rows) none i (omega (arith, h, long, same))
            ∙ each i none (omega (arith, h, long))
            ∙ ap (change i) (get_or-take k rows i none h)
            ∙ rw (lt-ltb i k h)
        | no h ↦
            let past : k ≤ i = omega (arith, h) in
            get_or-append_right first (drop k rows) k i none (same ∙ long) past
            ∙ get_or-drop k rows (i - k) none
            ∙ (let at : k + (i - k) ≡ i = omega (arith, past) in ap (λ (j : ℕ). get_or rows j none) at)
            ∙ rw (le-ltb i k past)
      ])
