-- Past the last row there is none to set: so what is set only where its number is inside is set.
use mathlib.Core.Path.{◌≡◌, sym, subst}
use mathlib.Core.List.{List}
use Prim.Native.Nat.{ℕ, ◌≤◌}
use lib.ListN.{length, set}
use lib.Seq.{set_out}

module _ {A : Type 0} (n : ℕ) (rows : List A) (size : length rows ≡ n) (i : ℕ) where
  past : n ≤ i → length rows ≤ i
  past out = subst (λ (k : ℕ). k ≤ i) (sym size) out

  pub none_set : (x : A) → n ≤ i → rows ≡ set rows i x
  none_set x out = sym (set_out rows i x (past out))
