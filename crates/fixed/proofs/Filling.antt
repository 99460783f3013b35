-- Where each of an array's first rows satisfies P, the array is filled so far: the rows behind them do not move.
use Rattle.std.proofs.Common.{◌≡◌, ℕ, ◌<◌, ◌≤◌, List, ◌++◌, length, get_or, take, drop, arith}
use Rattle.std.proofs.Math.ListN.{get_or-append, length-append, length-drop}
use Rattle.std.proofs.lemmas.List.{length-take-le}
use Rattle.fixed.specs.Rows.{Filled}

pub filled : {A : Type 0} (none : A) (P : A → Type 0) (before rows : List A) (k : ℕ) → k ≤ length before → length rows ≡ length (take k before) → ((i : ℕ) → i < length (take k before) → P (get_or rows i none))
    → Filled (length before) none P (rows ++ drop k before) k
filled none P before rows k few long made =
    let first : length (take k before) ≡ k = length-take-le k before few in
    record {
      all = simp (length-append, length-drop) (omega arith);
      row = λ i h. let inside : i < length rows = omega arith in rw get_or-append (made i (omega arith));
    }
