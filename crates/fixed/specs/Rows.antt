-- What the rows of the two tables satisfy.
use Rattle.std.specs.Prelude.{Bool, cond, List, ◌≡◌, ℕ, ◌+◌, ◌*◌, ◌%◌, ◌<◌, ltb, get_or, length}
use Rattle.terms.specs.declared.right.Right.{Right}
use Rattle.terms.specs.declared.right.Right.TheVariants.{Call, Put}
use Rattle.entries.specs.declared.entry.Contract.{Contract}

-- how many underlyings the full tables have, and the small ones
abbrev pub count : Bool → ℕ
count full = cond full 8 3

abbrev pub right_of : ℕ → Right
right_of c = cond (ltb c 32) Call Put

-- the contracts of the full tables
abbrev pub in_turn : ℕ → Contract
in_turn c = record { underlying = c % 8; right = right_of c; strike = 20_000 + 300 * c; unit = 100 * (1 + c); settlement = 10 * c }

-- an array of so many rows, of which the first k satisfy P
pub record Filled {A : Type 0} (size : ℕ) (none : A) (P : A → Type 0) (rows : List A) (k : ℕ) : Type 0 where
  pub all : length rows ≡ size
  pub row : (i : ℕ) → i < k → P (get_or rows i none)
