-- #105 as a statement about any list of shares, with no word of how they are found: it decides them (`decides` in proofs/Decides.antt).
use Rattle.std.specs.Prelude.{ℕ, ◌+◌, ◌<◌, ◌≡◌, List, ◌⊎◌, length, get_or}
use Rattle.terms.specs.Sums.{Σ}
use Rattle.assignment.specs.Assignment.{whole_part, fraction}

-- of two accounts the one that is served before the other: its fraction is larger, or equal and its number lower (#105)
abbrev pub Before : (ℕ → ℕ) → ℕ → ℕ → Type 0
Before fraction i j = (fraction j < fraction i) ⊎ ((fraction j ≡ fraction i) × (i < j))

-- the shares of E contracts, in #105's words
pub record Stated (E : ℕ) (short covered shares : List ℕ) : Type 0 where
  pub accounts : length shares ≡ length short  -- a share for each account
  pub whole_first : (i : ℕ) → i < length short → (get_or shares i 0 ≡ whole_part E short covered i) ⊎ (get_or shares i 0 ≡ whole_part E short covered i + 1)  -- the whole part, and of what is left at most one
  pub adds_up : Σ (length short) (λ i. get_or shares i 0) ≡ E  -- all of E
  pub in_order : (i j : ℕ) → i < length short → j < length short → get_or shares i 0 ≡ whole_part E short covered i + 1 → get_or shares j 0 ≡ whole_part E short covered j → Before (fraction E short covered) i j  -- whoever got one comes before whoever did not
  pub no_fraction : (i : ℕ) → i < length short → fraction E short covered i ≡ 0 → get_or shares i 0 ≡ whole_part E short covered i  -- who has no fraction gets none
