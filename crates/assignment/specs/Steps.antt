-- What the steps of an assignment may rest on.
use Rattle.std.specs.Prelude.{ℕ, ◌+◌, ◌^◌, ◌<◌, ◌≡◌, List, length, get_or}

-- a list with a place for each account
abbrev pub Rows : List ℕ → List ℕ → Type 0
Rows accounts places = length places ≡ length accounts

-- so many can be handed out: there is an account for them, and no share passes its width
pub record Handable (left : ℕ) (fractions shares : List ℕ) : Type 0 where
  pub accounts : length shares ≡ length fractions
  pub some : 0 < left → 0 < length fractions
  pub room : (i : ℕ) → i < length shares → get_or shares i 0 + left < 2 ^ 32
