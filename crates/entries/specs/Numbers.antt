-- Numbers as records carry them: "all unsigned, little-endian" (Records).
use Rattle.std.specs.Prelude.{ℕ, zero, suc, ◌+◌, ◌*◌, ◌/◌, ◌%◌, List, [], ◌∷◌, ◌++◌, take, drop}

-- x as w bytes, the lowest first (house)
unfoldable pub bytes : ℕ → ℕ → List ℕ
bytes zero x = []
bytes (suc w) x = x % 256 ∷ bytes w (x / 256)

-- the number that bytes make, the lowest first (house)
unfoldable pub value : List ℕ → ℕ
value [] = 0
value (b ∷ bs) = b + 256 * value bs

-- the number of w bytes at a place (house)
unfoldable pub number_at : ℕ → List ℕ → ℕ → ℕ
unfolding value
number_at w s at = value (take w (drop at s))

-- numbers of the given widths, one after the other from a place (house)
abbrev pub numbers_at : List ℕ → List ℕ → ℕ → List ℕ
numbers_at [] s at = []
numbers_at (w ∷ ws) s at = number_at w s at ∷ numbers_at ws s (at + w)

-- numbers as bytes, each in its width, one after the other (house)
abbrev pub packed : List ℕ → List ℕ → List ℕ
packed (w ∷ ws) (x ∷ xs) = bytes w x ++ packed ws xs
packed (w ∷ ws) [] = []
packed [] xs = []

-- how many bytes the widths come to (house)
abbrev pub total : List ℕ → ℕ
total [] = 0
total (w ∷ ws) = w + total ws
