-- One sum, from which every total is made.
use Rattle.std.specs.Prelude.{ℕ, zero, suc, ◌+◌, Bool, cond}

-- Σ n f is f 0 + f 1 + .. over the numbers below n (house)
unfoldable pub Σ : ℕ → (ℕ → ℕ) → ℕ
Σ zero f = 0
Σ (suc n) f = Σ n f + f n

infixl 25 ◌when◌
-- a term that counts only where a test holds (house)
abbrev pub ◌when◌ : ℕ → Bool → ℕ
x when test = cond test x 0

-- the lowest number below n that passes a test, or n where none does (house)
unfoldable pub lowest : ℕ → (ℕ → Bool) → ℕ
lowest zero test = 0
lowest (suc n) test = cond (test (lowest n test)) (lowest n test) (suc n)
