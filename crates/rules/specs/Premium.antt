-- Premium for one contract (document 01, "Margin for one contract", its last line).
use Rattle.std.specs.Prelude.{ℕ, ◌*◌, ◌/◌}

-- premium in fen = price x U / 100, exact since U is a multiple of 100 (house)
unfoldable pub premium_of : ℕ → ℕ → ℕ
premium_of price U = price * U / 100
