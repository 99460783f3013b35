-- A line ends before the byte 10, or where there are no more bytes.
use Rattle.std.specs.Prelude.{ℕ, ◌+◌, List, length, drop, not, ◌==◌}
use Rattle.std.specs.List.{take_while}

-- where the line that starts at a place ends; past the last byte it ends where it starts
abbrev pub line_end : List ℕ → ℕ → ℕ
line_end s from = from + length (take_while (λ b. not (b == 10)) (drop from s))
