-- Words stand between blanks. Lines of other systems end with CR and LF, so CR is one.
use Rattle.std.specs.Prelude.{ℕ, List, Bool, length, drop, ◌==◌, ◌||◌}
use Rattle.std.specs.List.{take_while}

abbrev pub blank : ℕ → Bool
blank b = (b == 32) || ((b == 9) || (b == 13))

-- a line without the blanks that it begins with
abbrev pub behind_blanks : List ℕ → List ℕ
behind_blanks line = drop (length (take_while blank line)) line
