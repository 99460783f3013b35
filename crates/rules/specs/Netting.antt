-- Netting at day end (002, question 20): "long against short first, then what is left of long against covered".
use Rattle.std.specs.Prelude.{ℕ, ◌-◌, min}
use Rattle.terms.specs.declared.count.Position.{Position}

-- long that meets short: uncovered positions come first
unfoldable pub against_short : Position → ℕ
against_short p = min p.long.0 p.short.0

-- what is left of long that meets covered
unfoldable pub against_covered : Position → ℕ
against_covered p = min (p.long.0 - against_short p) p.covered.0

-- each meeting takes as much off both sides
unfoldable pub netted : Position → Position
netted p =
    record {
      long = record { 0 = p.long.0 - against_short p - against_covered p };
      short = record { 0 = p.short.0 - against_short p };
      covered = record { 0 = p.covered.0 - against_covered p };
    }
