-- What a charge says in the paper's numbers.
use Rattle.std.specs.Prelude.{◌≡◌, Bool, cond, ℕ, Result}
use Rattle.terms.specs.declared.refusal.Refusal.{Refusal}
use Rattle.terms.specs.Verdicts.{number_in}
use Rattle.rules.specs.Charges.{fen_in}

-- number 0 and the fen where all figures are allowed, else number 4 and no fen
abbrev pub Says : Bool → ℕ → Result ℕ Refusal → Type 0
Says allowed fen charge = (number_in charge ≡ cond allowed 0 4) × (fen_in charge ≡ cond allowed fen 0)
