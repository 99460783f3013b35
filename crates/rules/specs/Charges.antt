-- What a margin or a premium is answered with: the fen, or refusal 4 where a figure is outside its range (Numbers; Refusal numbers).
use Rattle.std.specs.Prelude.{ℕ, Bool, cond, ◌&&◌, Result, Ok, Err}
use Rattle.std.specs.Result.{result_unwrap_or}
use Rattle.terms.specs.declared.refusal.Refusal.{Refusal}
use Rattle.terms.specs.Ranges.{range_of, unit_allowed, ◌∈◌}
use Rattle.terms.specs.declared.class.Class.{Class}
use Rattle.terms.specs.declared.measure.Measure.TheVariants.{Price, Settlement}
use Rattle.terms.specs.declared.refusal.Refusal.TheVariants.{OutOfRange}
use Rattle.terms.specs.declared.right.Right.{Right}
use Rattle.rules.specs.Margin.{rates_of, margin_of}
use Rattle.rules.specs.Premium.{premium_of}

-- the figures of a margin, settlement, close, strike and unit, each in its range (house)
unfoldable pub margin_allowed : ℕ → ℕ → ℕ → ℕ → Bool
margin_allowed S P K U = (S ∈ range_of Settlement) && (P ∈ range_of Price) && (K ∈ range_of Price) && unit_allowed U

-- the margin of articles 14, 15, 18 to 20 where they are, else 4 (house)
unfoldable pub margin_charge : Class → Right → ℕ → ℕ → ℕ → ℕ → Result ℕ Refusal
margin_charge class right S P K U =
    cond (margin_allowed S P K U) (Ok (margin_of (rates_of class right) right S P K U)) (Err OutOfRange)

-- the figures of a premium, price and unit, each in its range (house)
unfoldable pub premium_allowed : ℕ → ℕ → Bool
premium_allowed price U = (price ∈ range_of Price) && unit_allowed U

-- the premium where they are, else 4 (house)
unfoldable pub premium_charge : ℕ → ℕ → Result ℕ Refusal
premium_charge price U = cond (premium_allowed price U) (Ok (premium_of price U)) (Err OutOfRange)

-- the fen that are charged: none where the charge is refused (house)
unfoldable pub fen_in : Result ℕ Refusal → ℕ
fen_in charge = result_unwrap_or charge 0
