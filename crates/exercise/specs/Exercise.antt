-- A request for exercise on the expiry evening (#105). K strike in 0.0001 yuan, U unit; what is offered is fen for a call, units of the underlying for a put.
use Rattle.std.specs.Prelude.{ℕ, ◌*◌, ◌≤◌, ◌≡◌, Bool, true, ◌&&◌, leb, Ok}
use Rattle.terms.specs.Counts.{units_for}
use Rattle.terms.specs.Ranges.{range_of, unit_allowed, ◌∈◌}
use Rattle.terms.specs.Verdicts.{◌else◌then◌, accept}
use Rattle.terms.specs.declared.count.Contracts.{Contracts}
use Rattle.terms.specs.declared.count.Position.{Position}
use Rattle.terms.specs.declared.measure.Measure.TheVariants.{Exercise, Price}
use Rattle.terms.specs.declared.refusal.Refusal.TheVariants.{OutOfRange, LongTooSmall, MeansTooSmall}
use Rattle.terms.specs.declared.right.Right.{Right}
use Rattle.terms.specs.declared.right.Right.TheVariants.{Call, Put}
use Rattle.terms.specs.Verdicts.{Verdict}
use Rattle.rules.specs.Netting.{netted}

-- "a requested count outside 1 to 10,000" is refused (#105), and so is a strike or a unit outside its range (Numbers)
unfoldable pub request_allowed : ℕ → ℕ → Contracts → Bool
request_allowed K U count = (count.0 ∈ range_of Exercise) && (K ∈ range_of Price) && unit_allowed U

-- "long after netting" (#105; 002, question 20)
unfoldable pub long_left : Position → ℕ
long_left position = (netted position).long.0

-- "for a call .. strike times unit, for a put .. the contract unit, each times the count" (#105): 0.0001 yuan for a call, units for a put
unfoldable pub taken : Right → ℕ → ℕ → Contracts → ℕ
taken Call K U count = K * U * count.0
taken Put K U count = (units_for count U).0

-- what is offered, measured as what is taken: a fen is a hundred times 0.0001 yuan, so nothing is rounded (#105)
unfoldable pub brought : Right → ℕ → ℕ
brought Call fen = 100 * fen
brought Put units = units

-- 4 first, then 22 for position, 23 for means (#105)
unfoldable pub exercise_verdict : Right → ℕ → ℕ → Position → Contracts → ℕ → Verdict
exercise_verdict right K U position count offered =
    request_allowed K U count else OutOfRange then
    leb count.0 (long_left position) else LongTooSmall then
    leb (taken right K U count) (brought right offered) else MeansTooSmall then
    accept

-- a good request: "long after netting covers it", and the means "reach" what it takes (#105)
pub record Good (right : Right) (K U : ℕ) (position : Position) (count : Contracts) (offered : ℕ) : Type 0 where
  pub allowed : request_allowed K U count ≡ true
  pub covered : count.0 ≤ long_left position
  pub reached : taken right K U count ≤ brought right offered
