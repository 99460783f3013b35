-- The ranges hold each factor of strike times unit times the count, so the product is at most 10 ^ 16.
use Rattle.std.proofs.Common.{◌≡◌, ℕ, ◌*◌, ◌≤◌, true, arith}
use Rattle.std.proofs.Math.Nat.{mul-le-mul}
use Rattle.std.proofs.lemmas.Bool.Decides.{nat_tests}
use Rattle.terms.specs.Counts.{units_for}
use Rattle.terms.specs.declared.count.Contracts.{Contracts}
use Rattle.exercise.specs.Exercise.{request_allowed}
use Rattle.exercise.proofs.reached.Goals as goal

bounded : (K U : ℕ) (count : Contracts) → request_allowed K U count ≡ true → K * (units_for count U).0 ≤ 10_000_000_000_000_000
unfolding request_allowed
bounded K U count passed =
    let within : (K ≤ 10_000_000) × (count.0 ≤ 10_000) × (U ≤ 100_000) = grind (arith, nat_tests) in
    mul-le-mul {n₂ = 10_000_000} within.0 (mul-le-mul {n₂ = 10_000} within.1 within.2)

pub paid-requires : goal.paid-requires
paid-requires c = rw c.units.ensures (bounded _ _ _ c.requires)
