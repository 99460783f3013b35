-- Allowed counts are bounded, since the tests of both ranges passed.
use Rattle.std.proofs.Common.{◌≡◌, true, ℕ, ◌≤◌}
use Rattle.terms.specs.Ranges.{range_of, ◌∈◌}
use Rattle.terms.specs.declared.measure.Measure.TheVariants.{Contracts, Underlyings}
use Rattle.terms.proofs.Ranges.{first_holds, second_holds, inside}
use Rattle.entries.specs.Table.{counts_allowed}

pub counts_inside : (n m : ℕ) → counts_allowed n m ≡ true → (1 ≤ n) × (n ≤ 64) × (1 ≤ m) × (m ≤ 8)
counts_inside n m h =
    let contracts = inside n (range_of Contracts) (first_holds (n ∈ range_of Contracts) (m ∈ range_of Underlyings) h) in
    let underlyings = inside m (range_of Underlyings) (second_holds (n ∈ range_of Contracts) (m ∈ range_of Underlyings) h) in
    (contracts.0, contracts.1, underlyings.0, underlyings.1)
