-- The place of a number among the orders, as `place_of` says it of an account.
use Rattle.std.specs.Prelude.{ℕ, not, ◌&&◌, List, eqb, get_or}
use Rattle.account.specs.Rows.{free}
use Rattle.terms.specs.Sums.{lowest}
use Rattle.account.specs.declared.account.Resting.{Resting}

abbrev pub place_among : List Resting → ℕ → ℕ
place_among orders number = lowest 32 (λ i. eqb (get_or orders i free).number number && not (eqb number 0))
