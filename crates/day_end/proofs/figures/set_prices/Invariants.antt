-- The rows passed have their prices, and the others are as they were.
use Rattle.std.proofs.Common.{◌≡◌, ℕ, ◌<◌, ◌≤◌, get_or}
use Rattle.day_end.proofs.figures.set_prices.Given as goal

abbrev pub invariant-loop-i : goal.invariant-loop-i
invariant-loop-i g l =
    record {
      passed : (k : ℕ) (none : _) → k < l.i → get_or l.rows k none ≡ g.T.Priced.priced (get_or l.initial.rows k none) (get_or l.prices k 0);
      ahead : (k : ℕ) (none : _) → l.i ≤ k → get_or l.rows k none ≡ get_or l.initial.rows k none;
    }
