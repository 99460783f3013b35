-- Of the accounts so far the covered contracts are taken out, and the others have their whole shares still.
use Rattle.std.proofs.Common.{◌≡◌, ℕ, ◌≤◌, get_or}
use Rattle.assignment.specs.Assignment.{covered_first, uncovered_then}
use Rattle.assignment.proofs.Filled.{FilledTo}
use Rattle.assignment.proofs.covered_first.Given as goal

abbrev pub invariant-loop-i : goal.invariant-loop-i
invariant-loop-i l =
    record {
      covered_filled : FilledTo l.i (λ k. covered_first (get_or l.fn.shares k 0) (get_or l.covered k 0)) l.cover;
      uncovered_filled : FilledTo l.i (λ k. uncovered_then (get_or l.fn.shares k 0) (get_or l.covered k 0)) l.shares;
      whole_still : (k : ℕ) → l.i ≤ k → get_or l.shares k 0 ≡ get_or l.fn.shares k 0;
    }
