-- The accounts so far have their whole parts and fractions, and what is left is E less those whole parts.
use Rattle.std.proofs.Common.{◌≡◌, ◌+◌}
use Rattle.terms.specs.Sums.{Σ}
use Rattle.assignment.specs.Assignment.{fraction, whole_part}
use Rattle.assignment.proofs.Filled.{FilledTo}
use Rattle.assignment.proofs.request.Request.whole_parts.Given as goal

abbrev pub invariant-loop-i : goal.invariant-loop-i
invariant-loop-i l =
    record {
      shares_filled : FilledTo l.i (whole_part l.self.exercised l.self.short.now l.self.covered.now) l.shares;
      fractions_filled : FilledTo l.i (fraction l.self.exercised l.self.short.now l.self.covered.now) l.fractions;
      left_so_far : l.left + Σ l.i (whole_part l.self.exercised l.self.short.now l.self.covered.now) ≡ l.self.exercised;
    }
