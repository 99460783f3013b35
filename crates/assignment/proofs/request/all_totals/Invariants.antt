-- Each account so far has a net total in its range, and `sum` is what they add up to.
use Rattle.std.proofs.Common.{◌≡◌, ◌*◌, ◌≤◌, true, length}
use Rattle.terms.specs.Listed.{every}
use Rattle.terms.specs.Ranges.{range_of, ◌∈◌}
use Rattle.terms.specs.Sums.{Σ}
use Rattle.terms.specs.declared.measure.Measure.TheVariants.{NetTotal}
use Rattle.assignment.specs.Assignment.{net_total}
use Rattle.assignment.proofs.request.all_totals.Given as goal

abbrev pub invariant-loop-s : goal.invariant-loop-s
invariant-loop-s l =
    record {
      each : every (length l.yielded) (λ k. net_total l.short l.covered k ∈ range_of NetTotal) ≡ true;
      summed : l.sum ≡ Σ (length l.yielded) (net_total l.short l.covered);
      bounded : l.sum ≤ length l.yielded * 10_000;
    }
