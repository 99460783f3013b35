-- Each turn adds one contract's margin, and its units and what is held of it to those of its underlying.
use Rattle.std.proofs.Common.{◌≡◌, length}
use Rattle.std.specs.Iterator.Adapters.{zip_first, zip_second}
use Rattle.std.specs.Slice.Iter.{iter_rest}
use Rattle.day_end.specs.Passes.{holdings_to, margin_to, running_to}
use Rattle.day_end.proofs.Turn.{Left}
use Rattle.day_end.proofs.after.work_out.Given as goal

abbrev pub invariant-loop-contract : goal.invariant-loop-contract
invariant-loop-contract l =
    record {
      can : (goal.iterator-loop-contract).can_next l.contract-iterator;
      finite : (goal.iterator-loop-contract).is_finite l.contract-iterator;
      left : Left l.fn.tables l.fn.positions (length l.yielded) (iter_rest (zip_first l.contract-iterator)) (iter_rest (zip_second l.contract-iterator));
      margin_so_far : l.margin ≡ margin_to l.fn.tables l.fn.positions (length l.yielded);
      holdings_so_far : l.holdings ≡ holdings_to l.fn.tables l.fn.positions (length l.yielded);
      running_so_far : l.running ≡ running_to l.fn.tables l.fn.positions (length l.yielded);
    }
