-- A turn puts one line more behind those that are on the page, 32 bytes at most.
use Rattle.std.proofs.Common.{ap, ap₂, ◌∙◌, suc, ◌+◌, ℕ, pos, length, get_or, w64, FitsSigned, arith, rules}
use Rattle.std.proofs.Math.ListN.{length-append}
use Rattle.std.proofs.Math.Seq.{take_all}
use mir.ValLaws.{to_z-of_z}
use Rattle.book.specs.Lines.{lines_from}
use Rattle.book.proofs.Lengths.{line_within}
use Rattle.book.proofs.Numbering.{next_line}
use Rattle.book.proofs.text.lines.Goals as goal
use Rattle.book.proofs.text.lines.Goals.{After-loop-i}

pub loop-i-init : goal.loop-i-init
unfolding lines_from
loop-i-init c = record { put = c.clear.ensures; short = rw c.clear.ensures (omega arith) }

pub line-requires : goal.line-requires
line-requires c =
    let range : FitsSigned w64 (get_or c.args.sums.now c.loop-i.i (pos 0)) = search rules in
    rw (to_z-of_z w64 _ range)
    (omega (arith, line_within (c.args.first + c.loop-i.i + 1) _ _ (omega arith) (c.type_inv.refusals c.loop-i.i).fits range))

pub loop-i-preserved : goal.loop-i-preserved
loop-i-preserved c =
    let range : FitsSigned w64 (get_or c.args.sums.now c.loop-i.i (pos 0)) = search rules in
    let line = rw (to_z-of_z w64 (get_or c.args.sums.now c.loop-i.i (pos 0)) range) at c.line.ensures in
    let short = line_within (c.args.first + c.loop-i.i + 1) _ _ (omega arith) (c.type_inv.refusals c.loop-i.i).fits range in
    record {
      put = rw (next_line c.args.first c.loop-i.i c.args.refusals.now c.args.sums.now (omega arith) (omega arith), ← c.loop-i.invariant.put) line;
      short = omega (arith, ap length line, length-append {A = ℕ}, short);
    }

pub returns : goal.returns
returns c = c.loop-i.invariant.put ∙ ap₂ (lines_from (suc c.args.first)) (take_all c.loop-i.i c.args.refusals.now (omega arith)) (take_all c.loop-i.i c.args.sums.now (omega arith))
