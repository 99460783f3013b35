-- `verdict` meets its contract: after each column the rest of the walk still gives the verdict, and the walk by numbers is the definition's.
use Rattle.std.proofs.Common.{rules, ◌≡◌, ℕ, ◌-◌, ◌*◌, List, map, sym, ap, arith}
use mathlib.Core.Path.{◌∙◌}
use mathlib.Core.Bool.{Bool}
use Rattle.std.specs.Prelude.{Err}
use Rattle.terms.specs.Codes.{kind_code}
use Rattle.entries.specs.declared.entry.Order.{Order}
use Rattle.account.specs.Checks.{columns, order_verdict, passes}
use Rattle.account.specs.declared.judged.Facts.{Facts}
use Rattle.terms.specs.Verdicts.{Verdict}
use Rattle.orders.proofs.Walk.{tested, walk_at, walks, refused, goes_on, left_out, accepted}
use Rattle.orders.proofs.checks.verdict.Goals as goal
use Rattle.orders.proofs.checks.verdict.Goals.{then-row-column+in_ok-check, else-row-column}

-- the walk from column 0 with what `checks` gave is the verdict
judged : (f : Facts) (o : Order) (code : ℕ) (checks : List Verdict) (v : Verdict) → code ≡ kind_code o.kind → checks ≡ map (tested f o) columns
    → v ≡ walk_at 9 (9 * (code - 1)) checks 0 → v ≡ order_verdict f o
judged f o code checks v e p walk = walk ∙ (λ i. walk_at 9 (9 * (e i - 1)) (p i) 0) ∙ walks f o

pub returns-in_err-check : goal.returns-in_err-check
returns-in_err-check c =
    let refuses : c.from_residual.result ≡ Err c.in_err-check.field-0.0 = search rules in
    judged c.args.facts c.args.order _ _ _ c.from.ensures c.checks-checks.ensures
    (refuses ∙ refused 9 _ _ _ c.loop-column-test.true c.if-row-column.true _ c.in_err-check.was ∙ sym c.loop-column.invariant.1)

pub loop-column-preserved : goal.loop-column-preserved
loop-column-preserved c = (
  omega arith,
  c.loop-column.invariant.1
      ∙ elim c.if-row-column.branch [
        | then-row-column+in_ok-check w ↦ goes_on 9 _ _ _ c.loop-column-test.true w.if-row-column.true w.in_ok-check.was
        | else-row-column w ↦ left_out 9 _ _ _ c.loop-column-test.true w.if-row-column.false
      ],
)

pub returns : goal.returns
returns c =
    judged c.args.facts c.args.order _ _ _ c.from.ensures c.checks-checks.ensures (accepted 9 _ _ _ c.loop-column-test.false ∙ sym c.loop-column.invariant.1)
