-- `margin` meets its contract: the quotient with 5,000 added is the one rounded halves up, and nothing wraps, since the figures passed the tests.
use Rattle.std.proofs.Common.{◌≡◌, ℕ, ◌+◌, ◌*◌, ◌/◌, ◌≤◌, true, ap, ◌∙◌, arith}
use Rattle.std.proofs.Math.Nat.{mul-le-mul}
use Rattle.std.specs.Prelude.{Ok}
use Rattle.terms.specs.declared.class.Class.{Class}
use Rattle.terms.specs.declared.right.Right.{Right}
use Rattle.rules.specs.Charges.{margin_allowed, margin_charge}
use Rattle.rules.specs.Margin.{rates_of, amount_of, margin_of, halves_up}
use Rattle.rules.specs.declared.amount.Rates.{Rates}
use Rattle.rules.proofs.Bounds.{figures, amount_in_range}
use Rattle.rules.proofs.margin.Goals as goal
use Rattle.rules.proofs.margin.Goals.{After-amount-amount}

-- what the calls ensure, where the tests passed
module _ (class : Class) (right : Right) (S P K U : ℕ) (passed : margin_allowed S P K U ≡ true) (q : Rates) (A : ℕ) (eq : q ≡ rates_of class right) (ea : A ≡ amount_of q right S P K) where
  amount : A ≡ amount_of (rates_of class right) right S P K
  amount = ea ∙ ap (λ (rates : Rates). amount_of rates right S P K) eq

  small : U * A ≤ 131_000_000_000_000
  small = mul-le-mul {m₂ = 1_310_000_000} (figures S P K U passed).unit (rw amount (amount_in_range class right S P K U passed))

  answered : Ok ((U * A + 5_000) / 10_000) ≡ margin_charge class right S P K U
  unfolding margin_charge margin_of halves_up
  answered =
      let rounded : (U * A + 5_000) / 10_000 ≡ margin_of (rates_of class right) right S P K U = rw (← amount) (omega arith) in
      simp passed (ap Ok rounded)

-- the four tests that the code joins are those of the definition
passed : (c : After-amount-amount) → margin_allowed c.args.settlement c.args.close c.args.strike c.args.unit ≡ true
unfolding margin_allowed
passed c = cc

product : (c : After-amount-amount) → c.args.unit * c.amount-amount.result ≤ 131_000_000_000_000
product c = small _ _ _ _ _ _ (passed c) _ _ c.rates_of.ensures c.amount-amount.ensures

pub overflow_mul-result : goal.overflow_mul-result
overflow_mul-result c = omega (arith, product (goal.at.overflow_mul-result c).After-amount-amount)

pub overflow_add-result : goal.overflow_add-result
overflow_add-result c = omega (arith, product (goal.at.overflow_add-result c).After-amount-amount)

pub returns-then-allows-unit_allowed : goal.returns-then-allows-unit_allowed
returns-then-allows-unit_allowed c =
    let tested = passed (goal.at.returns-then-allows-unit_allowed c).After-amount-amount in
    answered _ _ _ _ _ _ tested _ _ c.rates_of.ensures c.amount-amount.ensures
