-- Margin for one contract (000, articles 14, 15, 18 to 20). S settlement, P underlying close, K strike, U unit; prices in 0.0001 yuan, the margin in fen.
use Rattle.std.specs.Prelude.{ℕ, ◌+◌, ◌-◌, ◌*◌, ◌/◌, min, cond, leb}
use Rattle.terms.specs.declared.class.Class.{Class}
use Rattle.terms.specs.declared.class.Class.TheVariants.{Stock, Fund}
use Rattle.terms.specs.declared.right.Right.{Right}
use Rattle.terms.specs.declared.right.Right.TheVariants.{Call, Put}
use Rattle.rules.specs.declared.amount.Rates.{Rates}

infix 60 ◌less◌but_at_least◌
-- max(a - b, floor). The difference counts only where it reaches the floor; where it is smaller, or would fall below zero, the maximum takes the floor.
unfoldable pub ◌less◌but_at_least◌ : ℕ → ℕ → ℕ → ℕ
a less b but_at_least floor = cond (leb (floor + b) a) (a - b) floor

-- out of the money, called O: call max(K-P, 0), put max(P-K, 0) (article 14, where the call's amount is misprinted as "margin")
unfoldable pub out_of_the_money : Right → ℕ → ℕ → ℕ
out_of_the_money Call P K = K less P but_at_least 0
out_of_the_money Put P K = P less K but_at_least 0

-- call: A = 100S + max(rP - 100O, fP); put: A = min(100S + max(rP - 100O, fK), 100K) (articles 14, 15, 18, 19)
unfoldable pub amount_of : Rates → Right → ℕ → ℕ → ℕ → ℕ
amount_of q Call S P K = 100 * S + (q.r * P less 100 * out_of_the_money Call P K but_at_least q.f * P)
amount_of q Put S P K = min (100 * S + (q.r * P less 100 * out_of_the_money Put P K but_at_least q.f * K)) (100 * K)

-- stock: call r 21, put r 19, f 10 (articles 14, 18); exchange traded fund: r 12, f 7 (articles 15, 19)
unfoldable pub rates_of : Class → Right → Rates
rates_of Stock Call = record { r = 21; f = 10 }
rates_of Stock Put = record { r = 19; f = 10 }
rates_of Fund right = record { r = 12; f = 7 }

-- x / d to the nearest whole number, halves up: the whole part of x / d + 1/2 (article 20)
unfoldable pub halves_up : ℕ → ℕ → ℕ
halves_up x d = (2 * x + d) / (2 * d)

-- margin in fen = U x A / 10,000, halves up, rounded for one contract (article 20)
unfoldable pub margin_of : Rates → Right → ℕ → ℕ → ℕ → ℕ → ℕ
margin_of q right S P K U = halves_up (U * amount_of q right S P K) 10_000
