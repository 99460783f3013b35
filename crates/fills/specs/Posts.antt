-- What a fill posts, by the count that its kind moves (Orders and fills).
use Rattle.std.specs.Prelude.{ℕ, Bool, true, false, List, [], ◌∷◌}
use Rattle.terms.specs.declared.kind.Side.{Side}
use Rattle.terms.specs.declared.kind.Side.TheVariants.{Long, Short, Covered}
use Rattle.postings.specs.declared.Posting.{Posting}
use Rattle.postings.specs.declared.Posting.TheVariants.{HoldFreed, CashIn, CashOut, CoveredPremium, MarginTaken, MarginFreed}

-- "Buys pay the fill price from cash. Kinds 2 and 3 receive it in cash, kind 5 in covered premium" (Orders and fills)
abbrev pub premium_posting : Side → Bool → ℕ → Posting
premium_posting side true sum = CashOut sum
premium_posting Long false sum = CashIn sum
premium_posting Short false sum = CashIn sum
premium_posting Covered false sum = CoveredPremium sum

-- an open of a short position asks margin, a close frees it (The account)
abbrev pub margin_posting : Bool → ℕ → Posting
margin_posting true sum = MarginTaken sum
margin_posting false sum = MarginFreed sum

-- margin is short x margin, and so is posted with short alone (The account)
abbrev pub margin_postings : Side → Bool → ℕ → List Posting
margin_postings Long opens sum = []
margin_postings Short opens sum = margin_posting opens sum ∷ []
margin_postings Covered opens sum = []

-- its share of the hold, the premium, the margin (Orders and fills)
abbrev pub fill_postings : Side → Bool → Bool → ℕ → ℕ → ℕ → List Posting
fill_postings side buys opens share paid asked = HoldFreed share ∷ premium_posting side buys paid ∷ margin_postings side opens asked
