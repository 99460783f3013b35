-- "The money sheet of four sums is lent to each posting, which updates it where it stands" (The account): what each leaves of it.
use Rattle.std.specs.Prelude.{◌+◌, ◌-◌, List, [], ◌∷◌}
use Rattle.account.specs.declared.account.Sheet.{Sheet}
use Rattle.postings.specs.declared.Posting.{Posting}
use Rattle.postings.specs.declared.Posting.TheVariants.{HoldTaken, HoldFreed, CashIn, CashOut, CoveredPremium, MarginTaken, MarginFreed, DayEnd}

-- the sheet after a posting, each of which moves one sum; a day end, the last, settles all four
abbrev pub posted : Sheet → Posting → Sheet
posted s (HoldTaken sum) = record { cash = s.cash; premium = s.premium; holds = s.holds + sum; margin = s.margin }  -- an accepted order takes its hold: "order holds" (The account); a payout that is asked for, too (#101)
posted s (HoldFreed sum) = record { cash = s.cash; premium = s.premium; holds = s.holds - sum; margin = s.margin }  -- a fill frees its share of it, a cancel the rest (Orders and fills); a payout that is paid or dropped its own (#101)
posted s (CashIn sum) = record { cash = s.cash + sum; premium = s.premium; holds = s.holds; margin = s.margin }  -- a deposit; "kinds 2 and 3 receive it in cash" (Orders and fills)
posted s (CashOut sum) = record { cash = s.cash - sum; premium = s.premium; holds = s.holds; margin = s.margin }  -- a payout that is paid (#101); "buys pay the fill price from cash" (Orders and fills)
posted s (CoveredPremium sum) = record { cash = s.cash; premium = s.premium + sum; holds = s.holds; margin = s.margin }  -- "kind 5 in covered premium", "not yet usable" (000, article 11)
posted s (MarginTaken sum) = record { cash = s.cash; premium = s.premium; holds = s.holds; margin = s.margin + sum }  -- "short x margin": an open of it asks (The account)
posted s (MarginFreed sum) = record { cash = s.cash; premium = s.premium; holds = s.holds; margin = s.margin - sum }  -- and a close of it frees (The account)
posted s (DayEnd margin waiting) = record { cash = s.cash + s.premium; premium = 0; holds = waiting; margin = margin }  -- "covered premium joins cash", no order rests and what waits "survives", "margin worked afresh" (Day end; #101)

-- postings one after the other (house)
abbrev pub all_posted : Sheet → List Posting → Sheet
all_posted s [] = s
all_posted s (posting ∷ rest) = all_posted (posted s posting) rest
