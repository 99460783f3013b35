-- What a posting needs of the sheet, which is no rule: the numbers that hold the sums end at 2^64, and a difference stops at zero.
use Rattle.std.specs.Prelude.{◌+◌, ◌^◌, ◌≤◌, ◌<◌}
use Rattle.account.specs.declared.account.Sheet.{Sheet}
use Rattle.postings.specs.declared.Posting.{Posting}
use Rattle.postings.specs.declared.Posting.TheVariants.{HoldTaken, HoldFreed, CashIn, CashOut, CoveredPremium, MarginTaken, MarginFreed, DayEnd}

-- what is taken off is there, and what is added to stays in reach (house)
abbrev pub Postable : Sheet → Posting → Type 0
Postable s (HoldTaken sum) = s.holds + sum < 2 ^ 64
Postable s (HoldFreed sum) = sum ≤ s.holds
Postable s (CashIn sum) = s.cash + sum < 2 ^ 64
Postable s (CashOut sum) = sum ≤ s.cash
Postable s (CoveredPremium sum) = s.premium + sum < 2 ^ 64
Postable s (MarginTaken sum) = s.margin + sum < 2 ^ 64
Postable s (MarginFreed sum) = sum ≤ s.margin
Postable s (DayEnd margin waiting) = s.cash + s.premium < 2 ^ 64
