-- Deposits, and payouts in two steps (Refusal numbers: "Deposit, lock: 15. Withdraw: 14."; document 02, #101). They are judged by the sheet and what waits, and change these alone.
use Rattle.std.specs.Prelude.{ℕ, ◌+◌, ◌-◌, Bool, not, eqb, pos, Ok, Some, None}
use Rattle.std.specs.Int.Signed.{le_z}
use Rattle.terms.specs.Ranges.{range_of, ◌∈◌}
use Rattle.terms.specs.declared.measure.Measure.TheVariants.{Transfer, Money}
use Rattle.terms.specs.declared.refusal.Refusal.TheVariants.{OutOfRange, CeilingPassed, AvailablePassed, NothingWaiting, AlreadyWaiting}
use Rattle.account.specs.Changes.{of_sheet}
use Rattle.account.specs.Money.{available_of}
use Rattle.terms.specs.Verdicts.{◌else◌then◌, accept}
use Rattle.account.specs.declared.account.Sheet.{Sheet}
use Rattle.account.specs.declared.judged.Change.{Change}
use Rattle.terms.specs.Verdicts.{Verdict}

-- "deposit or withdrawal 1 to 10^13" (Numbers)
abbrev pub amount_allowed : ℕ → Bool
amount_allowed amount = amount ∈ range_of Transfer

-- "ceilings: cash plus covered premium 10^15" (Numbers)
unfoldable pub deposit_verdict : Sheet → ℕ → Verdict
deposit_verdict s amount =
    amount_allowed amount else OutOfRange then
    (s.cash + s.premium + amount ∈ range_of Money) else CeilingPassed then
    accept

unfoldable pub deposit_change : Sheet → ℕ → ℕ → Change
deposit_change s last amount = of_sheet (record { cash = s.cash + amount; premium = s.premium; holds = s.holds; margin = s.margin }) None last

-- what waits is an amount, so at least 1: 0 says that nothing does (house)
abbrev pub nothing_waits : ℕ → Bool
nothing_waits waiting = eqb waiting 0

-- a withdrawal asks, and waits until it is paid or dropped: "one request may wait at a time", "20 for a second request, after 4 and before 14" (#101); "withdrawal greater than available" (Refusal numbers, 14)
unfoldable pub withdraw_verdict : Sheet → ℕ → ℕ → Verdict
withdraw_verdict s waiting amount =
    amount_allowed amount else OutOfRange then
    nothing_waits waiting else AlreadyWaiting then
    le_z (pos amount) (available_of s) else AvailablePassed then
    accept

-- "the amount is held as an order hold is" (#101)
unfoldable pub withdraw_change : Sheet → ℕ → ℕ → Change
withdraw_change s last amount = of_sheet (record { cash = s.cash; premium = s.premium; holds = s.holds + amount; margin = s.margin }) (Some amount) last

-- "19 for 9 or 10 with nothing waiting" (#101)
unfoldable pub payout_verdict : ℕ → Verdict
payout_verdict waiting = not (nothing_waits waiting) else NothingWaiting then accept

-- kind 9 "pays it out of cash", and it is held no longer; kind 10 "drops it" (#101)
unfoldable pub pay_change : Sheet → ℕ → ℕ → Change
pay_change s last waiting = of_sheet (record { cash = s.cash - waiting; premium = s.premium; holds = s.holds - waiting; margin = s.margin }) (Some 0) last

unfoldable pub drop_change : Sheet → ℕ → ℕ → Change
drop_change s last waiting = of_sheet (record { cash = s.cash; premium = s.premium; holds = s.holds - waiting; margin = s.margin }) (Some 0) last
