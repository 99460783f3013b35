-- "Which checks an order meets is one fixed table of six rows (kinds) by nine columns" (Refusal numbers).
use Rattle.std.specs.Prelude.{ℕ, ◌+◌, ◌-◌, ◌*◌, Bool, true, false, not, ◌||◌, List, [], ◌∷◌, leb, ltb, eqb, pos, get_or, Ok}
use Rattle.std.specs.Int.Signed.{le_z}
use Rattle.terms.specs.Codes.{kind_code}
use Rattle.terms.specs.declared.kind.OrderKind.{OrderKind}
use Rattle.terms.specs.declared.refusal.Refusal.{Refusal}
use Rattle.terms.specs.declared.refusal.Refusal.TheVariants.{OutOfRange, StaleNumber, OrdersFull, PositionTooSmall, RightsPassed, TotalPassed, DailyPassed, SpareTooFew, AvailablePassed}
use Rattle.entries.specs.declared.entry.Order.{Order}
use Rattle.terms.specs.Verdicts.{◌else◌then◌, accept}
use Rattle.account.specs.declared.judged.Facts.{Facts}
use Rattle.terms.specs.Verdicts.{Verdict}

-- the nine columns, by what is checked (house)
pub data Check : Type 0 where
  Values : Check
  Number : Check
  Places : Check
  Closing : Check
  Rights : Check
  Total : Check
  Daily : Check
  Spare : Check
  Available : Check

-- the nine checks: "new order counted", "a sum equal to the limit is accepted" (001, chapter five); a hold equal to available passes, and what a close would free is not yet in it (house)
abbrev pub passes : Check → Facts → Order → Bool
passes Values f o = f.allowed
passes Number f o = ltb f.last o.number
passes Places f o = ltb f.place 32
passes Closing f o = leb (f.closing.0 + o.quantity) f.position.0
passes Rights f o = leb (f.rights.0 + o.quantity) f.limits.rights
passes Total f o = leb (f.total.0 + o.quantity) f.limits.total
passes Daily f o = leb (f.holding.bought.0 + o.quantity) f.limits.daily
passes Spare f o = leb f.needed.0 f.spare.0
passes Available f o = le_z (pos f.hold) f.available

-- the columns in their order (house)
abbrev pub columns : List Check
columns = Values ∷ Number ∷ Places ∷ Closing ∷ Rights ∷ Total ∷ Daily ∷ Spare ∷ Available ∷ []

-- the columns' numbers: 4, 6, 8, 9, 10, 11, 12, 13, 14 (house)
abbrev pub refusal_for : Check → Refusal
refusal_for Values = OutOfRange
refusal_for Number = StaleNumber
refusal_for Places = OrdersFull
refusal_for Closing = PositionTooSmall
refusal_for Rights = RightsPassed
refusal_for Total = TotalPassed
refusal_for Daily = DailyPassed
refusal_for Spare = SpareTooFew
refusal_for Available = AvailablePassed

-- a check that is met, and one that is not (house)
abbrev pub Y : Bool
Y = true

abbrev pub N : Bool
N = false

-- the table: a row for each kind, a flag for each of the columns 4, 6, 8, 9, 10, 11, 12, 13, 14 (house)
abbrev pub flags : List Bool
flags =
    Y ∷ Y ∷ Y ∷ N ∷ Y ∷ Y ∷ Y ∷ N ∷ Y ∷  -- 1 buy open
    Y ∷ Y ∷ Y ∷ Y ∷ N ∷ N ∷ N ∷ N ∷ N ∷  -- 2 sell close
    Y ∷ Y ∷ Y ∷ N ∷ N ∷ Y ∷ N ∷ N ∷ Y ∷  -- 3 sell open
    Y ∷ Y ∷ Y ∷ Y ∷ N ∷ N ∷ N ∷ N ∷ Y ∷  -- 4 buy close
    Y ∷ Y ∷ Y ∷ N ∷ N ∷ Y ∷ N ∷ Y ∷ N ∷  -- 5 covered open
    Y ∷ Y ∷ Y ∷ Y ∷ N ∷ N ∷ N ∷ N ∷ Y ∷ []  -- 6 covered close

-- where a column stands in a row (house)
abbrev pub column_of : Check → ℕ
column_of Values = 0
column_of Number = 1
column_of Places = 2
column_of Closing = 3
column_of Rights = 4
column_of Total = 5
column_of Daily = 6
column_of Spare = 7
column_of Available = 8

-- does an order of the kind meet the check? (house)
abbrev pub meets : OrderKind → Check → Bool
meets kind check = get_or flags (9 * (kind_code kind - 1) + column_of check) false

-- the columns from left to right: the first that the order meets and fails gives the refusal (house)
abbrev pub walked : List Check → Facts → Order → Verdict
walked [] f o = accept
walked (check ∷ rest) f o = not (meets o.kind check) || passes check f o else refusal_for check then walked rest f o

unfoldable pub order_verdict : Facts → Order → Verdict
order_verdict f o = walked columns f o

-- what the table encodes: "4, 6, 8, 9 (kinds 2, 4, 6), 10 (1), 11 (1, 3, 5), 12 (1), 13 (5), 14 (1, 3, 4, 6), in that order" (house)
abbrev pub met_by : Check → List ℕ
met_by Values = 1 ∷ 2 ∷ 3 ∷ 4 ∷ 5 ∷ 6 ∷ []
met_by Number = 1 ∷ 2 ∷ 3 ∷ 4 ∷ 5 ∷ 6 ∷ []
met_by Places = 1 ∷ 2 ∷ 3 ∷ 4 ∷ 5 ∷ 6 ∷ []
met_by Closing = 2 ∷ 4 ∷ 6 ∷ []
met_by Rights = 1 ∷ []
met_by Total = 1 ∷ 3 ∷ 5 ∷ []
met_by Daily = 1 ∷ []
met_by Spare = 5 ∷ []
met_by Available = 1 ∷ 3 ∷ 4 ∷ 6 ∷ []

-- does a list name a number? (house)
abbrev pub member : ℕ → List ℕ → Bool
member n [] = false
member n (x ∷ xs) = eqb n x || member n xs
