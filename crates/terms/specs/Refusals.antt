-- The refusal numbers, in the order and the words of document 01's table (house); from 19 on those of document 02's requests, of which #112 leaves 18 unused. 21 is no number yet.
use Rattle.std.specs.Prelude.{ℕ}
use Rattle.terms.specs.declared.refusal.Refusal.{Refusal}
use Rattle.terms.specs.declared.refusal.Refusal.TheVariants.{CutShort, UnknownKind, Misshapen, OutOfRange, OutOfPlace, StaleNumber, NoSuchOrder, OrdersFull, PositionTooSmall, RightsPassed, TotalPassed, DailyPassed, SpareTooFew, AvailablePassed, CeilingPassed, FillBarred, BufferTooShort, CashBelowZero, NothingWaiting, AlreadyWaiting, LongTooSmall, MeansTooSmall}

abbrev pub number_of : Refusal → ℕ
number_of CutShort = 1  -- record cut short
number_of UnknownKind = 2  -- kind not in the table
number_of Misshapen = 3  -- length doesn't fit the kind, n or m out of range, or a code not listed
number_of OutOfRange = 4  -- a value outside its range, and what else the table has under 4
number_of OutOfPlace = 5  -- record out of its place, or an opening with no contract yet
number_of StaleNumber = 6  -- order number not above the last accepted
number_of NoSuchOrder = 7  -- no such order resting
number_of OrdersFull = 8  -- 32 orders resting
number_of PositionTooSmall = 9  -- position too small to close
number_of RightsPassed = 10  -- rights limit passed
number_of TotalPassed = 11  -- total limit passed
number_of DailyPassed = 12  -- daily limit passed
number_of SpareTooFew = 13  -- spare units too few
number_of AvailablePassed = 14  -- hold or withdrawal greater than available
number_of CeilingPassed = 15  -- a ceiling passed
number_of FillBarred = 16  -- fill above the remainder, or at a price the order bars
number_of BufferTooShort = 17  -- writing buffer shorter than the record; a lent list shorter than the accounts (#105)
number_of CashBelowZero = 18  -- fill would bring cash below zero: none can, and the number stays unused (#112)
number_of NothingWaiting = 19  -- a payout paid or dropped with nothing waiting (#101)
number_of AlreadyWaiting = 20  -- a second request while one waits (#101)
number_of LongTooSmall = 22  -- long after netting below the count to be exercised (#105)
number_of MeansTooSmall = 23  -- money or units offered below what the exercise takes (#105)
