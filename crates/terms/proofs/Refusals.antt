-- The reasons have distinct numbers, and these are 1 to 20, 22 and 23 in the paper's order: a list has each at its number's place, which computes.
use mathlib.Core.Path.{◌≡◌, refl, sym, ap, ◌∙◌}
use mathlib.Core.Bool.{cond}
use mathlib.Core.List.{List, [], ◌∷◌, map}
use Prim.Native.Nat.{ℕ, zero, suc, ◌-◌, ◌≤◌}
use native.Mathlib.Omega.{arith}
use lib.Dec.{leb}
use lib.ListN.{get_or}
use Rattle.terms.specs.Refusals.{number_of}
use Rattle.terms.specs.declared.refusal.Refusal.{Refusal}
use Rattle.terms.specs.declared.refusal.Refusal.TheVariants.{CutShort, UnknownKind, Misshapen, OutOfRange, OutOfPlace, StaleNumber, NoSuchOrder, OrdersFull, PositionTooSmall, RightsPassed, TotalPassed, DailyPassed, SpareTooFew, AvailablePassed, CeilingPassed, FillBarred, BufferTooShort, CashBelowZero, NothingWaiting, AlreadyWaiting, LongTooSmall, MeansTooSmall}

abbrev pub reasons : List Refusal
reasons =
    CutShort ∷ UnknownKind ∷ Misshapen ∷ OutOfRange ∷ OutOfPlace ∷ StaleNumber ∷ NoSuchOrder ∷ OrdersFull ∷ PositionTooSmall
    ∷ RightsPassed ∷ TotalPassed ∷ DailyPassed ∷ SpareTooFew ∷ AvailablePassed ∷ CeilingPassed ∷ FillBarred ∷ BufferTooShort ∷ CashBelowZero
    ∷ NothingWaiting ∷ AlreadyWaiting ∷ LongTooSmall ∷ MeansTooSmall ∷ []

-- the reason that has a number; after 20, the next that is given is 22
abbrev reason : ℕ → Refusal
reason n = get_or reasons (cond (leb n 20) (n - 1) (n - 2)) CutShort

pub numbered : map number_of reasons ≡ 1 ∷ 2 ∷ 3 ∷ 4 ∷ 5 ∷ 6 ∷ 7 ∷ 8 ∷ 9 ∷ 10 ∷ 11 ∷ 12 ∷ 13 ∷ 14 ∷ 15 ∷ 16 ∷ 17 ∷ 18 ∷ 19 ∷ 20 ∷ 22 ∷ 23 ∷ []
numbered = refl

pub placed : (why : Refusal) → reason (number_of why) ≡ why
placed CutShort = refl
placed UnknownKind = refl
placed Misshapen = refl
placed OutOfRange = refl
placed OutOfPlace = refl
placed StaleNumber = refl
placed NoSuchOrder = refl
placed OrdersFull = refl
placed PositionTooSmall = refl
placed RightsPassed = refl
placed TotalPassed = refl
placed DailyPassed = refl
placed SpareTooFew = refl
placed AvailablePassed = refl
placed CeilingPassed = refl
placed FillBarred = refl
placed BufferTooShort = refl
placed CashBelowZero = refl
placed NothingWaiting = refl
placed AlreadyWaiting = refl
placed LongTooSmall = refl
placed MeansTooSmall = refl

pub distinct : (why other : Refusal) → number_of why ≡ number_of other → why ≡ other
distinct why other e = sym (placed why) ∙ ap reason e ∙ placed other

-- so none has the number 0, whose place would be that of 1
pub some_number : (why : Refusal) → 1 ≤ number_of why
some_number why = go (number_of why) refl
  where
    go : (n : ℕ) → number_of why ≡ n → 1 ≤ n
    go zero e = absurd (omega (arith, e, ap number_of (sym (placed why) ∙ ap reason e)))
    go (suc n) e = omega arith
