-- The refusals of an open account's entries, each as one list in document 01's order and numbers ("Refusal numbers", its table and last paragraph; "Numbers"), document 02's among them: the first test that holds gives the number.
use Rattle.std.specs.Prelude.{Bool, true, false, cond, not, ◌&&◌, ◌||◌, List, [], ◌∷◌, ℕ, zero, suc, ◌+◌, leb, ltb, eqb, pos}
use Rattle.std.specs.Int.Signed.{le_z}
use Rattle.terms.specs.Codes.{kind_code, right_code}
use Rattle.terms.specs.Kinds.{buys_of}
use Rattle.terms.specs.declared.count.Units.{Units}
use Rattle.entries.specs.declared.entry.Entry.{Entry}
use Rattle.entries.specs.declared.entry.Entry.TheVariants as Entry·of
use Rattle.entries.specs.declared.entry.Figures.{Figures}
use Rattle.entries.specs.declared.entry.Fill.{Fill}
use Rattle.entries.specs.declared.entry.Order.{Order}
use Rattle.account.specs.Checks.{member}
use Rattle.account.specs.DayEnd.{close_of, settlement_of}
use Rattle.account.specs.Fills.{named, paid}
use Rattle.account.specs.Money.{available_of, kind_of}
use Rattle.account.specs.Orders.{facts_in}
use Rattle.account.specs.Rows.{contract, holding}
use Rattle.account.specs.Totals.{spare_units}
use Rattle.account.specs.declared.account.Account.{Account}
use Rattle.account.specs.declared.account.Holding.{Holding}
use Rattle.account.specs.declared.account.Sheet.{Sheet}
use Rattle.account.specs.declared.judged.Facts.{Facts}
use Rattle.account.specs.declared.judged.Named.{Named}
use Rattle.account.specs.declared.tables.Tables.{Tables}

infix 50 ◌above◌
-- the number of the first test that holds, 0 where none does (house)
abbrev pub first : List (Bool × ℕ) → ℕ
first [] = 0
first (t ∷ ts) = cond t.0 t.1 (first ts)

-- is a number more than the most, and is it not in a range, of which both ends are part? (house)
abbrev pub ◌above◌ : ℕ → ℕ → Bool
x above most = not (leb x most)

abbrev pub outside : ℕ → ℕ → ℕ → Bool
outside least most x = not (leb least x && leb x most)

-- does some number below n pass? (house)
abbrev pub some : ℕ → (ℕ → Bool) → Bool
some zero test = false
some (suc n) test = some n test || test n

-- is an order of one of the kinds? (house)
abbrev pub among : Order → List ℕ → Bool
among o kinds = member (kind_code o.kind) kinds

-- an order, by its facts: the kinds that meet a test, where not all six do, and when it fails
abbrev pub order_tests : Tables → Facts → Order → List (Bool × ℕ)
order_tests t f o =
    (outside 1 100 o.quantity, 4)  -- "quantity 1 to 100"
    ∷ (outside 1 10_000_000 o.price, 4)  -- "order or fill price 1 to 10,000,000"
    ∷ (not (ltb o.contract t.n), 4)  -- "number not in the tables"
    ∷ (among o (5 ∷ 6 ∷ []) && eqb (right_code (contract t o.contract).right) 2, 4)  -- "covered kind on a put"
    ∷ (not (ltb f.last o.number), 6)  -- "order number not above the last accepted"
    ∷ (not (ltb f.place 32), 8)  -- "32 orders resting"
    ∷ (among o (2 ∷ 4 ∷ 6 ∷ []) && f.closing.0 + o.quantity above f.position.0, 9)  -- "position too small to close"
    ∷ (among o (1 ∷ []) && f.rights.0 + o.quantity above f.limits.rights, 10)  -- "rights .. limit passed"
    ∷ (among o (1 ∷ 3 ∷ 5 ∷ []) && f.total.0 + o.quantity above f.limits.total, 11)  -- "total .. limit passed"
    ∷ (among o (1 ∷ []) && f.holding.bought.0 + o.quantity above f.limits.daily, 12)  -- "daily limit passed"
    ∷ (among o (5 ∷ []) && f.needed.0 above f.spare.0, 13)  -- "spare units too few"
    ∷ (among o (1 ∷ 3 ∷ 4 ∷ 6 ∷ []) && not (le_z (pos f.hold) f.available), 14)  -- "hold .. greater than available"
    ∷ []

-- a fill and a cancel, by the order that their number names: 32 is past the last place and names none; "a fill pays at most what its order held", so 18 is unused (#112)
abbrev pub fill_tests : Named → Fill → List (Bool × ℕ)
fill_tests f fill =
    let buys = buys_of (kind_of f.order) in
    (outside 1 100 fill.quantity, 4)  -- "quantity 1 to 100"
    ∷ (outside 1 10_000_000 fill.price, 4)  -- "order or fill price 1 to 10,000,000"
    ∷ (not (ltb f.place 32), 7)  -- "no such order resting"
    ∷ (fill.quantity above f.order.left.0, 16)  -- "fill above the remainder"
    ∷ (buys && fill.price above f.order.price, 16)  -- "a buy may not fill above its price"
    ∷ (not buys && f.order.price above fill.price, 16)  -- "nor a sell below it"
    ∷ (not buys && f.sheet.cash + f.sheet.premium + paid f fill above 1_000_000_000_000_000, 15)  -- "ceilings: cash plus covered premium 10^15"
    ∷ []

abbrev pub cancel_tests : Named → List (Bool × ℕ)
cancel_tests f =
    (not (ltb f.place 32), 7)  -- "no such order resting"
    ∷ []

abbrev pub deposit_tests : Sheet → ℕ → List (Bool × ℕ)
deposit_tests s amount =
    (outside 1 10_000_000_000_000 amount, 4)  -- "deposit or withdrawal 1 to 10^13"
    ∷ (s.cash + s.premium + amount above 1_000_000_000_000_000, 15)  -- "ceilings: cash plus covered premium 10^15"
    ∷ []

abbrev pub withdraw_tests : Sheet → ℕ → ℕ → List (Bool × ℕ)
withdraw_tests s waiting amount =
    (outside 1 10_000_000_000_000 amount, 4)  -- "deposit or withdrawal 1 to 10^13"
    ∷ (not (eqb waiting 0), 20)  -- "20 for a second request, after 4 and before 14" (#101)
    ∷ (not (le_z (pos amount) (available_of s)), 14)  -- "withdrawal greater than available"
    ∷ []

abbrev pub payout_tests : ℕ → List (Bool × ℕ)
payout_tests waiting =
    (eqb waiting 0, 19)  -- "19 for 9 or 10 with nothing waiting" (#101)
    ∷ []

abbrev pub lock_tests : Tables → Holding → ℕ → ℕ → List (Bool × ℕ)
lock_tests t h u units =
    (not (ltb u t.m), 4)  -- "number not in the tables"
    ∷ (outside 1 1_000_000_000 units, 4)  -- "units locked or unlocked at once 1 to 10^9"
    ∷ (h.locked.0 + units above 2_000_000_000, 15)  -- "ceilings: .. locked units of one underlying 2 x 10^9"
    ∷ []

abbrev pub unlock_tests : Tables → Units → ℕ → ℕ → List (Bool × ℕ)
unlock_tests t spare u units =
    (not (ltb u t.m), 4)  -- "number not in the tables"
    ∷ (outside 1 1_000_000_000 units, 4)  -- "units locked or unlocked at once 1 to 10^9"
    ∷ (units above spare.0, 13)  -- "spare units too few"
    ∷ []

abbrev pub day_end_tests : Tables → ℕ → ℕ → Figures → List (Bool × ℕ)
day_end_tests t n m f =
    (not (eqb n t.n), 4)  -- "n .. unlike the tables"
    ∷ (not (eqb m t.m), 4)  -- "m unlike the tables"
    ∷ (some n (λ c. outside 0 10_000_000 (settlement_of f c)), 4)  -- "settlement price 0 to 10,000,000 (zero is a price)"
    ∷ (some m (λ u. outside 1 10_000_000 (close_of f u)), 4)  -- "prior close .. 1 to 10,000,000"
    ∷ []

-- set-up has ended
abbrev pub set_up_tests : List (Bool × ℕ)
set_up_tests =
    (true, 5)  -- "record out of its place"
    ∷ []

-- the list of an entry (house)
abbrev pub entry_tests : Tables → Account → Entry → Figures → List (Bool × ℕ)
entry_tests t a (Entry·of.Deposit amount) f = deposit_tests a.sheet amount
entry_tests t a (Entry·of.Withdraw amount) f = withdraw_tests a.sheet a.waiting amount
entry_tests t a (Entry·of.Lock u units) f = lock_tests t (holding a u) u units
entry_tests t a (Entry·of.Unlock u units) f = unlock_tests t (spare_units t a u) u units
entry_tests t a (Entry·of.Order o) f = order_tests t (facts_in t a o) o
entry_tests t a (Entry·of.Fill fill) f = fill_tests (named t a fill.number) fill
entry_tests t a (Entry·of.Cancel number) f = cancel_tests (named t a number)
entry_tests t a (Entry·of.DayEnd n m) f = day_end_tests t n m f
entry_tests t a Entry·of.Pay f = payout_tests a.waiting
entry_tests t a Entry·of.Drop f = payout_tests a.waiting
entry_tests t a (Entry·of.Underlying row) f = set_up_tests
entry_tests t a (Entry·of.Contract row) f = set_up_tests
entry_tests t a (Entry·of.Opening cash) f = set_up_tests
