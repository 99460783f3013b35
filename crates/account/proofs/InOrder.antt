-- An entry's verdict in the paper's numbers is the first test of its list that holds: verdict and list go on together, a check beside the test that says it was not passed, and what tells the two apart is a law of `not`.
use mathlib.Core.Path.{◌≡◌, refl, sym, subst, ◌∙◌}
use mathlib.Core.Bool.{Bool, true, false, cond, not, ◌&&◌, ◌||◌, not-not, false≢true}
use mathlib.Core.List.{List, [], ◌∷◌, map}
use Prim.Native.Nat.{ℕ, zero, suc, ◌+◌}
use lib.Dec.{eqb, leb, leb-zero, ltb}
use lib.IntN.{pos}
use lib.ListN.{drop}
use lib.Signed.{le_z}
use Rattle.std.specs.Prelude.{Ok}
use Rattle.terms.specs.Codes.{kind_code, right_code}
use Rattle.terms.specs.Kinds.{buys_of, moves_of}
use Rattle.terms.specs.Ranges.{range_of, ◌to◌, ◌∈◌}
use Rattle.terms.specs.Refusals.{number_of}
use Rattle.terms.specs.declared.count.Units.{Units}
use Rattle.terms.specs.declared.kind.OrderKind.{OrderKind}
use Rattle.terms.specs.declared.kind.OrderKind.TheVariants.{BuyOpen, SellClose, SellOpen, BuyClose, CoveredOpen, CoveredClose}
use Rattle.terms.specs.declared.measure.Measure.TheVariants.{Price, Settlement, Quantity, UnitsAtOnce, Money, LockedUnits}
use Rattle.terms.specs.declared.refusal.Refusal.{Refusal}
use Rattle.terms.specs.declared.refusal.Refusal.TheVariants.{OutOfRange, NoSuchOrder, FillBarred, CeilingPassed, AvailablePassed, SpareTooFew, NothingWaiting, AlreadyWaiting}
use Rattle.terms.specs.declared.right.Right.{Right}
use Rattle.terms.specs.declared.right.Right.TheVariants.{Call, Put}
use Rattle.entries.specs.declared.entry.Entry.{Entry}
use Rattle.entries.specs.declared.entry.Entry.TheVariants as Entry·of
use Rattle.entries.specs.declared.entry.Figures.{Figures}
use Rattle.entries.specs.declared.entry.Fill.{Fill}
use Rattle.entries.specs.declared.entry.Order.{Order}
use Rattle.account.specs.Checks.{Check, Values, columns, meets, member, met_by, order_verdict, passes, refusal_for, walked}
use Rattle.account.specs.DayEnd.{close_of, day_end_verdict, settlement_of}
use Rattle.terms.specs.Listed.{every}
use Rattle.account.specs.Fills.{cancel_verdict, fill_verdict, named, paid, price_allowed}
use Rattle.account.specs.InOrder.{◌above◌, cancel_tests, day_end_tests, deposit_tests, entry_tests, fill_tests, first, lock_tests, order_tests, outside, payout_tests, some, unlock_tests, withdraw_tests}
use Rattle.account.specs.Locks.{lock_verdict, units_allowed, unlock_verdict}
use Rattle.account.specs.Money.{available_of, kind_of}
use Rattle.account.specs.Orders.{covered_put, facts_in, facts_of, no_facts, order_allowed}
use Rattle.account.specs.Rows.{contract, holding}
use Rattle.account.specs.Steps.{refusal_of}
use Rattle.account.specs.Totals.{spare_units}
use Rattle.account.specs.Transfers.{amount_allowed, deposit_verdict, payout_verdict, withdraw_verdict}
use Rattle.terms.specs.Verdicts.{◌else◌then◌, number_in, accept}
use Rattle.account.specs.declared.account.Account.{Account}
use Rattle.account.specs.declared.account.Holding.{Holding}
use Rattle.account.specs.declared.account.Sheet.{Sheet}
use Rattle.account.specs.declared.judged.Facts.{Facts}
use Rattle.account.specs.declared.judged.Named.{Named}
use Rattle.terms.specs.Verdicts.{Verdict}
use Rattle.account.specs.declared.tables.Tables.{Tables}
use Rattle.account.proofs.Flags.{listed}

-- a verdict and a list of tests that say the same
pub record Told (v : Verdict) (tests : List (Bool × ℕ)) : Type 0 where
  pub number : number_in v ≡ first tests

pub accepted : Told accept []
accepted = record { number = refl }

-- a check that adds tests: put before a verdict, it puts them before that verdict's
pub record Adds (passed : Bool) (why : Refusal) (tests longer : List (Bool × ℕ)) : Type 0 where
  before : (rest : Verdict) → Told rest tests → Told (passed else why then rest) longer

pub next : {passed : Bool} {why : Refusal} {tests longer : List (Bool × ℕ)} {rest : Verdict} → Adds passed why tests longer → Told rest tests → Told (passed else why then rest) longer
next adds told = adds.before _ told

-- one test: what is wrong is that the check was not passed
pub one : {tests : List (Bool × ℕ)} {wrong : Bool} (passed : Bool) (why : Refusal) → wrong ≡ not passed → Adds passed why tests ((wrong, number_of why) ∷ tests)
one true why e = record { before = λ rest told. record { number = rw e told.number } }
one false why e = record { before = λ rest told. record { number = rw e refl } }

-- two checks that give one refusal are asked one after the other
together : {tests : List (Bool × ℕ)} (passed also : Bool) (why : Refusal) (rest : Verdict) → Told (passed else why then also else why then rest) tests
    → Told (passed && also else why then rest) tests
together true also why rest told = told
together false also why rest told = told

pub both : {passed also : Bool} {why : Refusal} {tests longer longest : List (Bool × ℕ)} → Adds passed why longer longest → Adds also why tests longer
    → Adds (passed && also) why tests longest
both {passed} {also} {why} adds more = record { before = λ rest told. together passed also why rest (adds.before _ (more.before rest told)) }

-- a check that two make is failed where either is, and one that either of two makes where neither is passed
either : {wrong amiss : Bool} (passed also : Bool) → wrong ≡ not passed → amiss ≡ not also → (wrong || amiss) ≡ not (passed && also)
either true also e e' = rw e e'
either false also e e' = rw e refl

neither : {wrong amiss : Bool} (passed also : Bool) → wrong ≡ not passed → amiss ≡ not also → (wrong && amiss) ≡ not (passed || also)
neither true also e e' = rw e refl
neither false also e e' = rw e e'

-- a ceiling is a range from 0, which bars what is above it and no more
ceiling : (most x : ℕ) → (x above most) ≡ not (x ∈ (0 to most))
ceiling most x = rw leb-zero refl

module _ (s : Sheet) (amount : ℕ) where
  deposit_told : Told (deposit_verdict s amount) (deposit_tests s amount)
  unfolding deposit_verdict
  deposit_told =
      next (one (amount_allowed amount) OutOfRange refl)
      (next (one (s.cash + s.premium + amount ∈ range_of Money) CeilingPassed (ceiling (range_of Money).1 (s.cash + s.premium + amount))) accepted)

  withdraw_told : (waiting : ℕ) → Told (withdraw_verdict s waiting amount) (withdraw_tests s waiting amount)
  unfolding withdraw_verdict
  withdraw_told waiting =
      next (one (amount_allowed amount) OutOfRange refl)
      (next (one (eqb waiting 0) AlreadyWaiting refl)
      (next (one (le_z (pos amount) (available_of s)) AvailablePassed refl) accepted))

payout_told : (waiting : ℕ) → Told (payout_verdict waiting) (payout_tests waiting)
unfolding payout_verdict
payout_told waiting = next (one (not (eqb waiting 0)) NothingWaiting (sym (not-not (eqb waiting 0)))) accepted

module _ (t : Tables) (u units : ℕ) where
  units_told : {tests : List (Bool × ℕ)} → Adds (units_allowed t u units) OutOfRange tests ((not (ltb u t.m), 4) ∷ (outside 1 1_000_000_000 units, 4) ∷ tests)
  units_told = both (one (ltb u t.m) OutOfRange refl) (one (units ∈ range_of UnitsAtOnce) OutOfRange refl)

  lock_told : (h : Holding) → Told (lock_verdict t h u units) (lock_tests t h u units)
  unfolding lock_verdict
  lock_told h = next units_told (next (one (h.locked.0 + units ∈ range_of LockedUnits) CeilingPassed (ceiling (range_of LockedUnits).1 (h.locked.0 + units))) accepted)

  unlock_told : (spare : Units) → Told (unlock_verdict t spare u units) (unlock_tests t spare u units)
  unfolding unlock_verdict
  unlock_told spare = next units_told (next (one (leb units spare.0) SpareTooFew refl) accepted)

-- a buy is held to its price from above, a sell from below
price_told : {tests : List (Bool × ℕ)} (buys : Bool) (limit price : ℕ)
    → Adds (price_allowed buys limit price) FillBarred tests ((buys && price above limit, 16) ∷ (not buys && limit above price, 16) ∷ tests)
price_told true limit price = record { before = λ rest told. record { number = (next (one (leb price limit) FillBarred refl) told).number } }
price_told false limit price = record { before = λ rest told. record { number = (next (one (leb limit price) FillBarred refl) told).number } }

fill_told : (f : Named) (fill : Fill) → Told (fill_verdict f fill) (fill_tests f fill)
unfolding fill_verdict
fill_told f fill =
    let buys : Bool = buys_of (kind_of f.order) in
    let brought : ℕ = f.sheet.cash + f.sheet.premium + paid f fill in
    next (both (one (fill.quantity ∈ range_of Quantity) OutOfRange refl) (one (fill.price ∈ range_of Price) OutOfRange refl))
    (next (one (ltb f.place 32) NoSuchOrder refl)
    (next (both (one (leb fill.quantity f.order.left.0) FillBarred refl) (price_told buys f.order.price fill.price))
    (next (one (buys || (brought ∈ range_of Money)) CeilingPassed (neither buys (brought ∈ range_of Money) refl (ceiling (range_of Money).1 brought))) accepted)))

cancel_told : (f : Named) → Told (cancel_verdict f) (cancel_tests f)
unfolding cancel_verdict
cancel_told f = next (one (ltb f.place 32) NoSuchOrder refl) accepted

-- some figure is wrong where not every one is right
pub some_wrong : (n : ℕ) (right wrong : ℕ → Bool) → ((i : ℕ) → wrong i ≡ not (right i)) → some n wrong ≡ not (every n right)
some_wrong zero right wrong e = refl
some_wrong (suc n) right wrong e = either (every n right) (right n) (some_wrong n right wrong e) (e n)

day_end_told : (t : Tables) (n m : ℕ) (f : Figures) → Told (day_end_verdict t n m f) (day_end_tests t n m f)
unfolding day_end_verdict
day_end_told t n m f =
    let settles : ℕ → Bool = λ c. settlement_of f c ∈ range_of Settlement in
    let closes : ℕ → Bool = λ u. close_of f u ∈ range_of Price in
    next
    (both (both (both
    (one (eqb n t.n) OutOfRange refl)
    (one (eqb m t.m) OutOfRange refl))
    (one (every n settles) OutOfRange (some_wrong n settles _ (λ c. refl))))
    (one (every m closes) OutOfRange (some_wrong m closes _ (λ u. refl))))
    accepted

all_six : (kind : OrderKind) → member (kind_code kind) (met_by Values) ≡ true
all_six BuyOpen = refl
all_six SellClose = refl
all_six SellOpen = refl
all_six BuyClose = refl
all_six CoveredOpen = refl
all_six CoveredClose = refl

-- the columns and their tests go on together: what a kind meets is what the sentence lists
module _ (f : Facts) (o : Order) where
  test : Check → Bool × ℕ
  test check = (member (kind_code o.kind) (met_by check) && not (passes check f o), number_of (refusal_for check))

  columns_told : (checks : List Check) → Told (walked checks f o) (map test checks)
  unfolding test
  columns_told [] = accepted
  columns_told (check ∷ rest) =
      let met : Bool = meets o.kind check in
      next (one (not met || passes check f o) (refusal_for check) (neither (not met) (passes check f o) (sym (listed check o.kind) ∙ sym (not-not met)) refl)) (columns_told rest)

  -- "4, 6, 8": every kind meets them
  after_values : (t : Tables) → Told (walked (drop 1 columns) f o) (drop 4 (order_tests t f o))
  unfolding test
  after_values t =
      subst
      (λ (met : Bool). Told (walked (drop 1 columns) f o) ((met && not (ltb f.last o.number), 6) ∷ (met && not (ltb f.place 32), 8) ∷ drop 6 (order_tests t f o)))
      (all_six o.kind)
      (columns_told (drop 1 columns))

covered_put_lem : (kind : OrderKind) (right : Right) → (member (kind_code kind) (5 ∷ 6 ∷ []) && eqb (right_code right) 2) ≡ not (not (covered_put (moves_of kind) right))
covered_put_lem BuyOpen right = refl
covered_put_lem SellClose right = refl
covered_put_lem SellOpen right = refl
covered_put_lem BuyClose right = refl
covered_put_lem CoveredOpen Call = refl
covered_put_lem CoveredOpen Put = refl
covered_put_lem CoveredClose Call = refl
covered_put_lem CoveredClose Put = refl

module _ (t : Tables) (a : Account) (o : Order) where
  -- of an order whose values are not allowed nothing else is asked
  values_first : order_verdict (facts_of t a o) o ≡ (order_allowed t o else OutOfRange then walked (drop 1 columns) (facts_in t a o) o)
  unfolding order_verdict facts_of
  values_first = go (meets o.kind Values) (listed Values o.kind ∙ all_six o.kind) (order_allowed t o)
    where
      go : (met : Bool) → met ≡ true → (allowed : Bool)
          → (not met || (cond allowed (facts_in t a o) no_facts).allowed else OutOfRange then walked (drop 1 columns) (cond allowed (facts_in t a o) no_facts) o) ≡ (allowed else OutOfRange then walked (drop 1 columns) (facts_in t a o) o)
      go true e true = refl
      go true e false = refl
      go false e allowed = absurd (false≢true e)

  order_told : Told (order_verdict (facts_of t a o) o) (order_tests t (facts_in t a o) o)
  unfolding order_allowed
  order_told =
      subst (λ (v : Verdict). Told v (order_tests t (facts_in t a o) o)) (sym values_first)
      (next
      (both (both (both
      (one (o.quantity ∈ range_of Quantity) OutOfRange refl)
      (one (o.price ∈ range_of Price) OutOfRange refl))
      (one (ltb o.contract t.n) OutOfRange refl))
      (one (not (covered_put (moves_of o.kind) (contract t o.contract).right)) OutOfRange (covered_put_lem o.kind (contract t o.contract).right)))
      (after_values (facts_in t a o) o t))

module _ (t : Tables) (a : Account) where
  told : (entry : Entry) (f : Figures) → Told (refusal_of t a entry f) (entry_tests t a entry f)
  unfolding refusal_of
  told (Entry·of.Deposit amount) f = deposit_told a.sheet amount
  told (Entry·of.Withdraw amount) f = withdraw_told a.sheet amount a.waiting
  told (Entry·of.Lock u units) f = lock_told t u units (holding a u)
  told (Entry·of.Unlock u units) f = unlock_told t u units (spare_units t a u)
  told (Entry·of.Order o) f = order_told t a o
  told (Entry·of.Fill fill) f = fill_told (named t a fill.number) fill
  told (Entry·of.Cancel number) f = cancel_told (named t a number)
  told (Entry·of.DayEnd n m) f = day_end_told t n m f
  told Entry·of.Pay f = payout_told a.waiting
  told Entry·of.Drop f = payout_told a.waiting
  told (Entry·of.Underlying row) f = record { number = refl }
  told (Entry·of.Contract row) f = record { number = refl }
  told (Entry·of.Opening cash) f = record { number = refl }

  pub entry_number : (entry : Entry) (f : Figures) → number_in (refusal_of t a entry f) ≡ first (entry_tests t a entry f)
  entry_number entry f = (told entry f).number
