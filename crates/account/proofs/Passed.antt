-- A verdict is `Accepted` only where no check refused, so an accepted order passed each check that its kind meets; and it passed the first, so its facts are those of its contract and underlying.
use mathlib.Core.Path.{◌≡◌, refl, sym, ap, subst, ◌∙◌}
use mathlib.Core.Bool.{Bool, true, false, cond, not, ◌||◌, false≢true}
use mathlib.Core.List.{List, [], ◌∷◌}
use Prim.Native.Nat.{ℕ, zero, suc, ◌+◌, ◌*◌, ◌≤◌, ◌<◌}
use native.Mathlib.Nat.{le_of_suc-le-suc, not-suc-le-zero}
use native.Mathlib.Omega.{arith}
use borrow.Author.Tests.{leb-true, ltb-true}
use lib.Dec.{leb}
use lib.ListN.{length, get_or}
use Rattle.std.specs.Prelude.{Ok, Err}
use Rattle.terms.specs.Kinds.{moves_of, opens_of}
use Rattle.terms.specs.declared.kind.OrderKind.{OrderKind}
use Rattle.terms.specs.declared.kind.OrderKind.TheVariants.{BuyOpen, SellClose, SellOpen, BuyClose, CoveredOpen, CoveredClose}
use Rattle.terms.specs.declared.refusal.Refusal.{Refusal}
use Rattle.rules.specs.Count.{for_count}
use Rattle.entries.specs.declared.entry.Order.{Order}
use Rattle.account.specs.Checks.{Check, Values, Number, Places, Closing, Rights, Total, Daily, Spare, Available, passes, columns, refusal_for, meets, walked, order_verdict}
use Rattle.account.specs.Money.{hold_one}
use Rattle.account.specs.Orders.{under, order_allowed, free_place, facts_in, no_facts, facts_of}
use Rattle.account.specs.Rows.{contract, underlying, position, holding}
use Rattle.account.specs.Running.{closing_on}
use Rattle.account.specs.Totals.{count_of, resting_on, rights_in, total_in, spare_units}
use Rattle.terms.specs.Verdicts.{◌else◌then◌, accept}
use Rattle.account.specs.declared.account.Account.{Account}
use Rattle.account.specs.declared.judged.Facts.{Facts}
use Rattle.terms.specs.Verdicts.{Verdict}
use Rattle.account.specs.declared.tables.Tables.{Tables}
use Rattle.account.proofs.Available.{reaches}

-- a refusal accepts nothing
pub never : {why : Refusal} → Err why ≡ accept → ⊥
never e = let z : ◌≡◌ {A = ℕ} 0 1 = cc in omega arith

-- a check before an accepted verdict was passed, and what follows it accepted
pub went_on : (passed : Bool) (why : Refusal) (rest : Verdict) → (passed else why then rest) ≡ accept → (passed ≡ true) × (rest ≡ accept)
went_on true why rest e = (refl, e)
went_on false why rest e = absurd (never e)

-- a check that is met and did not refuse was passed
met_passed : (met passed : Bool) → (not met || passed) ≡ true → met ≡ true → passed ≡ true
met_passed true passed e m = e
met_passed false passed e m = absurd (false≢true m)

module _ (f : Facts) (o : Order) where
  walked_passes : (checks : List Check) → walked checks f o ≡ accept → (i : ℕ) → i < length checks → meets o.kind (get_or checks i Values) ≡ true → passes (get_or checks i Values) f o ≡ true
  walked_passes [] e i h met = absurd (not-suc-le-zero h)
  walked_passes (check ∷ rest) e zero h met =
      let one = went_on (not (meets o.kind check) || passes check f o) (refusal_for check) (walked rest f o) e in
      met_passed (meets o.kind check) (passes check f o) one.0 met
  walked_passes (check ∷ rest) e (suc i) h met =
      let one = went_on (not (meets o.kind check) || passes check f o) (refusal_for check) (walked rest f o) e in
      walked_passes rest one.1 i (le_of_suc-le-suc h) met

  accepted_passes : order_verdict f o ≡ accept → (check : Check) → meets o.kind check ≡ true → passes check f o ≡ true
  unfolding order_verdict
  accepted_passes e Values = walked_passes columns e 0 (omega arith)
  accepted_passes e Number = walked_passes columns e 1 (omega arith)
  accepted_passes e Places = walked_passes columns e 2 (omega arith)
  accepted_passes e Closing = walked_passes columns e 3 (omega arith)
  accepted_passes e Rights = walked_passes columns e 4 (omega arith)
  accepted_passes e Total = walked_passes columns e 5 (omega arith)
  accepted_passes e Daily = walked_passes columns e 6 (omega arith)
  accepted_passes e Spare = walked_passes columns e 7 (omega arith)
  accepted_passes e Available = walked_passes columns e 8 (omega arith)

-- the checks that more than one kind meets: each row of the table computes
record Met (kind : OrderKind) : Type 0 where
  values : meets kind Values ≡ true
  number : meets kind Number ≡ true
  places : meets kind Places ≡ true
  closing : meets kind Closing ≡ not (opens_of kind)
  total : meets kind Total ≡ opens_of kind

met : (kind : OrderKind) → Met kind
met BuyOpen = search
met SellClose = search
met SellOpen = search
met BuyClose = search
met CoveredOpen = search
met CoveredClose = search

-- what an accepted order passed, in the account's own totals
pub record Passed (t : Tables) (a : Account) (o : Order) : Type 0 where
  pub allowed : order_allowed t o ≡ true
  pub number : a.last < o.number
  pub place : free_place a < 32
  pub closing : opens_of o.kind ≡ false → resting_on o.kind a o.contract + o.quantity ≤ count_of (moves_of o.kind) (position a o.contract)
  pub rights : o.kind ≡ BuyOpen → rights_in t a (under t o) + o.quantity ≤ (underlying t (under t o)).rights
  pub total : opens_of o.kind ≡ true → total_in t a (under t o) + o.quantity ≤ (underlying t (under t o)).total
  pub daily : o.kind ≡ BuyOpen → (holding a (under t o)).bought.0 + o.quantity ≤ (underlying t (under t o)).daily
  pub spare : o.kind ≡ CoveredOpen → o.quantity * (contract t o.contract).unit ≤ (spare_units t a (under t o)).0
  pub hold : meets o.kind Available ≡ true → a.sheet.holds + a.sheet.margin + for_count o.quantity (hold_one t o.kind o.contract o.price) ≤ a.sheet.cash

module _ (t : Tables) (a : Account) (o : Order) where
  -- of an order that is not allowed nothing is known, and the first check fails
  -- what rests of closes of the count that a close moves is what rests of its kind
  closing_of_lem : (kind : OrderKind) → opens_of kind ≡ false → count_of (moves_of kind) (closing_on a o.contract) ≡ resting_on kind a o.contract
  closing_of_lem BuyOpen never = absurd (false≢true (sym never))
  closing_of_lem SellClose closes = refl
  closing_of_lem SellOpen never = absurd (false≢true (sym never))
  closing_of_lem BuyClose closes = refl
  closing_of_lem CoveredOpen never = absurd (false≢true (sym never))
  closing_of_lem CoveredClose closes = refl

  facts_allowed : (allowed : Bool) → (cond allowed (facts_in t a o) no_facts).allowed ≡ true → allowed ≡ true
  facts_allowed true e = refl
  facts_allowed false e = e

  pub facts_known : order_allowed t o ≡ true → facts_of t a o ≡ facts_in t a o
  unfolding facts_of
  facts_known allowed = rw allowed

  pub accepted_passed : order_verdict (facts_of t a o) o ≡ accept → Passed t a o
  unfolding facts_of
  accepted_passed e =
      let each = accepted_passes (facts_of t a o) o e in
      let rows = met o.kind in
      let allowed = facts_allowed (order_allowed t o) (each Values rows.values) in
      let known : (check : Check) → meets o.kind check ≡ true → passes check (facts_in t a o) o ≡ true =
      λ check m. subst (λ (f : Facts). passes check f o ≡ true) (facts_known allowed) (each check m) in
      record {
        allowed = allowed;
        number = ltb-true _ _ (known Number rows.number);
        place = ltb-true _ _ (known Places rows.places);
        closing = λ closes. leb-true _ _ (subst (λ n. leb (n + o.quantity) (count_of (moves_of o.kind) (position a o.contract)) ≡ true) (closing_of_lem o.kind closes) (known Closing (rows.closing ∙ ap not closes)));
        rights = λ buys. leb-true _ _ (known Rights (ap (λ (kind : OrderKind). meets kind Rights) buys));
        total = λ opens. leb-true _ _ (known Total (rows.total ∙ opens));
        daily = λ buys. leb-true _ _ (known Daily (ap (λ (kind : OrderKind). meets kind Daily) buys));
        spare = λ covers. leb-true _ _ (known Spare (ap (λ (kind : OrderKind). meets kind Spare) covers));
        hold = λ holds. leb-true _ _ (sym (reaches a.sheet _) ∙ known Available holds);
      }
