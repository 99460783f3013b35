-- A change puts one position and one order in place of others, all on one contract, so in its underlying, on its contract and at its place each sum has the new term instead of the old one, and elsewhere none changes: what is kept moves by the same and is the sum again.
use mathlib.Core.Path.{◌≡◌, refl, sym, ap, ◌∙◌}
use mathlib.Core.Bool.{Bool, true, false, cond, ◌&&◌}
use mathlib.Core.Logic.{◌⊎◌, inl, inr}
use Prim.Native.Nat.{ℕ, ◌-◌, ◌*◌, ◌^◌, ◌≤◌, ◌<◌}
use native.Mathlib.Decide.{dec_lt}
use native.Mathlib.Nat.{zero-mul}
use native.Mathlib.Omega.{arith}
use borrow.Author.Tests.{eq-eqb, lt-ltb, ne_eqb}
use lib.Dec.{eqb}
use lib.ListN.{length, length-set}
use Rattle.terms.specs.declared.count.Position.{Position}
use Rattle.terms.specs.declared.kind.OrderKind.{OrderKind}
use Rattle.terms.specs.declared.kind.OrderKind.TheVariants.{BuyOpen, SellClose, BuyClose, CoveredOpen, CoveredClose}
use Rattle.terms.specs.declared.kind.Side.{Side}
use Rattle.terms.specs.declared.kind.Side.TheVariants.{Long, Short, Covered}
use Rattle.account.specs.Changes.{applied}
use Rattle.account.specs.Room.{Movable}
use Rattle.account.specs.Fills.{order_after}
use Rattle.account.specs.Rows.{free, no_position, contract, position, order}
use Rattle.account.specs.Running.{closing, closing_moved, closing_of, closing_on, free_at, free_in, no_running, ordered, running, running_in, running_moved, running_of}
use Rattle.account.specs.Sound.{Sound}
use Rattle.terms.specs.Sums.{Σ, ◌when◌}
use Rattle.account.specs.Totals.{count_in, count_of, covered_units, is_kind, is_of, is_open, over_orders, reserved_units, resting_in, resting_on, rights_in, total_in}
use Rattle.account.specs.declared.account.Account.{Account}
use Rattle.account.specs.declared.account.Resting.{Resting}
use Rattle.account.specs.declared.judged.Change.{Change}
use Rattle.account.specs.declared.running.Running.{Running}
use Rattle.account.specs.declared.tables.Tables.{Tables}
use Rattle.account.proofs.Bounds.{left_so_far, limits_of, total_most}
use Rattle.account.proofs.Instead.{CloseSteps, ClosingSmall, RunningSmall, Step, Steps, both_step, closing_movable, closing_stepped, movable, row_step, running_movable, running_stepped, stepped}
use Rattle.account.proofs.Placed.{nothing_when}
use Rattle.account.proofs.Rows.{changed_row}
use Rattle.terms.proofs.Sums.{Σ-less}
use Rattle.account.proofs.Taken.{leaving}

-- a term counted under two tests
when_and : (x : ℕ) (first second : Bool) → x when (first && second) ≡ (x when first) when second
when_and x true second = refl
when_and x false second = sym (nothing_when second)

-- an order that a change takes away or puts there: a free one, or one on the contract that the change is about
abbrev pub OrderOn : Tables → Account → Change → Resting → Type 0
OrderOn t a change r =
    (r ≡ free)
    ⊎ (((contract t r.contract).underlying ≡ change.underlying) × ((contract t r.contract).unit ≡ change.unit) × (r.contract ≡ ordered (order a change.place) change.order))

-- a change that is about one contract of one underlying; where it moves no position, or places no order, nothing stood there
pub record Fits (t : Tables) (a : Account) (change : Change) : Type 0 where
  pub within : change.underlying < t.m
  pub held : change.contract < t.n → ((contract t change.contract).underlying ≡ change.underlying) × ((contract t change.contract).unit ≡ change.unit)
  pub unheld : t.n ≤ change.contract → change.position ≡ no_position
  pub was : OrderOn t a change (order a change.place)
  pub is : OrderOn t a change change.order
  pub placed : change.place < 32
  pub known : ordered (order a change.place) change.order < 64

-- an order that is put there has a number, and one that is taken from was there
pub ordered_new : (old new : Resting) → 1 ≤ new.number → ordered old new ≡ new.contract
ordered_new old new some = rw (ne_eqb new.number 0 (λ e. omega (arith, e, some)))

pub ordered_taken : (r : Resting) (q : ℕ) → 1 ≤ r.number → ordered r (order_after r q) ≡ r.contract
ordered_taken r q some = go (eqb r.left.0 q)
  where
    go : (all : Bool) → ordered r (cond all free (leaving r (r.left.0 - q))) ≡ r.contract
    go true = refl
    go false = ordered_new r (leaving r (r.left.0 - q)) some

-- what is kept is what it stands for: the last part of Sound
pub record Kept (t : Tables) (a : Account) : Type 0 where
  pub running_rows : length a.running ≡ 8
  pub closing_rows : length a.closing ≡ 64
  pub running : (u : ℕ) → u < 8 → running a u ≡ running_in t a u
  pub closing : (c : ℕ) → c < 64 → closing a c ≡ closing_on a c
  pub free : a.free ≡ free_in a

module _ {t : Tables} {a : Account} (s : Sound t a) where
  pub running_small : (u : ℕ) → u < t.m → RunningSmall (running_in t a u)
  unfolding rights_in total_in
  running_small u h =
      let most = total_most s u h in
      record { long = omega (arith, most); total = omega (arith, most); buys = omega (arith, s.rights u h, (limits_of s.tables u h).rights); opens = omega (arith, most); taken = omega (arith, s.units u h, s.locked u h) }

  closes_small : (kind : OrderKind) (c : ℕ) → resting_on kind a c < 2 ^ 32
  unfolding over_orders
  closes_small kind c = omega (arith, left_so_far s (λ r. is_kind kind r.kind && eqb r.contract c) 32 (omega arith))

  pub closing_small : (c : ℕ) → ClosingSmall (closing_on a c)
  closing_small c = record { long = closes_small SellClose c; short = closes_small BuyClose c; covered = closes_small CoveredClose c }

-- each digit stands once
free_small : (a : Account) → free_in a < 2 ^ 32
unfolding free_in Σ
free_small a =
    let each : (i : ℕ) (test : Bool) → (2 ^ i when test) ≤ 2 ^ i = λ i. elim [ true ↦ omega arith | false ↦ omega arith ] in
    let most = Σ-less 32 (λ i. free_at i (order a i)) (λ i. 2 ^ i) (λ i h. each i (eqb (order a i).number 0)) in
    omega (arith, most)

module _ (t : Tables) (a : Account) (change : Change) (s : Sound t a) (fits : Fits t a change) where
  abbrev b : Account
  b = applied a change

  abbrev c : ℕ
  c = change.contract

  abbrev i : ℕ
  i = change.place

  abbrev old : Resting
  old = order a i

  abbrev new : Resting
  new = change.order

  abbrev here : ℕ → Bool
  here u = eqb change.underlying u

  -- a term of the position, which may go by its contract's units, in an underlying
  module _ (x : ℕ → Position → ℕ) (none : (unit : ℕ) → x unit no_position ≡ 0) (u : ℕ) where
    nothing : (p : Position) (unit : ℕ) (test : Bool) → p ≡ no_position → x unit p when test ≡ 0
    nothing p unit test e = rw (e, none unit) (nothing_when test)

    own_position : (p : Position) → (t.n ≤ c → p ≡ no_position) → x (contract t c).unit p when is_of t u c ≡ x change.unit p when here u
    own_position p past =
        elim (dec_lt c t.n) [
          | yes inside ↦ let (under, unit) = fits.held inside in rw (under, unit)
          | no l ↦ let e = past (omega (arith, l)) in nothing p _ (is_of t u c) e ∙ sym (nothing p _ (here u) e)
        ]

    position_step : Step (here u) (Σ t.n (λ k. x (contract t k).unit (position a k) when is_of t u k)) (Σ t.n (λ k. x (contract t k).unit (position b k) when is_of t u k)) (x change.unit (position a c)) (x change.unit change.position)
    unfolding applied
    position_step =
        let was_none = s.no_more_positions c in
        row_step t.n a.positions no_position c change.position (λ k p. x (contract t k).unit p when is_of t u k) (here u) _ _
        (omega (arith, s.position_rows, s.tables.few_contracts))
        (own_position (position a c) was_none)
        (own_position change.position fits.unheld)
        (λ past. (nothing (position a c) _ (here u) (was_none past), nothing change.position _ (here u) (fits.unheld past)))

  -- a term of the order at the place, which counts under some test where it counts at all
  order_step : (f g : Resting → ℕ) (test : Bool) → f old ≡ g old when test → f new ≡ g new when test → Step test (over_orders a f) (over_orders b f) (g old) (g new)
  unfolding applied over_orders
  order_step f g test was is =
      row_step 32 a.orders free i new (λ k. f) test (g old) (g new) (omega (arith, s.order_rows)) was is (λ past. absurd (omega (arith, past, fits.placed)))

  -- what is left of an order of some kinds, where it is or would be in an underlying, or on a contract
  counted_order : (r : Resting) (which : Bool) (at there : Bool) → (r ≡ free) ⊎ (at ≡ there) → r.left.0 when (which && at) ≡ (r.left.0 when which) when there
  counted_order r which at there (inl e) = rw e (nothing_when (which && at) ∙ sym (ap (◌when there) (nothing_when which) ∙ nothing_when there))
  counted_order r which at there (inr e) = rw e (when_and r.left.0 which there)

  in_underlying : (u : ℕ) (r : Resting) → OrderOn t a change r → (r ≡ free) ⊎ (is_of t u r.contract ≡ here u)
  in_underlying u r (inl e) = inl e
  in_underlying u r (inr on) = inr (ap (λ v. eqb v u) on.0)

  on_contract : (k : ℕ) (r : Resting) → OrderOn t a change r → (r ≡ free) ⊎ (eqb r.contract k ≡ eqb (ordered old new) k)
  on_contract k r (inl e) = inl e
  on_contract k r (inr on) = inr (ap (λ v. eqb v k) on.2)

  resting_step : (which : ℕ → Bool) (u : ℕ) → Step (here u) (resting_in which t a u) (resting_in which t b u) (old.left.0 when which old.kind) (new.left.0 when which new.kind)
  resting_step which u =
      let own : (r : Resting) → OrderOn t a change r → r.left.0 when (which r.kind && is_of t u r.contract) ≡ (r.left.0 when which r.kind) when here u =
      λ r on. counted_order r (which r.kind) (is_of t u r.contract) (here u) (in_underlying u r on) in
      order_step (λ r. r.left.0 when (which r.kind && is_of t u r.contract)) (λ r. r.left.0 when which r.kind) (here u) (own old fits.was) (own new fits.is)

  close_step : (kind : OrderKind) (k : ℕ) → Step (eqb (ordered old new) k) (resting_on kind a k) (resting_on kind b k) (old.left.0 when is_kind kind old.kind) (new.left.0 when is_kind kind new.kind)
  close_step kind k =
      let own : (r : Resting) → OrderOn t a change r → r.left.0 when (is_kind kind r.kind && eqb r.contract k) ≡ (r.left.0 when is_kind kind r.kind) when eqb (ordered old new) k =
      λ r on. counted_order r (is_kind kind r.kind) (eqb r.contract k) (eqb (ordered old new) k) (on_contract k r on) in
      order_step (λ r. r.left.0 when (is_kind kind r.kind && eqb r.contract k)) (λ r. r.left.0 when is_kind kind r.kind) (eqb (ordered old new) k) (own old fits.was) (own new fits.is)

  reserved_step : (u : ℕ) → Step (here u) (reserved_units t a u) (reserved_units t b u) (old.left.0 * change.unit when is_kind CoveredOpen old.kind) (new.left.0 * change.unit when is_kind CoveredOpen new.kind)
  unfolding reserved_units
  reserved_step u =
      order_step
      (λ r. r.left.0 * (contract t r.contract).unit when (is_kind CoveredOpen r.kind && is_of t u r.contract))
      (λ r. r.left.0 * change.unit when is_kind CoveredOpen r.kind)
      (here u)
      (own old fits.was)
      (own new fits.is)
    where
      own : (r : Resting) → OrderOn t a change r → r.left.0 * (contract t r.contract).unit when (is_kind CoveredOpen r.kind && is_of t u r.contract) ≡ (r.left.0 * change.unit when is_kind CoveredOpen r.kind) when here u
      own r (inl e) = rw e (sym (nothing_when (here u)))
      own r (inr on) = rw (on.0, on.1) (when_and (r.left.0 * change.unit) (is_kind CoveredOpen r.kind) (here u))

  count_step : (side : Side) (u : ℕ) → Step (here u) (count_in side t a u) (count_in side t b u) (count_of side (position a c)) (count_of side change.position)
  unfolding count_in
  count_step Long u = position_step (λ unit. count_of Long) (λ unit. refl) u
  count_step Short u = position_step (λ unit. count_of Short) (λ unit. refl) u
  count_step Covered u = position_step (λ unit. count_of Covered) (λ unit. refl) u

  covered_step : (u : ℕ) → Step (here u) (covered_units t a u) (covered_units t b u) ((position a c).covered.0 * change.unit) (change.position.covered.0 * change.unit)
  unfolding covered_units
  covered_step u = position_step (λ unit p. p.covered.0 * unit) (λ unit. zero-mul unit) u

  abbrev taken_off : Running
  taken_off = running_of (position a c) old change.unit

  abbrev put_on : Running
  put_on = running_of change.position new change.unit

  steps : (u : ℕ) → Steps (here u) (running_in t a u) (running_in t b u) taken_off put_on
  unfolding total_in
  steps u =
      record {
        long = count_step Long u;
        total = both_step (here u) (both_step (here u) (both_step (here u) (count_step Long u) (count_step Short u)) (count_step Covered u)) (resting_step is_open u);
        buys = resting_step (is_kind BuyOpen) u;
        opens = resting_step is_open u;
        taken = both_step (here u) (covered_step u) (reserved_step u);
      }

  close_steps : (k : ℕ) → CloseSteps (eqb (ordered old new) k) (closing_on a k) (closing_on b k) (closing_of old) (closing_of new)
  close_steps k = record { long = close_step SellClose k; short = close_step BuyClose k; covered = close_step CoveredClose k }

  free_step : Step true (free_in a) (free_in b) (free_at i old) (free_at i new)
  unfolding applied free_in
  free_step = row_step 32 a.orders free i new free_at true (free_at i old) (free_at i new) (omega (arith, s.order_rows)) refl refl (λ past. absurd (omega (arith, past, fits.placed)))

  inside : change.underlying < 8
  inside = omega (arith, fits.within, s.tables.few_underlyings)

  running_after_lem : (u : ℕ) → u < 8 → running b u ≡ running_in t b u
  unfolding applied
  running_after_lem u h =
      changed_row a.running no_running change.underlying (λ k. running_moved k taken_off put_on) (omega (arith, inside, s.running_rows)) u
      ∙ ap (λ (k : Running). cond (here u) (running_moved k taken_off put_on) k) (s.running u h)
      ∙ running_stepped (here u) (steps u)

  closing_after_lem : (k : ℕ) → k < 64 → closing b k ≡ closing_on b k
  unfolding applied
  closing_after_lem k h =
      let there = eqb (ordered old new) k in
      changed_row a.closing no_position (ordered old new) (λ p. closing_moved p (closing_of old) (closing_of new)) (omega (arith, fits.known, s.closing_rows)) k
      ∙ ap (λ (p : Position). cond there (closing_moved p (closing_of old) (closing_of new)) p) (s.closing k h)
      ∙ closing_stepped there (close_steps k)

  free_after : b.free ≡ free_in b
  unfolding applied free_in
  free_after = rw (lt-ltb i 32 fits.placed, s.free) (stepped free_step)

  pub kept_after : Kept t b
  unfolding applied
  kept_after =
      record {
        running_rows = length-set a.running change.underlying _ ∙ s.running_rows;
        closing_rows = length-set a.closing (ordered old new) _ ∙ s.closing_rows;
        running = running_after_lem;
        closing = closing_after_lem;
        free = free_after;
      }

  -- what is kept can be moved, since it is small after
  pub change_movable : Sound t b → Movable a change
  change_movable after =
      let u = change.underlying in
      let k = ordered old new in
      let moved = steps u in
      let closed = close_steps k in
      record {
        running = rw (s.running u inside) (running_movable (rw (eq-eqb u u refl) at moved) (running_small after u fits.within));
        closing = rw (s.closing k fits.known) (closing_movable (rw (eq-eqb k k refl) at closed) (closing_small after k));
        free = λ h. rw s.free (movable 32 free_step (free_small b));
      }
