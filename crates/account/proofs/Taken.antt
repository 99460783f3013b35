-- A fill and a cancel take from one resting order, a cancel all that is left. Each total over the orders counts an order by what is left of it, so it falls by its share of what is taken; what rests still is the same order with less left, and no new number comes in.
use mathlib.Core.Path.{◌≡◌, refl, sym, ap, ◌∙◌}
use mathlib.Core.Bool.{Bool, true, false, cond, not, ◌&&◌, false≢true}
use Prim.Native.Nat.{ℕ, zero, suc, ◌+◌, ◌-◌, ◌*◌, ◌≤◌, ◌<◌}
use native.Mathlib.Decide.{ℕ_discrete}
use native.Mathlib.Nat.{add-mul}
use native.Mathlib.Omega.{arith}
use borrow.Author.Tests.{eqb-true, eqb-false, le-leb}
use lib.Dec.{eqb, ltb}
use lib.ListN.{length, length-set}
use Rattle.terms.specs.Kinds.{moves_of}
use Rattle.terms.specs.Ranges.{range_of, ◌∈◌}
use Rattle.terms.specs.declared.kind.OrderKind.{OrderKind}
use Rattle.terms.specs.declared.kind.OrderKind.TheVariants.{CoveredOpen}
use Rattle.terms.specs.declared.measure.Measure.TheVariants.{Price, Quantity}
use Rattle.terms.proofs.Ranges.{first_holds, second_holds}
use Rattle.rules.specs.Count.{for_count}
use Rattle.account.specs.Fills.{place_of, order_after}
use Rattle.account.specs.Money.{hold_one, kind_of, hold_of, holds_in}
use Rattle.account.specs.Orders.{covered_put, order_allowed}
use Rattle.account.specs.Rows.{free, contract, order}
use Rattle.account.specs.Sound.{SoundOrder, Sound, as_order}
use Rattle.terms.specs.Sums.{◌when◌}
use Rattle.account.specs.Totals.{is_of, is_kind, over_orders, resting_in, resting_on, reserved_units}
use Rattle.account.specs.declared.account.Account.{Account}
use Rattle.account.specs.declared.account.Resting.{Resting}
use Rattle.account.specs.declared.tables.Tables.{Tables}
use Rattle.account.proofs.Bounds.{order_figures}
use Rattle.account.proofs.Held.{Held}
use Rattle.account.proofs.Lowest.{lowest_passes}
use Rattle.account.proofs.Placed.{nothing_when, nothing_held, Put, order_there, order_elsewhere, each_order, over_changed}

-- an order of which so much is left
abbrev pub leaving : Resting → ℕ → Resting
leaving r n = record { number = r.number; contract = r.contract; kind = r.kind; left = record { 0 = n }; price = r.price }

-- a place that a number names has an order with that number, and 0 names none
pub found : (a : Account) (number : ℕ) → place_of a number < 32 → 1 ≤ (order a (place_of a number)).number
unfolding place_of
found a number there =
    let held = (order a (place_of a number)).number in
    let test = lowest_passes 32 (λ i. eqb (order a i).number number && not (eqb number 0)) there in
    let some : (n : ℕ) → not (eqb n 0) ≡ true → 1 ≤ n = elim [ zero ↦ λ e. absurd (false≢true e) | suc n ↦ λ e. omega arith ] in
    omega (arith, eqb-true held number (first_holds (eqb held number) _ test), some number (second_holds (eqb held number) _ test))

-- a count of contracts by which a total grows in proportion
abbrev pub Additive : (ℕ → ℕ) → Type 0
Additive f = (m n : ℕ) → f (m + n) ≡ f m + f n

pub additive_when : (test : Bool) → Additive (◌when test)
additive_when true m n = refl
additive_when false m n = refl

pub additive_times : (one : ℕ) (test : Bool) → Additive (λ n. n * one when test)
additive_times one true m n = add-mul m n one
additive_times one false m n = refl

-- what is taken off an order and what it leaves make what there was
parted : (f : Resting → ℕ) (r : Resting) (q : ℕ) → q ≤ r.left.0 → f free ≡ 0 → Additive (λ n. f (leaving r n)) → f (order_after r q) + f (leaving r q) ≡ f r
parted f r q enough none add = go (eqb r.left.0 q) refl
  where
    go : (all : Bool) → eqb r.left.0 q ≡ all → f (cond all free (leaving r (r.left.0 - q))) + f (leaving r q) ≡ f r
    go true e = omega (arith, none, ap (λ n. f (leaving r n)) (eqb-true r.left.0 q e))
    go false e =
        let whole : r.left.0 - q + q ≡ r.left.0 = omega (arith, enough) in
        omega (arith, add (r.left.0 - q) q, ap (λ n. f (leaving r n)) whole)

quantity_allowed : (n : ℕ) → 1 ≤ n → n ≤ 100 → (n ∈ range_of Quantity) ≡ true
quantity_allowed n some few = rw (le-leb 1 n some, le-leb n 100 few)

-- a place that is given up is a free one
after_emptied : (r : Resting) (q : ℕ) → 1 ≤ r.number → (order_after r q).number ≡ 0 → order_after r q ≡ free
after_emptied r q some = go (eqb r.left.0 q)
  where
    go : (all : Bool) → (cond all free (leaving r (r.left.0 - q))).number ≡ 0 → cond all free (leaving r (r.left.0 - q)) ≡ free
    go true none = refl
    go false none = absurd (omega (arith, none, some))

-- an order may rest on with less left
less_sound : (t : Tables) (last : ℕ) (r : Resting) (n : ℕ) → 1 ≤ n → n ≤ r.left.0 → SoundOrder t last r → SoundOrder t last (leaving r n)
unfolding order_allowed
less_sound t last r n some less sound =
    let was = order_figures {t = t} (as_order r) sound.allowed in
    let same = quantity_allowed n some (omega (arith, less, was.quantity)) ∙ sym (quantity_allowed r.left.0 was.some was.quantity) in
    let others : Bool → Bool = λ quantity. quantity && (r.price ∈ range_of Price) && ltb r.contract t.n && not (covered_put (moves_of (kind_of r)) (contract t r.contract).right) in
    record { listed = sound.listed; allowed = ap others same ∙ sound.allowed; accepted = sound.accepted }

after_sound : (t : Tables) (last : ℕ) (r : Resting) (q : ℕ) → q ≤ r.left.0 → SoundOrder t last r → 1 ≤ (order_after r q).number → SoundOrder t last (order_after r q)
after_sound t last r q enough sound = go (eqb r.left.0 q) refl
  where
    go : (all : Bool) → eqb r.left.0 q ≡ all → 1 ≤ (cond all free (leaving r (r.left.0 - q))).number → SoundOrder t last (cond all free (leaving r (r.left.0 - q)))
    go true e never = absurd (omega (arith, never))
    go false e number = less_sound t last r (r.left.0 - q) (omega (arith, enough, eqb-false r.left.0 q e)) (omega arith) sound

after_number : (r : Resting) (q : ℕ) → 1 ≤ (order_after r q).number → (order_after r q).number ≡ r.number
after_number r q = go (eqb r.left.0 q)
  where
    go : (all : Bool) → 1 ≤ (cond all free (leaving r (r.left.0 - q))).number → (cond all free (leaving r (r.left.0 - q))).number ≡ r.number
    go true never = absurd (omega (arith, never))
    go false some = refl

-- b's orders are a's with q taken from the one at a place, and the same waits
pub record Takes (t : Tables) (a b : Account) (place q : ℕ) : Type 0 where
  pub put : Put a b place (order_after (order a place) q)
  pub waits : b.waiting ≡ a.waiting
  pub some : 1 ≤ (order a place).number
  pub enough : q ≤ (order a place).left.0

module _ {t : Tables} {a b : Account} {place q : ℕ} (taken : Takes t a b place q) where
  abbrev r : Resting
  r = order a place

  over_taken : (f : Resting → ℕ) → f free ≡ 0 → Additive (λ n. f (leaving r n)) → over_orders b f + f (leaving r q) ≡ over_orders a f
  over_taken f none add = omega (arith, over_changed taken.put f, parted f r q taken.enough none add)

  pub resting_taken : (which : ℕ → Bool) (u : ℕ) → resting_in which t b u + (q when (which r.kind && is_of t u r.contract)) ≡ resting_in which t a u
  resting_taken which u = over_taken _ (nothing_when (which 0 && is_of t u 0)) (additive_when (which r.kind && is_of t u r.contract))

  pub closing_taken : (kind : OrderKind) (c : ℕ) → resting_on kind b c + (q when (is_kind kind r.kind && eqb r.contract c)) ≡ resting_on kind a c
  closing_taken kind c = over_taken _ (nothing_when (is_kind kind 0 && eqb 0 c)) (additive_when (is_kind kind r.kind && eqb r.contract c))

  pub reserved_taken : (u : ℕ) → reserved_units t b u + (q * (contract t r.contract).unit when (is_kind CoveredOpen r.kind && is_of t u r.contract)) ≡ reserved_units t a u
  unfolding reserved_units
  reserved_taken u = over_taken _ refl (additive_times (contract t r.contract).unit (is_kind CoveredOpen r.kind && is_of t u r.contract))

  -- so what is freed was held
  pub holds_taken : holds_in t b + for_count q (hold_one t (kind_of r) r.contract r.price) ≡ holds_in t a
  unfolding holds_in hold_of for_count
  holds_taken = omega (arith, taken.waits, over_taken (hold_of t) (nothing_held t) (additive_times (hold_one t (kind_of r) r.contract r.price) true))

  -- what waits and what rests is all that is held, and cash reaches for it where it does after what is paid
  pub held_taken : Held t a → b.sheet.holds ≡ a.sheet.holds - for_count q (hold_one t (kind_of r) r.contract r.price) → b.sheet.holds ≤ b.sheet.cash → Held t b
  held_taken held freed reach =
      record {
        rows = ap length taken.put.orders ∙ length-set a.orders place _ ∙ held.rows;
        emptied = each_order taken.put (λ r. r.number ≡ 0 → r ≡ free) (after_emptied r q taken.some) held.emptied;
        holds = omega (arith, held.holds, holds_taken, freed);
        reach = reach;
      }

  same_number : (i : ℕ) → 1 ≤ (order b i).number → (order b i).number ≡ (order a i).number
  same_number i =
      let number : Resting → ℕ = λ r. r.number in
      elim (ℕ_discrete i place) [
        | yes e ↦ rw (e, order_there taken.put) (after_number r q)
        | no other ↦ λ some. ap number (order_elsewhere taken.put i other)
      ]

  module _ (sound : Sound t a) where
    pub resting_order : SoundOrder t a.last r
    resting_order = sound.resting place taken.put.within taken.some

    pub resting_after : (i : ℕ) → i < 32 → 1 ≤ (order b i).number → SoundOrder t a.last (order b i)
    resting_after = each_order taken.put (λ r. 1 ≤ r.number → SoundOrder t a.last r) (after_sound t a.last r q taken.enough resting_order) sound.resting

    pub distinct_taken : (i j : ℕ) → i < 32 → j < 32 → 1 ≤ (order b i).number → (order b i).number ≡ (order b j).number → i ≡ j
    distinct_taken i j hi hj some same =
        let here = same_number i some in
        let there = same_number j (omega (arith, some, same)) in
        sound.distinct i j hi hj (omega (arith, some, here)) (sym here ∙ same ∙ there)
