-- An accepted order keeps the account sound: each total grows by the order's own term, in its own underlying or on its own contract, and the check that its kind meets left room for it. Its number is above all that rest, so it names no other order.
use mathlib.Core.Path.{◌≡◌, refl, sym, ap, ◌∙◌}
use mathlib.Core.Bool.{Bool, true, false, ◌&&◌}
use mathlib.Core.Logic.{◌≢◌, inl, inr}
use Prim.Native.Nat.{ℕ, zero, suc, ◌+◌, ◌*◌, ◌≤◌, ◌<◌}
use native.Mathlib.Decide.{ℕ_discrete}
use native.Mathlib.Nat.{le_refl}
use native.Mathlib.Omega.{arith}
use borrow.Author.Tests.{eqb-true}
use lib.Dec.{eqb}
use lib.ListN.{length-set}
use Rattle.std.specs.Prelude.{Ok}
use Rattle.terms.specs.Verdicts.{accept}
use Rattle.terms.specs.Codes.{kind_code}
use Rattle.terms.specs.Kinds.{moves_of, opens_of}
use Rattle.terms.specs.declared.kind.OrderKind.{OrderKind}
use Rattle.terms.specs.declared.kind.OrderKind.TheVariants.{BuyOpen, CoveredOpen}
use Rattle.terms.specs.declared.kind.Side.{Side}
use Rattle.terms.specs.declared.kind.Side.TheVariants.{Long, Short, Covered}
use Rattle.terms.proofs.Codes.{kind_read}
use Rattle.terms.proofs.Ranges.{first_holds, second_holds}
use Rattle.entries.specs.declared.entry.Order.{Order}
use Rattle.account.specs.Changes.{applied}
use Rattle.account.specs.Checks.{order_verdict}
use Rattle.account.specs.Orders.{under, order_allowed, free_place, facts_in, facts_of, rested, order_change}
use Rattle.account.specs.Rows.{no_position, contract, underlying, position, holding, order}
use Rattle.account.specs.Sound.{SoundOrder, Sound}
use Rattle.terms.specs.Sums.{◌when◌}
use Rattle.account.specs.Totals.{is_of, count_of, count_in, is_kind, is_open, resting_in, resting_on, rights_in, total_in, covered_units, reserved_units, spare_units}
use Rattle.account.specs.declared.account.Account.{Account}
use Rattle.account.specs.declared.account.Resting.{Resting}
use Rattle.account.specs.declared.tables.Tables.{Tables}
use Rattle.account.proofs.Allowed.{contract_known, underlying_known}
use Rattle.account.proofs.Held.{Held, sound_held}
use Rattle.account.proofs.Kept.{count_kept, margin_kept, covered_kept}
use Rattle.account.proofs.KindNumbers.{answered_kind, is_kind_lem, is_open_lem}
use Rattle.account.proofs.Movement.{Fits, kept_after, ordered_new}
use Rattle.account.proofs.Ordered.{after, was_free, order_held, placed, resting_after, closing_after_lem, reserved_after, positions_after, locked_after, bought_after, no_more_holdings_lem}
use Rattle.account.proofs.Passed.{Passed, facts_known, accepted_passed}
use Rattle.account.proofs.Placed.{order_there, order_elsewhere, each_order}

-- a total that grows only where a test holds stays within its limit, if it does where it grows
fits : (test : Bool) (total more limit : ℕ) → total ≤ limit → (test ≡ true → total + more ≤ limit) → total + (more when test) ≤ limit
fits true total more limit h room = room refl
fits false total more limit h room = omega arith

-- numbers that are at most the last, and one above it put among them: still no two are the same
apart : (old new : ℕ → ℕ) (place last number : ℕ) → last < number → new place ≡ number → ((i : ℕ) → i ≢ place → new i ≡ old i) → ((i : ℕ) → i < 32 → old i ≤ last)
    → ((i j : ℕ) → i < 32 → j < 32 → 1 ≤ old i → old i ≡ old j → i ≡ j) → (i j : ℕ) → i < 32 → j < 32 → 1 ≤ new i → new i ≡ new j → i ≡ j
apart old new place last number above there elsewhere below distinct i j hi hj some same = go (ℕ_discrete i place) (ℕ_discrete j place)
  where
    go : Dec (i ≡ place) → Dec (j ≡ place) → i ≡ j
    go (yes e) (yes e') = e ∙ sym e'
    go (yes e) (no k) = absurd (omega (arith, ap new e, elsewhere j k, below j hj))
    go (no k) (yes e) = absurd (omega (arith, ap new e, elsewhere i k, below i hi))
    go (no k) (no k') = distinct i j hi hj (omega (arith, elsewhere i k)) (sym (elsewhere i k) ∙ same ∙ elsewhere j k')

-- no number at a place is above the last accepted
numbered : (t : Tables) (a : Account) → Sound t a → (i : ℕ) → i < 32 → (order a i).number ≤ a.last
numbered t a s i h = go (order a i).number refl
  where
    go : (n : ℕ) → (order a i).number ≡ n → (order a i).number ≤ a.last
    go zero e = omega arith
    go (suc n) e = (s.resting i h (omega arith)).accepted

-- an allowed order may rest, and may go on resting when a higher number is accepted
rested_sound : (t : Tables) (o : Order) → order_allowed t o ≡ true → SoundOrder t o.number (rested o)
rested_sound t o allowed =
    let kind = answered_kind o.kind in
    record { listed = kind_read o.kind ∙ ap Ok (sym kind); allowed = rw kind allowed; accepted = le_refl o.number }

still_sound : (t : Tables) (r : Resting) {last number : ℕ} → last < number → SoundOrder t last r → SoundOrder t number r
still_sound t r above sound = record { listed = sound.listed; allowed = sound.allowed; accepted = omega (arith, sound.accepted) }

module _ (t : Tables) (a : Account) (o : Order) (s : Sound t a) (p : Passed t a o) where
  -- a total that the order joins in its own underlying stays within its limit in each, if it does there
  within : (which : ℕ → Bool) (total limit : ℕ → ℕ) (more : ℕ) → ((u : ℕ) → u < t.m → total u ≤ limit u)
      → (which (kind_code o.kind) ≡ true → total (under t o) + more ≤ limit (under t o))
      → (u : ℕ) → u < t.m → total u + (more when (which (kind_code o.kind) && is_of t u o.contract)) ≤ limit u
  within which total limit more sound room u h =
      let joins = which (kind_code o.kind) in
      let here = is_of t u o.contract in
      let own : (joins && here) ≡ true → total u + more ≤ limit u =
      λ e. rw (← eqb-true (under t o) u (second_holds joins here e)) (room (first_holds joins here e)) in
      fits (joins && here) (total u) more (limit u) (sound u h) own

  count_after : (side : Side) (u : ℕ) → count_in side t (after t a o) u ≡ count_in side t a u
  count_after = count_kept t a (after t a o) (positions_after t a o s p)

  position_after : (c : ℕ) → position (after t a o) c ≡ position a c
  position_after c = rw (positions_after t a o s p)

  rights_after : (u : ℕ) → u < t.m → rights_in t (after t a o) u ≤ (underlying t u).rights
  unfolding rights_in
  rights_after u h =
      let room = within (is_kind BuyOpen) (rights_in t a) (λ v. (underlying t v).rights) o.quantity s.rights (λ e. p.rights (is_kind_lem BuyOpen o.kind e)) u h in
      omega (arith, room, count_after Long u, resting_after t a o (sound_held s) p (is_kind BuyOpen) u)

  total_after : (u : ℕ) → u < t.m → total_in t (after t a o) u ≤ (underlying t u).total
  unfolding total_in
  total_after u h =
      let room = within is_open (total_in t a) (λ v. (underlying t v).total) o.quantity s.total (λ e. p.total (sym (is_open_lem o.kind) ∙ e)) u h in
      omega (arith, room, count_after Long u, count_after Short u, count_after Covered u, resting_after t a o (sound_held s) p is_open u)

  counted_after : (u : ℕ) → u < t.m → resting_in (is_kind BuyOpen) t (after t a o) u ≤ (holding (after t a o) u).bought.0
  counted_after u h = omega (arith, s.counted u h, resting_after t a o (sound_held s) p (is_kind BuyOpen) u, bought_after t a o s p u)

  daily_after : (u : ℕ) → u < t.m → (holding (after t a o) u).bought.0 ≤ (underlying t u).daily
  daily_after u h =
      let room = within (is_kind BuyOpen) (λ v. (holding a v).bought.0) (λ v. (underlying t v).daily) o.quantity s.daily (λ e. p.daily (is_kind_lem BuyOpen o.kind e)) u h in
      omega (arith, room, bought_after t a o s p u)

  units_after : (u : ℕ) → u < t.m → covered_units t (after t a o) u + reserved_units t (after t a o) u ≤ (holding (after t a o) u).locked.0
  unfolding spare_units
  units_after u h =
      let used : ℕ → ℕ = λ v. covered_units t a v + reserved_units t a v in
      let needed = o.quantity * (contract t o.contract).unit in
      let in_own = s.units (under t o) (underlying_known t o p.allowed s.tables) in
      let room = within (is_kind CoveredOpen) used (λ v. (holding a v).locked.0) needed s.units (λ e. omega (arith, in_own, p.spare (is_kind_lem CoveredOpen o.kind e))) u h in
      omega (arith, room, covered_kept t a (after t a o) (positions_after t a o s p) u, reserved_after t a o (sound_held s) p u, locked_after t a o s p u)

  closes_after : (kind : OrderKind) → opens_of kind ≡ false → (c : ℕ) → resting_on kind (after t a o) c ≤ count_of (moves_of kind) (position (after t a o) c)
  closes_after kind close c =
      let joins = is_kind kind (kind_code o.kind) in
      let here = eqb o.contract c in
      let own : (joins && here) ≡ true → resting_on kind a c + o.quantity ≤ count_of (moves_of kind) (position a c) =
      λ e.
      let same_kind = is_kind_lem kind o.kind (first_holds joins here e) in
      let same_contract = eqb-true o.contract c (second_holds joins here e) in
      rw (← same_kind, ← same_contract) (p.closing (ap opens_of same_kind ∙ close)) in
      let room = fits (joins && here) (resting_on kind a c) o.quantity (count_of (moves_of kind) (position a c)) (s.closes kind close c) own in
      let held = ap (count_of (moves_of kind)) (position_after c) in
      omega (arith, room, held, closing_after_lem t a o (sound_held s) p kind c)

  distinct_after : (i j : ℕ) → i < 32 → j < 32 → 1 ≤ (order (after t a o) i).number → (order (after t a o) i).number ≡ (order (after t a o) j).number → i ≡ j
  distinct_after =
      let number : Resting → ℕ = λ r. r.number in
      let there = order_there (placed t a o (sound_held s) p) in
      let elsewhere = order_elsewhere (placed t a o (sound_held s) p) in
      apart (λ i. (order a i).number) (λ i. (order (after t a o) i).number) (free_place a) a.last o.number p.number (ap number there) (λ i other. ap number (elsewhere i other)) (numbered t a s) s.distinct

  held_after : Held t (after t a o)
  held_after = order_held t a o (sound_held s) p

  pub order_fits : Fits t a (order_change (facts_in t a o) o)
  unfolding order_change
  order_fits =
      let on = ordered_new (order a (free_place a)) (rested o) (omega (arith, p.number)) in
      record {
        within = underlying_known t o p.allowed s.tables;
        held = λ h. absurd (omega (arith, h, s.tables.few_contracts));
        unheld = λ h. refl;
        was = inl (was_free t a o (sound_held s) p);
        is = inr (refl, refl, sym on);
        placed = p.place;
        known = omega (arith, on, contract_known t o p.allowed, s.tables.few_contracts);
      }

  after_sound : Sound t (after t a o)
  unfolding applied order_change
  after_sound =
      let kept = kept_after t a (order_change (facts_in t a o) o) s order_fits in
      record {
        tables = s.tables;
        position_rows = length-set a.positions 64 no_position ∙ s.position_rows;
        order_rows = held_after.rows;
        holding_rows = length-set a.holdings (under t o) _ ∙ s.holding_rows;
        ceiling = s.ceiling;
        holds = held_after.holds;
        reach = held_after.reach;
        waiting = s.waiting;
        margin = s.margin ∙ sym (margin_kept t a (after t a o) (positions_after t a o s p));
        rights = rights_after;
        total = total_after;
        counted = counted_after;
        daily = daily_after;
        closes = closes_after;
        units = units_after;
        locked = λ u h. rw (locked_after t a o s p u) (s.locked u h);
        calls = λ c put. rw (position_after c) (s.calls c put);
        emptied = held_after.emptied;
        resting = each_order (placed t a o (sound_held s) p) (λ r. 1 ≤ r.number → SoundOrder t o.number r) (λ some. rested_sound t o p.allowed) (λ i h some. still_sound t (order a i) p.number (s.resting i h some));
        distinct = distinct_after;
        running_rows = kept.running_rows;
        closing_rows = kept.closing_rows;
        running = kept.running;
        closing = kept.closing;
        free = kept.free;
        no_more_positions = λ c h. position_after c ∙ s.no_more_positions c h;
        no_more_holdings = no_more_holdings_lem t a o s p;
      }

pub order_sound : (t : Tables) (a : Account) (o : Order) → Sound t a → order_verdict (facts_of t a o) o ≡ accept → Sound t (applied a (order_change (facts_of t a o) o))
order_sound t a o s e =
    let p = accepted_passed t a o e in
    rw (facts_known t a o p.allowed) (after_sound t a o s p)
