-- Nothing was put into a row of an opening, so every row is all zero and every total over them is zero, which is within every limit.
use mathlib.Core.Path.{◌≡◌, refl, sym, ap, ◌∙◌}
use Prim.Native.Nat.{ℕ, ◌+◌, ◌≤◌}
use native.Mathlib.Nat.{zero-mul}
use native.Mathlib.Omega.{arith}
use lib.ListN.{length-replicate}
use Rattle.terms.specs.Counts.{units_for}
use Rattle.terms.specs.declared.count.Position.{Position}
use Rattle.terms.specs.declared.kind.OrderKind.TheVariants.{BuyOpen}
use Rattle.terms.specs.declared.kind.Side.{Side}
use Rattle.terms.specs.declared.kind.Side.TheVariants.{Long, Short, Covered}
use Rattle.rules.specs.Count.{for_count}
use Rattle.account.specs.Money.{margin_one, margin_in}
use Rattle.account.specs.Opening.{opening}
use Rattle.account.specs.Rows.{free, no_holding, no_position, contract, position, holding}
use Rattle.account.specs.Running.{no_running, running_in}
use Rattle.account.specs.Sound.{SoundTables, Sound}
use Rattle.terms.specs.Sums.{Σ, ◌when◌}
use Rattle.account.specs.Totals.{is_of, count_of, count_in, is_kind, is_open, resting_in, rights_in, total_in, covered_units, reserved_units}
use Rattle.account.specs.declared.tables.Tables.{Tables}
use Rattle.account.proofs.Held.{Held}
use Rattle.account.proofs.NoOrders.{all_free_lem, closes_none, no_orders}
use Rattle.account.proofs.Placed.{nothing_when}
use Rattle.account.proofs.Rows.{untouched}
use Rattle.terms.proofs.Sums.{Σ-none}

nothing_counted : (side : Side) → count_of side no_position ≡ 0
nothing_counted Long = refl
nothing_counted Short = refl
nothing_counted Covered = refl

module _ (t : Tables) (cash : ℕ) where
  no_position_lem : (c : ℕ) → position (opening cash) c ≡ no_position
  no_position_lem c = untouched 64 c no_position

  no_holding_lem : (u : ℕ) → holding (opening cash) u ≡ no_holding
  no_holding_lem u = untouched 8 u no_holding

  -- a total of what adds nothing for an empty row
  over_positions : (f : ℕ → Position → ℕ) → ((c : ℕ) → f c no_position ≡ 0) → Σ t.n (λ c. f c (position (opening cash) c)) ≡ 0
  over_positions f none = Σ-none t.n (λ c. f c (position (opening cash) c)) (λ c h. ap (f c) (no_position_lem c) ∙ none c)

  no_count : (side : Side) (u : ℕ) → count_in side t (opening cash) u ≡ 0
  unfolding count_in
  no_count side u = over_positions (λ c p. count_of side p when is_of t u c) (λ c. rw nothing_counted (nothing_when (is_of t u c)))

  no_covered : (u : ℕ) → covered_units t (opening cash) u ≡ 0
  unfolding covered_units
  no_covered u = over_positions (λ c p. (units_for p.covered (contract t c).unit).0 when is_of t u c) (λ c. rw zero-mul (nothing_when (is_of t u c)))

  no_running_lem : (u : ℕ) → running_in t (opening cash) u ≡ no_running
  unfolding total_in
  no_running_lem u =
      let none = no_orders t (opening cash) refl in
      let long = no_count Long u in
      let opens = none.resting is_open u in
      let total : count_in Long t (opening cash) u + count_in Short t (opening cash) u + count_in Covered t (opening cash) u + resting_in is_open t (opening cash) u ≡ 0 = omega (arith, long, no_count Short u, no_count Covered u, opens) in
      let taken : covered_units t (opening cash) u + reserved_units t (opening cash) u ≡ 0 = omega (arith, no_covered u, none.reserve u) in
      λ i. record { long = record { 0 = long i }; total = record { 0 = total i }; buys = record { 0 = none.resting (is_kind BuyOpen) u i }; opens = record { 0 = opens i }; taken = record { 0 = taken i } }

  pub opening_held : Held t (opening cash)
  opening_held =
      let none = no_orders t (opening cash) refl in
      record { rows = length-replicate 32 free; emptied = λ i h zero. none.places i; holds = sym none.holds; reach = omega arith }

  pub opening_sound : SoundTables t → cash ≤ 1_000_000_000_000_000 → Sound t (opening cash)
  unfolding margin_in rights_in total_in for_count
  opening_sound tables within =
      let none = no_orders t (opening cash) refl in
      record {
        tables = tables;
        position_rows = length-replicate 64 no_position;
        order_rows = opening_held.rows;
        holding_rows = length-replicate 8 no_holding;
        ceiling = omega arith;
        holds = opening_held.holds;
        reach = opening_held.reach;
        waiting = omega arith;
        margin = sym (over_positions (λ c p. for_count p.short.0 (margin_one t c)) (λ c. zero-mul _));
        rights = λ u h. omega (arith, no_count Long u, none.resting (is_kind BuyOpen) u);
        total = λ u h. omega (arith, no_count Long u, no_count Short u, no_count Covered u, none.resting is_open u);
        counted = λ u h. omega (arith, none.resting (is_kind BuyOpen) u);
        daily = λ u h. rw (no_holding_lem u) (omega arith);
        closes = λ kind close c. omega (arith, none.closes kind c);
        units = λ u h. omega (arith, no_covered u, none.reserve u);
        locked = λ u h. rw (no_holding_lem u) (omega arith);
        calls = λ c put. ap (λ (p : Position). p.covered.0) (no_position_lem c);
        emptied = opening_held.emptied;
        resting = λ i h some. absurd (none.numbers i some);
        distinct = λ i j hi hj some same. absurd (none.numbers i some);
        running_rows = length-replicate 8 no_running;
        closing_rows = length-replicate 64 no_position;
        running = λ u h. untouched 8 u no_running ∙ sym (no_running_lem u);
        closing = λ c h. untouched 64 c no_position ∙ sym (closes_none none c);
        free = sym (all_free_lem t (opening cash) refl);
        no_more_positions = λ c h. no_position_lem c;
        no_more_holdings = λ u h. no_holding_lem u;
      }
