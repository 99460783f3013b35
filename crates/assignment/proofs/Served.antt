-- What is handed out is as stated. Whoever was served so far had a fraction and comes before whoever was not, and what is left is covered by the fractions of the others: so there is a fraction where a contract is left, and the largest, which is served next, comes before all that are not served yet.
use mathlib.Core.Path.{◌≡◌, refl, sym, ap, ◌∙◌}
use mathlib.Core.List.{List}
use mathlib.Core.Logic.{◌⊎◌, inl, inr, ◌≢◌}
use Prim.Native.Nat.{ℕ, zero, suc, ◌+◌, ◌*◌, ◌≤◌, ◌<◌}
use native.Mathlib.Nat.{suc-mul}
use native.Mathlib.Decide.{ℕ_discrete, dec_lt}
use native.Mathlib.Omega.{arith}
use lib.ListN.{length, get_or, length-set}
use lib.Seq.{get_or-set_same, get_or-set_other}
use Rattle.terms.specs.Listed.{listed}
use Rattle.terms.specs.Sums.{Σ}
use Rattle.terms.proofs.Listed.{listed_at, listed_length}
use Rattle.terms.proofs.Sums.{Σ-changed, Σ-none, Σ-same}
use Rattle.assignment.specs.Assignment.{all_totals, assigned, fraction, hand_out, largest, leftover, whole_part}
use Rattle.assignment.specs.Stated.{Before, Stated}
use Rattle.assignment.proofs.Divided.{Allowed, left_over, rest_below, wholes_within}
use Rattle.assignment.proofs.HandedOut.{more_elsewhere, more_here, one_more, used_up}
use Rattle.assignment.proofs.Largest.{First, first, has_place}

-- an account that got one of the contracts that were left, by its fraction, which is used up; and one that did not
pub record Got (whole rest share left_of : ℕ) : Type 0 where
  pub one_more : share ≡ whole + 1
  pub used : left_of ≡ 0
  pub had : 0 < rest

pub record Waits (whole rest share left_of : ℕ) : Type 0 where
  pub whole_only : share ≡ whole
  pub kept : left_of ≡ rest

-- so far
pub record Served (E : ℕ) (short covered : List ℕ) (left : ℕ) (fractions shares : List ℕ) : Type 0 where
  pub fractions_sized : length fractions ≡ length short
  pub shares_sized : length shares ≡ length short
  pub each : (i : ℕ) → i < length short → Got (whole_part E short covered i) (fraction E short covered i) (get_or shares i 0) (get_or fractions i 0) ⊎ Waits (whole_part E short covered i) (fraction E short covered i) (get_or shares i 0) (get_or fractions i 0)
  pub in_order : (i j : ℕ) → i < length short → j < length short → get_or shares i 0 ≡ whole_part E short covered i + 1 → get_or shares j 0 ≡ whole_part E short covered j → Before (fraction E short covered) i j
  pub adds_up : Σ (length short) (λ i. get_or shares i 0) + left ≡ E
  pub covers : left * all_totals short covered ≤ Σ (length short) (λ i. get_or fractions i 0)

module _ (E : ℕ) (short covered : List ℕ) (ok : Allowed E short covered) where
  abbrev T : ℕ
  T = all_totals short covered

  abbrev whole : ℕ → ℕ
  whole = whole_part E short covered

  abbrev rest : ℕ → ℕ
  rest = fraction E short covered

  -- one contract more, for the account with the largest fraction
  module _ (left : ℕ) (fractions shares : List ℕ) (so_far : Served E short covered (suc left) fractions shares) where
    abbrev next : ℕ
    next = largest fractions

    best : First fractions next
    best = first fractions

    some_total : 0 < T
    some_total = omega (arith, so_far.adds_up, ok.enough)

    has_fraction : 0 < get_or fractions next 0
    has_fraction = go (get_or fractions next 0) refl
      where
        go : (most : ℕ) → get_or fractions next 0 ≡ most → 0 < most
        go zero none =
            let nothing = Σ-none (length short) (λ i. get_or fractions i 0) (λ i h. omega (arith, best.none_larger i, none)) in
            let times = suc-mul left T in
            absurd (omega (arith, nothing, times, so_far.covers, some_total))
        go (suc k) e = omega arith

    inside : next < length short
    inside = omega (arith, has_place fractions next has_fraction, so_far.fractions_sized)

    waiting : Waits (whole next) (rest next) (get_or shares next 0) (get_or fractions next 0)
    waiting = elim (so_far.each next inside) [
      | inl got ↦ absurd (omega (arith, got.used, has_fraction))
      | inr waits ↦ waits
    ]

    its_share : get_or (one_more shares next) next 0 ≡ whole next + 1
    its_share = let here = more_here shares next (omega (arith, inside, so_far.shares_sized)) in omega (arith, here, waiting.whole_only)

    its_fraction : get_or (used_up fractions next) next 0 ≡ 0
    its_fraction = get_or-set_same fractions next 0 0 (omega (arith, inside, so_far.fractions_sized))

    then_each : (i : ℕ) → i < length short → Got (whole i) (rest i) (get_or (one_more shares next) i 0) (get_or (used_up fractions next) i 0) ⊎ Waits (whole i) (rest i) (get_or (one_more shares next) i 0) (get_or (used_up fractions next) i 0)
    then_each i h =
        elim (ℕ_discrete i next) [
          | yes e ↦
              inl (record {
                one_more = ap (λ (k : ℕ). get_or (one_more shares next) k 0) e ∙ its_share ∙ ap (λ (k : ℕ). whole k + 1) (sym e);
                used = ap (λ (k : ℕ). get_or (used_up fractions next) k 0) e ∙ its_fraction;
                had = let same = ap rest e in omega (arith, same, waiting.kept, has_fraction);
              })
          | no other ↦
              let share = more_elsewhere shares next i other in
              let left_of = get_or-set_other fractions next i 0 0 other in
              elim (so_far.each i h) [
                | inl got ↦ inl (record { one_more = share ∙ got.one_more; used = left_of ∙ got.used; had = got.had })
                | inr waits ↦ inr (record { whole_only = share ∙ waits.whole_only; kept = left_of ∙ waits.kept })
              ]
        ]

    -- the one that is served comes before each that waits
    comes_first : (j : ℕ) → j < length short → j ≢ next → get_or shares j 0 ≡ whole j → Before rest next j
    comes_first j h other waits_still =
        elim (so_far.each j h) [
          | inl got ↦ absurd (omega (arith, got.one_more, waits_still))
          | inr waits ↦
              let most = best.none_larger j in
              elim (dec_lt (rest j) (rest next)) [
                | yes less ↦ inl less
                | no not_less ↦
                    inr (
                      omega (arith, not_less, most, waits.kept, waiting.kept),
                      elim (dec_lt next j) [
                        | yes lower ↦ lower
                        | no not_lower ↦ absurd (omega (arith, best.lower_smaller j (omega (arith, not_lower, other)), not_less, waits.kept, waiting.kept))
                      ],
                    )
              ]
        ]

    then_ordered : (i j : ℕ) → i < length short → j < length short → get_or (one_more shares next) i 0 ≡ whole i + 1 → get_or (one_more shares next) j 0 ≡ whole j → Before rest i j
    then_ordered i j hi hj got waits =
        elim (ℕ_discrete j next) [
          | yes e ↦
              let same = ap (λ (k : ℕ). get_or (one_more shares next) k 0) e in
              let as_whole = ap whole e in
              absurd (omega (arith, same, as_whole, its_share, waits))
          | no other ↦
              let waits_still = sym (more_elsewhere shares next j other) ∙ waits in
              elim (ℕ_discrete i next) [
                | yes e ↦ rw e (comes_first j hj other waits_still)
                | no another ↦ so_far.in_order i j hi hj (sym (more_elsewhere shares next i another) ∙ got) waits_still
              ]
        ]

    one_more_served : Served E short covered left (used_up fractions next) (one_more shares next)
    one_more_served =
        let more = Σ-changed (length short) next (λ i. get_or shares i 0) (λ i. get_or (one_more shares next) i 0) inside (λ j h other. sym (more_elsewhere shares next j other)) in
        let here = more_here shares next (omega (arith, inside, so_far.shares_sized)) in
        let fewer = Σ-changed (length short) next (λ i. get_or fractions i 0) (λ i. get_or (used_up fractions next) i 0) inside (λ j h other. sym (get_or-set_other fractions next j 0 0 other)) in
        let below = rest_below E short covered some_total next in
        let times = suc-mul left T in
        record {
          fractions_sized = length-set fractions next 0 ∙ so_far.fractions_sized;
          shares_sized = length-set shares next (get_or shares next 0 + 1) ∙ so_far.shares_sized;
          each = then_each;
          in_order = then_ordered;
          adds_up = omega (arith, more, here, so_far.adds_up);
          covers = omega (arith, fewer, its_fraction, below, waiting.kept, times, so_far.covers);
        }

  all_served : (left : ℕ) (fractions shares : List ℕ) → Served E short covered left fractions shares → Stated E short covered (hand_out left fractions shares)
  unfolding hand_out
  all_served zero fractions shares so_far =
      record {
        accounts = so_far.shares_sized;
        whole_first = λ i h. elim (so_far.each i h) [ inl got ↦ inr got.one_more | inr waits ↦ inl waits.whole_only ];
        adds_up = omega (arith, so_far.adds_up);
        in_order = so_far.in_order;
        no_fraction = λ i h none. elim (so_far.each i h) [ inl got ↦ absurd (omega (arith, got.had, none)) | inr waits ↦ waits.whole_only ];
      }
  all_served (suc left) fractions shares so_far = all_served left _ _ (one_more_served left fractions shares so_far)

  its_whole : (i : ℕ) → i < length short → get_or (listed (length short) whole) i 0 ≡ whole i
  its_whole i h = listed_at (length short) whole i 0 h

  its_rest : (i : ℕ) → i < length short → get_or (listed (length short) rest) i 0 ≡ rest i
  its_rest i h = listed_at (length short) rest i 0 h

  all_covered : leftover E short covered * T ≤ Σ (length short) rest
  all_covered = go T refl
    where
      go : (total : ℕ) → T ≡ total → leftover E short covered * total ≤ Σ (length short) rest
      go zero none = omega arith
      go (suc t) some = let exact = left_over E short covered ok (omega (arith, some)) in let same = ap (λ (x : ℕ). leftover E short covered * x) some in omega (arith, exact, same)

  none_served : Served E short covered (leftover E short covered) (listed (length short) rest) (listed (length short) whole)
  unfolding leftover
  none_served =
      let wholes = Σ-same (length short) (λ i. get_or (listed (length short) whole) i 0) whole its_whole in
      let rests = Σ-same (length short) (λ i. get_or (listed (length short) rest) i 0) rest its_rest in
      record {
        fractions_sized = listed_length (length short) rest;
        shares_sized = listed_length (length short) whole;
        each = λ i h. inr (record { whole_only = its_whole i h; kept = its_rest i h });
        in_order = λ i j hi hj got waits. absurd (omega (arith, its_whole i hi, got));
        adds_up = omega (arith, wholes, wholes_within E short covered ok);
        covers = omega (arith, rests, all_covered);
      }

  pub as_stated : Stated E short covered (assigned E short covered)
  unfolding assigned
  as_stated = all_served (leftover E short covered) _ _ none_served
