-- `all_totals` meets its contract: one account that is too large settles the answer, and where none is `sum` is what all add up to.
use Rattle.std.proofs.Common.{◌≡◌, ℕ, ◌+◌, ◌≤◌, ◌<◌, Bool, true, false, List, [], ◌∷◌, length, get_or, refl, sym, ◌∙◌, add-one, arith, rules, length-append}
use Rattle.std.proofs.lemmas.Slice.Zip.{zip_turn}
use Rattle.terms.specs.Listed.{every}
use Rattle.terms.specs.Ranges.{range_of, ◌∈◌}
use Rattle.terms.specs.Sums.{Σ}
use Rattle.terms.specs.declared.measure.Measure.TheVariants.{NetTotal}
use Rattle.terms.proofs.Listed.{one_fails, one_more}
use Rattle.terms.proofs.Ranges.{inside, second_fails}
use Rattle.assignment.specs.Assignment.{accounts_allowed, net_total}
use Rattle.assignment.proofs.request.all_totals.Goals as goal

nothing_summed : (f : ℕ → ℕ) → 0 ≡ Σ 0 f
unfolding Σ
nothing_summed f = refl

-- this iteration's account
record Turn (short covered : List ℕ) (i total : ℕ) : Type 0 where
  there : i < length short
  held : total ≡ net_total short covered i

module _ (short covered : List ℕ) where
  abbrev small : ℕ → Bool
  small k = net_total short covered k ∈ range_of NetTotal

  turn : (i s c : ℕ) → (i < length short) × (i < length covered) × ((d : ℕ) → s ≡ get_or short i d) × ((d : ℕ) → c ≡ get_or covered i d) → Turn short covered i (s + c)
  unfolding net_total
  turn i s c at = record { there = at.0; held = omega (arith, at.2 0, at.3 0) }

  module _ (i total : ℕ) (at : Turn short covered i total) where
    too_large : total ∈ range_of NetTotal ≡ false → accounts_allowed short covered ≡ false
    unfolding accounts_allowed
    too_large large = second_fails _ _ (one_fails small (length short) i at.there (rw at.held at large))

    module _ (n : ℕ) (next : n ≡ i + 1) where
      with_next : (sum : ℕ) → sum ≡ Σ i (net_total short covered) → sum + total ≡ Σ n (net_total short covered)
      unfolding Σ
      with_next sum so_far = rw (next, add-one) (omega (arith, so_far, at.held))

      each_small : every i small ≡ true → total ∈ range_of NetTotal ≡ true → every n small ≡ true
      each_small before here = rw next (one_more small i before (rw at.held at here))

pub loop-s-init : goal.loop-s-init
loop-s-init c = record { each = refl; summed = nothing_summed _; bounded = omega arith }

pub returns-then-not-allows : goal.returns-then-not-allows
returns-then-not-allows c =
    let at = turn _ _ _ _ _ (zip_turn c.args.short.now c.args.covered.now _ _ _ c.next.new.self _ (search rules) (search rules) c.loop-s.yielded_by _ c.in-Some.is c.next.ensures.steps) in
    too_large _ _ _ _ at (sym c.allows.ensures ∙ c.if-not-allows.true)

pub loop-s-preserved : goal.loop-s-preserved
loop-s-preserved c =
    let at = turn _ _ _ _ _ (zip_turn c.args.short.now c.args.covered.now _ _ _ c.next.new.self _ (search rules) (search rules) c.loop-s.yielded_by _ c.in-Some.is c.next.ensures.steps) in
    let passed = sym c.allows.ensures ∙ c.if-not-allows.false in
    let few : c.in-Some.s.now + c.in-Some.c.now ≤ 10_000 = (inside _ (range_of NetTotal) passed).1 in
    let next = length-append c.loop-s.yielded ((c.in-Some.s, c.in-Some.c) ∷ []) in
    record {
      each = each_small _ _ _ _ at _ next c.loop-s.invariant.each passed;
      summed = with_next _ _ _ _ at _ next _ c.loop-s.invariant.summed;
      bounded = omega (arith, next);
    }
