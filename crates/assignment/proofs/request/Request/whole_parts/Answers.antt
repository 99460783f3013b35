-- `whole_parts` meets its contract: what `share_of` gives is the account's, and each whole part is at most what is left, since all of them add up to at most E.
use Rattle.std.proofs.Common.{◌≡◌, ℕ, ◌+◌, ◌-◌, ◌*◌, ◌/◌, ◌%◌, ◌≤◌, ◌<◌, length, get_or, refl, add-one, arith, rules}
use Rattle.std.proofs.lemmas.Grind.{common_steps}
use Rattle.terms.specs.Sums.{Σ}
use Rattle.terms.proofs.Sums.{Σ-part}
use Rattle.assignment.specs.Assignment.{fraction, leftover, net_total, whole_part}
use Rattle.assignment.specs.declared.request.Request.{Request}
use Rattle.assignment.proofs.Divided.{Allowed, allowed, wholes_within}
use Rattle.assignment.proofs.request.Request.whole_parts.Goals as goal

module _ (request : Request) where
  ok : Allowed request.exercised request.short.now request.covered.now
  ok = allowed _ _ _ request.allowed

  abbrev whole : ℕ → ℕ
  whole = whole_part request.exercised request.short.now request.covered.now

  enough : request.exercised ≤ request.total
  enough = omega (arith, ok.enough, request.added_up)

  sum_small : (i : ℕ) → i < length request.short.now → get_or request.short.now i 0 + get_or request.covered.now i 0 ≤ 10_000
  unfolding net_total
  sum_small i there = ok.small i there

  -- what `share_of` gives is the account's
  module _ (i part : ℕ) where
    its_whole : part ≡ request.exercised * (get_or request.short.now i 0 + get_or request.covered.now i 0) / request.total → part ≡ whole i
    unfolding whole_part net_total
    its_whole e = rw (← request.added_up) e

    its_rest : part ≡ request.exercised * (get_or request.short.now i 0 + get_or request.covered.now i 0) % request.total → part ≡ fraction request.exercised request.short.now request.covered.now i
    unfolding fraction net_total
    its_rest e = rw (← request.added_up) e

  module _ (i left : ℕ) (there : i < length request.short.now) (so_far : left + Σ i whole ≡ request.exercised) where
    with_next : Σ (i + 1) whole ≡ Σ i whole + whole i
    unfolding Σ
    with_next = rw add-one refl

    next_within : whole i ≤ left
    next_within =
        let some = Σ-part (i + 1) (length request.short.now) whole (omega (arith, there)) in
        omega (arith, some, wholes_within _ _ _ ok, with_next, so_far)

    less_left : left - whole i + Σ (i + 1) whole ≡ request.exercised
    less_left = omega (arith, next_within, with_next, so_far)

  all_left : (i left : ℕ) → i ≡ length request.short.now → left + Σ i whole ≡ request.exercised → left ≡ leftover request.exercised request.short.now request.covered.now
  unfolding leftover
  all_left i left e so_far = let all = rw e at so_far in omega (arith, all)

nothing_summed : (E : ℕ) (f : ℕ → ℕ) → E + Σ 0 f ≡ E
unfolding Σ
nothing_summed E f = omega arith

pub loop-i-init : goal.loop-i-init
loop-i-init c = let none = nothing_summed c.args.self.now.exercised (whole c.args.self.now) in search rules

pub overflow_add-s : goal.overflow_add-s
overflow_add-s c = omega (arith, sum_small c.args.self.now c.loop-i.i (omega arith))

pub overflow_sub-left : goal.overflow_sub-left
overflow_sub-left c =
    let whole = its_whole c.args.self.now c.loop-i.i _ c.share_of-whole.ensures.0 in
    let within = next_within c.args.self.now c.loop-i.i _ (omega arith) c.loop-i.invariant.left_so_far in
    omega (arith, whole, within)

pub loop-i-preserved : goal.loop-i-preserved
loop-i-preserved c =
    let whole = its_whole c.args.self.now c.loop-i.i _ c.share_of-whole.ensures.0 in
    let rest = its_rest c.args.self.now c.loop-i.i _ c.share_of-whole.ensures.1 in
    let fewer = less_left c.args.self.now c.loop-i.i _ (omega arith) c.loop-i.invariant.left_so_far in
    grind (arith, common_steps)

pub returns-clause-left : goal.returns-clause-left
returns-clause-left c = all_left c.args.self.now c.loop-i.i _ (omega arith) c.loop-i.invariant.left_so_far
