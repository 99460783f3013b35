-- A sum with one term changed is the sum with the new term instead of the old one, since the old term was in it. Where rows are counted only under a test, nothing moves where the test fails; and sums that move so move so together.
use mathlib.Core.Path.{◌≡◌, sym, ap}
use mathlib.Core.Bool.{Bool, true, false, cond}
use mathlib.Core.List.{List}
use Prim.Native.Nat.{ℕ, ◌+◌, ◌^◌, ◌≤◌, ◌<◌}
use native.Mathlib.Decide.{dec_lt}
use native.Mathlib.Omega.{arith}
use lib.ListN.{length, get_or, set}
use lib.Seq.{get_or-set_same, get_or-set_other}
use Rattle.terms.specs.declared.count.Position.{Position}
use Rattle.account.specs.Rows.{no_position}
use Rattle.account.specs.Running.{closing_moved, instead, no_running, running_moved}
use Rattle.account.specs.Room.{ClosingMoves, Moves, RunningMoves}
use Rattle.terms.specs.Sums.{Σ, ◌when◌}
use Rattle.account.specs.declared.running.Running.{Running}
use Rattle.terms.proofs.Sums.{Σ-changed, Σ-same, Σ-term}

-- a sum of which one term, counted where a test holds, gave way to another: before, after, the old term, the new one
pub record Step (here : Bool) (before after old new : ℕ) : Type 0 where
  pub there : (old when here) ≤ before
  pub moves : after + (old when here) ≡ before + (new when here)

pub both_step : (here : Bool) {b b' a a' o o' n n' : ℕ} → Step here b a o n → Step here b' a' o' n' → Step here (b + b') (a + a') (o + o') (n + n')
both_step true one other = record { there = omega (arith, one.there, other.there); moves = omega (arith, one.moves, other.moves) }
both_step false one other = record { there = omega arith; moves = omega (arith, one.moves, other.moves) }

-- where the test holds the sum after is the one before with the new term instead; elsewhere it is the one before
pub stepped : {before after old new : ℕ} → Step true before after old new → instead before old new ≡ after
stepped step = omega (arith, step.there, step.moves)

stayed : {before after old new : ℕ} → Step false before after old new → before ≡ after
stayed step = omega (arith, step.moves)

unmoved : (kept : ℕ) → instead kept 0 0 ≡ kept
unmoved kept = omega arith

still : (digits : ℕ) {kept : ℕ} → kept < 2 ^ digits → Moves digits kept 0 0
still digits small = (omega arith, rw unmoved small)

-- a sum that is known to be small after can be moved
pub movable : (digits : ℕ) {before after old new : ℕ} → Step true before after old new → after < 2 ^ digits → Moves digits before old new
movable digits step small = (step.there, rw (stepped step) small)

-- totals that fit their numbers
pub record RunningSmall (r : Running) : Type 0 where
  pub long : r.long.0 < 2 ^ 32
  pub total : r.total.0 < 2 ^ 32
  pub buys : r.buys.0 < 2 ^ 32
  pub opens : r.opens.0 < 2 ^ 32
  pub taken : r.taken.0 < 2 ^ 64

pub record ClosingSmall (p : Position) : Type 0 where
  pub long : p.long.0 < 2 ^ 32
  pub short : p.short.0 < 2 ^ 32
  pub covered : p.covered.0 < 2 ^ 32

-- nothing instead of nothing
pub running_unmoved : (r : Running) → running_moved r no_running no_running ≡ r
running_unmoved r =
    λ i.
    record {
      long = record { 0 = unmoved r.long.0 i };
      total = record { 0 = unmoved r.total.0 i };
      buys = record { 0 = unmoved r.buys.0 i };
      opens = record { 0 = unmoved r.opens.0 i };
      taken = record { 0 = unmoved r.taken.0 i };
    }

pub closing_unmoved : (p : Position) → closing_moved p no_position no_position ≡ p
closing_unmoved p = λ i. record { long = record { 0 = unmoved p.long.0 i }; short = record { 0 = unmoved p.short.0 i }; covered = record { 0 = unmoved p.covered.0 i } }

pub running_still : {r : Running} → RunningSmall r → RunningMoves r no_running no_running
running_still small =
    record {
      long = still 32 small.long;
      total = still 32 small.total;
      buys = still 32 small.buys;
      opens = still 32 small.opens;
      taken = still 64 small.taken;
    }

pub closing_still : {p : Position} → ClosingSmall p → ClosingMoves p no_position no_position
closing_still small = record { long = still 32 small.long; short = still 32 small.short; covered = still 32 small.covered }

-- one row of a list is another; past the last row that is summed nothing changes
pub row_step : {A : Type 0} (n : ℕ) (rows : List A) (none : A) (at : ℕ) (row : A) (f : ℕ → A → ℕ) (here : Bool) (old new : ℕ)
    → n ≤ length rows → f at (get_or rows at none) ≡ old when here → f at row ≡ new when here → (n ≤ at → (old when here ≡ 0) × (new when here ≡ 0))
    → Step here (Σ n (λ k. f k (get_or rows k none))) (Σ n (λ k. f k (get_or (set rows at row) k none))) old new
row_step n rows none at row f here old new enough was is past =
    let before : ℕ → ℕ = λ k. f k (get_or rows k none) in
    let after : ℕ → ℕ = λ k. f k (get_or (set rows at row) k none) in
    elim (dec_lt at n) [
      | yes inside ↦
          let changed = Σ-changed n at before after inside (λ k h other. ap (f k) (sym (get_or-set_other rows at k row none other))) in
          let there = ap (f at) (get_or-set_same rows at row none (omega (arith, inside, enough))) in
          record { there = omega (arith, Σ-term n at before inside, was); moves = omega (arith, changed, there, was, is) }
      | no l ↦
          let kept = Σ-same n before after (λ k h. ap (f k) (sym (get_or-set_other rows at k row none (λ e. absurd (omega (arith, e, h, l)))))) in
          let (no_old, no_new) = past (omega (arith, l)) in
          record { there = omega (arith, no_old); moves = omega (arith, kept, no_old, no_new) }
    ]

-- the five totals of an underlying, and the three of a contract's closes
pub record Steps (here : Bool) (before after old new : Running) : Type 0 where
  pub long : Step here before.long.0 after.long.0 old.long.0 new.long.0
  pub total : Step here before.total.0 after.total.0 old.total.0 new.total.0
  pub buys : Step here before.buys.0 after.buys.0 old.buys.0 new.buys.0
  pub opens : Step here before.opens.0 after.opens.0 old.opens.0 new.opens.0
  pub taken : Step here before.taken.0 after.taken.0 old.taken.0 new.taken.0

pub record CloseSteps (here : Bool) (before after old new : Position) : Type 0 where
  pub long : Step here before.long.0 after.long.0 old.long.0 new.long.0
  pub short : Step here before.short.0 after.short.0 old.short.0 new.short.0
  pub covered : Step here before.covered.0 after.covered.0 old.covered.0 new.covered.0

module _ {before after old new : Running} where
  pub running_stepped : (here : Bool) → Steps here before after old new → cond here (running_moved before old new) before ≡ after
  running_stepped true s =
      λ i.
      record {
        long = record { 0 = stepped s.long i };
        total = record { 0 = stepped s.total i };
        buys = record { 0 = stepped s.buys i };
        opens = record { 0 = stepped s.opens i };
        taken = record { 0 = stepped s.taken i };
      }
  running_stepped false s =
      λ i.
      record {
        long = record { 0 = stayed s.long i };
        total = record { 0 = stayed s.total i };
        buys = record { 0 = stayed s.buys i };
        opens = record { 0 = stayed s.opens i };
        taken = record { 0 = stayed s.taken i };
      }

  pub running_movable : Steps true before after old new → RunningSmall after → RunningMoves before old new
  running_movable s small =
      record {
        long = movable 32 s.long small.long;
        total = movable 32 s.total small.total;
        buys = movable 32 s.buys small.buys;
        opens = movable 32 s.opens small.opens;
        taken = movable 64 s.taken small.taken;
      }

module _ {before after old new : Position} where
  pub closing_stepped : (here : Bool) → CloseSteps here before after old new → cond here (closing_moved before old new) before ≡ after
  closing_stepped true s = λ i. record { long = record { 0 = stepped s.long i }; short = record { 0 = stepped s.short i }; covered = record { 0 = stepped s.covered i } }
  closing_stepped false s = λ i. record { long = record { 0 = stayed s.long i }; short = record { 0 = stayed s.short i }; covered = record { 0 = stayed s.covered i } }

  pub closing_movable : CloseSteps true before after old new → ClosingSmall after → ClosingMoves before old new
  closing_movable s small = record { long = movable 32 s.long small.long; short = movable 32 s.short small.short; covered = movable 32 s.covered small.covered }
