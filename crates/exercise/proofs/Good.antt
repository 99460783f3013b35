-- A request is accepted just where it is good, and is refused by the first of the three tests that fails: the verdict goes by the tests in turn, and each is an order of numbers.
use mathlib.Core.Path.{◌≡◌, refl, ap}
use mathlib.Core.Bool.{Bool, true, false}
use Prim.Native.Nat.{ℕ, ◌≤◌, ◌<◌}
use native.Mathlib.Omega.{arith}
use borrow.Author.Tests.{le-leb, leb-true, leb-false}
use lib.Dec.{leb}
use Rattle.std.specs.Prelude.{Ok}
use Rattle.terms.specs.Verdicts.{number_in, ◌else◌then◌, accept}
use Rattle.terms.specs.declared.count.Contracts.{Contracts}
use Rattle.terms.specs.declared.count.Position.{Position}
use Rattle.terms.specs.declared.refusal.Refusal.TheVariants.{OutOfRange, LongTooSmall, MeansTooSmall}
use Rattle.terms.specs.declared.right.Right.{Right}
use Rattle.exercise.specs.Exercise.{Good, brought, exercise_verdict, long_left, request_allowed, taken}

-- what a number says, and the only numbers there are
pub data Numbered (right : Right) (K U : ℕ) (position : Position) (count : Contracts) (offered : ℕ) : ℕ → Type 0 where
  good : Good right K U position count offered → Numbered right K U position count offered 0
  out_of_range : request_allowed K U count ≡ false → Numbered right K U position count offered 4
  long_too_small : request_allowed K U count ≡ true → long_left position < count.0 → Numbered right K U position count offered 22
  means_too_small : request_allowed K U count ≡ true → count.0 ≤ long_left position → brought right offered < taken right K U count → Numbered right K U position count offered 23

module _ (right : Right) (K U : ℕ) (position : Position) (count : Contracts) (offered : ℕ) where
  pub exercise_number : Numbered right K U position count offered (number_in (exercise_verdict right K U position count offered))
  unfolding exercise_verdict
  exercise_number = go (request_allowed K U count) refl (leb count.0 (long_left position)) refl (leb (taken right K U count) (brought right offered)) refl
    where
      go : (a : Bool) → request_allowed K U count ≡ a → (l : Bool) → leb count.0 (long_left position) ≡ l → (m : Bool) → leb (taken right K U count) (brought right offered) ≡ m
          → Numbered right K U position count offered (number_in (a else OutOfRange then l else LongTooSmall then m else MeansTooSmall then accept))
      go false ranges l long m means = out_of_range ranges
      go true ranges false long m means = long_too_small ranges (leb-false _ _ long)
      go true ranges true long false means = means_too_small ranges (leb-true _ _ long) (leb-false _ _ means)
      go true ranges true long true means = good (record { allowed = ranges; covered = leb-true _ _ long; reached = leb-true _ _ means })

  pub accepted_good : exercise_verdict right K U position count offered ≡ accept → Good right K U position count offered
  accepted_good accepted = go (number_in (exercise_verdict right K U position count offered)) (ap number_in accepted) exercise_number
    where
      go : (n : ℕ) → n ≡ 0 → Numbered right K U position count offered n → Good right K U position count offered
      go _ none (good is) = is
      go _ none (out_of_range _) = absurd (omega arith)
      go _ none (long_too_small _ _) = absurd (omega arith)
      go _ none (means_too_small _ _ _) = absurd (omega arith)

  pub good_accepted : Good right K U position count offered → exercise_verdict right K U position count offered ≡ accept
  unfolding exercise_verdict
  good_accepted is = rw (is.allowed, le-leb _ _ is.covered, le-leb _ _ is.reached)
