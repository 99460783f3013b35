-- A pass that has filled every place has made the list that is listed place by place.
use mathlib.Core.Path.{◌≡◌}
use mathlib.Core.List.{List}
use Prim.Native.Nat.{ℕ, ◌<◌}
use native.Mathlib.Omega.{arith}
use lib.ListN.{length, get_or}
use Rattle.terms.specs.Listed.{listed}
use Rattle.terms.proofs.Listed.{listed_is, listed_length}
use Rattle.assignment.specs.Lent.{covered_shares, uncovered_shares}

abbrev pub FilledTo : ℕ → (ℕ → ℕ) → List ℕ → Type 0
FilledTo i f places = (k : ℕ) → k < i → get_or places k 0 ≡ f k

pub all_filled : (f : ℕ → ℕ) (places : List ℕ) (i n : ℕ) → i ≡ n → length places ≡ n → FilledTo i f places → places ≡ listed n f
all_filled f places i n e sized so_far = listed_is n 0 places f sized (λ k h. so_far k (omega (arith, e, h)))

-- a place for each account
pub covered_sized : (covered shares : List ℕ) → length (covered_shares covered shares) ≡ length covered
unfolding covered_shares
covered_sized covered shares = listed_length (length covered) _

pub uncovered_sized : (covered shares : List ℕ) → length (uncovered_shares covered shares) ≡ length covered
unfolding uncovered_shares
uncovered_sized covered shares = listed_length (length covered) _
