-- The order that a number names, among the places: 0 is at no place, since it is no order's number, and any other number is at the first place that has it.
use Rattle.std.proofs.Common.{◌≡◌, ◌≤◌, ◌<◌, arith, ℕ, Bool, true, false, List, get_or, length, refl, sym, ap, subst}
use mathlib.Core.Path.{◌∙◌}
use mathlib.Core.Bool.{not, ◌&&◌, cond, and-true, and-false}
use borrow.Author.Tests.{ltb-false, ne_eqb}
use lib.Dec.{eqb, ltb}
use Rattle.std.specs.Prelude.{Some, None}
use Rattle.std.specs.List.{position, position_or_len}
use Rattle.std.specs.Option.{unwrap_or}
use Rattle.std.proofs.lemmas.List.Sums.{position_or_len_is}
use Rattle.account.specs.Rows.{free}
use Rattle.terms.specs.Sums.{lowest}
use Rattle.account.specs.declared.account.Resting.{Resting}
use Rattle.account.proofs.Lowest.{lowest_first, lowest_most, lowest_passes}
use Rattle.gathering.specs.Places.{place_among}

-- does the order at a place have the number?
abbrev has : List Resting → ℕ → ℕ → Bool
has orders number i = eqb (get_or orders i free).number number && not (eqb number 0)

pub none_named : (orders : List Resting) (number : ℕ) → number ≡ 0 → place_among orders number ≡ 32
unfolding lowest
none_named orders number e = ap (λ (n : ℕ). lowest 32 (has orders n)) e ∙ ap (lowest 32) (λ j i. and-false (eqb (get_or orders i free).number 0) j)

module _ (orders : List Resting) (number : ℕ) (size : length orders ≡ 32) (some : number ≡ 0 → ⊥) where
  abbrev named : Resting → Bool
  named o = eqb o.number number

  is_named : (i : ℕ) → has orders number i ≡ named (get_or orders i free)
  is_named i = rw (ne_eqb number 0 some) (and-true (named (get_or orders i free)))

  first : position_or_len named orders ≡ place_among orders number
  first =
      position_or_len_is named orders (place_among orders number) free
      (subst (λ (n : ℕ). place_among orders number ≤ n) (sym size) (lowest_most 32 (has orders number)))
      (λ k below. sym (is_named k) ∙ lowest_first 32 (has orders number) k below)
      (λ inside. sym (is_named _) ∙ lowest_passes 32 (has orders number) (subst (λ (n : ℕ). place_among orders number < n) size inside))

  pub first_named : unwrap_or (position named orders) 32 ≡ place_among orders number
  first_named = go (ltb (position_or_len named orders) (length orders)) refl
    where
      go : (inside : Bool) → ltb (position_or_len named orders) (length orders) ≡ inside → unwrap_or (cond inside (Some (position_or_len named orders)) None) 32 ≡ place_among orders number
      go true e = first
      go false e = omega (arith, first, size, lowest_most 32 (has orders number), ltb-false _ _ e)
