-- Where every place is free nothing is left, held or reserved at any, so every total over the orders is zero, no number names an order, and only what waits is held.
use mathlib.Core.Path.{◌≡◌, refl, ap, ◌∙◌}
use mathlib.Core.Bool.{Bool, ◌&&◌}
use Prim.Native.Nat.{ℕ, ◌≤◌}
use native.Mathlib.Omega.{arith}
use lib.Dec.{eqb}
use lib.ListN.{replicate}
use Rattle.terms.specs.declared.kind.OrderKind.{OrderKind}
use Rattle.terms.specs.declared.kind.OrderKind.TheVariants.{SellClose, BuyClose, CoveredClose}
use Rattle.account.specs.Money.{hold_of, holds_in}
use Rattle.account.specs.Rows.{free, no_position, order}
use Rattle.account.specs.Running.{all_free, closing_on, free_in}
use Rattle.terms.specs.Sums.{Σ}
use Rattle.account.specs.Totals.{is_of, is_kind, over_orders, resting_in, resting_on, reserved_units}
use Rattle.account.specs.declared.account.Account.{Account}
use Rattle.account.specs.declared.account.Resting.{Resting}
use Rattle.account.specs.declared.tables.Tables.{Tables}
use Rattle.account.proofs.Placed.{nothing_when, nothing_held}
use Rattle.account.proofs.Rows.{untouched}
use Rattle.terms.proofs.Sums.{Σ-none}

-- what is so where no order rests
pub record NoOrders (t : Tables) (a : Account) : Type 0 where
  pub places : (i : ℕ) → order a i ≡ free
  pub numbers : (i : ℕ) → 1 ≤ (order a i).number → ⊥
  pub resting : (which : ℕ → Bool) (u : ℕ) → resting_in which t a u ≡ 0
  pub closes : (kind : OrderKind) (c : ℕ) → resting_on kind a c ≡ 0
  pub reserve : (u : ℕ) → reserved_units t a u ≡ 0
  pub holds : holds_in t a ≡ a.waiting

module _ (t : Tables) (a : Account) (orders : a.orders ≡ replicate 32 free) where
  each : (i : ℕ) → order a i ≡ free
  each i = rw orders (untouched 32 i free)

  over : (f : Resting → ℕ) → f free ≡ 0 → over_orders a f ≡ 0
  unfolding over_orders
  over f none = Σ-none 32 (λ i. f (order a i)) (λ i h. ap f (each i) ∙ none)

  pub no_orders : NoOrders t a
  unfolding reserved_units holds_in
  no_orders =
      record {
        places = each;
        numbers = λ i some. omega (arith, ap (λ (r : Resting). r.number) (each i));
        resting = λ which u. over _ (nothing_when (which 0 && is_of t u 0));
        closes = λ kind c. over _ (nothing_when (is_kind kind 0 && eqb 0 c));
        reserve = λ u. over _ refl;
        holds = omega (arith, over (hold_of t) (nothing_held t));
      }

  -- each of the 32 digits stands
  pub all_free_lem : free_in a ≡ all_free
  unfolding free_in Σ
  all_free_lem = rw orders refl

-- nor does any close rest on a contract
pub closes_none : {t : Tables} {a : Account} → NoOrders t a → (c : ℕ) → closing_on a c ≡ no_position
closes_none none c = λ i. record { long = record { 0 = none.closes SellClose c i }; short = record { 0 = none.closes BuyClose c i }; covered = record { 0 = none.closes CoveredClose c i } }
