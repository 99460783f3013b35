-- A place that changes changes a total over the orders by the terms that stood and stand there, since the other terms are the same; a free place adds nothing to a total, so an order that is put there adds its own term.
use mathlib.Core.Path.{◌≡◌, refl, sym, ap, subst, ◌∙◌}
use mathlib.Core.Bool.{Bool, true, false}
use mathlib.Core.Logic.{◌≢◌}
use Prim.Native.Nat.{ℕ, ◌+◌, ◌<◌}
use native.Mathlib.Decide.{ℕ_discrete}
use native.Mathlib.Nat.{zero-mul}
use native.Mathlib.Omega.{arith}
use lib.ListN.{length, set}
use lib.Seq.{get_or-set_same, get_or-set_other}
use Rattle.rules.specs.Count.{for_count}
use Rattle.account.specs.Money.{hold_of}
use Rattle.account.specs.Rows.{free, order}
use Rattle.terms.specs.Sums.{◌when◌}
use Rattle.account.specs.Totals.{over_orders}
use Rattle.account.specs.declared.account.Account.{Account}
use Rattle.account.specs.declared.account.Resting.{Resting}
use Rattle.account.specs.declared.tables.Tables.{Tables}
use Rattle.terms.proofs.Sums.{Σ-changed}

-- nothing, counted or not, is nothing: so much is left at a free place
pub nothing_when : (test : Bool) → 0 when test ≡ 0
nothing_when true = refl
nothing_when false = refl

-- nor is anything held there
pub nothing_held : (t : Tables) → hold_of t free ≡ 0
unfolding hold_of for_count
nothing_held t = zero-mul _

-- b's orders are a's with r put at one place
pub record Put (a b : Account) (place : ℕ) (r : Resting) : Type 0 where
  pub rows : length a.orders ≡ 32
  pub within : place < 32
  pub orders : b.orders ≡ set a.orders place r

module _ {a b : Account} {place : ℕ} {r : Resting} (put : Put a b place r) where
  pub order_there : order b place ≡ r
  order_there = rw put.orders (get_or-set_same a.orders place r free (omega (arith, put.rows, put.within)))

  pub order_elsewhere : (i : ℕ) → i ≢ place → order b i ≡ order a i
  order_elsewhere i other = rw put.orders (get_or-set_other a.orders place i r free other)

  -- what holds of each order before and of the one put there holds of each order after
  pub each_order : (P : Resting → Type 0) → P r → ((i : ℕ) → i < 32 → P (order a i)) → (i : ℕ) → i < 32 → P (order b i)
  each_order P new old i h =
      elim (ℕ_discrete i place) [
        | yes e ↦ subst P (sym (ap (order b) e ∙ order_there)) new
        | no other ↦ subst P (sym (order_elsewhere i other)) (old i h)
      ]

  pub over_changed : (f : Resting → ℕ) → over_orders b f + f (order a place) ≡ over_orders a f + f r
  unfolding over_orders
  over_changed f =
      let one = Σ-changed 32 place (λ i. f (order a i)) (λ i. f (order b i)) put.within (λ i h other. ap f (sym (order_elsewhere i other))) in
      omega (arith, one, ap f order_there)

  pub over_placed : order a place ≡ free → (f : Resting → ℕ) → f free ≡ 0 → over_orders b f ≡ over_orders a f + f r
  over_placed was f none = omega (arith, over_changed f, ap f was, none)
