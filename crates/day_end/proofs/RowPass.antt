-- A pass takes each contract to its underlying, and no other row is changed: so a sum over an underlying's contracts grows there only, and a pass that sets the row there has listed the rows so far.
use mathlib.Core.Path.{◌≡◌, refl, sym, ap, ◌∙◌}
use mathlib.Core.Logic.{◌≢◌}
use mathlib.Core.Bool.{Bool}
use mathlib.Core.List.{List}
use Prim.Native.Nat.{ℕ, ◌+◌, ◌<◌}
use native.Mathlib.Numerals.{add-one}
use native.Mathlib.Omega.{arith}
use borrow.Author.Tests.{eq-eqb, ne_eqb}
use lib.ListN.{get_or, set}
use Rattle.terms.specs.Listed.{listed}
use Rattle.account.specs.Rows.{contract}
use Rattle.terms.specs.Sums.{Σ, ◌when◌}
use Rattle.account.specs.Totals.{is_of}
use Rattle.account.specs.declared.tables.Tables.{Tables}
use Rattle.terms.proofs.Listed.{listed_at}
use Rattle.day_end.proofs.Listing.{listed_set}

-- the underlying of the contract at k
abbrev pub of : Tables → ℕ → ℕ
of t k = (contract t k).underlying

module _ (t : Tables) (each : ℕ → ℕ) where
  abbrev sum : ℕ → ℕ → ℕ
  sum k u = Σ k (λ c. each c when is_of t u c)

  one_more : (k u : ℕ) → sum (k + 1) u ≡ sum k u + (each k when is_of t u k)
  unfolding Σ
  one_more k u = rw add-one refl

  pub joins : (k : ℕ) → sum k (of t k) + each k ≡ sum (k + 1) (of t k)
  joins k = sym (one_more k (of t k) ∙ ap (λ (b : Bool). sum k (of t k) + (each k when b)) (eq-eqb (of t k) (of t k) refl))

  pub stays : (k u : ℕ) → u ≢ of t k → sum k u ≡ sum (k + 1) u
  stays k u other = sym (one_more k u ∙ ap (λ (b : Bool). sum k u + (each k when b)) (ne_eqb (of t k) u (λ e. other (sym e))) ∙ omega arith)

-- rows of any kind, and what one contract more makes of a row
pub record Pass {A : Type 0} (t : Tables) (row_to : ℕ → ℕ → A) (more : ℕ → A → A) : Type 0 where
  pub here : (k : ℕ) → more k (row_to k (of t k)) ≡ row_to (k + 1) (of t k)
  pub elsewhere : (k u : ℕ) → u ≢ of t k → row_to k u ≡ row_to (k + 1) u

module _ {A : Type 0} (none : A) {t : Tables} {row_to : ℕ → ℕ → A} {more : ℕ → A → A} (pass : Pass t row_to more) (k : ℕ) (inside : of t k < 8) (rows : List A) (so_far : rows ≡ listed 8 (row_to k)) where
  pub row : more k (get_or rows (of t k) none) ≡ row_to (k + 1) (of t k)
  row = ap (λ (rows : List A). more k (get_or rows (of t k) none)) so_far ∙ ap (more k) (listed_at 8 (row_to k) (of t k) none inside) ∙ pass.here k

  pub next : (x : A) → x ≡ more k (get_or rows (of t k) none) → set rows (of t k) x ≡ listed 8 (row_to (k + 1))
  next x e = ap (λ (rows : List A). set rows (of t k) x) so_far ∙ listed_set 8 none (row_to k) (row_to (k + 1)) (of t k) x inside (e ∙ row) (λ u there. pass.elsewhere k u)
