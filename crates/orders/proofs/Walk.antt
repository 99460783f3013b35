-- The walk by numbers is the walk over the columns: a row of the table begins at nine times the kind's number less one, and its flags stand in the columns' order, which computes for each kind.
use mathlib.Core.Path.{◌≡◌, refl, sym, subst, ◌∙◌}
use mathlib.Core.Bool.{Bool, true, false, cond, not, ◌||◌}
use mathlib.Core.List.{List, [], ◌∷◌, map}
use Prim.Native.Nat.{ℕ, zero, suc, ◌+◌, ◌-◌, ◌*◌, ◌≤◌, ◌<◌}
use native.Mathlib.Omega.{arith}
use lib.ListN.{get_or}
use Rattle.std.specs.Prelude.{Ok, Err}
use Rattle.terms.specs.Codes.{kind_code}
use Rattle.terms.specs.declared.kind.OrderKind.{OrderKind}
use Rattle.terms.specs.declared.refusal.Refusal.{Refusal}
use Rattle.terms.specs.declared.kind.OrderKind.TheVariants.{BuyOpen, SellClose, SellOpen, BuyClose, CoveredOpen, CoveredClose}
use Rattle.entries.specs.declared.entry.Order.{Order}
use Rattle.account.specs.Checks.{Check, columns, flags, meets, order_verdict, passes, refusal_for}
use Rattle.terms.specs.Verdicts.{◌else◌then◌, accept}
use Rattle.account.specs.declared.judged.Facts.{Facts}
use Rattle.terms.specs.Verdicts.{Verdict}

-- what the code found of a check
abbrev pub tested : Facts → Order → Check → Verdict
tested f o check = passes check f o else refusal_for check then accept

-- a check's verdict, and what follows where it is accepted
abbrev before : Verdict → Verdict → Verdict
before (Ok tt) rest = rest
before (Err why) rest = Err why

-- n columns from column i on, of the row that begins at a place of the table
abbrev pub walk_at : ℕ → ℕ → List Verdict → ℕ → Verdict
walk_at zero row checks i = accept
walk_at (suc n) row checks i = cond (get_or flags (row + i) false) (before (get_or checks i accept) (walk_at n row checks (suc i))) (walk_at n row checks (suc i))

-- the definition's walk, the kind apart from the order
abbrev walked_as : OrderKind → List Check → Facts → Order → Verdict
walked_as kind [] f o = accept
walked_as kind (check ∷ rest) f o = not (meets kind check) || passes check f o else refusal_for check then walked_as kind rest f o

one_check : (met passed : Bool) (why : Refusal) (rest rest' : Verdict) → rest ≡ rest' → cond met (before (passed else why then accept) rest) rest ≡ (not met || passed else why then rest')
one_check true true why rest rest' e = e
one_check true false why rest rest' e = refl
one_check false passed why rest rest' e = e

module _ (f : Facts) (o : Order) where
  abbrev by_checks : OrderKind → List Check → Verdict
  by_checks kind [] = accept
  by_checks kind (check ∷ rest) = cond (meets kind check) (before (tested f o check) (by_checks kind rest)) (by_checks kind rest)

  same : (kind : OrderKind) (checks : List Check) → by_checks kind checks ≡ walked_as kind checks f o
  same kind [] = refl
  same kind (check ∷ rest) = one_check (meets kind check) (passes check f o) (refusal_for check) (by_checks kind rest) (walked_as kind rest f o) (same kind rest)

  pub walks : walk_at 9 (9 * (kind_code o.kind - 1)) (map (tested f o) columns) 0 ≡ order_verdict f o
  unfolding order_verdict
  walks =
      elim o.kind as (λ (kind : OrderKind). walk_at 9 (9 * (kind_code kind - 1)) (map (tested f o) columns) 0 ≡ walked_as kind columns f o) [
        | BuyOpen ↦ same BuyOpen columns
        | SellClose ↦ same SellClose columns
        | SellOpen ↦ same SellOpen columns
        | BuyClose ↦ same BuyClose columns
        | CoveredOpen ↦ same CoveredOpen columns
        | CoveredClose ↦ same CoveredClose columns
      ]

module _ (k row : ℕ) (checks : List Verdict) (i : ℕ) (h : i < k) where
  -- a column that is left is the first of those from it on
  one_more : suc (k - suc i) ≡ k - i
  one_more = omega (arith, h)

  step : walk_at (k - i) row checks i ≡ cond (get_or flags (row + i) false) (before (get_or checks i accept) (walk_at (k - (i + 1)) row checks (i + 1))) (walk_at (k - (i + 1)) row checks (i + 1))
  step =
      let next : suc i ≡ i + 1 = omega arith in
      subst
      (λ (j : ℕ). walk_at (k - i) row checks i ≡ cond (get_or flags (row + i) false) (before (get_or checks i accept) (walk_at (k - j) row checks j)) (walk_at (k - j) row checks j))
      next
      (sym (subst (λ (n : ℕ). walk_at (suc (k - suc i)) row checks i ≡ walk_at n row checks i) one_more refl))

  -- a column that is met and refuses ends the walk
  pub refused : get_or flags (row + i) false ≡ true → (why : Refusal) → get_or checks i accept ≡ Err why → Err why ≡ walk_at (k - i) row checks i
  refused met why fails = sym (step ∙ rw (met, fails) refl)

  -- one that is met and accepts is passed, and so is one that is not met
  pub goes_on : get_or flags (row + i) false ≡ true → get_or checks i accept ≡ accept → walk_at (k - i) row checks i ≡ walk_at (k - (i + 1)) row checks (i + 1)
  goes_on met passes = step ∙ rw (met, passes) refl

  pub left_out : get_or flags (row + i) false ≡ false → walk_at (k - i) row checks i ≡ walk_at (k - (i + 1)) row checks (i + 1)
  left_out unmet = step ∙ rw unmet refl

-- behind the last column all is accepted
pub accepted : (k row : ℕ) (checks : List Verdict) (i : ℕ) → k ≤ i → accept ≡ walk_at (k - i) row checks i
accepted k row checks i h =
    let none : 0 ≡ k - i = omega (arith, h) in
    subst (λ (n : ℕ). accept ≡ walk_at n row checks i) none refl
