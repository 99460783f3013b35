-- What is chosen by tests is one of what there is to choose from.
use mathlib.Core.Bool.{Bool, true, false, cond}
use mathlib.Core.List.{List, [], ◌∷◌}
use Prim.Native.Nat.{ℕ}
use Rattle.account.specs.InOrder.{first}
use Rattle.demands.specs.Each.{Each, OneOf}

module _ (numbers : List ℕ) where
  pub chosen : (test : Bool) (x y : ℕ) → OneOf numbers x → OneOf numbers y → OneOf numbers (cond test x y)
  chosen true x y one other = one
  chosen false x y one other = other

  pub first_among : (tests : List (Bool × ℕ)) → OneOf numbers 0 → Each (λ test. OneOf numbers test.1) tests → OneOf numbers (first tests)
  first_among [] none each = none
  first_among (test ∷ tests) none each = chosen test.0 test.1 (first tests) each.0 (first_among tests none each.1)
