-- A request for exercise gets an answer, by number, and is accepted just where it is good: the contract gives the verdict, and the laws of the verdict say the rest.
use mathlib.Core.List.{[], ◌∷◌}
use mathlib.Core.Path.{◌≡◌, refl, sym, ap, subst, ◌∙◌}
use Prim.Native.Nat.{ℕ}
use Rattle.std.specs.Prelude.{Ok}
use Rattle.terms.specs.Verdicts.{number_in, accept}
use Rattle.terms.specs.declared.count.Contracts.{Contracts}
use Rattle.terms.specs.declared.count.Position.{Position}
use Rattle.terms.specs.declared.right.Right.{Right}
use Rattle.exercise.specs.Exercise.{Good}
use Rattle.exercise.proofs.Good.{Numbered, accepted_good, exercise_number, good, good_accepted, long_too_small, means_too_small, out_of_range}
use Rattle.exercise.proofs.exercise.Met as exercise_met
use Rattle.exercise.proofs.exercise.Reads as exercise
use Rattle.exercise.proofs.exercise.Statement as exercise_statement
use Rattle.demands.specs.Each.{OneOf}

pub exercise_answers : (M : Type 1) → exercise_statement.statement M
exercise_answers M = exercise_met.met

pub exercise_asks : (κs : _) (a : _) → exercise.Pre κs a
exercise_asks κs a = tt

-- the first of its tests that fails gives the number
pub exercise_numbered : (κs : _) (a : _) (r : _) (s : _) → exercise.Post κs a r s → Numbered a.0 a.1.0 a.1.1.0 a.1.1.1.0 a.1.1.1.1.0 a.1.1.1.1.1.0 (number_in r)
exercise_numbered κs a r s p = subst (Numbered _ _ _ _ _ _) (ap number_in (sym p)) (exercise_number _ _ _ _ _ _)

one_of : {right : Right} {K U : ℕ} {position : Position} {count : Contracts} {offered : ℕ} (n : ℕ) → Numbered right K U position count offered n → OneOf (0 ∷ 4 ∷ 22 ∷ 23 ∷ []) n
one_of _ (good _) = refl
one_of _ (out_of_range _) = refl
one_of _ (long_too_small _ _) = refl
one_of _ (means_too_small _ _ _) = refl

pub exercise_numbers : (κs : _) (a : _) (r : _) (s : _) → exercise.Post κs a r s → OneOf (0 ∷ 4 ∷ 22 ∷ 23 ∷ []) (number_in r)
exercise_numbers κs a r s p = one_of (number_in r) (exercise_numbered κs a r s p)

pub exercise_good : (κs : _) (a : _) (r : _) (s : _) → exercise.Post κs a r s → r ≡ accept → Good a.0 a.1.0 a.1.1.0 a.1.1.1.0 a.1.1.1.1.0 a.1.1.1.1.1.0
exercise_good κs a r s p e = accepted_good _ _ _ _ _ _ (sym p ∙ e)

pub good_exercised : (κs : _) (a : _) (r : _) (s : _) → exercise.Post κs a r s → Good a.0 a.1.0 a.1.1.0 a.1.1.1.0 a.1.1.1.1.0 a.1.1.1.1.1.0 → r ≡ accept
good_exercised κs a r s p is = p ∙ good_accepted _ _ _ _ _ _ is
