-- What is decided goes by the verdict: an accepted entry's change, or the refusal. Where a verdict is checks one after the other, one that is passed goes on to the next, and the first that fails refuses.
use mathlib.Core.Path.{◌≡◌, sym, ap, ◌∙◌}
use mathlib.Core.Bool.{Bool, true, false}
use mathlib.Core.List.{List, [], ◌∷◌}
use Rattle.std.specs.Prelude.{Ok, Err}
use Rattle.terms.specs.declared.refusal.Refusal.{Refusal}
use Rattle.account.specs.Changes.{decided}
use Rattle.terms.specs.Verdicts.{◌else◌then◌, accept}
use Rattle.account.specs.declared.judged.Change.{Change}
use Rattle.account.specs.declared.judged.Decision.TheVariants as Decision
use Rattle.terms.specs.Verdicts.{Verdict}

-- a verdict made of checks in their order, each with the refusal that it gives
abbrev pub checked : List (Bool × Refusal) → Verdict
checked [] = accept
checked (check ∷ rest) = check.0 else check.1 then checked rest

pub record Checked (v : Verdict) (checks : List (Bool × Refusal)) : Type 0 where
  pub are : v ≡ checked checks

-- found is what the code found of the first check
module _ {v : Verdict} {check : Bool × Refusal} {rest : List (Bool × Refusal)} (made : Checked v (check ∷ rest)) {found : Bool} (is : found ≡ check.0) where
  by : (w : Bool) → found ≡ w → v ≡ (w else check.1 then checked rest)
  by w e = made.are ∙ ap (λ (passed : Bool). passed else check.1 then checked rest) (sym is ∙ e)

  pub goes_on : found ≡ true → Checked v rest
  goes_on e = record { are = by true e }

  pub fails : found ≡ false → v ≡ Err check.1
  fails = by false

module _ (v : Verdict) (change : Change) where
  pub changes : v ≡ accept → (made : Change) → made ≡ change → Ok (Decision.Changes made) ≡ decided v change
  changes e made is = ap (λ (c : Change). Ok (Decision.Changes c)) is ∙ sym (ap (λ (w : Verdict). decided w change) e)

  pub refuses : (why : Refusal) → v ≡ Err why → Err why ≡ decided v change
  refuses why e = sym (ap (λ (w : Verdict). decided w change) e)
