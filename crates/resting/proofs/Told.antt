-- What is found tells the place: an order where one of the 32 has the number, and then it is the one named; nothing where none has.
use mathlib.Core.Path.{◌≡◌, refl, sym, ◌∙◌}
use mathlib.Core.Bool.{Bool, true, false, cond}
use Prim.Native.Nat.{ℕ, ◌<◌}
use borrow.Author.Tests.{ltb-true}
use lib.Dec.{ltb}
use Rattle.std.specs.Prelude.{Option, Some, None}
use Rattle.account.specs.Fills.{named, place_of}
use Rattle.account.specs.declared.account.Account.{Account}
use Rattle.account.specs.declared.judged.Named.{Named}
use Rattle.account.specs.declared.tables.Tables.{Tables}
use Rattle.resting.specs.Found.{found_by}

told_at : (test : Bool) (g f : Named) → cond test (Some g) None ≡ Some f → (test ≡ true) × (f ≡ g)
told_at true g f e = (refl, cc)
told_at false g f e = (cc, cc)

told_nothing : (test : Bool) (g : Named) → cond test (Some g) None ≡ None → test ≡ false
told_nothing true g e = cc
told_nothing false g e = refl

module _ (t : Tables) (a : Account) (number : ℕ) {r : (Option Named)} (found : r ≡ found_by t a number) where
  pub none : r ≡ None → ltb (place_of a number) 32 ≡ false
  unfolding found_by
  none e = told_nothing _ (named t a number) (sym found ∙ e)

  module _ {f : Named} (e : r ≡ Some f) where
    told : (ltb (place_of a number) 32 ≡ true) × (f ≡ named t a number)
    unfolding found_by
    told = told_at _ (named t a number) f (sym found ∙ e)

    pub there : place_of a number < 32
    there = ltb-true _ _ told.0

    pub is_named : f ≡ named t a number
    is_named = told.1
