-- `cancel` meets its contract: nothing is found exactly where the one check fails, and of what is found a sound account has what a cancel takes off.
use Rattle.std.proofs.Common.{rules}
use mathlib.Core.Path.{◌≡◌, refl, sym, ap, subst, ◌∙◌}
use Prim.Native.Nat.{ℕ}
use borrow.Author.Tests.{lt-ltb}
use Rattle.std.specs.Prelude.{Option, Some, None, Result, Ok, Err}
use Rattle.terms.specs.declared.refusal.Refusal.{Refusal}
use Rattle.terms.specs.declared.refusal.Refusal.TheVariants.{NoSuchOrder}
use Rattle.account.specs.Changes.{decided}
use Rattle.account.specs.Fills.{cancel_change, cancel_verdict, named}
use Rattle.account.specs.Sound.{Sound}
use Rattle.account.specs.declared.account.Account.{Account}
use Rattle.account.specs.declared.judged.Change.{Change}
use Rattle.account.specs.declared.judged.Decision.{Decision}
use Rattle.account.specs.declared.judged.Decision.TheVariants.{Changes}
use Rattle.account.specs.declared.judged.Named.{Named}
use Rattle.account.specs.declared.tables.Tables.{Tables}
use Rattle.resting.specs.Found.{found_by}
use Rattle.resting.proofs.Told as told
use Rattle.fills.specs.Takes.{Cancellable}
use Rattle.fills.proofs.Behind.{cancellable}
use Rattle.fills.proofs.cancelled.cancel.Goals as goal

module _ (t : Tables) (a : Account) (number : ℕ) {r : Option Named} (found : r ≡ found_by t a number) where
  abbrev decision : Result Decision Refusal
  decision = decided (cancel_verdict (named t a number)) (cancel_change (named t a number))

  none : r ≡ None → Err NoSuchOrder ≡ decision
  unfolding cancel_verdict named
  none e = rw (told.none t a number found e) refl

  module _ {f : Named} (found_at : r ≡ Some f) where
    takes : Sound t a → Cancellable f
    takes sound = subst Cancellable (sym (told.is_named t a number found found_at)) (cancellable t a sound number (told.there t a number found found_at))

    changed : {change : Change} → change ≡ cancel_change f → Ok (Changes change) ≡ decision
    unfolding cancel_verdict named
    changed made = ap (λ (made : Change). Ok (Changes made)) (made ∙ ap cancel_change (told.is_named t a number found found_at)) ∙ rw (lt-ltb _ 32 (told.there t a number found found_at)) refl

pub returns-in_err-named : goal.returns-in_err-named
returns-in_err-named c number t a sees =
    let missing : c.find.result ≡ None = search rules in
    let refused : c.from_residual.result ≡ Err NoSuchOrder = search rules in
    refused ∙ none t a number (c.find.ensures number t a sees) missing

pub change-requires : goal.change-requires
change-requires c =
    let of = c.requires.of in
    let there : c.find.result ≡ Some c.in_ok-named.named = search rules in
    takes _ _ _ (c.find.ensures _ _ _ of.sees) there of.sees.sound

pub returns : goal.returns
returns c number t a sees =
    let there : c.find.result ≡ Some c.in_ok-named.named = search rules in
    changed t a number (c.find.ensures number t a sees) there c.change.ensures
