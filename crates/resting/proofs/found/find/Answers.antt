-- `find` meets its contract: the place that is seen is the definition's, and where it is one of the 32 the order that the number names is there.
use mathlib.Core.Path.{◌≡◌, refl, ap}
use Prim.Native.Nat.{ℕ, ◌≤◌, ◌<◌}
use borrow.Author.Tests.{le-ltb, lt-ltb}
use Rattle.std.specs.Prelude.{Some, None}
use Rattle.entries.specs.declared.entry.Entry.TheVariants.{Cancel}
use Rattle.account.specs.Fills.{named, place_of}
use Rattle.account.specs.Seen.{Sees}
use Rattle.account.specs.declared.account.Account.{Account}
use Rattle.account.specs.declared.judged.Named.{Named}
use Rattle.account.specs.declared.judged.Seen.{Seen}
use Rattle.account.specs.declared.tables.Tables.{Tables}
use Rattle.account.proofs.SeenRows.{shown}
use Rattle.resting.specs.Found.{found_by}
use Rattle.resting.proofs.found.find.Goals as goal

module _ {t : Tables} {a : Account} {s : Seen} {number : ℕ} (sees : Sees t a (Cancel number) s) where
  here : s.place ≡ place_of a number
  here = ap (λ (s : Seen). s.place) (shown sees)

  none : 32 ≤ s.place → None ≡ found_by t a number
  unfolding found_by
  none past = rw (← here, le-ltb s.place 32 past) refl

  found : {f : Named} → s.place < 32 → (place_of a number < 32 → f ≡ named t a number) → Some f ≡ found_by t a number
  unfolding found_by
  found inside is_named = let there : place_of a number < 32 = rw here at inside in rw (lt-ltb (place_of a number) 32 there) (ap Some (is_named there))

pub returns-then-seen-ge-PLACES : goal.returns-then-seen-ge-PLACES
returns-then-seen-ge-PLACES c number t a sees = none sees c.if-seen-ge-PLACES.true

pub returns : goal.returns
returns c number t a sees = found sees c.if-seen-ge-PLACES.false (c.named_at.ensures number t a sees)
