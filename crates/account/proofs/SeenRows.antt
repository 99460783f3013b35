-- The rows that an entry sees are those it names: a number that is inside its rows has that row, and those of an order whose values are allowed, of a resting order, and of units that may be locked are.
use mathlib.Core.Path.{◌≡◌, refl, ap, ◌∙◌}
use mathlib.Core.Bool.{true}
use Prim.Native.Nat.{ℕ, ◌<◌}
use borrow.Author.Tests.{lt-ltb}
use Rattle.entries.specs.Names.{order_named, underlying_named}
use Rattle.entries.specs.declared.entry.Entry.{Entry}
use Rattle.entries.specs.declared.entry.Entry.TheVariants.{Cancel}
use Rattle.entries.specs.declared.entry.Entry.TheVariants as Entry·of
use Rattle.entries.specs.declared.entry.Order.{Order}
use Rattle.account.specs.Fills.{place_of}
use Rattle.account.specs.Orders.{order_allowed, under}
use Rattle.account.specs.Rows.{contract, order}
use Rattle.account.specs.Seen.{Sees, contract_for, row_of, seen_at, seen_by, underlying_for}
use Rattle.account.specs.Sound.{as_order}
use Rattle.account.specs.declared.account.Account.{Account}
use Rattle.account.specs.declared.account.Resting.{Resting}
use Rattle.account.specs.declared.judged.Seen.{Seen}
use Rattle.account.specs.declared.tables.Tables.{Tables}
use Rattle.account.proofs.Allowed.{contract_inside, underlying_inside}
use Rattle.account.proofs.Taken.{found}

pub row_of_lem : (rows n : ℕ) → n < rows → row_of rows n ≡ n
row_of_lem rows n inside = rw (lt-ltb n rows inside) refl

module _ {t : Tables} {a : Account} {s : Seen} where
  pub shown : {e : Entry} → Sees t a e s → s ≡ seen_at t a (place_of a (order_named e)) (contract_for a e) (underlying_for t a e)
  unfolding seen_by
  shown sees = sees.is

  pub underlying_shown : {e : Entry} → Sees t a e s → (u : ℕ) → ((of : ℕ) → underlying_named e of ≡ u) → u < 8 → s ≡ seen_at t a (place_of a (order_named e)) (contract_for a e) u
  underlying_shown {e} sees u names inside =
      shown sees ∙ ap (seen_at t a (place_of a (order_named e)) (contract_for a e)) (ap (row_of 8) (names (contract t (contract_for a e)).underlying) ∙ row_of_lem 8 u inside)

  -- an order sees its contract and its underlying
  pub order_shown : {o : Order} → Sees t a (Entry·of.Order o) s → order_allowed t o ≡ true → s ≡ seen_at t a (place_of a 0) o.contract (under t o)
  order_shown {o} sees allowed =
      let c : row_of 64 o.contract ≡ o.contract = row_of_lem 64 o.contract (contract_inside t o allowed sees.sound.tables) in
      let u : row_of 8 (contract t (row_of 64 o.contract)).underlying ≡ under t o =
      ap (λ (n : ℕ). row_of 8 (contract t n).underlying) c ∙ row_of_lem 8 (under t o) (underlying_inside t o allowed sees.sound.tables) in
      shown sees ∙ (λ i. seen_at t a (place_of a 0) (c i) (u i))

  -- a number sees the order that it names, with its contract and its underlying
  module _ {number : ℕ} (sees : Sees t a (Cancel number) s) (there : place_of a number < 32) where
    abbrev rests : Resting
    rests = order a (place_of a number)

    pub its_values : order_allowed t (as_order rests) ≡ true
    its_values = (sees.sound.resting (place_of a number) there (found a number there)).allowed

    its_place : row_of 32 (place_of a number) ≡ place_of a number
    its_place = row_of_lem 32 (place_of a number) there

    pub number_shown : s ≡ seen_at t a (place_of a number) rests.contract (contract t rests.contract).underlying
    number_shown =
        let c : row_of 64 (order a (row_of 32 (place_of a number))).contract ≡ rests.contract =
        ap (λ (n : ℕ). row_of 64 (order a n).contract) its_place ∙ row_of_lem 64 rests.contract (contract_inside t (as_order rests) its_values sees.sound.tables) in
        let u : row_of 8 (contract t (contract_for a (Cancel number))).underlying ≡ (contract t rests.contract).underlying =
        ap (λ (n : ℕ). row_of 8 (contract t n).underlying) c
        ∙ row_of_lem 8 (contract t rests.contract).underlying (underlying_inside t (as_order rests) its_values sees.sound.tables) in
        shown sees ∙ (λ i. seen_at t a (place_of a number) (c i) (u i))
