-- `fill` meets its contract: the first two checks are the definition's, on the fill's values and on what is found, and of that a sound account has what the fill takes off.
use Rattle.std.proofs.Common.{rules}
use mathlib.Core.Path.{◌≡◌, refl, sym, ap, subst, ◌∙◌}
use mathlib.Core.Bool.{Bool, true, false, ◌&&◌}
use Rattle.std.specs.Prelude.{Option, Some, None, Result, Ok, Err}
use Rattle.terms.specs.Ranges.{range_of, ◌∈◌}
use Rattle.terms.specs.declared.measure.Measure.TheVariants.{Price, Quantity}
use Rattle.terms.specs.declared.refusal.Refusal.{Refusal}
use Rattle.terms.specs.declared.refusal.Refusal.TheVariants.{OutOfRange, NoSuchOrder}
use Rattle.terms.proofs.Ranges.{first_holds, second_holds}
use Rattle.entries.specs.declared.entry.Entry.TheVariants as Entry·of
use Rattle.entries.specs.declared.entry.Entry.TheVariants.{Cancel}
use Rattle.entries.specs.declared.entry.Fill.{Fill}
use Rattle.account.specs.Changes.{decided}
use Rattle.account.specs.Fills.{fill_change, fill_verdict, named}
use Rattle.account.specs.Seen.{SeenOf, Sees, seen_by}
use Rattle.account.specs.declared.account.Account.{Account}
use Rattle.account.specs.declared.judged.Decision.{Decision}
use Rattle.account.specs.declared.judged.Named.{Named}
use Rattle.account.specs.declared.judged.Seen.{Seen}
use Rattle.account.specs.declared.tables.Tables.{Tables}
use Rattle.resting.specs.Found.{NumberSees, found_by}
use Rattle.resting.proofs.Told as told
use Rattle.fills.specs.Takes.{Fillable}
use Rattle.fills.proofs.Behind.{fillable}
use Rattle.fills.proofs.filled.fill.Goals as goal

-- a fill sees what a cancel of its order does
as_cancel : {t : Tables} {a : Account} {fill : Fill} {s : Seen} → Sees t a (Entry·of.Fill fill) s → Sees t a (Cancel fill.number) s
unfolding seen_by
as_cancel sees = record { sound = sees.sound; is = sees.is }

number_sees : {fill : Fill} {s : Seen} → SeenOf (Entry·of.Fill fill) s → NumberSees s
number_sees {fill} seen = record { number = fill.number; of = record { tables = seen.tables; account = seen.account; sees = as_cancel seen.sees } }

abbrev decision : Fill → Named → Result Decision Refusal
decision fill f = decided (fill_verdict f fill) (fill_change f fill)

-- both values are tested
module _ (fill : Fill) {counted priced : Bool} (counts : counted ≡ (fill.quantity ∈ range_of Quantity)) (prices : priced ≡ (fill.price ∈ range_of Price)) where
  out : (f : Named) → counted && priced ≡ false → Err OutOfRange ≡ decision fill f
  unfolding fill_verdict
  out f fails = rw (← counts, ← prices, fails) refl

  module _ (passes : counted && priced ≡ true) {t : Tables} {a : Account} {s : Seen} (sees : Sees t a (Entry·of.Fill fill) s) {r : Option Named} (finds : r ≡ found_by t a fill.number) where
    counted_in : (fill.quantity ∈ range_of Quantity) ≡ true
    counted_in = sym counts ∙ first_holds counted priced passes

    priced_in : (fill.price ∈ range_of Price) ≡ true
    priced_in = sym prices ∙ second_holds counted priced passes

    none : r ≡ None → Err NoSuchOrder ≡ decision fill (named t a fill.number)
    unfolding fill_verdict named
    none e = rw (counted_in, priced_in, told.none t a fill.number finds e) refl

    module _ {f : Named} (found_at : r ≡ Some f) where
      is_named : f ≡ named t a fill.number
      is_named = told.is_named t a fill.number finds found_at

      can : Fillable f fill
      can = subst (λ (f : Named). Fillable f fill) (sym is_named) (fillable t a sees.sound fill (told.there t a fill.number finds found_at) counted_in priced_in)

pub returns-then-not-allows : goal.returns-then-not-allows
returns-then-not-allows c t a sees = out c.args.fill c.allows.ensures c.allows-2.ensures (named t a c.args.fill.number) c.if-not-allows.true

pub find-requires : goal.find-requires
find-requires c = number_sees c.requires

pub returns-in_err-named : goal.returns-in_err-named
returns-in_err-named c t a sees =
    let missing : c.find.result ≡ None = search rules in
    let refused : c.from_residual.result ≡ Err NoSuchOrder = search rules in
    refused ∙ none c.args.fill c.allows.ensures c.allows-2.ensures c.if-not-allows.false sees (c.find.ensures _ t a (as_cancel sees)) missing

pub decide-requires : goal.decide-requires
decide-requires c =
    let sees = c.requires.sees in
    let there : c.find.result ≡ Some c.in_ok-named.named = search rules in
    can c.args.fill c.allows.ensures c.allows-2.ensures c.if-not-allows.false sees (c.find.ensures _ _ _ (as_cancel sees)) there

pub returns : goal.returns
returns c t a sees =
    let there : c.find.result ≡ Some c.in_ok-named.named = search rules in
    c.decide.ensures ∙ ap (decision _) (is_named c.args.fill c.allows.ensures c.allows-2.ensures c.if-not-allows.false sees (c.find.ensures _ t a (as_cancel sees)) there)
