-- Figures in their ranges are charged, never refused: so what is charged is what one contract costs.
use mathlib.Core.Path.{◌≡◌, refl}
use mathlib.Core.Bool.{true, ◌&&◌}
use Prim.Native.Nat.{ℕ}
use Rattle.terms.specs.Ranges.{range_of, unit_allowed, ◌∈◌}
use Rattle.terms.specs.declared.kind.OrderKind.{OrderKind}
use Rattle.terms.specs.declared.kind.OrderKind.TheVariants.{BuyOpen, SellClose, SellOpen, BuyClose, CoveredOpen, CoveredClose}
use Rattle.terms.specs.declared.measure.Measure.TheVariants.{Price, Settlement}
use Rattle.terms.proofs.Ranges.{second_holds}
use Rattle.rules.specs.Charges.{fen_in, margin_allowed, margin_charge, premium_allowed, premium_charge}
use Rattle.rules.specs.Premium.{premium_of}
use Rattle.entries.specs.declared.entry.Contract.{Contract}
use Rattle.entries.specs.declared.entry.Underlying.{Underlying}
use Rattle.account.specs.Money.{hold_by, margin_by}
use Rattle.money.specs.Charged.{hold_charged, margin_charged, premium_charged}

pub premium_charged_lem : (price unit : ℕ) → (price ∈ range_of Price) ≡ true → unit_allowed unit ≡ true → premium_charged price unit ≡ premium_of price unit
unfolding premium_charge premium_allowed fen_in
premium_charged_lem price unit priced allowed = rw (priced, allowed) refl

-- a contract and its underlying whose figures are in their ranges
module _ (k : Contract) (p : Underlying) (allowed : margin_allowed k.settlement p.close k.strike k.unit ≡ true) where
  pub margin_charged_lem : margin_charged k p ≡ margin_by k p
  unfolding margin_charge fen_in margin_by
  margin_charged_lem = rw allowed refl

  unit : unit_allowed k.unit ≡ true
  unfolding margin_allowed
  unit = second_holds ((k.settlement ∈ range_of Settlement) && (p.close ∈ range_of Price) && (k.strike ∈ range_of Price)) _ allowed

  pub hold_charged_lem : (kind : OrderKind) (price : ℕ) → (price ∈ range_of Price) ≡ true → hold_charged kind k p price ≡ hold_by kind k p price
  hold_charged_lem BuyOpen price priced = premium_charged_lem price k.unit priced unit
  hold_charged_lem SellClose price priced = refl
  hold_charged_lem SellOpen price priced = margin_charged_lem
  hold_charged_lem BuyClose price priced = premium_charged_lem price k.unit priced unit
  hold_charged_lem CoveredOpen price priced = refl
  hold_charged_lem CoveredClose price priced = premium_charged_lem price k.unit priced unit
