-- What `rules` charges for one contract. Figures in their ranges are charged what `account` says one contract costs, and others nothing.
use Rattle.std.specs.Prelude.{ℕ}
use Rattle.terms.specs.declared.kind.OrderKind.{OrderKind}
use Rattle.terms.specs.declared.kind.OrderKind.TheVariants.{BuyOpen, SellClose, SellOpen, BuyClose, CoveredOpen, CoveredClose}
use Rattle.rules.specs.Charges.{fen_in, margin_charge, premium_charge}
use Rattle.entries.specs.declared.entry.Contract.{Contract}
use Rattle.entries.specs.declared.entry.Underlying.{Underlying}

-- k a contract's row and p its underlying's
abbrev pub margin_charged : Contract → Underlying → ℕ
margin_charged k p = fen_in (margin_charge p.class k.right k.settlement p.close k.strike k.unit)

abbrev pub premium_charged : ℕ → ℕ → ℕ
premium_charged price unit = fen_in (premium_charge price unit)

abbrev pub hold_charged : OrderKind → Contract → Underlying → ℕ → ℕ
hold_charged BuyOpen k p price = premium_charged price k.unit
hold_charged SellClose k p price = 0
hold_charged SellOpen k p price = margin_charged k p
hold_charged BuyClose k p price = premium_charged price k.unit
hold_charged CoveredOpen k p price = 0
hold_charged CoveredClose k p price = premium_charged price k.unit
