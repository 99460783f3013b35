-- Three questions about a kind of order, from which the rest follows (Orders and fills).
use Rattle.std.specs.Prelude.{Bool, true, false}
use Rattle.terms.specs.declared.kind.OrderKind.{OrderKind}
use Rattle.terms.specs.declared.kind.OrderKind.TheVariants.{BuyOpen, SellClose, SellOpen, BuyClose, CoveredOpen, CoveredClose}
use Rattle.terms.specs.declared.kind.Side.{Side}
use Rattle.terms.specs.declared.kind.Side.TheVariants.{Long, Short, Covered}

-- which count of the position does it move? (house)
abbrev pub moves_of : OrderKind → Side
moves_of BuyOpen = Long
moves_of SellClose = Long
moves_of SellOpen = Short
moves_of BuyClose = Short
moves_of CoveredOpen = Covered
moves_of CoveredClose = Covered

-- does it open, or close? (house)
abbrev pub opens_of : OrderKind → Bool
opens_of BuyOpen = true
opens_of SellClose = false
opens_of SellOpen = true
opens_of BuyClose = false
opens_of CoveredOpen = true
opens_of CoveredClose = false

-- does it buy, or sell? A covered open is a sale, a covered close buys it back. (house)
abbrev pub buys_of : OrderKind → Bool
buys_of BuyOpen = true
buys_of SellClose = false
buys_of SellOpen = false
buys_of BuyClose = true
buys_of CoveredOpen = false
buys_of CoveredClose = true
