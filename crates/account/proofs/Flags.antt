-- The table of 54 flags says the sentence "4, 6, 8, 9 (kinds 2, 4, 6), 10 (1), 11 (1, 3, 5), 12 (1), 13 (5), 14 (1, 3, 4, 6), in that order": to read the sentence row by row gives the table, which computes.
use mathlib.Core.Path.{◌≡◌, refl}
use mathlib.Core.List.{[], ◌∷◌, map, flat_map}
use lib.ListN.{length}
use Rattle.terms.specs.Codes.{kind_code, kinds}
use Rattle.terms.specs.Refusals.{number_of}
use Rattle.terms.specs.declared.kind.OrderKind.{OrderKind}
use Rattle.terms.specs.declared.kind.OrderKind.TheVariants.{BuyOpen, SellClose, SellOpen, BuyClose, CoveredOpen, CoveredClose}
use Rattle.account.specs.Checks.{Check, Values, Number, Places, Closing, Rights, Total, Daily, Spare, Available, columns, column_of, refusal_for, flags, meets, met_by, member}

-- the table is the sentence, a row for each kind in the order of their codes and a flag for each column
pub sentence : flags ≡ flat_map (λ kind. map (λ check. member (kind_code kind) (met_by check)) columns) kinds
unfolding flat_map
sentence = refl

pub size : length flags ≡ 54
size = refl

-- the columns stand in the sentence's order
pub ordered : map column_of columns ≡ 0 ∷ 1 ∷ 2 ∷ 3 ∷ 4 ∷ 5 ∷ 6 ∷ 7 ∷ 8 ∷ []
ordered = refl

pub numbered : map (λ check. number_of (refusal_for check)) columns ≡ 4 ∷ 6 ∷ 8 ∷ 9 ∷ 10 ∷ 11 ∷ 12 ∷ 13 ∷ 14 ∷ []
numbered = refl

each_kind : (P : OrderKind → Type 0) → P BuyOpen × P SellClose × P SellOpen × P BuyClose × P CoveredOpen × P CoveredClose → (kind : OrderKind) → P kind
each_kind P row BuyOpen = row.0
each_kind P row SellClose = row.1
each_kind P row SellOpen = row.2
each_kind P row BuyClose = row.3
each_kind P row CoveredOpen = row.4
each_kind P row CoveredClose = row.5

-- an order meets a check exactly if the sentence lists its kind there
pub listed : (check : Check) (kind : OrderKind) → meets kind check ≡ member (kind_code kind) (met_by check)
listed Values = each_kind _ (refl, refl, refl, refl, refl, refl)
listed Number = each_kind _ (refl, refl, refl, refl, refl, refl)
listed Places = each_kind _ (refl, refl, refl, refl, refl, refl)
listed Closing = each_kind _ (refl, refl, refl, refl, refl, refl)
listed Rights = each_kind _ (refl, refl, refl, refl, refl, refl)
listed Total = each_kind _ (refl, refl, refl, refl, refl, refl)
listed Daily = each_kind _ (refl, refl, refl, refl, refl, refl)
listed Spare = each_kind _ (refl, refl, refl, refl, refl, refl)
listed Available = each_kind _ (refl, refl, refl, refl, refl, refl)
