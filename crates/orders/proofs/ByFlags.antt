-- The walk over a row's flags and an array of what passed, each failing column refusing by its place, is the walk over the columns: a row of the table begins at nine times the kind's number less one, which computes for each kind.
use mathlib.Core.Path.{◌≡◌, refl}
use mathlib.Core.Bool.{Bool, false, not, ◌||◌}
use mathlib.Core.List.{List, [], ◌∷◌, map}
use Prim.Native.Nat.{ℕ, zero, suc, ◌+◌, ◌-◌, ◌*◌}
use lib.ListN.{get_or}
use Rattle.terms.specs.Codes.{kind_code}
use Rattle.terms.specs.declared.kind.OrderKind.{OrderKind}
use Rattle.terms.specs.declared.kind.OrderKind.TheVariants.{BuyOpen, SellClose, SellOpen, BuyClose, CoveredOpen, CoveredClose}
use Rattle.entries.specs.declared.entry.Order.{Order}
use Rattle.account.specs.Checks.{Check, Available, columns, flags, meets, order_verdict, passes, refusal_for}
use Rattle.terms.specs.Verdicts.{◌else◌then◌}
use Rattle.account.specs.declared.judged.Facts.{Facts}
use Rattle.terms.specs.Verdicts.{Verdict, accept}

-- n columns from column i on, of the row that begins at a place of the table
abbrev pub walk_at : ℕ → ℕ → List Bool → ℕ → Verdict
walk_at zero row passed i = accept
walk_at (suc n) row passed i = not (get_or flags (row + i) false) || get_or passed i false else refusal_for (get_or columns i Available) then walk_at n row passed (suc i)

-- the definition's walk, the kind apart from the order
abbrev walked_as : OrderKind → List Check → Facts → Order → Verdict
walked_as kind [] f o = accept
walked_as kind (check ∷ rest) f o = not (meets kind check) || passes check f o else refusal_for check then walked_as kind rest f o

pub walks : (f : Facts) (o : Order) → walk_at 9 (9 * (kind_code o.kind - 1)) (map (λ check. passes check f o) columns) 0 ≡ order_verdict f o
unfolding order_verdict
walks f o =
    elim o.kind as (λ (kind : OrderKind). walk_at 9 (9 * (kind_code kind - 1)) (map (λ check. passes check f o) columns) 0 ≡ walked_as kind columns f o)
    [ BuyOpen ↦ refl | SellClose ↦ refl | SellOpen ↦ refl | BuyClose ↦ refl | CoveredOpen ↦ refl | CoveredClose ↦ refl ]
