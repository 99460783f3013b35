-- Roomier tables are the first's with other rows of underlyings, of the same classes and closes: so no total tells the two apart, nor what a contract holds or asks as margin. And what an entry is to do on them: be accepted where the first account accepts it, and lead to what stands in the same relation.
use mathlib.Core.Path.{◌≡◌, refl}
use mathlib.Core.List.{List}
use Prim.Native.Nat.{ℕ}
use native.Mathlib.Omega.{arith}
use Rattle.std.specs.Prelude.{Ok}
use Rattle.terms.specs.Verdicts.{accept}
use Rattle.terms.specs.declared.kind.OrderKind.{OrderKind}
use Rattle.terms.specs.declared.kind.OrderKind.TheVariants.{BuyOpen, SellClose, SellOpen, BuyClose, CoveredOpen, CoveredClose}
use Rattle.entries.specs.declared.entry.Contract.{Contract}
use Rattle.entries.specs.declared.entry.Entry.{Entry}
use Rattle.entries.specs.declared.entry.Figures.{Figures}
use Rattle.entries.specs.declared.entry.Underlying.{Underlying}
use Rattle.account.specs.DayEnd.{with_sheet}
use Rattle.account.specs.Money.{margin_by, hold_by}
use Rattle.account.specs.Steps.{account_after, refusal_of, tables_after}
use Rattle.account.specs.declared.account.Account.{Account}
use Rattle.account.specs.declared.tables.Tables.{Tables}
use Rattle.demands.specs.Gift.{Roomier, RoomierTables, richer}

-- an entry on the richer account and the roomier tables: accepted, and what it leads to stands in the same relation
pub record Too (X : ℕ) (t t' : Tables) (a : Account) (entry : Entry) (f : Figures) : Type 0 where
  pub accepted : refusal_of t' (richer X a) entry f ≡ accept
  pub account : account_after t' (richer X a) entry f ≡ richer X (account_after t a entry f)
  pub tables : RoomierTables (tables_after t entry f) (tables_after t' entry f)

-- an account with another cash
abbrev pub with_cash : Account → ℕ → Account
with_cash a cash = with_sheet a (record { cash = cash; premium = a.sheet.premium; holds = a.sheet.holds; margin = a.sheet.margin })

-- the first's tables with other rows
abbrev pub relisted : Tables → List Underlying → Tables
relisted t rows = record { underlyings = rows; m = t.m; contracts = t.contracts; n = t.n }

module _ {t t' : Tables} (r : RoomierTables t t') where
  pub roomier_relisted : relisted t t'.underlyings ≡ t'
  roomier_relisted = λ i. record { underlyings = t'.underlyings; m = r.m i; contracts = r.contracts i; n = r.n i }

  pub relisted_roomier : RoomierTables t (relisted t t'.underlyings)
  relisted_roomier = record { contracts = refl; n = refl; m = refl; rows = r.rows }

pub same_row : (p : Underlying) → Roomier p p
same_row p = record { class = refl; close = refl; rights = omega arith; total = omega arith; daily = omega arith }

-- margin is made of the class and the close, not of the limits
pub margin_same : (k : Contract) (p q : Underlying) → Roomier p q → margin_by k q ≡ margin_by k p
unfolding margin_by
margin_same k p q r = cc

pub hold_same : (kind : OrderKind) (k : Contract) (p q : Underlying) (price : ℕ) → Roomier p q → hold_by kind k q price ≡ hold_by kind k p price
hold_same BuyOpen k p q price r = refl
hold_same SellClose k p q price r = refl
hold_same SellOpen k p q price r = margin_same k p q r
hold_same BuyClose k p q price r = refl
hold_same CoveredOpen k p q price r = refl
hold_same CoveredClose k p q price r = refl
