-- Entries and the values of their records' fields, in the table's order (Records).
use Rattle.std.specs.Prelude.{ℕ, ◌-◌, List, [], ◌∷◌, ◌++◌, get_or, take, drop, replicate, Result, Ok, Err}
use Rattle.terms.specs.Codes.{coded, not_listed, class_code, classes, right_code, rights, kind_code, kinds}
use Rattle.terms.specs.declared.class.Class.{Class}
use Rattle.terms.specs.declared.kind.OrderKind.{OrderKind}
use Rattle.terms.specs.declared.right.Right.{Right}
use Rattle.terms.specs.declared.unlisted.Unlisted.{Unlisted}
use Rattle.entries.specs.declared.kind.Kind.{Kind}
use Rattle.entries.specs.declared.kind.Kind.TheVariants as Kind·of
use Rattle.entries.specs.declared.entry.Entry.{Entry}
use Rattle.entries.specs.declared.entry.Entry.TheVariants.{Deposit, Withdraw, Lock, Unlock, Order, Fill, Cancel, DayEnd, Pay, Drop, Underlying, Contract, Opening}
use Rattle.entries.specs.declared.entry.Figures.{Figures}

-- "an entry carries its case" (house)
abbrev pub kind_of : Entry → Kind
kind_of (Deposit amount) = Kind·of.Deposit
kind_of (Withdraw amount) = Kind·of.Withdraw
kind_of (Lock underlying units) = Kind·of.Lock
kind_of (Unlock underlying units) = Kind·of.Unlock
kind_of (Order order) = Kind·of.Order
kind_of (Fill fill) = Kind·of.Fill
kind_of (Cancel number) = Kind·of.Cancel
kind_of (DayEnd n m) = Kind·of.DayEnd
kind_of Pay = Kind·of.Pay
kind_of Drop = Kind·of.Drop
kind_of (Underlying row) = Kind·of.Underlying
kind_of (Contract row) = Kind·of.Contract
kind_of (Opening cash) = Kind·of.Opening

-- an entry's fields (house)
abbrev pub fields_in : Entry → List ℕ
fields_in (Deposit amount) = amount ∷ []
fields_in (Withdraw amount) = amount ∷ []
fields_in (Lock underlying units) = underlying ∷ units ∷ []
fields_in (Unlock underlying units) = underlying ∷ units ∷ []
fields_in (Order o) = o.number ∷ o.contract ∷ kind_code o.kind ∷ o.quantity ∷ o.price ∷ []
fields_in (Fill o) = o.number ∷ o.quantity ∷ o.price ∷ []
fields_in (Cancel number) = number ∷ []
fields_in (DayEnd n m) = n ∷ m ∷ []
fields_in Pay = []
fields_in Drop = []
fields_in (Underlying u) = class_code u.class ∷ u.close ∷ u.rights ∷ u.total ∷ u.daily ∷ []
fields_in (Contract c) = c.underlying ∷ right_code c.right ∷ c.strike ∷ c.unit ∷ c.settlement ∷ []
fields_in (Opening cash) = cash ∷ []

infixl 90 ◌!◌
-- a field by its place (house)
abbrev pub ◌!◌ : List ℕ → ℕ → ℕ
vs ! i = get_or vs i 0

-- an order, an underlying and a contract from their fields and the word that their code stands for (house)
abbrev pub order_of : List ℕ → OrderKind → Result Entry Unlisted
order_of vs kind = Ok (Order (record { number = vs ! 0; contract = vs ! 1; kind = kind; quantity = vs ! 3; price = vs ! 4 }))

abbrev pub underlying_of : List ℕ → Class → Result Entry Unlisted
underlying_of vs class = Ok (Underlying (record { class = class; close = vs ! 1; rights = vs ! 2; total = vs ! 3; daily = vs ! 4 }))

abbrev pub contract_of : List ℕ → Right → Result Entry Unlisted
contract_of vs right = Ok (Contract (record { underlying = vs ! 0; right = right; strike = vs ! 2; unit = vs ! 3; settlement = vs ! 4 }))

-- the entry that a kind and its fields say; a code that is not listed says none (house)
abbrev pub entry_of : Kind → List ℕ → Result Entry Unlisted
entry_of Kind·of.Deposit vs = Ok (Deposit (vs ! 0))
entry_of Kind·of.Withdraw vs = Ok (Withdraw (vs ! 0))
entry_of Kind·of.Lock vs = Ok (Lock (vs ! 0) (vs ! 1))
entry_of Kind·of.Unlock vs = Ok (Unlock (vs ! 0) (vs ! 1))
entry_of Kind·of.Order vs = coded kind_code (order_of vs) (Err not_listed) kinds (vs ! 2)
entry_of Kind·of.Fill vs = Ok (Fill (record { number = vs ! 0; quantity = vs ! 1; price = vs ! 2 }))
entry_of Kind·of.Cancel vs = Ok (Cancel (vs ! 0))
entry_of Kind·of.DayEnd vs = Ok (DayEnd (vs ! 0) (vs ! 1))
entry_of Kind·of.Pay vs = Ok Pay
entry_of Kind·of.Drop vs = Ok Drop
entry_of Kind·of.Underlying vs = coded class_code (underlying_of vs) (Err not_listed) classes (vs ! 0)
entry_of Kind·of.Contract vs = coded right_code (contract_of vs) (Err not_listed) rights (vs ! 1)
entry_of Kind·of.Opening vs = Ok (Opening (vs ! 0))

-- "figures past n and m are no part of an entry" (house)
abbrev pub figures_in : ℕ → ℕ → Figures → List ℕ
figures_in n m f = take n f.settlements ++ take m f.closes

-- n settlements and m closes, and zeros past them (house)
abbrev pub figures_from : ℕ → ℕ → List ℕ → Figures
figures_from n m xs = record { settlements = take n xs ++ replicate (64 - n) 0; closes = take m (drop n xs) ++ replicate (8 - m) 0 }

-- the figures beside an entry that has none (house)
abbrev pub no_figures : Figures
no_figures = figures_from 0 0 []
