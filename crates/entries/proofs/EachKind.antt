-- What holds of every kind and of every entry, gone through once: a kind's code says the kind, so what holds of each row of the table holds of each kind; an entry's fields are as many as its kind's, and with the kind they say the entry, so an entry that has the day end's code is a day end.
use Rattle.std.proofs.Common.{◌≡◌, refl, subst, Bool, true, false, cond, List, [], ◌∷◌, ℕ, arith, eqb-true, eqb, length, Result, Ok, Err}
use Rattle.terms.specs.Codes.{not_listed, coded, class_code, classes, right_code, rights, kind_code}
use Rattle.terms.specs.declared.unlisted.Unlisted.{Unlisted}
use Rattle.terms.specs.Codes as Codes
use Rattle.terms.proofs.Codes.{class_read, right_read, kind_read}
use Rattle.entries.specs.Entries.{kind_of, fields_in, ◌!◌, order_of, underlying_of, contract_of, entry_of}
use Rattle.entries.specs.Table.{code_of, kinds, kind_coded, fields_of, is_day_end}
use Rattle.entries.specs.declared.entry.Entry.{Entry}
use Rattle.entries.specs.declared.entry.Entry.TheVariants as Entry·of
use Rattle.entries.specs.declared.kind.Kind.{Kind}
use Rattle.entries.specs.declared.kind.Kind.TheVariants.{Deposit, Withdraw, Lock, Unlock, Order, Fill, Cancel, DayEnd, Pay, Drop, Underlying, Contract, Opening}
use Rattle.entries.proofs.Words.{word_made}

pub kind_said : (kind : Kind) → kind_coded (code_of kind) ≡ Ok kind
kind_said Deposit = refl
kind_said Withdraw = refl
kind_said Lock = refl
kind_said Unlock = refl
kind_said Order = refl
kind_said Fill = refl
kind_said Cancel = refl
kind_said DayEnd = refl
kind_said Pay = refl
kind_said Drop = refl
kind_said Underlying = refl
kind_said Contract = refl
kind_said Opening = refl

-- what holds of each kind of a list, row by row
abbrev pub EachRow : (Kind → Type 0) → List Kind → Type 0
EachRow P [] = Unit {0}
EachRow P (kind ∷ rows) = P kind × EachRow P rows

pub each_kind : (P : Kind → Type 0) → EachRow P kinds → (kind : Kind) → P kind
each_kind P each kind = among kinds each (kind_said kind)
  where
    among : (rows : List Kind) → EachRow P rows → coded code_of Ok (Err not_listed) rows (code_of kind) ≡ Ok kind → P kind
    among [] each e = let never : ◌≡◌ {A = ℕ} 0 1 = cc in absurd (omega arith)
    among (row ∷ rows) each e = go (eqb (code_of kind) (code_of row)) (among rows each.1) e
      where
        go : (test : Bool) {later : (Result Kind Unlisted)} → (later ≡ Ok kind → P kind) → cond test (Ok row) later ≡ Ok kind → P kind
        go true next e = let is : row ≡ kind = cc in subst P is each.0
        go false next e = next e

-- an entry's kind and fields say the entry, and no field is missing
pub record Said (entry : Entry) : Type 0 where
  pub as_many : length (fields_in entry) ≡ length (fields_of (kind_of entry))
  pub says : entry_of (kind_of entry) (fields_in entry) ≡ Ok entry

pub said : (entry : Entry) → Said entry
said (Entry·of.Deposit amount) = search
said (Entry·of.Withdraw amount) = search
said (Entry·of.Lock underlying units) = search
said (Entry·of.Unlock underlying units) = search
said (Entry·of.Order o) = record { as_many = refl; says = word_made kind_code (order_of (fields_in (Entry·of.Order o))) (Err not_listed) Codes.kinds (kind_code o.kind) o.kind (kind_read o.kind) }
said (Entry·of.Fill fill) = search
said (Entry·of.Cancel number) = search
said (Entry·of.DayEnd n m) = search
said Entry·of.Pay = search
said Entry·of.Drop = search
said (Entry·of.Underlying u) = record { as_many = refl; says = word_made class_code (underlying_of (fields_in (Entry·of.Underlying u))) (Err not_listed) classes (class_code u.class) u.class (class_read u.class) }
said (Entry·of.Contract c) = record { as_many = refl; says = word_made right_code (contract_of (fields_in (Entry·of.Contract c))) (Err not_listed) rights (right_code c.right) c.right (right_read c.right) }
said (Entry·of.Opening cash) = search

-- the kind that has the day end's code is the day end
pub day_end_kind : (kind : Kind) → is_day_end kind ≡ true → kind ≡ DayEnd
day_end_kind kind day = let code : code_of kind ≡ 8 = eqb-true _ 8 day in cc (kind_said kind)

-- an entry is a day end, or not of its kind
pub by_day_end : (P : Entry → Type 0) → ((n m : ℕ) → P (Entry·of.DayEnd n m)) → ((entry : Entry) → is_day_end (kind_of entry) ≡ false → P entry) → (entry : Entry) → P entry
by_day_end P day_end other entry = go (is_day_end (kind_of entry)) refl
  where
    go : (test : Bool) → is_day_end (kind_of entry) ≡ test → P entry
    go true day =
        let kind = day_end_kind (kind_of entry) day in
        let is : Entry·of.DayEnd (fields_in entry ! 0) (fields_in entry ! 1) ≡ entry = cc (said entry).says in
        subst P is (day_end (fields_in entry ! 0) (fields_in entry ! 1))
    go false e = other entry e
