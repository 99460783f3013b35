-- The table of records (Records; document 02, #101): the one place where kinds, fields and widths stand. Reading, writing and lengths all go by it.
use Rattle.std.specs.Prelude.{ℕ, ◌+◌, ◌%◌, Bool, cond, ◌&&◌, List, [], ◌∷◌, eqb, replicate, Result, Ok, Err}
use Rattle.terms.specs.Codes.{coded, not_listed}
use Rattle.terms.specs.declared.unlisted.Unlisted.{Unlisted}
use Rattle.terms.specs.Ranges.{range_of, ◌to◌, ◌∈◌}
use Rattle.terms.specs.declared.measure.Measure.TheVariants as Measure
use Rattle.entries.specs.Numbers.{total}
use Rattle.entries.specs.declared.kind.Kind.{Kind}
use Rattle.entries.specs.declared.kind.Kind.TheVariants.{Deposit, Withdraw, Lock, Unlock, Order, Fill, Cancel, DayEnd, Pay, Drop, Underlying, Contract, Opening}

-- column "Kind" (house)
abbrev pub code_of : Kind → ℕ
code_of Deposit = 1
code_of Withdraw = 2
code_of Lock = 3
code_of Unlock = 4
code_of Order = 5
code_of Fill = 6
code_of Cancel = 7
code_of DayEnd = 8
code_of Pay = 9
code_of Drop = 10
code_of Underlying = 16
code_of Contract = 17
code_of Opening = 18

-- the table's rows, in its order (house)
abbrev pub kinds : List Kind
kinds = Deposit ∷ Withdraw ∷ Lock ∷ Unlock ∷ Order ∷ Fill ∷ Cancel ∷ DayEnd ∷ Pay ∷ Drop ∷ Underlying ∷ Contract ∷ Opening ∷ []

-- the kind that a code says, if it is in the table (house)
abbrev pub kind_coded : ℕ → Result Kind Unlisted
kind_coded = coded code_of Ok (Err not_listed) kinds

-- column "Fields (bytes)"; of a day end n and m, whose figures follow (house)
abbrev pub fields_of : Kind → List ℕ
fields_of Deposit = 8 ∷ []  -- amount
fields_of Withdraw = 8 ∷ []  -- amount
fields_of Lock = 2 ∷ 4 ∷ []  -- underlying, units
fields_of Unlock = 2 ∷ 4 ∷ []  -- underlying, units
fields_of Order = 4 ∷ 2 ∷ 2 ∷ 4 ∷ 4 ∷ []  -- number, contract, order kind, quantity, price
fields_of Fill = 4 ∷ 4 ∷ 4 ∷ []  -- number, quantity, price
fields_of Cancel = 4 ∷ []  -- number
fields_of DayEnd = 2 ∷ 2 ∷ []  -- n, m
fields_of Pay = []  -- "no fields" (#101)
fields_of Drop = []  -- "no fields" (#101)
fields_of Underlying = 2 ∷ 4 ∷ 2 ∷ 2 ∷ 2 ∷ []  -- class, close, rights, total, daily
fields_of Contract = 2 ∷ 2 ∷ 4 ∷ 4 ∷ 4 ∷ []  -- underlying, right, strike, unit, settlement
fields_of Opening = 8 ∷ []  -- cash

-- "kind 8" (house)
abbrev pub is_day_end : Kind → Bool
is_day_end kind = eqb (code_of kind) 8

-- "n settlements 4, m closes 4" (house)
abbrev pub figures_of : ℕ → ℕ → List ℕ
figures_of n m = replicate (n + m) 4

-- column "Length": "length of the whole record (2 bytes), kind (2 bytes), fields" (house)
abbrev pub length_of : Kind → ℕ → ℕ → ℕ
length_of kind n m = total (2 ∷ 2 ∷ fields_of kind) + cond (is_day_end kind) (total (figures_of n m)) 0

-- "n is 1 to 64, m 1 to 8" (house)
abbrev pub counts_allowed : ℕ → ℕ → Bool
counts_allowed n m = (n ∈ range_of Measure.Contracts) && (m ∈ range_of Measure.Underlyings)

-- "a length that can't fit (for kind 8, one that no n and m in range give)": a day end's are the multiples of 4 from that of 1 and 1 to that of 64 and 8 (house)
unfoldable pub length_fits : Kind → ℕ → Bool
length_fits kind len = cond (is_day_end kind) ((len ∈ (length_of DayEnd 1 1 to length_of DayEnd 64 8)) && eqb (len % 4) 0) (eqb len (length_of kind 0 0))

-- "counts out of range or unlike the length", denied (house)
unfoldable pub counts_fit : ℕ → ℕ → ℕ → Bool
counts_fit n m len = counts_allowed n m && eqb len (length_of DayEnd n m)
