-- What an entry names, or goes by: a resting order, a contract, an underlying (Records).
use Rattle.std.specs.Prelude.{ℕ}
use Rattle.entries.specs.declared.entry.Entry.{Entry}
use Rattle.entries.specs.declared.entry.Entry.TheVariants.{Deposit, Withdraw, Lock, Unlock, Order, Fill, Cancel, DayEnd, Pay, Drop, Underlying, Contract, Opening}

-- a fill and a cancel name a resting order by its number; 0 is no order's (Records)
abbrev pub order_named : Entry → ℕ
order_named (Deposit amount) = 0
order_named (Withdraw amount) = 0
order_named (Lock underlying units) = 0
order_named (Unlock underlying units) = 0
order_named (Order order) = 0
order_named (Fill fill) = fill.number
order_named (Cancel number) = number
order_named (DayEnd n m) = 0
order_named Pay = 0
order_named Drop = 0
order_named (Underlying row) = 0
order_named (Contract row) = 0
order_named (Opening cash) = 0

-- an order names its contract; any other entry goes by that of the order it names (house)
abbrev pub contract_named : Entry → ℕ → ℕ
contract_named (Deposit amount) rests = rests
contract_named (Withdraw amount) rests = rests
contract_named (Lock underlying units) rests = rests
contract_named (Unlock underlying units) rests = rests
contract_named (Order order) rests = order.contract
contract_named (Fill fill) rests = rests
contract_named (Cancel number) rests = rests
contract_named (DayEnd n m) rests = rests
contract_named Pay rests = rests
contract_named Drop rests = rests
contract_named (Underlying row) rests = rests
contract_named (Contract row) rests = rests
contract_named (Opening cash) rests = rests

-- a lock and an unlock name their underlying; any other entry goes by its contract's (house)
abbrev pub underlying_named : Entry → ℕ → ℕ
underlying_named (Deposit amount) of = of
underlying_named (Withdraw amount) of = of
underlying_named (Lock underlying units) of = underlying
underlying_named (Unlock underlying units) of = underlying
underlying_named (Order order) of = of
underlying_named (Fill fill) of = of
underlying_named (Cancel number) of = of
underlying_named (DayEnd n m) of = of
underlying_named Pay of = of
underlying_named Drop of = of
underlying_named (Underlying row) of = of
underlying_named (Contract row) of = of
underlying_named (Opening cash) of = of
