-- What stands at a number of the tables and of the account: "both numbered from 0 in record order" (Numbers).
use Rattle.std.specs.Prelude.{ℕ, get_or}
use Rattle.terms.specs.declared.class.Class.TheVariants.{Stock}
use Rattle.terms.specs.declared.count.Position.{Position}
use Rattle.terms.specs.declared.right.Right.TheVariants.{Call}
use Rattle.entries.specs.declared.entry.Contract.{Contract}
use Rattle.entries.specs.declared.entry.Underlying.{Underlying}
use Rattle.account.specs.declared.account.Account.{Account}
use Rattle.account.specs.declared.account.Holding.{Holding}
use Rattle.account.specs.declared.account.Resting.{Resting}
use Rattle.account.specs.declared.tables.Tables.{Tables}

-- "a free place is all zero", and so is every row that nothing was put into (house)
abbrev pub free : Resting
free = record { number = 0; contract = 0; kind = 0; left = record { 0 = 0 }; price = 0 }

abbrev pub no_contract : Contract
no_contract = record { underlying = 0; right = Call; strike = 0; unit = 0; settlement = 0 }

abbrev pub no_underlying : Underlying
no_underlying = record { class = Stock; close = 0; rights = 0; total = 0; daily = 0 }

abbrev pub no_position : Position
no_position = record { long = record { 0 = 0 }; short = record { 0 = 0 }; covered = record { 0 = 0 } }

abbrev pub no_holding : Holding
no_holding = record { locked = record { 0 = 0 }; bought = record { 0 = 0 } }

-- the contract and the underlying of a number (house)
abbrev pub contract : Tables → ℕ → Contract
contract t c = get_or t.contracts c no_contract

abbrev pub underlying : Tables → ℕ → Underlying
underlying t u = get_or t.underlyings u no_underlying

-- "each contract: long, short (uncovered), covered" (The account)
abbrev pub position : Account → ℕ → Position
position a c = get_or a.positions c no_position

-- "each underlying: locked units, today's buy-open count" (The account)
abbrev pub holding : Account → ℕ → Holding
holding a u = get_or a.holdings u no_holding

-- the order at one of the 32 places (Numbers)
abbrev pub order : Account → ℕ → Resting
order a i = get_or a.orders i free
