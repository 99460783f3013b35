-- What an account from an opening and accepted entries satisfies: demand 2 about holds, margins and limits, and what the step's safety rests on.
use Rattle.std.specs.Prelude.{ℕ, ◌+◌, ◌*◌, ◌≤◌, ◌<◌, Bool, true, false, ◌&&◌, ◌≡◌, List, [], ◌∷◌, ltb, length, Ok}
use Rattle.terms.specs.Kinds.{moves_of, opens_of}
use Rattle.terms.specs.Ranges.{range_of, unit_allowed, ◌∈◌}
use Rattle.terms.specs.declared.kind.OrderKind.{OrderKind}
use Rattle.terms.specs.declared.kind.OrderKind.TheVariants.{BuyOpen}
use Rattle.terms.specs.declared.measure.Measure.TheVariants.{Price, Settlement, Limit}
use Rattle.terms.specs.declared.right.Right.TheVariants.{Put}
use Rattle.terms.specs.Codes.{kind_coded}
use Rattle.entries.specs.declared.entry.Contract.{Contract}
use Rattle.entries.specs.declared.entry.Order.{Order}
use Rattle.entries.specs.declared.entry.Underlying.{Underlying}
use Rattle.account.specs.Money.{holds_in, kind_of, margin_in}
use Rattle.account.specs.Orders.{order_allowed}
use Rattle.account.specs.Rows.{free, no_holding, no_position, contract, underlying, position, holding, order}
use Rattle.account.specs.Running.{closing, closing_on, free_in, running, running_in}
use Rattle.account.specs.Totals.{count_of, is_kind, resting_in, resting_on, rights_in, total_in, covered_units, reserved_units}
use Rattle.account.specs.declared.account.Account.{Account}
use Rattle.account.specs.declared.account.Resting.{Resting}
use Rattle.account.specs.declared.account.Sheet.{Sheet}
use Rattle.account.specs.declared.judged.Outcome.{Outcome}
use Rattle.account.specs.declared.tables.Tables.{Tables}

-- the values of an underlying's and of a contract's record, each in its range (Numbers; Refusal numbers, 4)
abbrev pub underlying_allowed : Underlying → Bool
underlying_allowed p = (p.close ∈ range_of Price) && (p.rights ∈ range_of Limit) && (p.total ∈ range_of Limit) && (p.daily ∈ range_of Limit)

abbrev pub contract_allowed : ℕ → Contract → Bool
contract_allowed m k = ltb k.underlying m && (k.strike ∈ range_of Price) && unit_allowed k.unit && (k.settlement ∈ range_of Settlement)

-- the tables as set-up leaves them (house)
pub record SoundTables (t : Tables) : Type 0 where
  pub underlying_rows : length t.underlyings ≡ 8  -- the array has 8 rows
  pub contract_rows : length t.contracts ≡ 64  -- the array has 64 rows
  pub few_underlyings : t.m ≤ 8  -- a 9th was refused
  pub few_contracts : t.n ≤ 64  -- a 65th was refused
  pub underlyings : (u : ℕ) → u < t.m → underlying_allowed (underlying t u) ≡ true  -- limits and closes stay small enough to add and multiply
  pub contracts : (c : ℕ) → c < t.n → contract_allowed t.m (contract t c) ≡ true  -- so do units, strikes and settlements, and each has its underlying

-- a resting order taken for an order of what is left (house)
abbrev pub as_order : Resting → Order
as_order r = record { number = r.number; contract = r.contract; kind = kind_of r; quantity = r.left.0; price = r.price }

-- an order as it may rest (house)
pub record SoundOrder (t : Tables) (last : ℕ) (r : Resting) : Type 0 where
  pub listed : kind_coded r.kind ≡ Ok (kind_of r)  -- its kind is one of the six, so its hold and reserve are known
  pub allowed : order_allowed t (as_order r) ≡ true  -- what is left and the price are in range, so holds stay small
  pub accepted : r.number ≤ last  -- a number above the last accepted is new

pub record Sound (t : Tables) (a : Account) : Type 0 where
  pub tables : SoundTables t
  pub position_rows : length a.positions ≡ 64  -- the array has 64 rows
  pub order_rows : length a.orders ≡ 32  -- the array has 32 rows
  pub holding_rows : length a.holdings ≡ 8  -- the array has 8 rows
  pub ceiling : a.sheet.cash + a.sheet.premium ≤ 1_000_000_000_000_000  -- the sums of money stay exact
  pub holds : a.sheet.holds ≡ holds_in t a  -- a cancel, a fill, a payout paid or dropped frees what was held, and no more
  pub reach : a.sheet.holds ≤ a.sheet.cash  -- cash reaches for all that is held, so also for what waits, whatever is available
  pub waiting : a.waiting ≤ 10_000_000_000_000  -- what waits was in its range, so holds stay small
  pub margin : a.sheet.margin ≡ margin_in t a  -- a close frees what was asked, and no more
  pub rights : (u : ℕ) → u < t.m → rights_in t a u ≤ (underlying t u).rights  -- the rights limit holds
  pub total : (u : ℕ) → u < t.m → total_in t a u ≤ (underlying t u).total  -- the total limit holds, and bounds every count
  pub counted : (u : ℕ) → u < t.m → resting_in (is_kind BuyOpen) t a u ≤ (holding a u).bought.0  -- a cancelled remainder can be taken off
  pub daily : (u : ℕ) → u < t.m → (holding a u).bought.0 ≤ (underlying t u).daily  -- the daily limit holds
  pub closes : (kind : OrderKind) → opens_of kind ≡ false → (c : ℕ) → resting_on kind a c ≤ count_of (moves_of kind) (position a c)  -- a close that fills finds its position
  pub units : (u : ℕ) → u < t.m → covered_units t a u + reserved_units t a u ≤ (holding a u).locked.0  -- covered calls are covered, and spare units are no debt
  pub locked : (u : ℕ) → u < t.m → (holding a u).locked.0 ≤ 2_000_000_000  -- the ceiling of locked units holds
  pub calls : (c : ℕ) → (contract t c).right ≡ Put → (position a c).covered.0 ≡ 0  -- covered is for calls only
  pub emptied : (i : ℕ) → i < 32 → (order a i).number ≡ 0 → order a i ≡ free  -- a free place is all zero and adds nothing to a total
  pub resting : (i : ℕ) → i < 32 → 1 ≤ (order a i).number → SoundOrder t a.last (order a i)  -- what rests was accepted
  pub distinct : (i j : ℕ) → i < 32 → j < 32 → 1 ≤ (order a i).number → (order a i).number ≡ (order a j).number → i ≡ j  -- a number names one order
  pub running_rows : length a.running ≡ 8  -- the array has 8 rows
  pub closing_rows : length a.closing ≡ 64  -- the array has 64 rows
  pub running : (u : ℕ) → u < 8 → running a u ≡ running_in t a u  -- each running total is the sum it stands for (#107)
  pub closing : (c : ℕ) → c < 64 → closing a c ≡ closing_on a c  -- so are the closes kept on each contract
  pub free : a.free ≡ free_in a  -- and the places that are free
  pub no_more_positions : (c : ℕ) → t.n ≤ c → position a c ≡ no_position  -- a contract that is not there is not held
  pub no_more_holdings : (u : ℕ) → t.m ≤ u → holding a u ≡ no_holding  -- nor is an underlying

-- a money sheet as a sound account has it: the sums can be added to and available is exact (house)
pub record SoundSheet (s : Sheet) : Type 0 where
  pub ceiling : s.cash + s.premium ≤ 1_000_000_000_000_000  -- the ceiling of money
  pub holds : s.holds ≤ 32 * (100 * 20_000_000_000) + 10_000_000_000_000  -- 32 orders of 100 contracts, each below 2 x 10^10, and one payout
  pub margin : s.margin ≤ 64 * (10_000 * 20_000_000_000)  -- 64 contracts, of each as many as a limit allows

-- a money sheet and what waits, as a sound account has them: what waits is held, and cash reaches for all that is (#101)
pub record SoundPayout (s : Sheet) (waiting : ℕ) : Type 0 where
  pub held : waiting ≤ s.holds
  pub reach : s.holds ≤ s.cash

-- sound after every entry of a list: what each of its outcomes leads to (demand 2)
abbrev pub AllSound : List Outcome → Type 0
AllSound [] = Unit {0}
AllSound (after ∷ rest) = Sound after.tables after.account × AllSound rest
