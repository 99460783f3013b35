-- What is kept as we go (02, #107): for each underlying its totals, for each contract the closes that rest on it, and the free places. Each is a sum; where one row changes, the sum has the new term instead of the old one.
use Rattle.std.specs.Prelude.{ℕ, ◌+◌, ◌-◌, ◌^◌, cond, eqb, ltb, get_or}
use Rattle.terms.specs.Counts.{units_for}
use Rattle.terms.specs.declared.count.Position.{Position}
use Rattle.terms.specs.declared.kind.OrderKind.TheVariants.{BuyOpen, SellClose, BuyClose, CoveredOpen, CoveredClose}
use Rattle.terms.specs.declared.kind.Side.TheVariants.{Long}
use Rattle.account.specs.Rows.{no_position, order}
use Rattle.terms.specs.Sums.{Σ, ◌when◌}
use Rattle.account.specs.Totals.{count_in, is_kind, is_open, resting_in, resting_on, total_in, covered_units, reserved_units}
use Rattle.account.specs.declared.account.Account.{Account}
use Rattle.account.specs.declared.account.Resting.{Resting}
use Rattle.account.specs.declared.running.Running.{Running}
use Rattle.account.specs.declared.tables.Tables.{Tables}

-- "for each underlying, long, total and resting opens", of all three kinds and of buys alone, and the units that cover or are reserved (#107)
abbrev pub running_in : Tables → Account → ℕ → Running
running_in t a u =
    record {
      long = record { 0 = count_in Long t a u };
      total = record { 0 = total_in t a u };
      buys = record { 0 = resting_in (is_kind BuyOpen) t a u };
      opens = record { 0 = resting_in is_open t a u };
      taken = record { 0 = covered_units t a u + reserved_units t a u };
    }

-- "resting closes .. on that contract", by the count that they close (Orders and fills; #107)
abbrev pub closing_on : Account → ℕ → Position
closing_on a c = record { long = record { 0 = resting_on SellClose a c }; short = record { 0 = resting_on BuyClose a c }; covered = record { 0 = resting_on CoveredClose a c } }

-- the free places as one number, with a binary digit for each of the 32 (house)
abbrev pub free_at : ℕ → Resting → ℕ
free_at i r = 2 ^ i when eqb r.number 0

unfoldable pub free_in : Account → ℕ
free_in a = Σ 32 (λ i. free_at i (order a i))

abbrev pub all_free : ℕ
all_free = 4_294_967_295

-- what is kept: of an underlying, and on a contract (house)
abbrev pub no_running : Running
no_running = record { long = record { 0 = 0 }; total = record { 0 = 0 }; buys = record { 0 = 0 }; opens = record { 0 = 0 }; taken = record { 0 = 0 } }

abbrev pub running : Account → ℕ → Running
running a u = get_or a.running u no_running

abbrev pub closing : Account → ℕ → Position
closing a c = get_or a.closing c no_position

-- what a position and a resting order count for in their underlying, their contract being of so many units (house)
abbrev pub running_of : Position → Resting → ℕ → Running
running_of p r unit =
    record {
      long = p.long;
      total = record { 0 = p.long.0 + p.short.0 + p.covered.0 + (r.left.0 when is_open r.kind) };
      buys = record { 0 = r.left.0 when is_kind BuyOpen r.kind };
      opens = record { 0 = r.left.0 when is_open r.kind };
      taken = record { 0 = (units_for p.covered unit).0 + ((units_for r.left unit).0 when is_kind CoveredOpen r.kind) };
    }

-- and what a resting order counts for among the closes on its contract (house)
abbrev pub closing_of : Resting → Position
closing_of r =
    record {
      long = record { 0 = r.left.0 when is_kind SellClose r.kind };
      short = record { 0 = r.left.0 when is_kind BuyClose r.kind };
      covered = record { 0 = r.left.0 when is_kind CoveredClose r.kind };
    }

-- a sum with a new term instead of an old one (house)
abbrev pub instead : ℕ → ℕ → ℕ → ℕ
instead kept old new = kept - old + new

abbrev pub running_moved : Running → Running → Running → Running
running_moved kept old new =
    record {
      long = record { 0 = instead kept.long.0 old.long.0 new.long.0 };
      total = record { 0 = instead kept.total.0 old.total.0 new.total.0 };
      buys = record { 0 = instead kept.buys.0 old.buys.0 new.buys.0 };
      opens = record { 0 = instead kept.opens.0 old.opens.0 new.opens.0 };
      taken = record { 0 = instead kept.taken.0 old.taken.0 new.taken.0 };
    }

abbrev pub closing_moved : Position → Position → Position → Position
closing_moved kept old new =
    record {
      long = record { 0 = instead kept.long.0 old.long.0 new.long.0 };
      short = record { 0 = instead kept.short.0 old.short.0 new.short.0 };
      covered = record { 0 = instead kept.covered.0 old.covered.0 new.covered.0 };
    }

-- the contract whose resting order changes: that of the new order, or of the old one where a place is given up (house)
abbrev pub ordered : Resting → Resting → ℕ
ordered old new = cond (eqb new.number 0) old.contract new.contract

-- the free places where one place's order is another; past the last place there is none (house)
abbrev pub free_moved : ℕ → ℕ → Resting → Resting → ℕ
free_moved kept i old new = cond (ltb i 32) (instead kept (free_at i old) (free_at i new)) kept
