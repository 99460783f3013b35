-- An order: the facts it is judged by, and what it changes where it is accepted (Orders and fills). Its checks are in Checks.
use Rattle.std.specs.Prelude.{ℕ, ◌+◌, Bool, true, false, cond, not, ◌&&◌, eqb, ltb, pos, None}
use Rattle.terms.specs.Codes.{kind_code}
use Rattle.terms.specs.Counts.{units_for}
use Rattle.terms.specs.Kinds.{moves_of}
use Rattle.terms.specs.Ranges.{range_of, ◌∈◌}
use Rattle.terms.specs.declared.kind.OrderKind.TheVariants.{BuyOpen}
use Rattle.terms.specs.declared.kind.Side.{Side}
use Rattle.terms.specs.declared.kind.Side.TheVariants.{Long, Short, Covered}
use Rattle.terms.specs.declared.measure.Measure.TheVariants.{Price, Quantity}
use Rattle.terms.specs.declared.right.Right.{Right}
use Rattle.terms.specs.declared.right.Right.TheVariants.{Call, Put}
use Rattle.rules.specs.Count.{for_count}
use Rattle.entries.specs.declared.entry.Order.{Order}
use Rattle.account.specs.Changes.{without_position}
use Rattle.account.specs.Money.{hold_one, available_of}
use Rattle.account.specs.Rows.{no_underlying, no_holding, contract, underlying, position, holding, order}
use Rattle.account.specs.Running.{closing_on}
use Rattle.terms.specs.Sums.{lowest, ◌when◌}
use Rattle.account.specs.Totals.{count_of, is_kind, rights_in, total_in, spare_units}
use Rattle.account.specs.declared.account.Account.{Account}
use Rattle.account.specs.declared.account.Holding.{Holding}
use Rattle.account.specs.declared.account.Resting.{Resting}
use Rattle.account.specs.declared.account.Sheet.{Sheet}
use Rattle.account.specs.declared.judged.Change.{Change}
use Rattle.account.specs.declared.judged.Facts.{Facts}
use Rattle.account.specs.declared.tables.Tables.{Tables}

-- "covered is for calls only", "covered kind on a put" (The account; Refusal numbers, 4)
abbrev pub covered_put : Side → Right → Bool
covered_put Long right = false
covered_put Short right = false
covered_put Covered Call = false
covered_put Covered Put = true

-- "a value outside its range, number not in the tables, covered kind on a put" (Refusal numbers, 4)
unfoldable pub order_allowed : Tables → Order → Bool
order_allowed t o =
    (o.quantity ∈ range_of Quantity) && (o.price ∈ range_of Price) && ltb o.contract t.n
    && not (covered_put (moves_of o.kind) (contract t o.contract).right)

-- "a new order takes the lowest free place"; a resting order's number is never 0 (Orders and fills)
unfoldable pub free_place : Account → ℕ
free_place a = lowest 32 (λ i. eqb (order a i).number 0)

-- the number of an order's underlying (house)
abbrev pub under : Tables → Order → ℕ
under t o = (contract t o.contract).underlying

-- what an order for a contract of the tables is judged by (house)
abbrev pub facts_in : Tables → Account → Order → Facts
facts_in t a o =
    let c = o.contract in
    let u = under t o in
    record {
      allowed = true;
      last = a.last;
      place = free_place a;
      position = record { 0 = count_of (moves_of o.kind) (position a c) };
      closing = record { 0 = count_of (moves_of o.kind) (closing_on a c) };
      rights = record { 0 = rights_in t a u };
      total = record { 0 = total_in t a u };
      underlying = u;
      limits = underlying t u;
      holding = holding a u;
      spare = spare_units t a u;
      needed = units_for (record { 0 = o.quantity }) (contract t c).unit;
      sheet = a.sheet;
      available = available_of a.sheet;
      hold = for_count o.quantity (hold_one t o.kind c o.price);
      unit = (contract t c).unit;
    }

-- of an order whose values are not allowed nothing else is asked (house)
abbrev pub no_facts : Facts
no_facts =
    record {
      allowed = false;
      last = 0;
      place = 0;
      position = record { 0 = 0 };
      closing = record { 0 = 0 };
      rights = record { 0 = 0 };
      total = record { 0 = 0 };
      underlying = 0;
      limits = no_underlying;
      holding = no_holding;
      spare = record { 0 = 0 };
      needed = record { 0 = 0 };
      sheet = record { cash = 0; premium = 0; holds = 0; margin = 0 };
      available = pos 0;
      hold = 0;
      unit = 0;
    }

-- the facts of an order (house)
unfoldable pub facts_of : Tables → Account → Order → Facts
facts_of t a o = cond (order_allowed t o) (facts_in t a o) no_facts

-- the order as it rests, with all of it left (Orders and fills)
abbrev pub rested : Order → Resting
rested o = record { number = o.number; contract = o.contract; kind = kind_code o.kind; left = record { 0 = o.quantity }; price = o.price }

-- its hold joins the holds (The account)
abbrev pub with_hold : Facts → Sheet
with_hold f = record { cash = f.sheet.cash; premium = f.sheet.premium; holds = f.sheet.holds + f.hold; margin = f.sheet.margin }

-- "daily: buy-open quantity accepted today" (001, chapter five)
abbrev pub with_bought : Facts → Order → Holding
with_bought f o =
    record {
      locked = f.holding.locked;
      bought = record { 0 = f.holding.bought.0 + (o.quantity when is_kind BuyOpen (kind_code o.kind)) };
    }

-- what an accepted order changes: its place, the holds, the daily count and the last accepted number (house)
unfoldable pub order_change : Facts → Order → Change
order_change f o = without_position (with_hold f) None f.place (rested o) f.unit f.underlying (with_bought f o) o.number
