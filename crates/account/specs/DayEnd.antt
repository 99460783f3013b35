-- "Day end, in order", a definition for each step (Orders and fills; 002, questions 13 and 20).
use Rattle.std.specs.Prelude.{ℕ, ◌+◌, cond, ◌&&◌, map, eqb, ltb, get_or, replicate, Ok}
use Rattle.terms.specs.Listed.{listed, every}
use Rattle.terms.specs.Ranges.{range_of, ◌∈◌}
use Rattle.terms.specs.declared.measure.Measure.TheVariants.{Price, Settlement}
use Rattle.terms.specs.declared.refusal.Refusal.TheVariants.{OutOfRange}
use Rattle.rules.specs.Netting.{netted}
use Rattle.entries.specs.declared.entry.Contract.{Contract}
use Rattle.entries.specs.declared.entry.Figures.{Figures}
use Rattle.entries.specs.declared.entry.Underlying.{Underlying}
use Rattle.account.specs.Money.{margin_in}
use Rattle.account.specs.Rows.{free, no_position, contract, underlying, holding}
use Rattle.account.specs.Running.{all_free, running_in}
use Rattle.account.specs.Totals.{covered_units}
use Rattle.terms.specs.Verdicts.{◌else◌then◌, accept}
use Rattle.account.specs.declared.account.Account.{Account}
use Rattle.account.specs.declared.account.Holding.{Holding}
use Rattle.account.specs.declared.account.Sheet.{Sheet}
use Rattle.terms.specs.Verdicts.{Verdict}
use Rattle.account.specs.declared.tables.Tables.{Tables}

-- the figures beside a day end, by the number of their contract and of their underlying (Records, kind 8)
abbrev pub settlement_of : Figures → ℕ → ℕ
settlement_of f c = get_or f.settlements c 0

abbrev pub close_of : Figures → ℕ → ℕ
close_of f u = get_or f.closes u 0

-- "a value outside its range .. n or m unlike the tables" (Refusal numbers, 4)
unfoldable pub day_end_verdict : Tables → ℕ → ℕ → Figures → Verdict
day_end_verdict t n m f =
    eqb n t.n && eqb m t.m && every n (λ c. settlement_of f c ∈ range_of Settlement) && every m (λ u. close_of f u ∈ range_of Price)
    else OutOfRange then accept

-- an account with another sheet, and one with other holdings, all else the same (house)
abbrev pub with_sheet : Account → Sheet → Account
with_sheet a sheet = record { sheet = sheet; waiting = a.waiting; positions = a.positions; orders = a.orders; holdings = a.holdings; running = a.running; closing = a.closing; free = a.free; last = a.last }

abbrev pub with_holdings : Account → (ℕ → Holding) → Account
with_holdings a each = record { sheet = a.sheet; waiting = a.waiting; positions = a.positions; orders = a.orders; holdings = listed 8 each; running = a.running; closing = a.closing; free = a.free; last = a.last }

-- "all orders cancelled": no order rests, and nothing is held but a payout that waits, which "survives day end" (Day end; #101)
unfoldable pub orders_cancelled : Account → Account
orders_cancelled a =
    record {
      sheet = record { cash = a.sheet.cash; premium = a.sheet.premium; holds = a.waiting; margin = a.sheet.margin };
      waiting = a.waiting;
      positions = a.positions;
      orders = replicate 32 free;
      holdings = a.holdings;
      running = a.running;
      closing = a.closing;
      free = a.free;
      last = a.last;
    }

-- "each contract netted, long against short first, then what is left of long against covered" (002, question 20)
unfoldable pub positions_netted : Account → Account
positions_netted a =
    record { sheet = a.sheet; waiting = a.waiting; positions = map netted a.positions; orders = a.orders; holdings = a.holdings; running = a.running; closing = a.closing; free = a.free; last = a.last }

-- "new settlement and close figures installed", in the rows that the tables have (Day end)
abbrev pub settled : Contract → ℕ → Contract
settled k price = record { underlying = k.underlying; right = k.right; strike = k.strike; unit = k.unit; settlement = price }

abbrev pub closed : Underlying → ℕ → Underlying
closed p price = record { class = p.class; close = price; rights = p.rights; total = p.total; daily = p.daily }

unfoldable pub figures_installed : Tables → Figures → Tables
figures_installed t f =
    record {
      underlyings = listed 8 (λ u. cond (ltb u t.m) (closed (underlying t u) (close_of f u)) (underlying t u));
      m = t.m;
      contracts = listed 64 (λ c. cond (ltb c t.n) (settled (contract t c) (settlement_of f c)) (contract t c));
      n = t.n;
    }

-- "and margin worked afresh", at the figures of the tables given (Day end)
unfoldable pub margin_afresh : Tables → Account → Account
margin_afresh t a = with_sheet a (record { cash = a.sheet.cash; premium = a.sheet.premium; holds = a.sheet.holds; margin = margin_in t a })

-- "covered premium joins cash" (Day end; 000, article 11)
unfoldable pub premium_joined : Account → Account
premium_joined a = with_sheet a (record { cash = a.sheet.cash + a.sheet.premium; premium = 0; holds = a.sheet.holds; margin = a.sheet.margin })

-- "daily counts zero" (Day end)
unfoldable pub daily_zero : Account → Account
daily_zero a = with_holdings a (λ u. record { locked = (holding a u).locked; bought = record { 0 = 0 } })

-- "locked units become covered x unit, the rest released" (002, question 13)
unfoldable pub units_released : Tables → Account → Account
units_released t a = with_holdings a (λ u. record { locked = record { 0 = covered_units t a u }; bought = (holding a u).bought })

-- what is kept, set anew: no order rests, and of an underlying it is what is held there (#107)
unfoldable pub kept_anew : Tables → Account → Account
kept_anew t a =
    record {
      sheet = a.sheet;
      waiting = a.waiting;
      positions = a.positions;
      orders = a.orders;
      holdings = a.holdings;
      running = listed 8 (running_in t a);
      closing = replicate 64 no_position;
      free = all_free;
      last = a.last;
    }

-- the steps in order, t being the tables with the new figures; "the last accepted order number is kept" by each of them (Day end)
unfoldable pub day_ended : Tables → Account → Account
day_ended t a = kept_anew t (units_released t (daily_zero (premium_joined (margin_afresh t (positions_netted (orders_cancelled a))))))
