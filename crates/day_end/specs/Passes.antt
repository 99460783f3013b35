-- Where a pass over rows stands after k of them: margin, units and counts summed so far.
use Rattle.std.specs.Prelude.{ℕ, ◌+◌, ◌*◌, ◌^◌, ◌≤◌, ◌<◌, List, get_or}
use Rattle.terms.specs.Counts.{units_for}
use Rattle.terms.specs.declared.count.Contracts.{Contracts}
use Rattle.terms.specs.declared.count.Position.{Position}
use Rattle.terms.specs.declared.kind.Side.{Side}
use Rattle.terms.specs.declared.kind.Side.TheVariants.{Long, Short, Covered}
use Rattle.rules.specs.Count.{for_count}
use Rattle.terms.specs.Listed.{listed}
use Rattle.account.specs.Money.{margin_one}
use Rattle.account.specs.Rows.{no_position, contract}
use Rattle.account.specs.Sound.{SoundTables}
use Rattle.terms.specs.Sums.{Σ, ◌when◌}
use Rattle.account.specs.Totals.{count_of, is_of}
use Rattle.account.specs.declared.account.Holding.{Holding}
use Rattle.account.specs.declared.running.Running.{Running}
use Rattle.account.specs.declared.tables.Tables.{Tables}
use Rattle.day_end.specs.declared.after.Worked.{Worked}

-- margin and units of an underlying over the first k contracts, as `margin_in` and `covered_units` sum them over all
unfoldable pub margin_to : Tables → List Position → ℕ → ℕ
margin_to t ps k = Σ k (λ c. for_count (get_or ps c no_position).short.0 (margin_one t c))

unfoldable pub units_to : Tables → List Position → ℕ → ℕ → ℕ
units_to t ps k u = Σ k (λ c. (units_for (get_or ps c no_position).covered (contract t c).unit).0 when is_of t u c)

-- a holding of so many units, nothing bought yet
abbrev pub of_units : ℕ → Holding
of_units units = record { locked = record { 0 = units }; bought = record { 0 = 0 } }

-- a holding with the units of a count of contracts more
abbrev pub with_units : Holding → Contracts → ℕ → Holding
with_units h covered unit = record { locked = record { 0 = h.locked.0 + (units_for covered unit).0 }; bought = h.bought }

-- long, short or covered of an underlying over the first k contracts, as `count_in` sums them over all
unfoldable pub count_to : Side → Tables → List Position → ℕ → ℕ → ℕ
count_to side t ps k u = Σ k (λ c. count_of side (get_or ps c no_position) when is_of t u c)

-- the totals of an underlying over the first k contracts, no order resting
abbrev pub held_to : Tables → List Position → ℕ → ℕ → Running
held_to t ps k u =
    record {
      long = record { 0 = count_to Long t ps k u };
      total = record { 0 = count_to Long t ps k u + count_to Short t ps k u + count_to Covered t ps k u };
      buys = record { 0 = 0 };
      opens = record { 0 = 0 };
      taken = record { 0 = units_to t ps k u };
    }

-- totals with what is held of one contract more, and that they fit
abbrev pub with_held : Running → Position → ℕ → Running
with_held r p unit =
    record {
      long = record { 0 = r.long.0 + p.long.0 };
      total = record { 0 = r.total.0 + p.long.0 + p.short.0 + p.covered.0 };
      buys = r.buys;
      opens = r.opens;
      taken = record { 0 = r.taken.0 + (units_for p.covered unit).0 };
    }

abbrev pub HeldFits : Running → Type 0
HeldFits r = (r.long.0 < 2 ^ 32) × (r.total.0 < 2 ^ 32) × (r.taken.0 < 2 ^ 64)

-- each underlying's holding and totals over the first k contracts
unfoldable pub holdings_to : Tables → List Position → ℕ → List Holding
holdings_to t ps k = listed 8 (λ u. of_units (units_to t ps k u))

unfoldable pub running_to : Tables → List Position → ℕ → List Running
running_to t ps k = listed 8 (held_to t ps k)

-- what the first k contracts come to
abbrev pub worked_to : Tables → List Position → ℕ → Worked
worked_to t ps k = record { margin = margin_to t ps k; holdings = holdings_to t ps k; running = running_to t ps k }

-- positions whose sums stay small, over any first k contracts of sound tables
pub record Summed (t : Tables) (ps : List Position) : Type 0 where
  pub tables : SoundTables t
  pub margin : (k : ℕ) → k ≤ t.n → margin_to t ps k ≤ 64 * (10_000 * 20_000_000_000)
  pub units : (k u : ℕ) → k ≤ t.n → units_to t ps k u ≤ 64 * (10_000 * 100_000)
  pub counts : (side : Side) (k u : ℕ) → k ≤ t.n → count_to side t ps k u ≤ 64 * 10_000
