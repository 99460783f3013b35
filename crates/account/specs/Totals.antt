-- The account's totals of contracts and of units: what is held and what rests, in an underlying and on a contract (The account; Limits).
use Rattle.std.specs.Prelude.{ℕ, ◌+◌, ◌-◌, Bool, ◌&&◌, ◌||◌, eqb}
use Rattle.terms.specs.Codes.{kind_code}
use Rattle.terms.specs.Counts.{units_for}
use Rattle.terms.specs.declared.count.Position.{Position}
use Rattle.terms.specs.declared.count.Units.{Units}
use Rattle.terms.specs.declared.kind.OrderKind.{OrderKind}
use Rattle.terms.specs.declared.kind.OrderKind.TheVariants.{BuyOpen, SellOpen, CoveredOpen}
use Rattle.terms.specs.declared.kind.Side.{Side}
use Rattle.terms.specs.declared.kind.Side.TheVariants.{Long, Short, Covered}
use Rattle.account.specs.Rows.{contract, position, holding, order}
use Rattle.terms.specs.Sums.{Σ, ◌when◌}
use Rattle.account.specs.declared.account.Account.{Account}
use Rattle.account.specs.declared.account.Resting.{Resting}
use Rattle.account.specs.declared.tables.Tables.{Tables}

-- is this contract one of the underlying's? "per underlying over all its calls and puts" (001, chapter five)
abbrev pub is_of : Tables → ℕ → ℕ → Bool
is_of t u c = eqb (contract t c).underlying u

-- one of the three counts of a position (house)
abbrev pub count_of : Side → Position → ℕ
count_of Long p = p.long.0
count_of Short p = p.short.0
count_of Covered p = p.covered.0

-- long, short or covered, over the contracts of an underlying (001, chapter five)
unfoldable pub count_in : Side → Tables → Account → ℕ → ℕ
count_in side t a u = Σ t.n (λ c. count_of side (position a c) when is_of t u c)

-- is a resting order's number of kind that of a kind? A free place has that of none. (house)
abbrev pub is_kind : OrderKind → ℕ → Bool
is_kind kind n = eqb n (kind_code kind)

-- "resting opens of all three kinds" (001, chapter five)
abbrev pub is_open : ℕ → Bool
is_open n = is_kind BuyOpen n || is_kind SellOpen n || is_kind CoveredOpen n

-- a total over the 32 order places (house)
unfoldable pub over_orders : Account → (Resting → ℕ) → ℕ
over_orders a f = Σ 32 (λ i. f (order a i))

-- what is left of the resting orders of some kinds, in an underlying (001, chapter five)
abbrev pub resting_in : (ℕ → Bool) → Tables → Account → ℕ → ℕ
resting_in which t a u = over_orders a (λ r. r.left.0 when (which r.kind && is_of t u r.contract))

-- "resting closes of that kind on that contract" (house)
abbrev pub resting_on : OrderKind → Account → ℕ → ℕ
resting_on kind a c = over_orders a (λ r. r.left.0 when (is_kind kind r.kind && eqb r.contract c))

-- "rights: long + resting buy opens" (001, chapter five)
unfoldable pub rights_in : Tables → Account → ℕ → ℕ
rights_in t a u = count_in Long t a u + resting_in (is_kind BuyOpen) t a u

-- "total: long + short + covered + resting opens of all three kinds" (001, chapter five)
unfoldable pub total_in : Tables → Account → ℕ → ℕ
total_in t a u = count_in Long t a u + count_in Short t a u + count_in Covered t a u + resting_in is_open t a u

-- "covered x unit .. summed over the underlying's contracts" (The account)
unfoldable pub covered_units : Tables → Account → ℕ → ℕ
covered_units t a u = Σ t.n (λ c. (units_for (position a c).covered (contract t c).unit).0 when is_of t u c)

-- "units reserved by resting covered opens" (The account)
unfoldable pub reserved_units : Tables → Account → ℕ → ℕ
reserved_units t a u = over_orders a (λ r. (units_for r.left (contract t r.contract).unit).0 when (is_kind CoveredOpen r.kind && is_of t u r.contract))

-- "spare units = locked - covered x unit - units reserved by resting covered opens" (The account)
unfoldable pub spare_units : Tables → Account → ℕ → Units
spare_units t a u = record { 0 = (holding a u).locked.0 - covered_units t a u - reserved_units t a u }
