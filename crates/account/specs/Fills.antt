-- Fills and cancels: both name a resting order by its number and are judged by it (Orders and fills; Refusal numbers: "Fill: 7, 16, 15, 18. Cancel: 7.", and 18 no more: #112).
use Rattle.std.specs.Prelude.{ℕ, ◌+◌, ◌-◌, Bool, true, false, cond, not, ◌&&◌, ◌||◌, eqb, leb, ltb, Ok, None}
use Rattle.terms.specs.Kinds.{moves_of, opens_of, buys_of}
use Rattle.terms.specs.Ranges.{range_of, ◌∈◌}
use Rattle.terms.specs.declared.count.Position.{Position}
use Rattle.terms.specs.declared.kind.OrderKind.{OrderKind}
use Rattle.terms.specs.declared.kind.OrderKind.TheVariants.{BuyOpen}
use Rattle.terms.specs.declared.kind.Side.{Side}
use Rattle.terms.specs.declared.kind.Side.TheVariants.{Long, Short, Covered}
use Rattle.terms.specs.declared.measure.Measure.TheVariants.{Price, Quantity, Money}
use Rattle.terms.specs.declared.refusal.Refusal.TheVariants.{OutOfRange, NoSuchOrder, FillBarred, CeilingPassed}
use Rattle.rules.specs.Count.{for_count}
use Rattle.rules.specs.Premium.{premium_of}
use Rattle.entries.specs.declared.entry.Fill.{Fill}
use Rattle.account.specs.Changes.{without_position}
use Rattle.account.specs.Money.{hold_one, kind_of, margin_one}
use Rattle.account.specs.Rows.{free, contract, position, holding, order}
use Rattle.terms.specs.Sums.{lowest, ◌when◌}
use Rattle.account.specs.Totals.{is_kind}
use Rattle.terms.specs.Verdicts.{◌else◌then◌, accept}
use Rattle.account.specs.declared.account.Account.{Account}
use Rattle.account.specs.declared.account.Resting.{Resting}
use Rattle.account.specs.declared.account.Sheet.{Sheet}
use Rattle.account.specs.declared.judged.Change.{Change}
use Rattle.account.specs.declared.judged.Named.{Named}
use Rattle.terms.specs.Verdicts.{Verdict}
use Rattle.account.specs.declared.tables.Tables.{Tables}

-- the place of the resting order with a number, 32 where none has it; 0 is no order's number (Refusal numbers, 7)
unfoldable pub place_of : Account → ℕ → ℕ
place_of a number = lowest 32 (λ i. eqb (order a i).number number && not (eqb number 0))

-- what the order at a place is judged by: "its share of hold or reserve at the order's own price" (Orders and fills)
abbrev pub named_at : Tables → Account → ℕ → Resting → Named
named_at t a place r =
    let c = r.contract in
    let u = (contract t c).underlying in
    record {
      place = place;
      order = r;
      position = position a c;
      unit = (contract t c).unit;
      underlying = u;
      holding = holding a u;
      hold = hold_one t (kind_of r) c r.price;
      margin = margin_one t c;
      sheet = a.sheet;
      last = a.last;
    }

unfoldable pub named : Tables → Account → ℕ → Named
named t a number = named_at t a (place_of a number) (order a (place_of a number))

-- "a buy may not fill above its price nor a sell below it" (Orders and fills)
abbrev pub price_allowed : Bool → ℕ → ℕ → Bool
price_allowed true limit price = leb price limit
price_allowed false limit price = leb limit price

-- what a fill is paid with or brings: the premium at the fill price, for each contract of it (Orders and fills)
abbrev pub paid : Named → Fill → ℕ
paid f fill = for_count fill.quantity (premium_of fill.price f.unit)

-- 4, then 7, 16, 15: a sell brings money and may pass the ceiling; a buy "pays at most what its order held", so 18 is unused (Refusal numbers; #112)
unfoldable pub fill_verdict : Named → Fill → Verdict
fill_verdict f fill =
    let buys = buys_of (kind_of f.order) in
    (fill.quantity ∈ range_of Quantity) && (fill.price ∈ range_of Price) else OutOfRange then
    ltb f.place 32 else NoSuchOrder then
    leb fill.quantity f.order.left.0 && price_allowed buys f.order.price fill.price else FillBarred then
    buys || (f.sheet.cash + f.sheet.premium + paid f fill ∈ range_of Money) else CeilingPassed then
    accept

-- an open adds to what it moves, a close takes off (Orders and fills)
abbrev pub shifted : Bool → ℕ → ℕ → ℕ
shifted true x by = x + by
shifted false x by = x - by

-- "the position moves by q", in the count that the kind moves (Orders and fills)
abbrev pub moved : Side → Bool → ℕ → Position → Position
moved Long opens q p = record { long = record { 0 = shifted opens p.long.0 q }; short = p.short; covered = p.covered }
moved Short opens q p = record { long = p.long; short = record { 0 = shifted opens p.short.0 q }; covered = p.covered }
moved Covered opens q p = record { long = p.long; short = p.short; covered = record { 0 = shifted opens p.covered.0 q } }

-- "buys pay the fill price from cash; kinds 2 and 3 receive it in cash, kind 5 in covered premium" (Orders and fills; 000, article 11)
abbrev pub cash_after : Side → Bool → ℕ → ℕ → ℕ
cash_after Long buys cash sum = shifted (not buys) cash sum
cash_after Short buys cash sum = shifted (not buys) cash sum
cash_after Covered buys cash sum = cond buys (cash - sum) cash

abbrev pub premium_after : Side → Bool → ℕ → ℕ → ℕ
premium_after Long buys premium sum = premium
premium_after Short buys premium sum = premium
premium_after Covered buys premium sum = cond buys premium (premium + sum)

-- margin is short x margin, and so moves with short alone (The account)
abbrev pub margin_after : Side → Bool → ℕ → ℕ → ℕ
margin_after Long opens margin sum = margin
margin_after Short opens margin sum = shifted opens margin sum
margin_after Covered opens margin sum = margin

-- the sheet after a fill: the money, the share of the hold, the margin (Orders and fills)
abbrev pub sheet_after : Named → Fill → OrderKind → Sheet
sheet_after f fill kind =
    record {
      cash = cash_after (moves_of kind) (buys_of kind) f.sheet.cash (paid f fill);
      premium = premium_after (moves_of kind) (buys_of kind) f.sheet.premium (paid f fill);
      holds = f.sheet.holds - for_count fill.quantity f.hold;
      margin = margin_after (moves_of kind) (opens_of kind) f.sheet.margin (for_count fill.quantity f.margin);
    }

-- "a fill of q takes q from the order"; "an order with nothing left gives up its place" (Orders and fills)
abbrev pub order_after : Resting → ℕ → Resting
order_after r q =
    cond (eqb r.left.0 q) free
    (record { number = r.number; contract = r.contract; kind = r.kind; left = record { 0 = r.left.0 - q }; price = r.price })

-- what an accepted fill changes; today's count stays, since "closes never giving room back" and opens were counted when accepted (house)
unfoldable pub fill_change : Named → Fill → Change
fill_change f fill =
    let kind = kind_of f.order in
    record {
      sheet = sheet_after f fill kind;
      waiting = None;
      contract = f.order.contract;
      position = moved (moves_of kind) (opens_of kind) fill.quantity f.position;
      place = f.place;
      order = order_after f.order fill.quantity;
      unit = f.unit;
      underlying = f.underlying;
      holding = f.holding;
      last = f.last;
    }

-- "Cancel: 7" (Refusal numbers)
unfoldable pub cancel_verdict : Named → Verdict
cancel_verdict f = ltb f.place 32 else NoSuchOrder then accept

-- what a cancel changes: the place is free, the rest of the hold is freed, "cancelled remainders taken off" the daily count (001, chapter five)
unfoldable pub cancel_change : Named → Change
cancel_change f =
    let left = f.order.left.0 in
    let s = f.sheet in
    without_position
    (record { cash = s.cash; premium = s.premium; holds = s.holds - for_count left f.hold; margin = s.margin })
    None
    f.place
    free
    f.unit
    f.underlying
    (record { locked = f.holding.locked; bought = record { 0 = f.holding.bought.0 - (left when is_kind BuyOpen f.order.kind) } })
    f.last
