-- `named_at` meets its contract: what is seen are the rows of the order that the number names, and a resting order's figures are in their ranges, so what is charged is what one contract costs.
use mathlib.Core.Path.{◌≡◌, refl, ap, ◌∙◌}
use mathlib.Core.Bool.{true}
use Prim.Native.Nat.{ℕ, ◌<◌}
use Rattle.terms.specs.declared.kind.OrderKind.{OrderKind}
use Rattle.rules.specs.Charges.{margin_allowed}
use Rattle.entries.specs.declared.entry.Contract.{Contract}
use Rattle.entries.specs.declared.entry.Entry.TheVariants.{Cancel}
use Rattle.entries.specs.declared.entry.Underlying.{Underlying}
use Rattle.account.specs.Fills.{named, place_of}
use Rattle.account.specs.Money.{kind_of}
use Rattle.account.specs.Rows.{contract, order, underlying}
use Rattle.account.specs.Seen.{Sees}
use Rattle.account.specs.Sound.{as_order}
use Rattle.account.specs.declared.account.Account.{Account}
use Rattle.account.specs.declared.account.Resting.{Resting}
use Rattle.account.specs.declared.judged.Named.{Named}
use Rattle.account.specs.declared.judged.Seen.{Seen}
use Rattle.account.specs.declared.tables.Tables.{Tables}
use Rattle.account.proofs.Allowed.{contract_known, priced}
use Rattle.account.proofs.Bounds.{figures_allowed}
use Rattle.account.proofs.SeenRows.{its_values, number_shown, row_of_lem}
use Rattle.money.specs.Charged.{hold_charged, margin_charged}
use Rattle.money.proofs.Charged as charged_as
use Rattle.resting.proofs.named.named_at.Goals as goal

-- the rows that are seen, put together with what is charged
abbrev gathered : Seen → ℕ → ℕ → Named
gathered s hold margin =
    record {
      place = s.place;
      order = s.order;
      position = s.position;
      unit = s.contract.unit;
      underlying = s.contract.underlying;
      holding = s.holding;
      hold = hold;
      margin = margin;
      sheet = s.sheet;
      last = s.last;
    }

abbrev charged : Seen → Named
charged s = gathered s (hold_charged (kind_of s.order) s.contract s.limits s.order.price) (margin_charged s.contract s.limits)

as_charged : (s : Seen) {kind : OrderKind} {hold margin : ℕ} → kind ≡ kind_of s.order → hold ≡ hold_charged kind s.contract s.limits s.order.price
    → margin ≡ margin_charged s.contract s.limits → gathered s hold margin ≡ charged s
as_charged s kinds holds margins = rw (holds, margins, kinds) refl

is_named : {t : Tables} {a : Account} {s : Seen} {number : ℕ} → Sees t a (Cancel number) s → place_of a number < 32 → charged s ≡ named t a number
unfolding named
is_named {t} {a} {s} {number} sees there =
    let r : Resting = order a (place_of a number) in
    let k : Contract = contract t r.contract in
    let p : Underlying = underlying t k.underlying in
    let values = its_values sees there in
    let figures : margin_allowed k.settlement p.close k.strike k.unit ≡ true =
    figures_allowed sees.sound.tables r.contract (contract_known t (as_order r) values) in
    ap charged (number_shown sees there)
    ∙ rw (row_of_lem 32 (place_of a number) there, charged_as.hold_charged_lem k p figures (kind_of r) r.price (priced t (as_order r) values), charged_as.margin_charged_lem k p figures) refl

pub returns : goal.returns
returns c number t a sees there = as_charged c.args.seen c.kind_of.ensures c.hold_one.ensures c.margin_one.ensures ∙ is_named sees there
