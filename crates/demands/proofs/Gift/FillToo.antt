-- The order that a fill or a cancel names is the same on both accounts, with the same share of hold and margin, since those are made of class and close. A buy pays at most what its order held, for which the first's cash reaches, so both pay the same; what a sell brings leaves room for as much more, so the richer account stays within the ceiling.
use mathlib.Core.Path.{◌≡◌, refl, ap, ap₂}
use mathlib.Core.Bool.{true, ◌&&◌, ◌||◌}
use mathlib.Core.List.{List}
use Prim.Native.Nat.{ℕ, ◌+◌, ◌≤◌}
use native.Mathlib.Omega.{arith}
use lib.Dec.{leb, ltb}
use Rattle.std.specs.Prelude.{Ok}
use Rattle.terms.specs.Verdicts.{accept}
use Rattle.terms.specs.Kinds.{moves_of, buys_of}
use Rattle.terms.specs.Ranges.{range_of, ◌∈◌}
use Rattle.terms.specs.declared.kind.OrderKind.{OrderKind}
use Rattle.terms.specs.declared.kind.OrderKind.TheVariants.{BuyOpen, SellClose, SellOpen, BuyClose, CoveredOpen, CoveredClose}
use Rattle.terms.specs.declared.measure.Measure.TheVariants.{Price, Quantity, Money}
use Rattle.terms.specs.declared.refusal.Refusal.TheVariants.{OutOfRange, NoSuchOrder, FillBarred, CeilingPassed}
use Rattle.entries.specs.declared.entry.Entry.TheVariants.{Fill, Cancel}
use Rattle.entries.specs.declared.entry.Figures.{Figures}
use Rattle.entries.specs.declared.entry.Fill as Given
use Rattle.entries.specs.declared.entry.Underlying.{Underlying}
use Rattle.account.specs.Changes.{applied}
use Rattle.account.specs.Fills.{place_of, named, price_allowed, paid, fill_verdict, cash_after, premium_after, fill_change, cancel_verdict, cancel_change}
use Rattle.account.specs.Money.{kind_of}
use Rattle.account.specs.Rows.{contract, underlying, order}
use Rattle.account.specs.Steps.{account_after, refusal_of, tables_after}
use Rattle.account.specs.declared.account.Account.{Account}
use Rattle.account.specs.declared.account.Sheet.{Sheet}
use Rattle.account.specs.declared.judged.Named.{Named}
use Rattle.account.specs.declared.tables.Tables.{Tables}
use Rattle.account.proofs.Filled.{fill_passed, fill_reached}
use Rattle.account.proofs.Held.{Held}
use Rattle.demands.specs.Gift.{RoomFor, RoomierTables, richer, richer_sheet}
use Rattle.demands.proofs.Gift.ChecksToo.{check_too, within_ceiling}
use Rattle.demands.proofs.Gift.Relisted.{Too, with_cash, relisted, margin_same, hold_same}

-- what a named order is judged by, with another sheet, hold and margin
abbrev named_with : Named → Sheet → ℕ → ℕ → Named
named_with n sheet hold margin =
    record {
      place = n.place;
      order = n.order;
      position = n.position;
      unit = n.unit;
      underlying = n.underlying;
      holding = n.holding;
      hold = hold;
      margin = margin;
      sheet = sheet;
      last = n.last;
    }

-- the same with X fen more
abbrev endowed : ℕ → Named → Named
endowed X n = named_with n (richer_sheet X n.sheet) n.hold n.margin

-- a sell that leaves room for X more is within the ceiling with X more before it
ceiling_too : (kind : OrderKind) (cash premium sum X : ℕ)
    → cash_after (moves_of kind) (buys_of kind) cash sum + premium_after (moves_of kind) (buys_of kind) premium sum + X ≤ 1_000_000_000_000_000
    → (buys_of kind || (cash + X + premium + sum ∈ range_of Money)) ≡ true
ceiling_too BuyOpen cash premium sum X room = refl
ceiling_too SellClose cash premium sum X room = within_ceiling (cash + X + premium + sum) (omega arith)
ceiling_too SellOpen cash premium sum X room = within_ceiling (cash + X + premium + sum) (omega arith)
ceiling_too BuyClose cash premium sum X room = refl
ceiling_too CoveredOpen cash premium sum X room = within_ceiling (cash + X + premium + sum) (omega arith)
ceiling_too CoveredClose cash premium sum X room = refl

-- the money moves by the same
cash_too : (kind : OrderKind) (cash sum X : ℕ) → (buys_of kind ≡ true → sum ≤ cash)
    → cash_after (moves_of kind) (buys_of kind) (cash + X) sum ≡ cash_after (moves_of kind) (buys_of kind) cash sum + X
cash_too BuyOpen cash sum X pays = omega (arith, pays refl)
cash_too SellClose cash sum X pays = omega arith
cash_too SellOpen cash sum X pays = omega arith
cash_too BuyClose cash sum X pays = omega (arith, pays refl)
cash_too CoveredOpen cash sum X pays = refl
cash_too CoveredClose cash sum X pays = omega (arith, pays refl)

module _ (X : ℕ) (n : Named) (fill : Given.Fill) where
  fill_accepted : fill_verdict n fill ≡ accept → (fill_change n fill).sheet.cash + (fill_change n fill).sheet.premium + X ≤ 1_000_000_000_000_000
      → fill_verdict (endowed X n) fill ≡ accept
  unfolding fill_verdict fill_change
  fill_accepted e room =
      let s = n.sheet in
      let sum = paid n fill in
      let kind = kind_of n.order in
      let buys = buys_of kind in
      let ceiling = check_too (buys || (s.cash + s.premium + sum ∈ range_of Money)) _ CeilingPassed accept accept (λ less. ceiling_too kind s.cash s.premium sum X room) (λ same. same) in
      let bar = check_too (leb fill.quantity n.order.left.0 && price_allowed buys n.order.price fill.price) _ FillBarred _ _ (λ same. same) ceiling in
      let place = check_too (ltb n.place 32) _ NoSuchOrder _ _ (λ same. same) bar in
      check_too ((fill.quantity ∈ range_of Quantity) && (fill.price ∈ range_of Price)) _ OutOfRange _ _ (λ same. same) place e

  fill_changed : (a : Account) → (buys_of (kind_of n.order) ≡ true → paid n fill ≤ n.sheet.cash) → applied (richer X a) (fill_change (endowed X n) fill) ≡ richer X (applied a (fill_change n fill))
  unfolding applied fill_change
  fill_changed a reached = ap (with_cash (applied a (fill_change n fill))) (cash_too (kind_of n.order) n.sheet.cash (paid n fill) X reached)

module _ (X : ℕ) (t : Tables) (rows : List Underlying) (roomier : RoomierTables t (relisted t rows)) (a : Account) (f : Figures) where
  named_too : (number : ℕ) → named (relisted t rows) (richer X a) number ≡ endowed X (named t a number)
  unfolding named place_of
  named_too number =
      let r = order a (place_of a number) in
      let k = contract t r.contract in
      let p = underlying t k.underlying in
      let q = underlying (relisted t rows) k.underlying in
      let same = roomier.rows k.underlying in
      ap₂ (named_with (named t a number) (richer_sheet X a.sheet)) (hold_same (kind_of r) k p q r.price same) (margin_same k p q same)

  pub fill_too : Held t a → (fill : Given.Fill) → refusal_of t a (Fill fill) f ≡ accept → RoomFor X (account_after t a (Fill fill) f) → Too X t (relisted t rows) a (Fill fill) f
  unfolding refusal_of account_after tables_after applied
  fill_too held fill e room =
      let n = named t a fill.number in
      record {
        accepted = rw (named_too fill.number) (fill_accepted X n fill e room);
        account = rw (named_too fill.number) (fill_changed X n fill a (fill_reached t a fill held (fill_passed n fill e)));
        tables = roomier;
      }

  pub cancel_too : (number : ℕ) → refusal_of t a (Cancel number) f ≡ accept → Too X t (relisted t rows) a (Cancel number) f
  unfolding refusal_of account_after tables_after applied cancel_verdict cancel_change
  cancel_too number e = record { accepted = rw (named_too number) e; account = rw (named_too number) refl; tables = roomier }
