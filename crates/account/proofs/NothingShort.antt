-- What an accepted entry takes off is there: its own check asks for what is available, the spare units and what is left of the order, and a sound account has every resting order's hold among the holds, for which cash reaches, its close among what is held, its margin among the margin and its buy open among today's count.
use mathlib.Core.Path.{◌≡◌, refl, sym, ap, ◌∙◌}
use mathlib.Core.Bool.{true, false, and-true}
use Prim.Native.Nat.{ℕ, ◌+◌, ◌≤◌, ◌<◌}
use native.Mathlib.Omega.{arith}
use borrow.Author.Tests.{leb-true, eq-eqb}
use lib.Dec.{leb}
use Rattle.std.specs.Prelude.{Ok}
use Rattle.terms.specs.Verdicts.{accept}
use Rattle.terms.specs.Codes.{kind_code}
use Rattle.terms.specs.Kinds.{moves_of, opens_of, buys_of}
use Rattle.terms.specs.declared.kind.OrderKind.TheVariants.{BuyOpen, BuyClose}
use Rattle.terms.specs.declared.refusal.Refusal.TheVariants.{OutOfRange, SpareTooFew}
use Rattle.rules.specs.Count.{for_count}
use Rattle.entries.specs.declared.entry.Fill.{Fill}
use Rattle.account.specs.Fills.{place_of, named, paid, fill_verdict, cancel_verdict}
use Rattle.account.specs.Locks.{units_allowed, unlock_verdict}
use Rattle.account.specs.Money.{kind_of}
use Rattle.account.specs.Rows.{contract, holding, order}
use Rattle.account.specs.Sound.{Sound}
use Rattle.terms.specs.Sums.{◌when◌}
use Rattle.account.specs.Totals.{count_of, is_kind, covered_units, reserved_units, spare_units}
use Rattle.account.specs.Transfers.{withdraw_verdict}
use Rattle.account.specs.declared.account.Account.{Account}
use Rattle.account.specs.declared.judged.Named.{Named}
use Rattle.account.specs.declared.tables.Tables.{Tables}
use Rattle.account.proofs.CancelSound as cancels
use Rattle.account.proofs.FillSound as fills
use Rattle.account.proofs.Filled.{fill_passed, fill_reached, fill_takes}
use Rattle.account.proofs.Held.{sound_held}
use Rattle.account.proofs.Moved.{margin_moved}
use Rattle.account.proofs.Passed.{went_on}
use Rattle.account.proofs.Taken.{resting_taken, holds_taken}
use Rattle.account.proofs.TransferSound.{asked}

-- what is asked for is available: what is held and what is asked as margin stays
pub withdraw_exact : (a : Account) (amount : ℕ) → withdraw_verdict a.sheet a.waiting amount ≡ accept → a.sheet.holds + a.sheet.margin + amount ≤ a.sheet.cash
withdraw_exact a amount e = (asked a amount e).within

pub spare_exact : (t : Tables) (a : Account) (u : ℕ) → Sound t a → u < t.m → (spare_units t a u).0 + covered_units t a u + reserved_units t a u ≡ (holding a u).locked.0
unfolding spare_units
spare_exact t a u s there = omega (arith, s.units u there)

pub unlock_exact : (t : Tables) (a : Account) (u units : ℕ) → unlock_verdict t (spare_units t a u) u units ≡ accept → units ≤ (holding a u).locked.0
unfolding unlock_verdict spare_units
unlock_exact t a u units e =
    let allowed = went_on (units_allowed t u units) OutOfRange _ e in
    omega (arith, leb-true units _ (went_on (leb units (spare_units t a u).0) SpareTooFew accept allowed.1).0)

module _ (t : Tables) (a : Account) (fill : Fill) where
  abbrev filled : Named
  filled = named t a fill.number

  -- with these, the differences that `fill_change` writes are exact
  pub record FillExact : Type 0 where
    pub left : fill.quantity ≤ filled.order.left.0
    pub cash : buys_of (kind_of filled.order) ≡ true → paid filled fill ≤ filled.sheet.cash
    pub count : opens_of (kind_of filled.order) ≡ false → fill.quantity ≤ count_of (moves_of (kind_of filled.order)) filled.position
    pub holds : for_count fill.quantity filled.hold ≤ filled.sheet.holds
    pub margin : kind_of filled.order ≡ BuyClose → for_count fill.quantity filled.margin ≤ filled.sheet.margin

  pub fill_exact : Sound t a → fill_verdict (named t a fill.number) fill ≡ accept → FillExact
  unfolding named for_count
  fill_exact s e =
      let passed = fill_passed (named t a fill.number) fill e in
      let taken = fill_takes t a fill (sound_held s) passed in
      let moves = fills.moves t a fill s passed in
      let shifts = margin_moved moves in
      record {
        left = taken.enough;
        cash = fill_reached t a fill (sound_held s) passed;
        count = moves.enough;
        holds = omega (arith, s.holds, holds_taken taken);
        margin = λ closes. let own = rw (sym moves.code ∙ ap kind_code closes) at shifts in omega (arith, s.margin, own);
      }

module _ (t : Tables) (a : Account) (number : ℕ) where
  abbrev cancelled : Named
  cancelled = named t a number

  -- with these, the differences that `cancel_change` writes are exact
  pub record CancelExact : Type 0 where
    pub holds : for_count cancelled.order.left.0 cancelled.hold ≤ cancelled.sheet.holds
    pub bought : (cancelled.order.left.0 when is_kind BuyOpen cancelled.order.kind) ≤ cancelled.holding.bought.0

  pub cancel_exact : Sound t a → cancel_verdict (named t a number) ≡ accept → CancelExact
  unfolding named
  cancel_exact s e =
      let under = (contract t (order a (place_of a number)).contract).underlying in
      let there = cancels.cancel_there t a number e in
      let taken = cancels.cancel_takes t a number (sound_held s) there in
      let rests = resting_taken taken (is_kind BuyOpen) under in
      let own = rw (eq-eqb under under refl, and-true) at rests in
      record {
        holds = omega (arith, s.holds, holds_taken taken);
        bought = omega (arith, own, s.counted under (cancels.known t a number s there));
      }
