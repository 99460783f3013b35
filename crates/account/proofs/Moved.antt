-- A fill moves one count of one position, up where its kind opens and down where it closes, so each sum over the contracts changes by the same share of one term. What a close takes is there, since no more of a kind rests on a contract than is held.
use mathlib.Core.Path.{◌≡◌, refl, sym, ap, ◌∙◌}
use mathlib.Core.Bool.{Bool, true, false, ◌&&◌, and-true, and-false, false≢true}
use mathlib.Core.Logic.{◌≢◌}
use Prim.Native.Nat.{ℕ, ◌+◌, ◌*◌, ◌≤◌, ◌<◌}
use native.Mathlib.Decide.{ℕ_discrete}
use native.Mathlib.Nat.{zero-mul}
use native.Mathlib.Omega.{arith}
use borrow.Author.Tests.{eq-eqb, ne_eqb}
use lib.Dec.{eqb}
use lib.ListN.{length, set}
use lib.Seq.{get_or-set_same, get_or-set_other}
use Rattle.terms.specs.Codes.{kind_code}
use Rattle.terms.specs.Kinds.{moves_of, opens_of}
use Rattle.terms.specs.declared.count.Position.{Position}
use Rattle.terms.specs.declared.kind.OrderKind.{OrderKind}
use Rattle.terms.specs.declared.kind.OrderKind.TheVariants.{BuyOpen, SellClose, SellOpen, BuyClose, CoveredOpen, CoveredClose}
use Rattle.terms.specs.declared.kind.Side.{Side}
use Rattle.terms.specs.declared.kind.Side.TheVariants.{Long, Short, Covered}
use Rattle.rules.specs.Count.{for_count}
use Rattle.account.specs.Fills.{moved}
use Rattle.account.specs.Money.{margin_one, margin_in}
use Rattle.account.specs.Rows.{no_position, contract, position}
use Rattle.terms.specs.Sums.{Σ, ◌when◌}
use Rattle.account.specs.Totals.{is_of, count_of, count_in, is_kind, covered_units}
use Rattle.account.specs.declared.account.Account.{Account}
use Rattle.account.specs.declared.tables.Tables.{Tables}
use Rattle.account.proofs.Placed.{nothing_when}
use Rattle.terms.proofs.Sums.{Σ-changed}
use Rattle.account.proofs.Taken.{Additive, additive_when, additive_times}

-- the kind that opens a side, and the one that closes it
abbrev pub opener : Side → OrderKind
opener Long = BuyOpen
opener Short = SellOpen
opener Covered = CoveredOpen

abbrev pub closer : Side → OrderKind
closer Long = SellClose
closer Short = BuyClose
closer Covered = CoveredClose

pub closer_of : (kind : OrderKind) → opens_of kind ≡ false → closer (moves_of kind) ≡ kind
closer_of BuyOpen never = absurd (false≢true (sym never))
closer_of SellClose close = refl
closer_of SellOpen never = absurd (false≢true (sym never))
closer_of BuyClose close = refl
closer_of CoveredOpen never = absurd (false≢true (sym never))
closer_of CoveredClose close = refl

each_side : (P : Side → Type 0) → P Long × P Short × P Covered → (side : Side) → P side
each_side P all Long = all.0
each_side P all Short = all.1
each_side P all Covered = all.2

count_moved : (kind : OrderKind) (q : ℕ) (p : Position) → (opens_of kind ≡ false → q ≤ count_of (moves_of kind) p)
    → (side : Side) → count_of side (moved (moves_of kind) (opens_of kind) q p) + (q when is_kind (closer side) (kind_code kind)) ≡ count_of side p + (q when is_kind (opener side) (kind_code kind))
count_moved BuyOpen q p enough = each_side _ (omega arith, omega arith, omega arith)
count_moved SellClose q p enough = each_side _ (omega (arith, enough refl), omega arith, omega arith)
count_moved SellOpen q p enough = each_side _ (omega arith, omega arith, omega arith)
count_moved BuyClose q p enough = each_side _ (omega arith, omega (arith, enough refl), omega arith)
count_moved CoveredOpen q p enough = each_side _ (omega arith, omega arith, omega arith)
count_moved CoveredClose q p enough = each_side _ (omega arith, omega arith, omega (arith, enough refl))

-- a share of what is moved, counted under two tests
when_both : (share : ℕ → ℕ) → share 0 ≡ 0 → (x : ℕ) (kind here : Bool) → share (x when kind) when here ≡ share x when (kind && here)
when_both share none x true here = refl
when_both share none x false here = ap (◌when here) none ∙ nothing_when here

-- b's positions are a's with one of them moved by q, the number of kind being n
pub record Moves (t : Tables) (a b : Account) (c q n : ℕ) (kind : OrderKind) : Type 0 where
  pub rows : length a.positions ≡ 64
  pub there : c < t.n
  pub few : t.n ≤ 64
  pub positions : b.positions ≡ set a.positions c (moved (moves_of kind) (opens_of kind) q (position a c))
  pub code : kind_code kind ≡ n
  pub enough : opens_of kind ≡ false → q ≤ count_of (moves_of kind) (position a c)

module _ {t : Tables} {a b : Account} {c q n : ℕ} {kind : OrderKind} (moves : Moves t a b c q n kind) where
  position_there : position b c ≡ moved (moves_of kind) (opens_of kind) q (position a c)
  position_there = rw moves.positions (get_or-set_same a.positions c _ no_position (omega (arith, moves.rows, moves.there, moves.few)))

  pub position_elsewhere : (k : ℕ) → k ≢ c → position b k ≡ position a k
  position_elsewhere k other = rw moves.positions (get_or-set_other a.positions c k _ no_position other)

  count_there : (side : Side) → count_of side (position b c) + (q when is_kind (closer side) n) ≡ count_of side (position a c) + (q when is_kind (opener side) n)
  count_there side = rw (position_there, ← moves.code) (count_moved kind q (position a c) moves.enough side)

  pub count_at : (side : Side) (k : ℕ) → count_of side (position b k) + (q when (is_kind (closer side) n && eqb c k)) ≡ count_of side (position a k) + (q when (is_kind (opener side) n && eqb c k))
  count_at side k =
      elim (ℕ_discrete k c) [
        | yes e ↦ rw (e, eq-eqb c c refl, and-true, and-true) (count_there side)
        | no other ↦ rw (ne_eqb c k (λ e. other (sym e)), and-false, and-false, position_elsewhere k other)
      ]

  over_moved : (side : Side) (f : ℕ → ℕ → ℕ) → Additive (f c)
      → Σ t.n (λ k. f k (count_of side (position b k))) + f c (q when is_kind (closer side) n) ≡ Σ t.n (λ k. f k (count_of side (position a k))) + f c (q when is_kind (opener side) n)
  over_moved side f add =
      let before = count_of side (position a c) in
      let after = count_of side (position b c) in
      let sums = Σ-changed t.n c (λ k. f k (count_of side (position a k))) (λ k. f k (count_of side (position b k))) moves.there (λ k h other. ap (λ (p : Position). f k (count_of side p)) (sym (position_elsewhere k other))) in
      omega (arith, sums, ap (f c) (count_there side), add after (q when is_kind (closer side) n), add before (q when is_kind (opener side) n))

  pub count_in_lem : (side : Side) (u : ℕ) → count_in side t b u + (q when (is_kind (closer side) n && is_of t u c)) ≡ count_in side t a u + (q when (is_kind (opener side) n && is_of t u c))
  unfolding count_in
  count_in_lem side u =
      let both = when_both (λ n. n) refl q in
      rw (← both, ← both) (over_moved side (λ k x. x when is_of t u k) (additive_when (is_of t u c)))

  pub covered_units_lem : (u : ℕ)
      → covered_units t b u + (q * (contract t c).unit when (is_kind CoveredClose n && is_of t u c)) ≡ covered_units t a u + (q * (contract t c).unit when (is_kind CoveredOpen n && is_of t u c))
  unfolding covered_units
  covered_units_lem u =
      let both = when_both (◌* (contract t c).unit) (zero-mul _) q in
      rw (← both, ← both) (over_moved Covered (λ k x. x * (contract t k).unit when is_of t u k) (additive_times (contract t c).unit (is_of t u c)))

  pub margin_moved : margin_in t b + (q when is_kind BuyClose n) * margin_one t c ≡ margin_in t a + (q when is_kind SellOpen n) * margin_one t c
  unfolding margin_in for_count
  margin_moved = over_moved Short (λ k x. x * margin_one t k) (additive_times (margin_one t c) true)
