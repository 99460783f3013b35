-- Day end changes the settlement in a contract's row and the close in an underlying's, and nothing else of the tables; each new figure passed the test of its range. So the tables stay sound, and what no settlement and no close is part of stays as it was.
use mathlib.Core.Path.{◌≡◌, refl, sym, ap, ◌∙◌}
use mathlib.Core.Bool.{Bool, true, ◌&&◌}
use Prim.Native.Nat.{ℕ, ◌<◌}
use native.Mathlib.Omega.{arith}
use borrow.Author.Tests.{eqb-true}
use lib.Dec.{eqb, ltb}
use Rattle.std.specs.Prelude.{Ok}
use Rattle.terms.specs.Verdicts.{accept}
use Rattle.terms.specs.Counts.{units_for}
use Rattle.terms.specs.Ranges.{range_of, unit_allowed, ◌∈◌}
use Rattle.terms.specs.declared.kind.Side.{Side}
use Rattle.terms.specs.declared.measure.Measure.TheVariants.{Price, Settlement, Limit}
use Rattle.terms.specs.declared.refusal.Refusal.TheVariants.{OutOfRange}
use Rattle.entries.specs.declared.entry.Contract.{Contract}
use Rattle.entries.specs.declared.entry.Figures.{Figures}
use Rattle.entries.specs.declared.entry.Underlying.{Underlying}
use Rattle.account.specs.DayEnd.{settlement_of, close_of, settled, closed, day_end_verdict, figures_installed}
use Rattle.terms.specs.Listed.{every}
use Rattle.account.specs.Rows.{no_contract, no_underlying, contract, underlying, position}
use Rattle.account.specs.Sound.{SoundTables}
use Rattle.terms.specs.Sums.{◌when◌}
use Rattle.account.specs.Totals.{count_of, count_in, covered_units}
use Rattle.account.specs.declared.account.Account.{Account}
use Rattle.account.specs.declared.tables.Tables.{Tables}
use Rattle.account.proofs.Bounds.{four, limits_of, row_of_lem}
use Rattle.terms.proofs.Listed.{listed_below, each_passes}
use Rattle.account.proofs.Passed.{went_on}
use Rattle.terms.proofs.Sums.{Σ-same}

-- what the verdict on a day end asks of its figures
pub record InRange (t : Tables) (f : Figures) : Type 0 where
  pub settlements : (c : ℕ) → c < t.n → (settlement_of f c ∈ range_of Settlement) ≡ true
  pub closes : (u : ℕ) → u < t.m → (close_of f u ∈ range_of Price) ≡ true

-- an accepted day end has as many rows as the tables
pub rows_told : (t : Tables) (n m : ℕ) (f : Figures) → day_end_verdict t n m f ≡ accept → (n ≡ t.n) × (m ≡ t.m)
unfolding day_end_verdict
rows_told t n m f e =
    let known = four (eqb n t.n) (eqb m t.m) (every n _) (every m _) (went_on _ OutOfRange accept e).0 in
    (eqb-true n t.n known.0, eqb-true m t.m known.1)

pub figures_passed : (t : Tables) (n m : ℕ) (f : Figures) → day_end_verdict t n m f ≡ accept → InRange t f
unfolding day_end_verdict
figures_passed t n m f e =
    let known = four (eqb n t.n) (eqb m t.m) (every n _) (every m _) (went_on _ OutOfRange accept e).0 in
    let same = rows_told t n m f e in
    record {
      settlements = λ c h. each_passes n _ known.2 c (omega (arith, h, same.0));
      closes = λ u h. each_passes m _ known.3 u (omega (arith, h, same.1));
    }

module _ (t : Tables) (f : Figures) where
  abbrev new : Tables
  new = figures_installed t f

  pub same_n : new.n ≡ t.n
  unfolding figures_installed
  same_n = refl

  pub same_m : new.m ≡ t.m
  unfolding figures_installed
  same_m = refl

  module _ (tables : SoundTables t) where
    -- the rows of the tables have the new figures
    contract_settled : (c : ℕ) → c < t.n → contract new c ≡ settled (contract t c) (settlement_of f c)
    unfolding figures_installed
    contract_settled c there =
        listed_below 64 t.n (λ k. settled (contract t k) (settlement_of f k)) (contract t) c no_contract tables.few_contracts there

    underlying_closed : (u : ℕ) → u < t.m → underlying new u ≡ closed (underlying t u) (close_of f u)
    unfolding figures_installed
    underlying_closed u there =
        listed_below 8 t.m (λ v. closed (underlying t v) (close_of f v)) (underlying t) u no_underlying tables.few_underlyings there

    pub installed_sound : InRange t f → SoundTables new
    unfolding figures_installed
    installed_sound passed =
        record {
          underlying_rows = refl;
          contract_rows = refl;
          few_underlyings = tables.few_underlyings;
          few_contracts = tables.few_contracts;
          underlyings = λ u there.
              let p = underlying t u in
              let others : Bool → Bool = λ close. close && (p.rights ∈ range_of Limit) && (p.total ∈ range_of Limit) && (p.daily ∈ range_of Limit) in
              rw (underlying_closed u there) (ap others (passed.closes u there ∙ sym (limits_of tables u there).priced) ∙ tables.underlyings u there);
          contracts = λ c there.
              let k = contract t c in
              let others : Bool → Bool = λ settlement. ltb k.underlying t.m && (k.strike ∈ range_of Price) && unit_allowed k.unit && settlement in
              rw (contract_settled c there) (ap others (passed.settlements c there ∙ sym (row_of_lem tables c there).settlement) ∙ tables.contracts c there);
        }

    pub same_right : (c : ℕ) → c < t.n → (contract new c).right ≡ (contract t c).right
    same_right c there = ap (λ (k : Contract). k.right) (contract_settled c there)

    -- the limits of an underlying stay
    pub same_rights : (u : ℕ) → u < t.m → (underlying new u).rights ≡ (underlying t u).rights
    same_rights u there = ap (λ (p : Underlying). p.rights) (underlying_closed u there)

    pub same_total : (u : ℕ) → u < t.m → (underlying new u).total ≡ (underlying t u).total
    same_total u there = ap (λ (p : Underlying). p.total) (underlying_closed u there)

    -- and so do sums over the contracts that their underlyings and units go into
    pub count_installed : (side : Side) (a : Account) (u : ℕ) → count_in side new a u ≡ count_in side t a u
    unfolding count_in
    count_installed side a u =
        rw same_n (Σ-same t.n _ _ (λ c there. ap (λ (k : Contract). count_of side (position a c) when eqb k.underlying u) (contract_settled c there)))

    pub covered_installed : (a : Account) (u : ℕ) → covered_units new a u ≡ covered_units t a u
    unfolding covered_units
    covered_installed a u =
        rw same_n (Σ-same t.n _ _ (λ c there. ap (λ (k : Contract). (units_for (position a c).covered k.unit).0 when eqb k.underlying u) (contract_settled c there)))
