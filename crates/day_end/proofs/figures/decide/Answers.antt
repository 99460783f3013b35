-- `decide` meets its contract: it tests the figures of the rows that the tables have, which are those that the entry counts.
use Rattle.std.proofs.Common.{◌≡◌, ℕ, take, length, refl, sym, ap, arith}
use mathlib.Core.Path.{◌∙◌}
use mathlib.Core.Bool.{Bool, true, false, ◌&&◌}
use borrow.Author.Tests.{eq-eqb}
use Rattle.std.specs.List.{list_all}
use Rattle.terms.specs.Listed.{every}
use Rattle.terms.specs.Ranges.{range_of, ◌∈◌}
use Rattle.terms.specs.Verdicts.{◌else◌then◌, accept}
use Rattle.terms.specs.declared.measure.Measure.TheVariants.{Price, Settlement}
use Rattle.terms.specs.declared.refusal.Refusal.TheVariants.{OutOfRange}
use Rattle.terms.proofs.Listed.{all_rows}
use Rattle.entries.specs.declared.entry.Entry.TheVariants.{DayEnd}
use Rattle.entries.specs.declared.entry.Figures.{Figures}
use Rattle.account.specs.Changes.{ending}
use Rattle.account.specs.DayEnd.{close_of, day_end_verdict, settlement_of}
use Rattle.account.specs.Seen.{Sees, seen_by}
use Rattle.account.specs.declared.account.Account.{Account}
use Rattle.account.specs.declared.judged.Seen.{Seen}
use Rattle.account.specs.declared.tables.Tables.{Tables}
use Rattle.day_end.proofs.figures.decide.Goals as goal

-- the verdict, by whether the settlements and the closes are both allowed
module _ (f : Figures) (n m : ℕ) (s : Seen) (as_n : n ≡ s.n) (as_m : m ≡ s.m) (contracts : length f.settlements ≡ 64) (underlyings : length f.closes ≡ 8) where
  tested : (settlements closes both : Bool) → settlements ≡ list_all (λ price. price ∈ range_of Settlement) (take s.n f.settlements)
      → closes ≡ list_all (λ price. price ∈ range_of Price) (take s.m f.closes) → (settlements && closes) ≡ both
      → (t : Tables) (a : Account) → Sees t a (DayEnd n m) s → ending (both else OutOfRange then accept) ≡ ending (day_end_verdict t n m f)
  unfolding day_end_verdict seen_by
  tested settlements closes both es ec is t a sees =
      let rows_n : s.n ≡ t.n = ap (λ (s : Seen). s.n) sees.is in
      let rows_m : s.m ≡ t.m = ap (λ (s : Seen). s.m) sees.is in
      let ss : settlements ≡ every n (λ c. settlement_of f c ∈ range_of Settlement) =
      es
      ∙ all_rows (λ price. price ∈ range_of Settlement) f.settlements 0 s.n (omega (arith, sees.sound.tables.few_contracts))
      ∙ ap (λ (k : ℕ). every k (λ c. settlement_of f c ∈ range_of Settlement)) (sym as_n) in
      let cs : closes ≡ every m (λ u. close_of f u ∈ range_of Price) =
      ec
      ∙ all_rows (λ price. price ∈ range_of Price) f.closes 0 s.m (omega (arith, sees.sound.tables.few_underlyings))
      ∙ ap (λ (k : ℕ). every k (λ u. close_of f u ∈ range_of Price)) (sym as_m) in
      ap (λ (b : Bool). ending (b else OutOfRange then accept)) (sym is)
      ∙ ap ending ((λ i. ss i && cs i else OutOfRange then accept) ∙ rw (eq-eqb n t.n (as_n ∙ rows_n), eq-eqb m t.m (as_m ∙ rows_m)) refl)

pub returns-then-all_allowed : goal.returns-then-all_allowed
returns-then-all_allowed c =
    tested c.args.figures _ _ c.args.seen c.if-n-seen.false c.if-m-seen.false (omega arith) (omega arith) _ _ true c.all_allowed.ensures c.all_allowed-2.ensures c.if-all_allowed.true

pub returns-else-all_allowed : goal.returns-else-all_allowed
returns-else-all_allowed c =
    tested c.args.figures _ _ c.args.seen c.if-n-seen.false c.if-m-seen.false (omega arith) (omega arith) _ _ false c.all_allowed.ensures c.all_allowed-2.ensures c.if-all_allowed.false
