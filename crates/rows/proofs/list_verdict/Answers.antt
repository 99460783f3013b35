-- `list_verdict` meets its contract: with no contract or too many rows nothing else is tested, and otherwise every row and the cash are.
use Rattle.std.proofs.Common.{◌≡◌, ℕ, ◌<◌, ◌≤◌, length, take, refl, sym, ap, arith}
use mathlib.Core.Path.{◌∙◌}
use mathlib.Core.Bool.{Bool, true, false, ◌&&◌}
use borrow.Author.Tests.{le-leb, le-ltb, lt-leb, lt-ltb}
use Rattle.std.specs.Prelude.{Err}
use Rattle.std.specs.List.{list_all}
use Rattle.terms.specs.Ranges.{range_of, ◌∈◌}
use Rattle.terms.specs.declared.measure.Measure.TheVariants.{OpeningCash}
use Rattle.terms.specs.declared.refusal.Refusal.TheVariants.{OutOfPlace, OutOfRange}
use Rattle.terms.specs.Listed.{every}
use Rattle.terms.specs.Verdicts.{◌else◌then◌, accept}
use Rattle.terms.proofs.Listed.{all_rows}
use Rattle.account.specs.Rows.{contract, no_contract, no_underlying, underlying}
use Rattle.account.specs.Sound.{contract_allowed, underlying_allowed}
use Rattle.account.specs.declared.tables.Tables.{Tables}
use Rattle.rows.specs.Given.{list_verdict}
use Rattle.rows.proofs.list_verdict.Goals as goal
use Rattle.rows.proofs.list_verdict.Goals.{then-tables-gt-UNDERLYINGS-via-then-tables-gt-UNDERLYINGS, then-tables-gt-UNDERLYINGS-via-else-tables-gt-UNDERLYINGS+then-tables-gt-CONTRACTS}

module _ (t : Tables) (cash : ℕ) where
  none_there : t.n ≡ 0 → Err OutOfPlace ≡ list_verdict t cash
  unfolding list_verdict
  none_there none = rw (le-ltb 0 t.n (omega arith)) refl

  module _ (some : 0 < t.n) where
    underlyings_many : 8 < t.m → Err OutOfRange ≡ list_verdict t cash
    unfolding list_verdict
    underlyings_many many = rw (lt-ltb 0 t.n some, lt-leb t.m 8 many) refl

    module _ (few : t.m ≤ 8) where
      contracts_many : 64 < t.n → Err OutOfRange ≡ list_verdict t cash
      unfolding list_verdict
      contracts_many many = rw (lt-ltb 0 t.n some, le-leb t.m 8 few, lt-leb t.n 64 many) refl

      -- the verdict, by whether the underlyings, the contracts and the cash are all allowed
      tested : t.n ≤ 64 → length t.underlyings ≡ 8 → length t.contracts ≡ 64 → (us cs opens all : Bool) → us ≡ list_all underlying_allowed (take t.m t.underlyings)
          → cs ≡ list_all (contract_allowed t.m) (take t.n t.contracts) → opens ≡ (cash ∈ range_of OpeningCash) → ((us && cs) && opens) ≡ all → (all else OutOfRange then accept) ≡ list_verdict t cash
      unfolding list_verdict
      tested short size_u size_c us cs opens all eu ec eo is =
          let every_u : us ≡ every t.m (λ u. underlying_allowed (underlying t u)) = eu ∙ all_rows underlying_allowed t.underlyings no_underlying t.m (omega arith) in
          let every_c : cs ≡ every t.n (λ c. contract_allowed t.m (contract t c)) = ec ∙ all_rows (contract_allowed t.m) t.contracts no_contract t.n (omega arith) in
          ap (λ (b : Bool). b else OutOfRange then accept) (sym is)
          ∙ (λ i. (every_u i && every_c i) && eo i else OutOfRange then accept)
          ∙ rw (lt-ltb 0 t.n some, le-leb t.m 8 few, le-leb t.n 64 short) refl

pub returns-then-tables-eq0 : goal.returns-then-tables-eq0
returns-then-tables-eq0 c = none_there _ _ c.if-tables-eq0.true

pub returns-then-tables-gt-UNDERLYINGS : goal.returns-then-tables-gt-UNDERLYINGS
returns-then-tables-gt-UNDERLYINGS c =
    elim c.then-tables-gt-UNDERLYINGS.branch [
      | then-tables-gt-UNDERLYINGS-via-then-tables-gt-UNDERLYINGS w ↦ underlyings_many _ _ (omega arith) w.if-tables-gt-UNDERLYINGS.true
      | then-tables-gt-UNDERLYINGS-via-else-tables-gt-UNDERLYINGS+then-tables-gt-CONTRACTS w ↦
          contracts_many _ _ (omega arith) w.if-tables-gt-UNDERLYINGS.false w.if-tables-gt-CONTRACTS.true
    ]

pub returns-then-underlyings_allowed-contracts_allowed : goal.returns-then-underlyings_allowed-contracts_allowed
returns-then-underlyings_allowed-contracts_allowed c =
    tested _ _ (omega arith) c.if-tables-gt-UNDERLYINGS.false c.if-tables-gt-CONTRACTS.false (omega arith) (omega arith) _ _ _ true c.underlyings_allowed.ensures c.contracts_allowed.ensures
    c.allows.ensures c.if-underlyings_allowed-contracts_allowed.true

pub returns-else-underlyings_allowed-contracts_allowed : goal.returns-else-underlyings_allowed-contracts_allowed
returns-else-underlyings_allowed-contracts_allowed c =
    tested _ _ (omega arith) c.if-tables-gt-UNDERLYINGS.false c.if-tables-gt-CONTRACTS.false (omega arith) (omega arith) _ _ _ false c.underlyings_allowed.ensures c.contracts_allowed.ensures
    c.allows.ensures c.if-underlyings_allowed-contracts_allowed.false
