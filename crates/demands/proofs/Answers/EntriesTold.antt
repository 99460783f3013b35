-- A record of a book is refused in the paper's order and numbers: its place comes first, then each of its values beside its test, or the entry's own list; and tables that are given whole by the same tests, row by row.
use mathlib.Core.Path.{◌≡◌, refl, sym, ap, subst, ◌∙◌}
use mathlib.Core.Bool.{Bool, true, false, not}
use mathlib.Core.List.{List, [], ◌++◌}
use Prim.Native.Nat.{ℕ, ◌%◌}
use lib.Dec.{eqb, leb, ltb}
use Rattle.std.specs.Prelude.{Ok}
use Rattle.terms.specs.Ranges.{range_of, ◌∈◌}
use Rattle.terms.specs.declared.measure.Measure.TheVariants.{Price, Settlement, Unit, Limit, OpeningCash}
use Rattle.terms.specs.declared.refusal.Refusal.TheVariants.{OutOfPlace, OutOfRange}
use Rattle.entries.specs.Entries.{kind_of}
use Rattle.entries.specs.Table.{code_of}
use Rattle.entries.specs.declared.entry.Contract.{Contract}
use Rattle.entries.specs.declared.entry.Entry.{Entry}
use Rattle.entries.specs.declared.entry.Entry.TheVariants as Entry·of
use Rattle.entries.specs.declared.entry.Figures.{Figures}
use Rattle.entries.specs.declared.entry.Underlying.{Underlying}
use Rattle.entries.specs.declared.kind.Kind.{Kind}
use Rattle.entries.proofs.EachKind.{each_kind}
use Rattle.account.specs.Checks.{member}
use Rattle.terms.specs.Listed.{every}
use Rattle.account.specs.InOrder.{entry_tests, first}
use Rattle.account.specs.Rows.{contract, underlying}
use Rattle.account.specs.Sound.{contract_allowed, underlying_allowed}
use Rattle.account.specs.Steps.{refusal_of}
use Rattle.terms.specs.Verdicts.{◌else◌then◌, number_in, accept}
use Rattle.terms.specs.Verdicts.{Verdict}
use Rattle.account.specs.declared.tables.Tables.{Tables}
use Rattle.account.proofs.InOrder.{Adds, Told, accepted, both, entry_number, next, one, some_wrong}
use Rattle.rows.specs.Given.{list_verdict}
use Rattle.set_up.specs.Stages.{by_set_up, contract_verdict, in_place, opening_verdict, record_verdict, underlying_verdict}
use Rattle.set_up.specs.declared.stages.Book.{Book}
use Rattle.set_up.specs.declared.stages.Stage.{Stage}
use Rattle.set_up.specs.declared.stages.Stage.TheVariants.{Underlyings, Contracts, Entries}
use Rattle.set_up.proofs.Entering.{each_entry, entry_verdict, no_set_up, verdict}
use Rattle.demands.specs.Each.{Each, OneOf, run_numbers}
use Rattle.demands.specs.InOrder.{contract_tests, due, list_tests, new_contract_tests, new_underlying_tests, opening_tests, record_tests, underlying_tests, wrong}
use Rattle.demands.proofs.Answers.PaperNumbers.{first_among}

each_stage : (P : Stage → Type 0) → P Underlyings × P Contracts × P Entries → (stage : Stage) → P stage
each_stage P stages Underlyings = stages.0
each_stage P stages Contracts = stages.1
each_stage P stages Entries = stages.2

-- the kinds in their place are those due
abbrev Same : Kind → Stage → Type 0
Same kind stage = not (member (code_of kind) (due stage)) ≡ not (in_place stage (code_of kind))

placed : (kind : Kind) (stage : Stage) → Same kind stage
placed kind = each_stage (Same kind) (each_kind (λ kind. Same kind Underlyings × Same kind Contracts × Same kind Entries) (search) kind)

module _ (row : Underlying) where
  underlying_adds : {tests : List (Bool × ℕ)} → Adds (underlying_allowed row) OutOfRange tests (underlying_tests row ++ tests)
  underlying_adds =
      both (both (both
      (one (row.close ∈ range_of Price) OutOfRange refl)
      (one (row.rights ∈ range_of Limit) OutOfRange refl))
      (one (row.total ∈ range_of Limit) OutOfRange refl))
      (one (row.daily ∈ range_of Limit) OutOfRange refl)

  underlying_told : (t : Tables) → Told (underlying_verdict t row) (new_underlying_tests t row)
  underlying_told t = next (both underlying_adds (one (ltb t.m 8) OutOfRange refl)) accepted

module _ (row : Contract) where
  contract_adds : {tests : List (Bool × ℕ)} (m : ℕ) → Adds (contract_allowed m row) OutOfRange tests (contract_tests m row ++ tests)
  contract_adds m =
      both (both (both
      (one (ltb row.underlying m) OutOfRange refl)
      (one (row.strike ∈ range_of Price) OutOfRange refl))
      (both (one (row.unit ∈ range_of Unit) OutOfRange refl) (one (eqb (row.unit % 100) 0) OutOfRange refl)))
      (one (row.settlement ∈ range_of Settlement) OutOfRange refl)

  contract_told : (t : Tables) → Told (contract_verdict t row) (new_contract_tests t row)
  contract_told t = next (both (contract_adds t.m) (one (ltb t.n 64) OutOfRange refl)) accepted

-- a row has something wrong where it is not allowed
row_wrong : (allowed : Bool) (tests : List (Bool × ℕ)) → Adds allowed OutOfRange [] tests → wrong tests ≡ not allowed
row_wrong allowed tests adds = ap (λ (number : ℕ). not (eqb number 0)) (sym (next adds accepted).number) ∙ go allowed
  where
    go : (allowed : Bool) → not (eqb (number_in (allowed else OutOfRange then accept)) 0) ≡ not allowed
    go true = refl
    go false = refl

opening_told : (cash : ℕ) → Told (opening_verdict cash) (opening_tests cash)
opening_told cash = next (one (cash ∈ range_of OpeningCash) OutOfRange refl) accepted

module _ (b : Book) (f : Figures) where
  entry_told : (entry : Entry) → Told (refusal_of b.tables b.account entry f) (entry_tests b.tables b.account entry f)
  entry_told entry = record { number = entry_number b.tables b.account entry f }

  -- the values of a record in its place
  values : Entry → List (Bool × ℕ)
  values entry = by_set_up (new_underlying_tests b.tables) (new_contract_tests b.tables) opening_tests (entry_tests b.tables b.account entry f) entry

  values_told : (entry : Entry) → Told (verdict b f entry) (values entry)
  unfolding values
  values_told =
      each_entry (λ entry. Told (verdict b f entry) (values entry))
      (λ entry few.
      let same = no_set_up (new_underlying_tests b.tables) (new_contract_tests b.tables) opening_tests (entry_tests b.tables b.account entry f) entry few in
      subst (λ (both : Verdict × List (Bool × ℕ)). Told both.0 both.1) (λ i. (sym (entry_verdict b f entry few) i, sym same i)) (entry_told entry))
      (λ row. underlying_told row b.tables)
      (λ row. contract_told row b.tables)
      opening_told

  pub record_number : (entry : Entry) → number_in (record_verdict b entry f) ≡ first (record_tests b entry f)
  unfolding record_verdict values
  record_number entry = (next (one (in_place b.stage (code_of (kind_of entry))) OutOfPlace (placed (kind_of entry) b.stage)) (values_told entry)).number

  -- each test of its list, and so its verdict, has one of the numbers that a run answers with
  tests_among : (entry : Entry) → Each (λ test. OneOf run_numbers test.1) (record_tests b entry f)
  tests_among (Entry·of.Deposit amount) = search
  tests_among (Entry·of.Withdraw amount) = search
  tests_among (Entry·of.Lock u units) = search
  tests_among (Entry·of.Unlock u units) = search
  tests_among (Entry·of.Order o) = search
  tests_among (Entry·of.Fill fill) = search
  tests_among (Entry·of.Cancel number) = search
  tests_among (Entry·of.DayEnd n m) = search
  tests_among Entry·of.Pay = search
  tests_among Entry·of.Drop = search
  tests_among (Entry·of.Underlying row) = search
  tests_among (Entry·of.Contract row) = search
  tests_among (Entry·of.Opening cash) = search

  pub verdict_among : (entry : Entry) → OneOf run_numbers (number_in (record_verdict b entry f))
  verdict_among entry = subst (OneOf run_numbers) (sym (record_number entry)) (first_among run_numbers (record_tests b entry f) refl (tests_among entry))

pub list_number : (t : Tables) (cash : ℕ) → number_in (list_verdict t cash) ≡ first (list_tests t cash)
unfolding list_verdict
list_number t cash =
    let underlyings : ℕ → Bool = λ u. underlying_allowed (underlying t u) in
    let contracts : ℕ → Bool = λ c. contract_allowed t.m (contract t c) in
    (next (one (ltb 0 t.n) OutOfPlace refl)
    (next
    (both (both (both (both
    (one (leb t.m 8) OutOfRange refl)
    (one (leb t.n 64) OutOfRange refl))
    (one (every t.m underlyings) OutOfRange (some_wrong t.m underlyings _ (λ u. row_wrong (underlyings u) _ (underlying_adds (underlying t u))))))
    (one (every t.n contracts) OutOfRange (some_wrong t.n contracts _ (λ c. row_wrong (contracts c) _ (contract_adds (contract t c) t.m)))))
    (one (cash ∈ range_of OpeningCash) OutOfRange refl))
    accepted)).number
