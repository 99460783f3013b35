-- A book stays sound: each accepted row was judged when it came, the opening was within its range, and from then on every entry is a step, which keeps an account sound.
use mathlib.Core.Path.{◌≡◌, refl, sym, ap, subst, ◌∙◌}
use mathlib.Core.Bool.{Bool, true, false, ◌&&◌, false≢true}
use Prim.Native.Nat.{ℕ, ◌+◌, ◌<◌}
use native.Mathlib.Omega.{arith}
use borrow.Author.Tests.{leb-true, lt-ltb, ltb-true}
use lib.Dec.{leb, ltb}
use lib.ListN.{length, length-set}
use Rattle.std.specs.Prelude.{Ok, Err}
use Rattle.terms.specs.Ranges.{range_of, unit_allowed, ◌∈◌}
use Rattle.terms.specs.declared.measure.Measure.TheVariants.{OpeningCash, Price, Settlement}
use Rattle.terms.specs.declared.refusal.Refusal.TheVariants.{OutOfPlace, OutOfRange}
use Rattle.terms.proofs.Ranges.{first_holds, inside, second_holds}
use Rattle.entries.specs.Entries.{kind_of}
use Rattle.entries.specs.Table.{code_of}
use Rattle.entries.specs.declared.entry.Contract as Contracts·of
use Rattle.entries.specs.declared.entry.Entry.{Entry}
use Rattle.entries.specs.declared.entry.Figures.{Figures}
use Rattle.entries.specs.declared.entry.Underlying as Underlyings·of
use Rattle.terms.specs.Listed.{every}
use Rattle.account.specs.Rows.{contract, no_contract, no_underlying}
use Rattle.account.specs.Sound.{Sound, SoundTables, contract_allowed, underlying_allowed}
use Rattle.account.specs.Steps.{account_after, outcome, refusal_of, step, tables_after}
use Rattle.terms.specs.Verdicts.{◌else◌then◌, accept}
use Rattle.account.specs.declared.judged.Outcome.{Outcome}
use Rattle.terms.specs.Verdicts.{Verdict}
use Rattle.account.specs.declared.tables.Tables.{Tables}
use Rattle.account.proofs.Bounds.{four}
use Rattle.terms.proofs.Listed.{each_passes}
use Rattle.account.proofs.OpeningSound.{opening_sound}
use Rattle.account.proofs.Passed.{went_on}
use Rattle.account.proofs.Rows.{row_added}
use Rattle.account.proofs.StepSound.{step_sound}
use Rattle.rows.specs.Given.{list_verdict, tables_allowed}
use Rattle.set_up.specs.Sound.{SoundBook}
use Rattle.set_up.specs.Stages.{book_after, contract_verdict, entered, entered_as, in_place, new_book, opened, record_verdict, underlying_verdict, with_contract, with_entry, with_underlying}
use Rattle.set_up.specs.declared.stages.Book.{Book}
use Rattle.set_up.specs.declared.stages.Stage.{Stage}
use Rattle.set_up.specs.declared.stages.Stage.TheVariants.{Underlyings, Contracts, Entries}
use Rattle.set_up.proofs.Entering.{after_entry, each_entry, entry_verdict, open_stage, verdict}

abbrev is_open : Stage → Bool
is_open Underlyings = false
is_open Contracts = false
is_open Entries = true

-- of a book that is not open only the tables are to be shown
not_open : (b : Book) → is_open b.stage ≡ false → SoundTables b.tables → SoundBook b
not_open b shut tables = record { tables = tables; account = λ stands. absurd (false≢true (sym shut ∙ ap is_open stands)) }

pub new_sound : SoundBook new_book
new_sound =
    not_open new_book refl (record {
      underlying_rows = refl;
      contract_rows = refl;
      few_underlyings = omega arith;
      few_contracts = omega arith;
      underlyings = λ u h. absurd (omega arith);
      contracts = λ c h. absurd (omega arith);
    })

opened_sound : (t : Tables) (cash : ℕ) → SoundTables t → (cash ∈ range_of OpeningCash) ≡ true → SoundBook (opened t cash)
opened_sound t cash tables within = record { tables = tables; account = λ stands. opening_sound t cash tables (inside cash (range_of OpeningCash) within).1 }

-- with one underlying more, a contract still has its own
still_allowed : (m : ℕ) (k : Contracts·of.Contract) → contract_allowed m k ≡ true → contract_allowed (m + 1) k ≡ true
still_allowed m k allowed =
    let others : Bool → Bool = λ there. there && (k.strike ∈ range_of Price) && unit_allowed k.unit && (k.settlement ∈ range_of Settlement) in
    let there = (four (ltb k.underlying m) (k.strike ∈ range_of Price) (unit_allowed k.unit) (k.settlement ∈ range_of Settlement) allowed).0 in
    let below : k.underlying < m = ltb-true _ _ there in
    ap others (lt-ltb k.underlying (m + 1) (omega arith) ∙ sym there) ∙ allowed

-- an accepted row was allowed, and there was room for it
had_room : (allowed : Bool) (rows most : ℕ) → (allowed && ltb rows most else OutOfRange then accept) ≡ accept → (allowed ≡ true) × (rows < most)
had_room allowed rows most accepted =
    let both = (went_on (allowed && ltb rows most) OutOfRange accept accepted).0 in
    (first_holds allowed (ltb rows most) both, ltb-true _ _ (second_holds allowed (ltb rows most) both))

module _ (b : Book) (s : SoundBook b) where
  underlying_sound : (row : Underlyings·of.Underlying) → underlying_verdict b.tables row ≡ accept → SoundBook (with_underlying b row)
  underlying_sound row accepted =
      let t = b.tables in
      let judged = had_room (underlying_allowed row) t.m 8 accepted in
      not_open (with_underlying b row) refl (record {
        underlying_rows = length-set t.underlyings t.m row ∙ s.tables.underlying_rows;
        contract_rows = s.tables.contract_rows;
        few_underlyings = omega arith;
        few_contracts = s.tables.few_contracts;
        underlyings = row_added (λ p. underlying_allowed p ≡ true) t.underlyings no_underlying t.m row (omega (arith, s.tables.underlying_rows)) judged.0 s.tables.underlyings;
        contracts = λ c h. still_allowed t.m (contract t c) (s.tables.contracts c h);
      })

  contract_sound : (row : Contracts·of.Contract) → contract_verdict b.tables row ≡ accept → SoundBook (with_contract b row)
  contract_sound row accepted =
      let t = b.tables in
      let judged = had_room (contract_allowed t.m row) t.n 64 accepted in
      not_open (with_contract b row) refl (record {
        underlying_rows = s.tables.underlying_rows;
        contract_rows = length-set t.contracts t.n row ∙ s.tables.contract_rows;
        few_underlyings = s.tables.few_underlyings;
        few_contracts = omega arith;
        underlyings = s.tables.underlyings;
        contracts = row_added (λ k. contract_allowed t.m k ≡ true) t.contracts no_contract t.n row (omega (arith, s.tables.contract_rows)) judged.0 s.tables.contracts;
      })

  module _ (f : Figures) where
    entry_sound : (entry : Entry) → code_of (kind_of entry) < 16 → in_place b.stage (code_of (kind_of entry)) ≡ true → refusal_of b.tables b.account entry f ≡ accept → SoundBook (with_entry b entry f)
    unfolding step
    entry_sound entry few placed accepted =
        let after : Verdict → Outcome = λ v. outcome v b.tables b.account (tables_after b.tables entry f) (account_after b.tables b.account entry f) in
        let before = s.account (open_stage b.stage (code_of (kind_of entry)) few placed) in
        let next = subst (λ (v : Verdict). Sound (after v).tables (after v).account) accepted (step_sound b.tables b.account entry f before) in
        record { tables = next.tables; account = λ stands. next }

    accepted_sound : (entry : Entry) → in_place b.stage (code_of (kind_of entry)) ≡ true → verdict b f entry ≡ accept → SoundBook (book_after b entry f)
    unfolding book_after
    accepted_sound =
        each_entry (λ entry. in_place b.stage (code_of (kind_of entry)) ≡ true → verdict b f entry ≡ accept → SoundBook (book_after b entry f))
        (λ entry few placed e. subst SoundBook (sym (after_entry b f entry few)) (entry_sound entry few placed (sym (entry_verdict b f entry few) ∙ e)))
        (λ row placed e. underlying_sound row e)
        (λ row placed e. contract_sound row e)
        (λ cash placed e. opened_sound b.tables cash s.tables (went_on _ OutOfRange accept e).0)

pub entered_sound : (b : Book) (entry : Entry) (f : Figures) → SoundBook b → SoundBook (entered b entry f).book
unfolding entered record_verdict
entered_sound b entry f s = go (record_verdict b entry f) refl
  where
    go : (v : Verdict) → record_verdict b entry f ≡ v → SoundBook (entered_as v b (book_after b entry f)).book
    go (Ok tt) e = let passed = went_on (in_place b.stage (code_of (kind_of entry))) OutOfPlace _ e in accepted_sound b s f entry passed.0 passed.1
    go (Err why) e = s

pub list_sound : (t : Tables) (cash : ℕ) → length t.underlyings ≡ 8 → length t.contracts ≡ 64 → list_verdict t cash ≡ accept → SoundBook (opened t cash)
unfolding list_verdict
list_sound t cash underlyings contracts accepted =
    let both = (went_on _ OutOfRange accept (went_on (ltb 0 t.n) OutOfPlace _ accepted).1).0 in
    let known = four (leb t.m 8) (leb t.n 64) (every t.m _) (every t.n _) (first_holds (tables_allowed t) _ both) in
    let tables : SoundTables t =
    record {
      underlying_rows = underlyings;
      contract_rows = contracts;
      few_underlyings = leb-true _ _ known.0;
      few_contracts = leb-true _ _ known.1;
      underlyings = each_passes t.m _ known.2;
      contracts = each_passes t.n _ known.3;
    } in
    opened_sound t cash tables (second_holds (tables_allowed t) (cash ∈ range_of OpeningCash) both)
