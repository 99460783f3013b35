-- Two lists side by side: the second's tables are allowed because their limits are and all else is the first's, its cash because the ceiling holds with X added; both books are open from the start and stay so, so an entry alone is ever accepted, and both read the same.
use mathlib.Core.Path.{◌≡◌, refl, sym, ap, subst, ◌∙◌}
use mathlib.Core.Bool.{true, true≢false}
use mathlib.Core.List.{List}
use Prim.Native.Nat.{ℕ, ◌+◌, ◌≤◌, ◌<◌}
use native.Mathlib.Omega.{arith}
use lib.Dec.{leb, ltb}
use lib.ListN.{length}
use Rattle.std.specs.Prelude.{Ok}
use Rattle.terms.specs.Ranges.{◌to◌, range_of}
use Rattle.terms.specs.declared.measure.Measure.TheVariants.{OpeningCash}
use Rattle.terms.specs.declared.refusal.Refusal.TheVariants.{OutOfPlace, OutOfRange}
use Rattle.terms.proofs.Ranges.{both_hold, first_holds, inside, within}
use Rattle.entries.specs.Entries.{kind_of}
use Rattle.entries.specs.Table.{code_of}
use Rattle.entries.specs.declared.entry.Entry.{Entry}
use Rattle.entries.specs.declared.entry.Figures.{Figures}
use Rattle.entries.specs.declared.entry.Underlying as Underlyings·of
use Rattle.reading.specs.Reading.{read_at}
use Rattle.reading.specs.declared.Answer.TheVariants as Answer·of
use Rattle.terms.specs.Listed.{every}
use Rattle.account.specs.Opening.{opening}
use Rattle.account.specs.Rows.{underlying}
use Rattle.account.specs.Sound.{underlying_allowed}
use Rattle.terms.specs.Verdicts.{Verdict, accept}
use Rattle.account.specs.declared.tables.Tables.{Tables}
use Rattle.account.proofs.Bounds.{four}
use Rattle.terms.proofs.Listed.{all_pass}
use Rattle.account.proofs.OpeningSound.{opening_held}
use Rattle.account.proofs.Passed.{went_on}
use Rattle.rows.specs.Given.{list_verdict, tables_allowed}
use Rattle.set_up.specs.Stages.{Entered, entered, in_place, opened, record_verdict}
use Rattle.set_up.specs.declared.stages.Book.{Book}
use Rattle.set_up.specs.declared.stages.Stage.{Stage}
use Rattle.set_up.specs.declared.stages.Stage.TheVariants.{Entries}
use Rattle.set_up.proofs.Entering.{after_entry, entered_verdict}
use Rattle.desk.specs.Runs.{Ran, list_by, list_run, run_from}
use Rattle.desk.proofs.Places.{few_answers}
use Rattle.demands.specs.GiftRuns.{GivenBeside, same}
use Rattle.demands.proofs.Gift.BooksBeside.{Abreast, Room, both_pass, when_accepted}
use Rattle.demands.proofs.Gift.Relisted.{relisted, roomier_relisted}
use Rattle.demands.proofs.Gift.RunsBeside.{AllAccepted, InStep, ReadsOn, both_so, together}

-- the first's tables with other rows of underlyings, each of them allowed
relisted_too : (t : Tables) (rows : List Underlyings·of.Underlying) (cash cash' : ℕ) → ((u : ℕ) → u < t.m → underlying_allowed (underlying (relisted t rows) u) ≡ true)
    → cash' ≤ 1_000_000_000_000_000
    → list_verdict t cash ≡ accept → list_verdict (relisted t rows) cash' ≡ accept
unfolding list_verdict
relisted_too t rows cash cash' allowed room accepted =
    let some = went_on (ltb 0 t.n) OutOfPlace _ accepted in
    let both = (went_on _ OutOfRange accept some.1).0 in
    let known = four (leb t.m 8) (leb t.n 64) (every t.m _) (every t.n _) (first_holds (tables_allowed t) _ both) in
    let tables : tables_allowed (relisted t rows) ≡ true = both_hold _ _ (both_hold _ _ (both_hold _ _ known.0 known.1) (all_pass t.m _ allowed)) known.3 in
    both_pass _ OutOfPlace _ some.0 (both_pass _ OutOfRange accept (both_hold _ _ tables (within cash' (range_of OpeningCash) (omega arith) room)) refl)

given_too : (X : ℕ) (t t' : Tables) (cash cash' : ℕ) → GivenBeside X t t' cash cash' → cash + X ≤ 1_000_000_000_000_000 → list_verdict t cash ≡ accept → list_verdict t' cash' ≡ accept
given_too X t t' cash cash' beside room accepted =
    let same = roomier_relisted beside.tables in
    let allowed : (u : ℕ) → u < t.m → underlying_allowed (underlying (relisted t t'.underlyings) u) ≡ true = λ u h. beside.allowed u (omega (arith, h, beside.tables.m)) in
    subst (λ (tables : Tables). list_verdict tables cash' ≡ accept) same (relisted_too t t'.underlyings cash cash' allowed (omega (arith, room, beside.richer)) accepted)

opened_abreast : (X : ℕ) (t t' : Tables) (cash cash' : ℕ) → GivenBeside X t t' cash cash' → Abreast X (opened t cash) (opened t' cash')
opened_abreast X t t' cash cash' beside =
    record {
      stage = refl;
      tables = beside.tables;
      rows = λ waits. absurd (true≢false (sym waits));
      account = ap opening beside.richer;
      held = λ opens. opening_held t cash;
    }

-- set-up is out of its place in an open book, and an entry leaves it open
still_open : (b : Book) (f : Figures) (entry : Entry) → b.stage ≡ Entries → (entered b entry f).verdict ≡ accept → (code_of (kind_of entry) < 16) × ((entered b entry f).book.stage ≡ Entries)
unfolding record_verdict
still_open b f entry stands accepted =
    let kind = code_of (kind_of entry) in
    let passed = sym (entered_verdict b entry f) ∙ accepted in
    let placed = (went_on (in_place b.stage kind) OutOfPlace _ passed).0 in
    let few : kind < 16 = omega (arith, (inside kind (1 to 10) (subst (λ (stage : Stage). in_place stage kind ≡ true) stands placed)).1) in
    (few, ap (λ (after : Entered). after.book.stage) (when_accepted b entry f passed) ∙ ap (λ (after : Book). after.stage) (after_entry b f entry few))

same_reads : (X : ℕ) (s s' : List ℕ) → s' ≡ s → ReadsOn X s s' (λ place b. b.stage ≡ Entries)
same_reads X s s' bytes place b entry len stands there e accepted =
    let on = still_open b (read_at s place).figures entry stands accepted in
    let found : read_at s place ≡ record { answer = Answer·of.Found entry len; figures = (read_at s place).figures } = λ i. record { answer = e i; figures = (read_at s place).figures } in
    (entry, same entry (omega (arith, on.0)), ap (λ (bytes : List ℕ). read_at bytes place) bytes ∙ found, on.1)

-- a list that is not refused runs on its opened book
runs_opened : (t : Tables) (cash : ℕ) (s : List ℕ) → list_verdict t cash ≡ accept → (k : ℕ) → list_run t cash k s ≡ run_from k s 0 (opened t cash)
runs_opened t cash s accepted k = ap (λ (v : Verdict). list_by v t cash k s) accepted

pub list_few : (t : Tables) (cash : ℕ) (s : List ℕ) → list_verdict t cash ≡ accept → (n : ℕ) → length (list_run t cash n s).answers ≤ n
list_few t cash s accepted n = omega (arith, ap (λ (r : Ran). length r.answers) (runs_opened t cash s accepted n), few_answers n s 0 (opened t cash))

module _ (X n : ℕ) (t t' : Tables) (cash cash' : ℕ) (s s' : List ℕ) (beside : GivenBeside X t t' cash cash') (accepted : list_verdict t cash ≡ accept)
    (room : (i : ℕ) → i ≤ length (list_run t cash n s).answers → Room X (list_run t cash i s).book) where
  pub list_accepted : list_verdict t' cash' ≡ accept
  unfolding run_from
  list_accepted = given_too X t t' cash cash' beside (omega (arith, subst (λ (r : Ran). Room X r.book) (runs_opened t cash s accepted 0) (room 0 (omega arith)) refl)) accepted

  pub list_steps : s' ≡ s → AllAccepted (list_run t cash n s) → (k : ℕ) → k ≤ n → InStep X (list_run t cash k s) (list_run t' cash' k s')
  list_steps bytes all k few =
      let runs = runs_opened t cash s accepted in
      both_so (runs k) (runs_opened t' cash' s' list_accepted k)
      (together X s s' (ap length bytes) _ (same_reads X s s' bytes) k n few 0 (opened t cash) (opened t' cash') refl (opened_abreast X t t' cash cash' beside)
      (subst (λ (r : Ran). AllAccepted r) (runs n) all)
      (λ i many. subst (λ (r : Ran). Room X r.book) (runs i) (room i (omega (arith, many, ap (λ (r : Ran). length r.answers) (runs n))))))
