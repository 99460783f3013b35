-- The sentences about the order of a book hold of its definitions: a record is judged by its stage first, and only an accepted one moves it.
use mathlib.Core.Path.{◌≡◌, refl, sym, ap, subst, ◌∙◌}
use mathlib.Core.Bool.{Bool, true, false, cond, and-false, true≢false}
use Prim.Native.Nat.{ℕ, ◌≤◌, ◌<◌}
use native.Mathlib.Omega.{arith}
use borrow.Author.Tests.{le-ltb}
use Rattle.std.specs.Prelude.{Ok, Err}
use Rattle.terms.specs.declared.refusal.Refusal.{Refusal}
use Rattle.terms.specs.declared.refusal.Refusal.TheVariants.{OutOfPlace, OutOfRange}
use Rattle.entries.specs.Entries.{kind_of}
use Rattle.entries.specs.Table.{code_of, is_day_end}
use Rattle.entries.specs.declared.entry.Contract as Contract·row
use Rattle.entries.specs.declared.entry.Entry.{Entry}
use Rattle.entries.specs.declared.entry.Entry.TheVariants.{Underlying, Contract, Opening}
use Rattle.entries.specs.declared.entry.Figures.{Figures}
use Rattle.entries.specs.declared.entry.Underlying as Underlying·row
use Rattle.account.specs.DayEnd.{figures_installed}
use Rattle.account.specs.Sound.{contract_allowed, underlying_allowed}
use Rattle.account.specs.Steps.{tables_after}
use Rattle.terms.specs.Verdicts.{Verdict}
use Rattle.account.specs.declared.tables.Tables.{Tables}
use Rattle.account.proofs.Passed.{went_on}
use Rattle.set_up.specs.Stages.{book_after, entered, entered_as, in_place, new_book, opened, record_verdict, with_contract, with_entry}
use Rattle.set_up.specs.declared.stages.Book.{Book}
use Rattle.set_up.specs.declared.stages.Stage.{Stage}
use Rattle.set_up.specs.declared.stages.Stage.TheVariants.{Underlyings, Contracts, Entries}
use Rattle.set_up.proofs.Entering.{after_entry, each_entry, open_stage}
use Rattle.demands.specs.Staged.{Staged}

module _ (b : Book) (f : Figures) where
  -- "record out of its place" is 5, whatever its values are
  pub out_of_place : (entry : Entry) → in_place b.stage (code_of (kind_of entry)) ≡ false → record_verdict b entry f ≡ Err OutOfPlace
  unfolding record_verdict
  out_of_place entry e = rw e refl

  -- "only an accepted record moves this order on"; "a refused set-up record takes no number"
  pub refused_stays : (entry : Entry) (why : Refusal) → record_verdict b entry f ≡ Err why → (entered b entry f).book ≡ b
  unfolding entered
  refused_stays entry why e = ap (λ (v : Verdict). (entered_as v b (book_after b entry f)).book) e

  -- "a contract with no underlying before it is 4"
  pub no_underlying_yet : (row : Contract·row.Contract) → in_place b.stage 17 ≡ true → b.tables.m ≡ 0 → record_verdict b (Contract row) f ≡ Err OutOfRange
  unfolding record_verdict
  no_underlying_yet row placed none = rw (placed, none, le-ltb row.underlying 0 (omega arith)) refl

  -- "a 9th underlying or 65th contract" is 4
  pub ninth_underlying : (row : Underlying·row.Underlying) → in_place b.stage 16 ≡ true → b.tables.m ≡ 8 → record_verdict b (Underlying row) f ≡ Err OutOfRange
  unfolding record_verdict
  ninth_underlying row placed all = rw (placed, all, and-false (underlying_allowed row)) refl

  pub sixty_fifth_contract : (row : Contract·row.Contract) → in_place b.stage 17 ≡ true → b.tables.n ≡ 64 → record_verdict b (Contract row) f ≡ Err OutOfRange
  unfolding record_verdict
  sixty_fifth_contract row placed all = rw (placed, all, and-false (contract_allowed b.tables.m row)) refl

-- an accepted entry leaves as many contracts as there were
same_contracts : (t : Tables) (f : Figures) (entry : Entry) → (tables_after t entry f).n ≡ t.n
unfolding tables_after figures_installed
same_contracts t f entry = go (is_day_end (kind_of entry))
  where
    go : (ends : Bool) → (cond ends (figures_installed t f) t).n ≡ t.n
    go true = refl
    go false = refl

abbrev waits_for_rows : Stage → Bool
waits_for_rows Underlyings = true
waits_for_rows Contracts = false
waits_for_rows Entries = false

-- an underlying is in its place at the first stage alone, an opening at the second
first_stage : (stage : Stage) → in_place stage 16 ≡ true → stage ≡ Underlyings
first_stage Underlyings placed = refl
first_stage Contracts placed = absurd (true≢false (sym placed))
first_stage Entries placed = absurd (true≢false (sym placed))

second_stage : (stage : Stage) → in_place stage 18 ≡ true → waits_for_rows stage ≡ false
second_stage Underlyings placed = absurd (true≢false (sym placed))
second_stage Contracts placed = refl
second_stage Entries placed = refl

-- of another stage there is a contract
past : (b : Book) → waits_for_rows b.stage ≡ false → 1 ≤ b.tables.n → Staged b
past b on few = record { none = λ waits. absurd (true≢false (sym (ap waits_for_rows waits) ∙ on)); some = λ never. few }

module _ (b : Book) (so : Staged b) where
  had_one : waits_for_rows b.stage ≡ false → 1 ≤ b.tables.n
  had_one on = so.some (λ waits. true≢false (sym (ap waits_for_rows waits) ∙ on))

  -- "an opening with no contract yet" is 5
  pub no_contract_yet : (cash : ℕ) (f : Figures) → b.tables.n ≡ 0 → record_verdict b (Opening cash) f ≡ Err OutOfPlace
  no_contract_yet cash f none = out_of_place b f (Opening cash) (go b.stage refl)
    where
      go : (stage : Stage) → b.stage ≡ stage → in_place stage 18 ≡ false
      go Underlyings e = refl
      go Contracts e = absurd (omega (arith, had_one (ap waits_for_rows e), none))
      go Entries e = refl

  module _ (f : Figures) where
    entry_staged : (entry : Entry) → code_of (kind_of entry) < 16 → in_place b.stage (code_of (kind_of entry)) ≡ true → Staged (with_entry b entry f)
    entry_staged entry few placed =
        past (with_entry b entry f) refl (subst (λ (n : ℕ). 1 ≤ n) (sym (same_contracts b.tables f entry)) (had_one (ap waits_for_rows (open_stage b.stage (code_of (kind_of entry)) few placed))))

    after_staged : (entry : Entry) → in_place b.stage (code_of (kind_of entry)) ≡ true → Staged (book_after b entry f)
    unfolding book_after
    after_staged =
        each_entry (λ entry. in_place b.stage (code_of (kind_of entry)) ≡ true → Staged (book_after b entry f))
        (λ entry few placed. subst Staged (sym (after_entry b f entry few)) (entry_staged entry few placed))
        (λ row placed. record { none = λ waits. so.none (first_stage b.stage placed); some = λ never. absurd (never refl) })
        (λ row placed. past (with_contract b row) refl (omega arith))
        (λ cash placed. past (opened b.tables cash) refl (had_one (second_stage b.stage placed)))

    pub entered_staged : (entry : Entry) → Staged (entered b entry f).book
    unfolding entered record_verdict
    entered_staged entry = go (record_verdict b entry f) refl
      where
        go : (v : Verdict) → record_verdict b entry f ≡ v → Staged (entered_as v b (book_after b entry f)).book
        go (Ok tt) e = after_staged entry (went_on (in_place b.stage (code_of (kind_of entry))) OutOfPlace _ e).0
        go (Err why) e = so

pub new_staged : Staged new_book
new_staged = record { none = λ waits. refl; some = λ never. absurd (never refl) }
