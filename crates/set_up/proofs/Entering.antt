-- A record goes by its verdict: a check that fails refuses it and leaves the book as it was, and where none fails the book is the one after it. An entry, whose number is below 16, is in its place only in an open book, and goes by what is said of all kinds but set-up's.
use mathlib.Core.Path.{◌≡◌, refl}
use mathlib.Core.Bool.{true}
use Prim.Native.Nat.{ℕ, ◌<◌}
use native.Mathlib.Omega.{arith}
use Rattle.std.specs.Prelude.{Ok, Err}
use Rattle.terms.specs.Ranges.{◌to◌}
use Rattle.terms.proofs.Ranges.{inside}
use Rattle.entries.specs.Entries.{kind_of}
use Rattle.entries.specs.Table.{code_of}
use Rattle.entries.specs.declared.entry.Contract as Contracts·of
use Rattle.entries.specs.declared.entry.Entry.{Entry}
use Rattle.entries.specs.declared.entry.Entry.TheVariants.{Deposit, Withdraw, Lock, Unlock, Order, Fill, Cancel, DayEnd, Pay, Drop, Underlying, Contract, Opening}
use Rattle.entries.specs.declared.entry.Figures.{Figures}
use Rattle.entries.specs.declared.entry.Underlying as Underlyings·of
use Rattle.account.specs.Steps.{refusal_of}
use Rattle.terms.specs.Verdicts.{Verdict}
use Rattle.set_up.specs.Stages.{book_after, by_set_up, contract_verdict, entered, entered_as, in_place, opened, opening_verdict, record_verdict, underlying_verdict, with_contract, with_entry, with_underlying}
use Rattle.set_up.specs.declared.stages.Book.{Book}
use Rattle.set_up.specs.declared.stages.Stage.{Stage}
use Rattle.set_up.specs.declared.stages.Stage.TheVariants.{Underlyings, Contracts, Entries}

-- the verdict on a record in its place
abbrev pub verdict : Book → Figures → Entry → Verdict
verdict b f entry = by_set_up (underlying_verdict b.tables) (contract_verdict b.tables) opening_verdict (refusal_of b.tables b.account entry f) entry

pub open_stage : (stage : Stage) (kind : ℕ) → kind < 16 → in_place stage kind ≡ true → stage ≡ Entries
open_stage Underlyings kind few placed = absurd (omega (arith, inside kind (16 to 17) placed))
open_stage Contracts kind few placed = absurd (omega (arith, inside kind (17 to 18) placed))
open_stage Entries kind few placed = refl

-- set-up says nothing of an entry: what is asked of its records is answered as for all other kinds
abbrev Unsaid : Entry → Type 1
Unsaid entry =
    (A : Type 0) (underlying : Underlyings·of.Underlying → A) (contract : Contracts·of.Contract → A) (opening : ℕ → A) (other : A) → by_set_up underlying contract opening other entry ≡ other

-- an entry of the account, of which set-up says nothing, or one of the three records of set-up
told_apart : (P : Entry → Type 0) → ((entry : Entry) → code_of (kind_of entry) < 16 → Unsaid entry → P entry) → ((row : Underlyings·of.Underlying) → P (Underlying row))
    → ((row : Contracts·of.Contract) → P (Contract row)) → ((cash : ℕ) → P (Opening cash)) → (entry : Entry) → P entry
told_apart P booked underlying contract opening (Deposit amount) = booked (Deposit amount) (omega arith) (λ A u c o other. refl)
told_apart P booked underlying contract opening (Withdraw amount) = booked (Withdraw amount) (omega arith) (λ A u c o other. refl)
told_apart P booked underlying contract opening (Lock u units) = booked (Lock u units) (omega arith) (λ A u c o other. refl)
told_apart P booked underlying contract opening (Unlock u units) = booked (Unlock u units) (omega arith) (λ A u c o other. refl)
told_apart P booked underlying contract opening (Order o) = booked (Order o) (omega arith) (λ A u c o other. refl)
told_apart P booked underlying contract opening (Fill fill) = booked (Fill fill) (omega arith) (λ A u c o other. refl)
told_apart P booked underlying contract opening (Cancel number) = booked (Cancel number) (omega arith) (λ A u c o other. refl)
told_apart P booked underlying contract opening (DayEnd n m) = booked (DayEnd n m) (omega arith) (λ A u c o other. refl)
told_apart P booked underlying contract opening Pay = booked Pay (omega arith) (λ A u c o other. refl)
told_apart P booked underlying contract opening Drop = booked Drop (omega arith) (λ A u c o other. refl)
told_apart P booked underlying contract opening (Underlying row) = underlying row
told_apart P booked underlying contract opening (Contract row) = contract row
told_apart P booked underlying contract opening (Opening cash) = opening cash

pub each_entry : (P : Entry → Type 0) → ((entry : Entry) → code_of (kind_of entry) < 16 → P entry) → ((row : Underlyings·of.Underlying) → P (Underlying row))
    → ((row : Contracts·of.Contract) → P (Contract row)) → ((cash : ℕ) → P (Opening cash)) → (entry : Entry) → P entry
each_entry P booked = told_apart P (λ entry few unsaid. booked entry few)

pub no_set_up : {A : Type 0} (underlying : Underlyings·of.Underlying → A) (contract : Contracts·of.Contract → A) (opening : ℕ → A) (other : A) (entry : Entry)
    → code_of (kind_of entry) < 16 → by_set_up underlying contract opening other entry ≡ other
no_set_up {A} underlying contract opening other =
    told_apart (λ entry. code_of (kind_of entry) < 16 → by_set_up underlying contract opening other entry ≡ other)
    (λ entry few unsaid below. unsaid A underlying contract opening other)
    (λ row below. absurd (omega arith))
    (λ row below. absurd (omega arith))
    (λ cash below. absurd (omega arith))

module _ (b : Book) (f : Figures) (entry : Entry) (few : code_of (kind_of entry) < 16) where
  pub entry_verdict : verdict b f entry ≡ refusal_of b.tables b.account entry f
  entry_verdict = no_set_up (underlying_verdict b.tables) (contract_verdict b.tables) opening_verdict (refusal_of b.tables b.account entry f) entry few

  pub after_entry : book_after b entry f ≡ with_entry b entry f
  unfolding book_after
  after_entry = no_set_up (with_underlying b) (with_contract b) (opened b.tables) (with_entry b entry f) entry few

-- a record's verdict is told as it is
pub entered_verdict : (b : Book) (entry : Entry) (f : Figures) → (entered b entry f).verdict ≡ record_verdict b entry f
unfolding entered
entered_verdict b entry f = go (record_verdict b entry f)
  where
    go : (v : Verdict) → (entered_as v b (book_after b entry f)).verdict ≡ v
    go (Ok tt) = refl
    go (Err why) = refl
