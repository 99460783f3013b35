-- A record of a book at its stage: "a book is kinds 16, then 17, then one 18, then kinds 1 to 8; only an accepted record moves this order on" (Records); kinds 9 and 10 are entries too (#101).
use Rattle.std.specs.Prelude.{ℕ, ◌+◌, Bool, ◌&&◌, ltb, replicate, set, Ok, Err}
use Rattle.terms.specs.Ranges.{range_of, ◌to◌, ◌∈◌}
use Rattle.terms.specs.declared.measure.Measure.TheVariants.{OpeningCash}
use Rattle.terms.specs.declared.refusal.Refusal.TheVariants.{OutOfRange, OutOfPlace}
use Rattle.entries.specs.Entries.{kind_of}
use Rattle.entries.specs.Table.{code_of}
use Rattle.entries.specs.declared.entry.Contract.{Contract}
use Rattle.entries.specs.declared.entry.Entry.{Entry}
use Rattle.entries.specs.declared.entry.Entry.TheVariants as Entry·of
use Rattle.entries.specs.declared.entry.Figures.{Figures}
use Rattle.entries.specs.declared.entry.Underlying.{Underlying}
use Rattle.account.specs.Opening.{opening}
use Rattle.account.specs.Rows.{no_contract, no_underlying}
use Rattle.account.specs.Sound.{contract_allowed, underlying_allowed}
use Rattle.account.specs.Steps.{account_after, refusal_of, tables_after}
use Rattle.terms.specs.Verdicts.{◌else◌then◌, accept}
use Rattle.terms.specs.Verdicts.{Verdict}
use Rattle.account.specs.declared.tables.Tables.{Tables}
use Rattle.set_up.specs.declared.stages.Book.{Book}
use Rattle.set_up.specs.declared.stages.Stage.{Stage}
use Rattle.set_up.specs.declared.stages.Stage.TheVariants.{Underlyings, Contracts, Entries}

-- no row yet (house)
abbrev pub no_tables : Tables
no_tables = record { underlyings = replicate 8 no_underlying; m = 0; contracts = replicate 64 no_contract; n = 0 }

-- a book before its first record, one that has its tables and waits for the opening, and one that is open (Records, kinds 16 to 18)
abbrev pub new_book : Book
new_book = record { stage = Underlyings; tables = no_tables; account = opening 0 }

abbrev pub waiting : Tables → Book
waiting t = record { stage = Contracts; tables = t; account = opening 0 }

abbrev pub opened : Tables → ℕ → Book
opened t cash = record { stage = Entries; tables = t; account = opening cash }

-- the kinds in their place at a stage: underlyings, until a contract ends them; contracts, until the opening ends them; entries. All else is "record out of its place, or an opening with no contract yet" (Refusal numbers, 5)
abbrev pub in_place : Stage → ℕ → Bool
in_place Underlyings kind = kind ∈ (16 to 17)
in_place Contracts kind = kind ∈ (17 to 18)
in_place Entries kind = kind ∈ (1 to 10)

-- something for each kind of set-up, by what its record carries, and for all other kinds (house)
abbrev pub by_set_up : {A : Type 0} → (Underlying → A) → (Contract → A) → (ℕ → A) → A → Entry → A
by_set_up for_underlying for_contract for_opening other (Entry·of.Deposit amount) = other
by_set_up for_underlying for_contract for_opening other (Entry·of.Withdraw amount) = other
by_set_up for_underlying for_contract for_opening other (Entry·of.Lock u units) = other
by_set_up for_underlying for_contract for_opening other (Entry·of.Unlock u units) = other
by_set_up for_underlying for_contract for_opening other (Entry·of.Order o) = other
by_set_up for_underlying for_contract for_opening other (Entry·of.Fill fill) = other
by_set_up for_underlying for_contract for_opening other (Entry·of.Cancel number) = other
by_set_up for_underlying for_contract for_opening other (Entry·of.DayEnd n m) = other
by_set_up for_underlying for_contract for_opening other Entry·of.Pay = other
by_set_up for_underlying for_contract for_opening other Entry·of.Drop = other
by_set_up for_underlying for_contract for_opening other (Entry·of.Underlying row) = for_underlying row
by_set_up for_underlying for_contract for_opening other (Entry·of.Contract row) = for_contract row
by_set_up for_underlying for_contract for_opening other (Entry·of.Opening cash) = for_opening cash

-- "a value outside its range .. a 9th underlying" (Refusal numbers, 4)
abbrev pub underlying_verdict : Tables → Underlying → Verdict
underlying_verdict t row = underlying_allowed row && ltb t.m 8 else OutOfRange then accept

-- "number not in the tables .. or 65th contract"; "a contract with no underlying before it is 4" (Refusal numbers, 4; Records)
abbrev pub contract_verdict : Tables → Contract → Verdict
contract_verdict t row = contract_allowed t.m row && ltb t.n 64 else OutOfRange then accept

-- "opening cash 0 to 10^15" (Numbers)
abbrev pub opening_verdict : ℕ → Verdict
opening_verdict cash = (cash ∈ range_of OpeningCash) else OutOfRange then accept

-- "5 first, then 4"; an entry's further checks are the step's (Refusal numbers)
unfoldable pub record_verdict : Book → Entry → Figures → Verdict
record_verdict b entry f =
    in_place b.stage (code_of (kind_of entry)) else OutOfPlace then
    by_set_up (underlying_verdict b.tables) (contract_verdict b.tables) opening_verdict (refusal_of b.tables b.account entry f) entry

-- "both numbered from 0 in record order": an accepted row takes the next number (Numbers)
abbrev pub with_underlying : Book → Underlying → Book
with_underlying b row =
    let t = b.tables in
    record {
      stage = Underlyings;
      tables = record { underlyings = set t.underlyings t.m row; m = t.m + 1; contracts = t.contracts; n = t.n };
      account = b.account;
    }

abbrev pub with_contract : Book → Contract → Book
with_contract b row =
    let t = b.tables in
    record {
      stage = Contracts;
      tables = record { underlyings = t.underlyings; m = t.m; contracts = set t.contracts t.n row; n = t.n + 1 };
      account = b.account;
    }

-- an entry steps tables and account (house)
abbrev pub with_entry : Book → Entry → Figures → Book
with_entry b entry f = record { stage = Entries; tables = tables_after b.tables entry f; account = account_after b.tables b.account entry f }

-- the book after an accepted record, at the stage of its kind (Records)
unfoldable pub book_after : Book → Entry → Figures → Book
book_after b entry f = by_set_up (with_underlying b) (with_contract b) (opened b.tables) (with_entry b entry f) entry

-- what a record leads to: the verdict, and the book after it (house)
pub record Entered : Type 0 where
  pub verdict : Verdict
  pub book : Book

-- "only an accepted record moves this order on"; "a refused set-up record takes no number"; "a refusal leaves the whole account equal" (Records; Refusal numbers)
abbrev pub entered_as : Verdict → Book → Book → Entered
entered_as (Ok tt) b after = record { verdict = accept; book = after }
entered_as (Err why) b after = record { verdict = Err why; book = b }

unfoldable pub entered : Book → Entry → Figures → Entered
entered b entry f = entered_as (record_verdict b entry f) b (book_after b entry f)
