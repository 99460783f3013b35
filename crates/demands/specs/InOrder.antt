-- The refusals of reading, of writing, of a record of a book and of what a list starts from, each as one list in document 01's order and numbers ("Refusal numbers", its table and last paragraphs; "Numbers"): the first test that holds gives the number. Those of an open account's entries are the account's.
use Rattle.std.specs.Prelude.{Bool, true, false, not, ◌&&◌, List, [], ◌∷◌, ◌++◌, ℕ, ◌%◌, ltb, eqb, length, Result, Ok, Err}
use Rattle.terms.specs.Codes.{not_listed}
use Rattle.terms.specs.declared.unlisted.Unlisted.{Unlisted}
use Rattle.entries.specs.Entries.{entry_of, kind_of}
use Rattle.entries.specs.Table.{code_of, is_day_end, length_fits, counts_fit}
use Rattle.entries.specs.declared.entry.Contract.{Contract}
use Rattle.entries.specs.declared.entry.Entry.{Entry}
use Rattle.entries.specs.declared.entry.Figures.{Figures}
use Rattle.entries.specs.declared.entry.Underlying.{Underlying}
use Rattle.entries.specs.declared.kind.Kind.{Kind}
use Rattle.reading.specs.Reading.{length_at, n_at, m_at, fields_at}
use Rattle.writing.specs.Writing.{length_for, counts_barred}
use Rattle.account.specs.Checks.{member}
use Rattle.account.specs.InOrder.{◌above◌, entry_tests, first, outside, some}
use Rattle.account.specs.Rows.{contract, underlying}
use Rattle.account.specs.declared.tables.Tables.{Tables}
use Rattle.set_up.specs.Stages.{by_set_up}
use Rattle.set_up.specs.declared.stages.Book.{Book}
use Rattle.set_up.specs.declared.stages.Stage.{Stage}
use Rattle.set_up.specs.declared.stages.Stage.TheVariants.{Underlyings, Contracts, Entries}

abbrev pub code_unlisted : Result Entry Unlisted → Bool
code_unlisted (Ok entry) = false
code_unlisted (Err none) = true

abbrev pub kind_unlisted : Result Kind Unlisted → Bool
kind_unlisted (Ok kind) = false
kind_unlisted (Err none) = true

-- a question about the kind; one that is not listed has been refused before it is asked
abbrev pub asked : Result Kind Unlisted → (Kind → Bool) → Bool
asked (Ok kind) question = question kind
asked (Err none) question = false

-- reading, of the bytes from the place on and the kind that they say
abbrev pub reading_tests : List ℕ → Result Kind Unlisted → List (Bool × ℕ)
reading_tests r said =
    (ltb (length r) 4, 1)  -- "fewer than 4 bytes 1"
    ∷ (kind_unlisted said, 2)  -- "then 2"
    ∷ (asked said (λ kind. not (length_fits kind (length_at r))), 3)  -- "then a length that can't fit 3"
    ∷ (asked said (λ kind. is_day_end kind && ltb (length r) 8), 1)  -- "kind 8 with fewer than 8 bytes 1"
    ∷ (asked said (λ kind. is_day_end kind && not (counts_fit (n_at r) (m_at r) (length_at r))), 3)  -- "its counts out of range or unlike the length 3"
    ∷ (ltb (length r) (length_at r), 1)  -- "fewer bytes than the length 1"
    ∷ (asked said (λ kind. code_unlisted (entry_of kind (fields_at kind r))), 3)  -- "codes 3"
    ∷ []

-- writing, into a buffer of a size
abbrev pub writing_tests : Entry → ℕ → List (Bool × ℕ)
writing_tests entry size =
    (counts_barred entry, 3)  -- "a day end with n or m out of range 3"
    ∷ (ltb size (length_for entry), 17)  -- "then 17"
    ∷ []

-- "a book is kinds 16, then 17, then one 18, then kinds 1 to 8", and 9 and 10 (#101): what is in its place at a stage, its own kinds and that which ends it
abbrev pub due : Stage → List ℕ
due Underlyings = 16 ∷ 17 ∷ []
due Contracts = 17 ∷ 18 ∷ []
due Entries = 1 ∷ 2 ∷ 3 ∷ 4 ∷ 5 ∷ 6 ∷ 7 ∷ 8 ∷ 9 ∷ 10 ∷ []

-- the values of an underlying's row, and of a contract's beside m underlyings
abbrev pub underlying_tests : Underlying → List (Bool × ℕ)
underlying_tests row =
    (outside 1 10_000_000 row.close, 4)  -- "prior close .. 1 to 10,000,000"
    ∷ (outside 0 10_000 row.rights, 4)  -- "limits 0 to 10,000"
    ∷ (outside 0 10_000 row.total, 4)  -- "limits 0 to 10,000"
    ∷ (outside 0 10_000 row.daily, 4)  -- "limits 0 to 10,000"
    ∷ []

abbrev pub contract_tests : ℕ → Contract → List (Bool × ℕ)
contract_tests m row =
    (not (ltb row.underlying m), 4)  -- "number not in the tables"
    ∷ (outside 1 10_000_000 row.strike, 4)  -- "strike .. 1 to 10,000,000"
    ∷ (outside 100 100_000 row.unit, 4)  -- "contract unit 100 to 100,000"
    ∷ (not (eqb (row.unit % 100) 0), 4)  -- "a multiple of 100"
    ∷ (outside 0 10_000_000 row.settlement, 4)  -- "settlement price 0 to 10,000,000 (zero is a price)"
    ∷ []

abbrev pub opening_tests : ℕ → List (Bool × ℕ)
opening_tests cash =
    (outside 0 1_000_000_000_000_000 cash, 4)  -- "opening cash 0 to 10^15"
    ∷ []

-- set-up, by the tables so far
abbrev pub new_underlying_tests : Tables → Underlying → List (Bool × ℕ)
new_underlying_tests t row = underlying_tests row ++ (not (ltb t.m 8), 4) ∷ []  -- "a 9th underlying"

abbrev pub new_contract_tests : Tables → Contract → List (Bool × ℕ)
new_contract_tests t row = contract_tests t.m row ++ (not (ltb t.n 64), 4) ∷ []  -- "65th contract"

-- a record of a book: "5 first, then 4", and an entry's own
abbrev pub record_tests : Book → Entry → Figures → List (Bool × ℕ)
record_tests b entry f =
    (not (member (code_of (kind_of entry)) (due b.stage)), 5)  -- "record out of its place, or an opening with no contract yet"
    ∷ by_set_up (new_underlying_tests b.tables) (new_contract_tests b.tables) opening_tests (entry_tests b.tables b.account entry f) entry

-- is something wrong with a row: does one of its tests hold?
abbrev pub wrong : List (Bool × ℕ) → Bool
wrong tests = not (eqb (first tests) 0)

-- tables and cash that are given whole, as a list's are
abbrev pub list_tests : Tables → ℕ → List (Bool × ℕ)
list_tests t cash =
    (not (ltb 0 t.n), 5)  -- "an opening with no contract yet"
    ∷ (t.m above 8, 4)  -- "up to 8 underlyings"
    ∷ (t.n above 64, 4)  -- "64 contracts"
    ∷ (some t.m (λ u. wrong (underlying_tests (underlying t u))), 4)  -- the values of each underlying
    ∷ (some t.n (λ c. wrong (contract_tests t.m (contract t c))), 4)  -- and of each contract
    ∷ opening_tests cash
