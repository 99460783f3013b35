-- Desks that demand 3 alone would let through ("What the proofs owe"), and the list on tables and cash that shows each of them.
use Rattle.std.specs.Prelude.{List, [], ◌∷◌, map, ◌≡◌, ℕ, ℤ, length, replicate, set, Ok, Err}
use Rattle.terms.specs.declared.class.Class.TheVariants.{Fund}
use Rattle.terms.specs.declared.kind.OrderKind.TheVariants.{BuyOpen}
use Rattle.terms.specs.declared.refusal.Refusal.{Refusal}
use Rattle.terms.specs.declared.right.Right.TheVariants.{Call}
use Rattle.entries.specs.Entries.{no_figures}
use Rattle.entries.specs.declared.entry.Contract.{Contract}
use Rattle.entries.specs.declared.entry.Entry.{Entry}
use Rattle.entries.specs.declared.entry.Entry.TheVariants.{Deposit, Order}
use Rattle.entries.specs.declared.entry.Figures.{Figures}
use Rattle.entries.specs.declared.entry.Underlying.{Underlying}
use Rattle.account.specs.DayEnd.{daily_zero}
use Rattle.account.specs.Money.{available_of}
use Rattle.account.specs.Opening.{opening}
use Rattle.account.specs.Rows.{no_contract, no_underlying}
use Rattle.account.specs.Steps.{run_by, step}
use Rattle.terms.specs.Verdicts.{number_in, accept}
use Rattle.account.specs.declared.account.Account.{Account}
use Rattle.account.specs.declared.judged.Outcome.{Outcome}
use Rattle.terms.specs.Verdicts.{Verdict}
use Rattle.account.specs.declared.tables.Tables.{Tables}
use Rattle.desk.proofs.run_list.Reads as run_list
use Rattle.demands.specs.Gift.{Desk, richer}
use Rattle.demands.specs.Records.{records_of}

-- "one with a single fixed answer": one verdict, and one made-up account with the opening's cash in it
abbrev pub always_same : Verdict → Account → Desk
always_same v made t cash entries = map (λ entry. record { verdict = v; tables = t; account = richer cash made }) entries

-- "a version that refuses everything"
abbrev pub refuses_all : Refusal → Desk
refuses_all why = always_same (Err why) (opening 0)

-- "one that accepts and books nothing"
abbrev pub books_nothing : Desk
books_nothing = always_same accept (opening 0)

-- "one that books the first entry and pretends after"
abbrev pub pretends : Desk
pretends t cash [] = []
pretends t cash (e ∷ es) =
    let first = step t (opening cash) e.0 e.1 in
    first ∷ map (λ entry. record { verdict = accept; tables = first.tables; account = first.account }) es

-- "a made-up daily count": each entry is stepped as if nothing had been bought today
abbrev pub forgets_daily : Desk
forgets_daily t cash entries = run_by (λ t a e f. step t (daily_zero a) e f) t (opening cash) entries

-- the input: a fund with limits 20, 50 and 1, a call on it, and 600,000 fen
abbrev pub shown_tables : Tables
shown_tables =
    let fund : Underlying = record { class = Fund; close = 25_000; rights = 20; total = 50; daily = 1 } in
    let call : Contract = record { underlying = 0; right = Call; strike = 26_000; unit = 10_000; settlement = 500 } in
    record { underlyings = set (replicate 8 no_underlying) 0 fund; m = 1; contracts = set (replicate 64 no_contract) 0 call; n = 1 }

abbrev pub shown_cash : ℕ
shown_cash = 600_000

-- two deposits of 1 fen, then two buy opens of 1 contract at 1, of which the daily limit allows the first
abbrev pub shown_entries : List (Entry × Figures)
shown_entries =
    (Deposit 1, no_figures)
    ∷ (Deposit 1, no_figures)
    ∷ (Order (record { number = 1; contract = 0; kind = BuyOpen; quantity = 1; price = 1 }), no_figures)
    ∷ (Order (record { number = 2; contract = 0; kind = BuyOpen; quantity = 1; price = 1 }), no_figures)
    ∷ []

-- what a caller finds in the lent slices where a desk makes this of a list
pub record Tells (outcomes : List Outcome) (numbers : List ℕ) (sums : List ℤ) : Type 0 where
  pub each_number : numbers ≡ map (λ after. number_in after.verdict) outcomes
  pub each_sum : sums ≡ map (λ after. available_of after.account.sheet) outcomes

-- what holds of the two lent slices after every run of this input that the contract of running a list allows; each slice has a place for every entry
abbrev pub OnShown : (List ℕ → List ℤ → Type 0) → Type 0
OnShown Holds =
    (κs : _) (a : _) (r : _) (s : _) → run_list.Post κs a r s
    → let (tables, cash, bytes) : Tables × ℕ × List ℕ = (a.0, a.1.0, a.1.1.0.now) in
    let (places, places') : ℕ × ℕ = (length a.1.1.1.0.now, length a.1.1.1.1.0.now) in
    let (numbers, sums) : List ℕ × List ℤ = (s.1.1.1.0.now, s.1.1.1.1.0.now) in
    tables ≡ shown_tables → cash ≡ shown_cash → bytes ≡ records_of shown_entries → places ≡ 4 → places' ≡ 4 → Holds numbers sums

-- no such run tells what the desk makes of the list
abbrev pub ShutOut : Desk → Type 0
ShutOut desk = OnShown (λ numbers sums. Tells (desk shown_tables shown_cash shown_entries) numbers sums → ⊥)
