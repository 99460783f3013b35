-- An entry on tables and account, and a list of them: the verdict, and tables and account after it (Refusal numbers; Records).
use Rattle.std.specs.Prelude.{cond, List, [], ◌∷◌, Ok, Err, None}
use Rattle.terms.specs.declared.refusal.Refusal.TheVariants.{OutOfPlace}
use Rattle.entries.specs.Entries.{kind_of}
use Rattle.entries.specs.Table.{is_day_end}
use Rattle.entries.specs.declared.entry.Entry.{Entry}
use Rattle.entries.specs.declared.entry.Entry.TheVariants.{Deposit, Withdraw, Lock, Unlock, Order, Fill, Cancel, DayEnd, Pay, Drop, Underlying, Contract, Opening}
use Rattle.entries.specs.declared.entry.Figures.{Figures}
use Rattle.account.specs.Changes.{applied, of_sheet}
use Rattle.account.specs.Checks.{order_verdict}
use Rattle.account.specs.DayEnd.{day_end_verdict, figures_installed, day_ended}
use Rattle.account.specs.Fills.{named, fill_verdict, fill_change, cancel_verdict, cancel_change}
use Rattle.account.specs.Locks.{lock_verdict, lock_change, unlock_verdict, unlock_change}
use Rattle.account.specs.Orders.{facts_of, order_change}
use Rattle.account.specs.Rows.{holding}
use Rattle.account.specs.Totals.{spare_units}
use Rattle.account.specs.Transfers.{deposit_verdict, deposit_change, withdraw_verdict, withdraw_change, payout_verdict, pay_change, drop_change}
use Rattle.account.specs.declared.account.Account.{Account}
use Rattle.account.specs.declared.judged.Change.{Change}
use Rattle.account.specs.declared.judged.Outcome.{Outcome}
use Rattle.terms.specs.Verdicts.{Verdict, accept}
use Rattle.account.specs.declared.tables.Tables.{Tables}

-- the verdict on an entry, once the account is open; "record out of its place": set-up has ended (Refusal numbers, 5)
unfoldable pub refusal_of : Tables → Account → Entry → Figures → Verdict
refusal_of t a (Deposit amount) f = deposit_verdict a.sheet amount
refusal_of t a (Withdraw amount) f = withdraw_verdict a.sheet a.waiting amount
refusal_of t a (Lock u units) f = lock_verdict t (holding a u) u units
refusal_of t a (Unlock u units) f = unlock_verdict t (spare_units t a u) u units
refusal_of t a (Order o) f = order_verdict (facts_of t a o) o
refusal_of t a (Fill fill) f = fill_verdict (named t a fill.number) fill
refusal_of t a (Cancel number) f = cancel_verdict (named t a number)
refusal_of t a (DayEnd n m) f = day_end_verdict t n m f
refusal_of t a Pay f = payout_verdict a.waiting
refusal_of t a Drop f = payout_verdict a.waiting
refusal_of t a (Underlying row) f = Err OutOfPlace
refusal_of t a (Contract row) f = Err OutOfPlace
refusal_of t a (Opening cash) f = Err OutOfPlace

-- what an accepted entry changes; a day end changes more than one row, and set-up has ended: of these no change is ever applied (house)
abbrev pub unchanged : Account → Change
unchanged a = of_sheet a.sheet None a.last

abbrev pub change_of : Tables → Account → Entry → Change
change_of t a (Deposit amount) = deposit_change a.sheet a.last amount
change_of t a (Withdraw amount) = withdraw_change a.sheet a.last amount
change_of t a (Lock u units) = lock_change a u units
change_of t a (Unlock u units) = unlock_change a u units
change_of t a (Order o) = order_change (facts_of t a o) o
change_of t a (Fill fill) = fill_change (named t a fill.number) fill
change_of t a (Cancel number) = cancel_change (named t a number)
change_of t a (DayEnd n m) = unchanged a
change_of t a Pay = pay_change a.sheet a.last a.waiting
change_of t a Drop = drop_change a.sheet a.last a.waiting
change_of t a (Underlying row) = unchanged a
change_of t a (Contract row) = unchanged a
change_of t a (Opening cash) = unchanged a

-- tables and account after an accepted entry: a day end alone installs new figures and goes through all rows, any other entry changes what it changes (Day end; house)
unfoldable pub tables_after : Tables → Entry → Figures → Tables
tables_after t entry f = cond (is_day_end (kind_of entry)) (figures_installed t f) t

unfoldable pub account_after : Tables → Account → Entry → Figures → Account
account_after t a entry f = cond (is_day_end (kind_of entry)) (day_ended (figures_installed t f) a) (applied a (change_of t a entry))

-- "a refusal leaves the whole account equal" (Refusal numbers)
abbrev pub outcome : Verdict → Tables → Account → Tables → Account → Outcome
outcome (Ok tt) t a t' a' = record { verdict = accept; tables = t'; account = a' }
outcome (Err why) t a t' a' = record { verdict = Err why; tables = t; account = a }

unfoldable pub step : Tables → Account → Entry → Figures → Outcome
step t a e f = outcome (refusal_of t a e f) t a (tables_after t e f) (account_after t a e f)

-- a list of entries, each with its figures, by what an entry leads to: what each of them leads to, one after the other (house)
abbrev pub run_by : (Tables → Account → Entry → Figures → Outcome) → Tables → Account → List (Entry × Figures) → List Outcome
run_by lead t a [] = []
run_by lead t a (e ∷ es) =
    let after = lead t a e.0 e.1 in
    after ∷ run_by lead after.tables after.account es

unfoldable pub run : Tables → Account → List (Entry × Figures) → List Outcome
run t a es = run_by step t a es
