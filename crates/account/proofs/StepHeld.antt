-- An accepted entry leaves what is held as the sum of what holds it, within cash, on any tables: each kind has its reason, and a record of set-up is never accepted.
use mathlib.Core.Path.{◌≡◌}
use Rattle.std.specs.Prelude.{Ok}
use Rattle.terms.specs.Verdicts.{accept}
use Rattle.entries.specs.declared.entry.Entry.{Entry}
use Rattle.entries.specs.declared.entry.Entry.TheVariants.{Deposit, Withdraw, Lock, Unlock, Order, Fill, Cancel, DayEnd, Pay, Drop, Underlying, Contract, Opening}
use Rattle.entries.specs.declared.entry.Figures.{Figures}
use Rattle.account.specs.DayEnd.{figures_installed}
use Rattle.account.specs.Fills.{named}
use Rattle.account.specs.Locks.{lock_change, unlock_change}
use Rattle.account.specs.Steps.{account_after, refusal_of, tables_after}
use Rattle.account.specs.declared.account.Account.{Account}
use Rattle.account.specs.declared.tables.Tables.{Tables}
use Rattle.account.proofs.CancelSound.{cancel_held, cancel_there}
use Rattle.account.proofs.DayEndSound.{day_end_held}
use Rattle.account.proofs.Filled.{fill_held, fill_passed}
use Rattle.account.proofs.Held.{Held}
use Rattle.account.proofs.LockSound.{locking_held}
use Rattle.account.proofs.Ordered.{order_held}
use Rattle.account.proofs.Passed.{accepted_passed, facts_known, never}
use Rattle.account.proofs.TransferSound.{asked, deposit_held, drop_held, pay_held, withdraw_held}

pub accepted_held : (t : Tables) (a : Account) (entry : Entry) (f : Figures) → Held t a → refusal_of t a entry f ≡ accept → Held (tables_after t entry f) (account_after t a entry f)
unfolding refusal_of tables_after account_after lock_change unlock_change
accepted_held t a (Deposit amount) f held e = deposit_held held amount
accepted_held t a (Withdraw amount) f held e = withdraw_held held amount (asked a amount e)
accepted_held t a (Lock u units) f held e = locking_held held u _
accepted_held t a (Unlock u units) f held e = locking_held held u _
accepted_held t a (Order o) f held e = let p = accepted_passed t a o e in rw (facts_known t a o p.allowed) (order_held t a o held p)
accepted_held t a (Fill fill) f held e = fill_held t a fill held (fill_passed (named t a fill.number) fill e)
accepted_held t a (Cancel number) f held e = cancel_held t a number held (cancel_there t a number e)
accepted_held t a (DayEnd n m) f held e = day_end_held t (figures_installed t f) a held
accepted_held t a Pay f held e = pay_held held
accepted_held t a Drop f held e = drop_held held
accepted_held t a (Underlying row) f held e = absurd (never e)
accepted_held t a (Contract row) f held e = absurd (never e)
accepted_held t a (Opening cash) f held e = absurd (never e)
