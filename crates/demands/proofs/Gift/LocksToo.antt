-- Locked and spare units, and the numbers of the tables, are the same on both accounts, and no money moves: so a lock and an unlock go as on the first.
use mathlib.Core.Path.{◌≡◌, refl}
use mathlib.Core.List.{List}
use Prim.Native.Nat.{ℕ}
use Rattle.std.specs.Prelude.{Ok}
use Rattle.terms.specs.Verdicts.{accept}
use Rattle.entries.specs.declared.entry.Entry.TheVariants.{Lock, Unlock}
use Rattle.entries.specs.declared.entry.Figures.{Figures}
use Rattle.entries.specs.declared.entry.Underlying.{Underlying}
use Rattle.account.specs.Changes.{applied}
use Rattle.account.specs.Locks.{lock_verdict, lock_change, unlock_verdict, unlock_change}
use Rattle.account.specs.Steps.{account_after, refusal_of, tables_after}
use Rattle.account.specs.Totals.{over_orders, covered_units, reserved_units, spare_units}
use Rattle.account.specs.declared.account.Account.{Account}
use Rattle.account.specs.declared.tables.Tables.{Tables}
use Rattle.demands.specs.Gift.{RoomierTables}
use Rattle.demands.proofs.Gift.Relisted.{Too, relisted}

module _ (X : ℕ) (t : Tables) (rows : List Underlying) (roomier : RoomierTables t (relisted t rows)) (a : Account) (f : Figures) (u units : ℕ) where
  pub lock_too : refusal_of t a (Lock u units) f ≡ accept → Too X t (relisted t rows) a (Lock u units) f
  unfolding refusal_of account_after tables_after applied lock_verdict lock_change
  lock_too e = record { accepted = e; account = refl; tables = roomier }

  pub unlock_too : refusal_of t a (Unlock u units) f ≡ accept → Too X t (relisted t rows) a (Unlock u units) f
  unfolding refusal_of account_after tables_after applied unlock_verdict unlock_change spare_units covered_units reserved_units over_orders
  unlock_too e = record { accepted = e; account = refl; tables = roomier }
