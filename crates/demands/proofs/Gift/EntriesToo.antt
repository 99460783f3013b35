-- What the first account accepts the richer one accepts too, entry by entry: roomier tables are the first's relisted, and on those each kind of entry has its reason.
use mathlib.Core.Path.{◌≡◌, subst}
use mathlib.Core.List.{List}
use Prim.Native.Nat.{ℕ}
use Rattle.std.specs.Prelude.{Ok}
use Rattle.terms.specs.Verdicts.{accept}
use Rattle.entries.specs.declared.entry.Entry.{Entry}
use Rattle.entries.specs.declared.entry.Entry.TheVariants.{Deposit, Withdraw, Lock, Unlock, Order, Fill, Cancel, DayEnd, Pay, Drop, Underlying, Contract, Opening}
use Rattle.entries.specs.declared.entry.Figures.{Figures}
use Rattle.entries.specs.declared.entry.Underlying as Given
use Rattle.account.specs.Steps.{account_after, refusal_of}
use Rattle.account.specs.declared.account.Account.{Account}
use Rattle.account.specs.declared.tables.Tables.{Tables}
use Rattle.account.proofs.Held.{Held}
use Rattle.account.proofs.Passed.{never}
use Rattle.demands.specs.Gift.{RoomFor, RoomierTables}
use Rattle.demands.proofs.Gift.DayEndToo.{day_end_too}
use Rattle.demands.proofs.Gift.FillToo.{fill_too, cancel_too}
use Rattle.demands.proofs.Gift.LocksToo.{lock_too, unlock_too}
use Rattle.demands.proofs.Gift.OrderToo.{order_too}
use Rattle.demands.proofs.Gift.Relisted.{Too, relisted, relisted_roomier, roomier_relisted}
use Rattle.demands.proofs.Gift.TransfersToo.{deposit_too, drop_too, pay_too, withdraw_too}

module _ (X : ℕ) (t : Tables) (rows : List Given.Underlying) (roomier : RoomierTables t (relisted t rows)) (a : Account) (held : Held t a) (f : Figures) where
  -- a set-up record is out of its place and never accepted
  each_too : (entry : Entry) → refusal_of t a entry f ≡ accept → RoomFor X (account_after t a entry f) → Too X t (relisted t rows) a entry f
  unfolding refusal_of
  each_too (Deposit amount) e room = deposit_too X t rows roomier a f amount e room
  each_too (Withdraw amount) e room = withdraw_too X t rows roomier a f amount e
  each_too (Lock u units) e room = lock_too X t rows roomier a f u units e
  each_too (Unlock u units) e room = unlock_too X t rows roomier a f u units e
  each_too (Order o) e room = order_too X t rows roomier a f o e
  each_too (Fill fill) e room = fill_too X t rows roomier a f held fill e room
  each_too (Cancel number) e room = cancel_too X t rows roomier a f number e
  each_too (DayEnd n m) e room = day_end_too X t rows roomier a f n m e
  each_too Pay e room = pay_too X t rows roomier a f held e
  each_too Drop e room = drop_too X t rows roomier a f e
  each_too (Underlying row) e room = absurd (never e)
  each_too (Contract row) e room = absurd (never e)
  each_too (Opening cash) e room = absurd (never e)

pub entry_too : (X : ℕ) (t t' : Tables) (a : Account) (entry : Entry) (f : Figures) → RoomierTables t t' → Held t a
    → refusal_of t a entry f ≡ accept → RoomFor X (account_after t a entry f) → Too X t t' a entry f
entry_too X t t' a entry f roomier held accepted room =
    subst (λ (tables : Tables). Too X t tables a entry f) (roomier_relisted roomier) (each_too X t t'.underlyings (relisted_roomier roomier) a held f entry accepted room)
