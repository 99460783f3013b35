-- A deposit leaves the richer account within the ceiling, since there is room for as much more after it; what is asked for is within the first's available, and so within the second's, and as much waits on both; the first's cash reaches for it, so paying it moves the cash of both by the same.
use mathlib.Core.Path.{◌≡◌, refl, ap}
use mathlib.Core.Bool.{true}
use mathlib.Core.List.{List}
use Prim.Native.Nat.{ℕ, ◌+◌}
use native.Mathlib.Omega.{arith}
use lib.Dec.{eqb}
use lib.IntN.{pos}
use lib.Signed.{le_z}
use Rattle.std.specs.Prelude.{Ok}
use Rattle.terms.specs.Verdicts.{accept}
use Rattle.terms.specs.Ranges.{range_of, ◌∈◌}
use Rattle.terms.specs.declared.measure.Measure.TheVariants.{Money}
use Rattle.terms.specs.declared.refusal.Refusal.TheVariants.{OutOfRange, CeilingPassed, AvailablePassed, AlreadyWaiting}
use Rattle.entries.specs.declared.entry.Entry.TheVariants.{Deposit, Withdraw, Pay, Drop}
use Rattle.entries.specs.declared.entry.Figures.{Figures}
use Rattle.entries.specs.declared.entry.Underlying.{Underlying}
use Rattle.account.specs.Changes.{applied}
use Rattle.account.specs.Money.{available_of}
use Rattle.account.specs.Steps.{account_after, refusal_of, tables_after}
use Rattle.account.specs.Transfers.{amount_allowed, deposit_verdict, deposit_change, withdraw_verdict, withdraw_change, pay_change, drop_change}
use Rattle.account.specs.declared.account.Account.{Account}
use Rattle.account.specs.declared.tables.Tables.{Tables}
use Rattle.account.proofs.Available.{more_cash}
use Rattle.account.proofs.Held.{Held, waiting_paid}
use Rattle.demands.specs.Gift.{RoomFor, RoomierTables, richer_sheet}
use Rattle.demands.proofs.Gift.ChecksToo.{check_too, within_more, within_ceiling}
use Rattle.demands.proofs.Gift.Relisted.{Too, with_cash, relisted}

module _ (X : ℕ) (t : Tables) (rows : List Underlying) (roomier : RoomierTables t (relisted t rows)) (a : Account) (f : Figures) (amount : ℕ) where
  pub deposit_too : refusal_of t a (Deposit amount) f ≡ accept → RoomFor X (account_after t a (Deposit amount) f) → Too X t (relisted t rows) a (Deposit amount) f
  unfolding refusal_of account_after tables_after applied deposit_verdict deposit_change
  deposit_too e room =
      let s = a.sheet in
      let richly = within_ceiling (s.cash + X + s.premium + amount) (omega arith) in
      record {
        accepted =
            check_too (amount_allowed amount) _ OutOfRange _ _ (λ same. same)
            (check_too (s.cash + s.premium + amount ∈ range_of Money) _ CeilingPassed _ _ (λ less. richly) (λ same. same)) e;
        account = ap (with_cash (account_after t a (Deposit amount) f)) (omega arith);
        tables = roomier;
      }

  pub withdraw_too : refusal_of t a (Withdraw amount) f ≡ accept → Too X t (relisted t rows) a (Withdraw amount) f
  unfolding refusal_of account_after tables_after applied withdraw_verdict withdraw_change
  withdraw_too e =
      let s = a.sheet in
      let more : le_z (pos amount) (available_of s) ≡ true → le_z (pos amount) (available_of (richer_sheet X s)) ≡ true =
      λ passed. rw (more_cash a.sheet X) (within_more amount X (available_of s) passed) in
      record {
        accepted =
            check_too (amount_allowed amount) _ OutOfRange _ _ (λ same. same)
            (check_too (eqb a.waiting 0) _ AlreadyWaiting _ _ (λ same. same)
            (check_too (le_z (pos amount) (available_of s)) _ AvailablePassed _ _ more (λ same. same))) e;
        account = refl;
        tables = roomier;
      }

module _ (X : ℕ) (t : Tables) (rows : List Underlying) (roomier : RoomierTables t (relisted t rows)) (a : Account) (f : Figures) where
  pub pay_too : Held t a → refusal_of t a Pay f ≡ accept → Too X t (relisted t rows) a Pay f
  unfolding refusal_of account_after tables_after applied pay_change
  pay_too held e = record { accepted = e; account = ap (with_cash (account_after t a Pay f)) (omega (arith, waiting_paid held)); tables = roomier }

  pub drop_too : refusal_of t a Drop f ≡ accept → Too X t (relisted t rows) a Drop f
  unfolding refusal_of account_after tables_after applied drop_change
  drop_too e = record { accepted = e; account = refl; tables = roomier }
