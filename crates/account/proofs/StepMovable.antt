-- What is kept can be moved with the change of every accepted entry: an order, a fill and a cancel change one contract's rows, of which what is kept is the sum; all other entries move nothing of it.
use mathlib.Core.Path.{◌≡◌, sym, subst}
use mathlib.Core.Logic.{◌⊎◌, inl, inr}
use Prim.Native.Nat.{ℕ, ◌≤◌, ◌<◌}
use native.Mathlib.Omega.{arith}
use lib.ListN.{get_or-eq_default}
use Rattle.std.specs.Prelude.{Ok, Option}
use Rattle.terms.specs.Verdicts.{accept}
use Rattle.entries.specs.declared.entry.Entry.{Entry}
use Rattle.entries.specs.declared.entry.Entry.TheVariants.{Deposit, Withdraw, Lock, Unlock, Order, Fill, Cancel, DayEnd, Pay, Drop, Underlying, Contract, Opening}
use Rattle.entries.specs.declared.entry.Figures.{Figures}
use Rattle.account.specs.Changes.{without_position}
use Rattle.account.specs.Room.{Movable}
use Rattle.account.specs.Fills.{named}
use Rattle.account.specs.Locks.{lock_verdict, unlock_verdict, lock_change, unlock_change}
use Rattle.account.specs.Rows.{free, no_position, order, position}
use Rattle.account.specs.Running.{no_running, running}
use Rattle.account.specs.Sound.{Sound}
use Rattle.account.specs.Steps.{change_of, refusal_of}
use Rattle.account.specs.Transfers.{deposit_change, withdraw_change, pay_change, drop_change}
use Rattle.account.specs.declared.account.Account.{Account}
use Rattle.account.specs.declared.account.Holding.{Holding}
use Rattle.account.specs.declared.account.Sheet.{Sheet}
use Rattle.account.specs.declared.tables.Tables.{Tables}
use Rattle.account.proofs.CancelSound.{cancel_fits, cancel_sound, cancel_there}
use Rattle.account.proofs.FillSound.{fill_fits, fill_sound}
use Rattle.account.proofs.Filled.{fill_passed}
use Rattle.account.proofs.Instead.{RunningSmall, closing_still, running_still}
use Rattle.account.proofs.LockSound.{known}
use Rattle.account.proofs.Movement.{change_movable, closing_small, running_small}
use Rattle.account.proofs.OrderSound.{order_fits, order_sound}
use Rattle.account.proofs.Passed.{accepted_passed, facts_known, never}

module _ (t : Tables) (a : Account) (s : Sound t a) where
  -- of an underlying of the tables, and past the last one, what is kept is small
  kept_small : (u : ℕ) → (u < t.m) ⊎ (8 ≤ u) → RunningSmall (running a u)
  kept_small u (inl there) = rw (s.running u (omega (arith, there, s.tables.few_underlyings))) (running_small s u there)
  kept_small u (inr past) = subst RunningSmall (sym (get_or-eq_default a.running no_running (omega (arith, past, s.running_rows)))) (record { long = omega arith; total = omega arith; buys = omega arith; opens = omega arith; taken = omega arith })

  still : (sheet : Sheet) (waiting : (Option ℕ)) (u : ℕ) (h : Holding) → (u < t.m) ⊎ (8 ≤ u) → Movable a (without_position sheet waiting 32 free 0 u h a.last)
  still sheet waiting u h where_to =
      let no_order : order a 32 ≡ free = get_or-eq_default a.orders free (omega (arith, s.order_rows)) in
      let no_position_lem : position a 64 ≡ no_position = s.no_more_positions 64 s.tables.few_contracts in
      record {
        running = rw (no_order, no_position_lem) (running_still (kept_small u where_to));
        closing = rw (no_order, s.closing 0 (omega arith)) (closing_still (closing_small s 0));
        free = λ inside. absurd (omega (arith, inside));
      }

  pub accepted_movable : (entry : Entry) (f : Figures) → refusal_of t a entry f ≡ accept → Movable a (change_of t a entry)
  unfolding refusal_of lock_verdict unlock_verdict deposit_change withdraw_change pay_change drop_change lock_change unlock_change
  accepted_movable (Deposit amount) f e = still _ _ 8 _ (inr (omega arith))
  accepted_movable (Withdraw amount) f e = still _ _ 8 _ (inr (omega arith))
  accepted_movable (Lock u units) f e = still _ _ u _ (inl (known t a u units _ e).0)
  accepted_movable (Unlock u units) f e = still _ _ u _ (inl (known t a u units _ e).0)
  accepted_movable (Order o) f e =
      let p = accepted_passed t a o e in
      let sound = order_sound t a o s e in
      rw (facts_known t a o p.allowed) (change_movable t a _ s (order_fits t a o s p) (rw (facts_known t a o p.allowed) at sound))
  accepted_movable (Fill fill) f e = change_movable t a _ s (fill_fits t a fill s (fill_passed (named t a fill.number) fill e)) (fill_sound t a fill s e)
  accepted_movable (Cancel number) f e = change_movable t a _ s (cancel_fits t a number s (cancel_there t a number e)) (cancel_sound t a number s e)
  accepted_movable (DayEnd n m) f e = still _ _ 8 _ (inr (omega arith))
  accepted_movable Pay f e = still _ _ 8 _ (inr (omega arith))
  accepted_movable Drop f e = still _ _ 8 _ (inr (omega arith))
  accepted_movable (Underlying row) f e = absurd (never e)
  accepted_movable (Contract row) f e = absurd (never e)
  accepted_movable (Opening cash) f e = absurd (never e)
