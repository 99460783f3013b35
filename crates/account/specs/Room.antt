-- That what is kept can be moved: conditions of the functions that move it, which every accepted entry on a sound account meets, and no rules (house).
use Rattle.std.specs.Prelude.{ℕ, ◌^◌, ◌≤◌, ◌<◌}
use Rattle.terms.specs.declared.count.Position.{Position}
use Rattle.account.specs.Rows.{position, order}
use Rattle.account.specs.Running.{closing, closing_of, free_at, instead, ordered, running, running_of}
use Rattle.account.specs.declared.account.Account.{Account}
use Rattle.account.specs.declared.judged.Change.{Change}
use Rattle.account.specs.declared.running.Running.{Running}

-- what can be moved where numbers have so many binary digits: the old term is in the sum, and the new sum fits (house)
abbrev pub Moves : ℕ → ℕ → ℕ → ℕ → Type 0
Moves digits kept old new = (old ≤ kept) × (instead kept old new < 2 ^ digits)

pub record RunningMoves (kept old new : Running) : Type 0 where
  pub long : Moves 32 kept.long.0 old.long.0 new.long.0
  pub total : Moves 32 kept.total.0 old.total.0 new.total.0
  pub buys : Moves 32 kept.buys.0 old.buys.0 new.buys.0
  pub opens : Moves 32 kept.opens.0 old.opens.0 new.opens.0
  pub taken : Moves 64 kept.taken.0 old.taken.0 new.taken.0

pub record ClosingMoves (kept old new : Position) : Type 0 where
  pub long : Moves 32 kept.long.0 old.long.0 new.long.0
  pub short : Moves 32 kept.short.0 old.short.0 new.short.0
  pub covered : Moves 32 kept.covered.0 old.covered.0 new.covered.0

-- the two sums in what a position and an order count for fit (house)
abbrev pub RunningFits : Running → Type 0
RunningFits r = (r.total.0 < 2 ^ 32) × (r.taken.0 < 2 ^ 64)

-- what is kept can be moved with the change: what is taken off is there, and what comes out fits (house)
pub record Movable (a : Account) (change : Change) : Type 0 where
  pub running :
      RunningMoves (running a change.underlying) (running_of (position a change.contract) (order a change.place) change.unit) (running_of change.position change.order change.unit)
  pub closing : ClosingMoves (closing a (ordered (order a change.place) change.order)) (closing_of (order a change.place)) (closing_of change.order)
  pub free : change.place < 32 → Moves 32 a.free (free_at change.place (order a change.place)) (free_at change.place change.order)
