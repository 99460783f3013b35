-- What an accepted entry changes, and the account after it: the one place that says how an account changes within the day (house).
use Rattle.std.specs.Prelude.{ℕ, set, Result, Ok, Err, Option, Some, None}
use Rattle.terms.specs.declared.refusal.Refusal.{Refusal}
use Rattle.account.specs.Rows.{free, no_position, no_holding, position, order}
use Rattle.account.specs.Running.{closing, closing_moved, closing_of, free_moved, ordered, running, running_moved, running_of}
use Rattle.terms.specs.declared.count.Position.{Position}
use Rattle.account.specs.declared.account.Account.{Account}
use Rattle.account.specs.declared.account.Holding.{Holding}
use Rattle.account.specs.declared.account.Resting.{Resting}
use Rattle.account.specs.declared.account.Sheet.{Sheet}
use Rattle.account.specs.declared.judged.Change.{Change}
use Rattle.account.specs.declared.judged.Decision.{Decision}
use Rattle.account.specs.declared.judged.Decision.TheVariants as Decision·of
use Rattle.terms.specs.Verdicts.{Verdict}
use Rattle.account.specs.declared.running.Running.{Running}

-- what waits after a change (house)
abbrev pub waiting_after : Option ℕ → ℕ → ℕ
waiting_after None before = before
waiting_after (Some amount) before = amount

-- the account with a change in it, and what is kept as it was (house)
abbrev pub written : Account → Change → Account
written a change =
    record {
      sheet = change.sheet;
      waiting = waiting_after change.waiting a.waiting;
      positions = set a.positions change.contract change.position;
      orders = set a.orders change.place change.order;
      holdings = set a.holdings change.underlying change.holding;
      running = a.running;
      closing = a.closing;
      free = a.free;
      last = change.last;
    }

-- what is kept, moved with a change: what stood at the contract and the place is taken off, what stands there is put on (#107)
abbrev pub running_after : Account → Change → Running
running_after a change =
    running_moved (running a change.underlying)
    (running_of (position a change.contract) (order a change.place) change.unit)
    (running_of change.position change.order change.unit)

abbrev pub closing_after : Account → Change → Position
closing_after a change =
    let old = order a change.place in
    closing_moved (closing a (ordered old change.order)) (closing_of old) (closing_of change.order)

-- the account after a change, whole (house)
unfoldable pub applied : Account → Change → Account
applied a change =
    let old = order a change.place in
    record {
      sheet = (written a change).sheet;
      waiting = (written a change).waiting;
      positions = (written a change).positions;
      orders = (written a change).orders;
      holdings = (written a change).holdings;
      running = set a.running change.underlying (running_after a change);
      closing = set a.closing (ordered old change.order) (closing_after a change);
      free = free_moved a.free change.place old change.order;
      last = (written a change).last;
    }

-- a change that moves no position: money, one place and one underlying's holding; 64 is past the last contract and names none (house)
abbrev pub without_position : Sheet → Option ℕ → ℕ → Resting → ℕ → ℕ → Holding → ℕ → Change
without_position sheet waiting place order unit underlying holding last =
    record {
      sheet = sheet;
      waiting = waiting;
      contract = 64;
      position = no_position;
      place = place;
      order = order;
      unit = unit;
      underlying = underlying;
      holding = holding;
      last = last;
    }

-- a change of money alone: 32 and 8 are past the last place and underlying and name none either (house)
abbrev pub of_sheet : Sheet → Option ℕ → ℕ → Change
of_sheet sheet waiting last = without_position sheet waiting 32 free 0 8 no_holding last

-- what is decided: the refusal, or the change of an accepted entry; of an accepted day end, that the day ends (house)
abbrev pub decided : Verdict → Change → Result Decision Refusal
decided (Ok tt) change = Ok (Decision·of.Changes change)
decided (Err why) change = Err why

abbrev pub ending : Verdict → Result Decision Refusal
ending (Ok tt) = Ok Decision·of.DayEnds
ending (Err why) = Err why
