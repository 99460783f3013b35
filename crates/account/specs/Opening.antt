-- The account at its opening (Records, kind 18; Refusal numbers, 6: the last accepted number is 0 at opening).
use Rattle.std.specs.Prelude.{ℕ, replicate}
use Rattle.account.specs.Rows.{free, no_position, no_holding}
use Rattle.account.specs.Running.{all_free, no_running}
use Rattle.account.specs.declared.account.Account.{Account}

-- cash alone; nothing waits, and 64 positions, 32 places and 8 holdings with nothing in them, and so nothing kept of them (Numbers)
abbrev pub opening : ℕ → Account
opening cash =
    record {
      sheet = record { cash = cash; premium = 0; holds = 0; margin = 0 };
      waiting = 0;
      positions = replicate 64 no_position;
      orders = replicate 32 free;
      holdings = replicate 8 no_holding;
      running = replicate 8 no_running;
      closing = replicate 64 no_position;
      free = all_free;
      last = 0;
    }
