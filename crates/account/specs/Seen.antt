-- What an entry sees of tables and account: the rows that it names, which are all that it is judged by (house).
use Rattle.std.specs.Prelude.{ℕ, cond, ◌≡◌, ltb}
use Rattle.entries.specs.Names.{contract_named, order_named, underlying_named}
use Rattle.entries.specs.declared.entry.Entry.{Entry}
use Rattle.account.specs.Fills.{place_of}
use Rattle.account.specs.Rows.{contract, holding, order, position, underlying}
use Rattle.account.specs.Running.{closing, running}
use Rattle.account.specs.Sound.{Sound}
use Rattle.account.specs.declared.account.Account.{Account}
use Rattle.account.specs.declared.judged.Seen.{Seen}
use Rattle.account.specs.declared.tables.Tables.{Tables}

-- the row of a number, of so many rows; a number that names none has the first (house)
abbrev pub row_of : ℕ → ℕ → ℕ
row_of rows n = cond (ltb n rows) n 0

-- the numbers of the rows that an entry names (house)
abbrev pub contract_for : Account → Entry → ℕ
contract_for a e = row_of 64 (contract_named e (order a (row_of 32 (place_of a (order_named e)))).contract)

abbrev pub underlying_for : Tables → Account → Entry → ℕ
underlying_for t a e = row_of 8 (underlying_named e (contract t (contract_for a e)).underlying)

-- what is seen at a place, a contract and an underlying (house)
abbrev pub seen_at : Tables → Account → ℕ → ℕ → ℕ → Seen
seen_at t a place c u =
    record {
      n = t.n;
      m = t.m;
      sheet = a.sheet;
      waiting = a.waiting;
      last = a.last;
      free = a.free;
      place = place;
      order = order a (row_of 32 place);
      contract = contract t c;
      position = position a c;
      closing = closing a c;
      limits = underlying t u;
      holding = holding a u;
      running = running a u;
    }

unfoldable pub seen_by : Tables → Account → Entry → Seen
seen_by t a e = seen_at t a (place_of a (order_named e)) (contract_for a e) (underlying_for t a e)

-- an entry sees so much of sound tables and a sound account (house)
pub record Sees (t : Tables) (a : Account) (e : Entry) (s : Seen) : Type 0 where
  pub sound : Sound t a
  pub is : s ≡ seen_by t a e

-- there are tables and an account of which it sees so much (house)
pub record SeenOf (e : Entry) (s : Seen) : Type 0 where
  pub tables : Tables
  pub account : Account
  pub sees : Sees tables account e s

-- what holds of all tables and accounts of which it sees so much (house)
abbrev pub Wherever : Entry → Seen → (Tables → Account → Type 0) → Type 0
Wherever e s P = (t : Tables) (a : Account) → Sees t a e s → P t a
