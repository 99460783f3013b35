-- The rows that are read at the numbers found are those that an entry sees: a row of some rows is inside them, and each number is found as the definition says.
use mathlib.Core.Path.{◌≡◌, refl}
use mathlib.Core.Bool.{Bool, true, false, cond}
use Prim.Native.Nat.{ℕ, ◌<◌}
use borrow.Author.Tests.{ltb-true}
use lib.Dec.{ltb}
use Rattle.entries.specs.Names.{contract_named, order_named, underlying_named}
use Rattle.entries.specs.declared.entry.Entry.{Entry}
use Rattle.account.specs.Fills.{place_of}
use Rattle.account.specs.Rows.{contract, holding, order, position, underlying}
use Rattle.account.specs.Running.{closing, running}
use Rattle.account.specs.Seen.{row_of, seen_by}
use Rattle.account.specs.declared.account.Account.{Account}
use Rattle.account.specs.declared.tables.Tables.{Tables}
use Rattle.gathering.specs.Places.{place_among}

pub row_inside : (rows n row : ℕ) → 0 < rows → row ≡ row_of rows n → row < rows
row_inside rows n row some e = rw e (go (ltb n rows) refl)
  where
    go : (b : Bool) → ltb n rows ≡ b → cond b n 0 < rows
    go true below = ltb-true n rows below
    go false not_below = some

pub rows_read : (t : Tables) (a : Account) (e : Entry) (number place i rests c of u : ℕ)
    → number ≡ order_named e → place ≡ place_among a.orders number → i ≡ row_of 32 place → rests ≡ contract_named e (order a i).contract → c ≡ row_of 64 rests
    → of ≡ underlying_named e (contract t c).underlying → u ≡ row_of 8 of
    → record {
      n = t.n;
      m = t.m;
      sheet = a.sheet;
      waiting = a.waiting;
      last = a.last;
      free = a.free;
      place = place;
      order = order a i;
      contract = contract t c;
      position = position a c;
      closing = closing a c;
      limits = underlying t u;
      holding = holding a u;
      running = running a u;
    }
    ≡ seen_by t a e
unfolding seen_by place_of
rows_read t a e number place i rests c of u numbered placed at names row_c names_u row_u = rw (row_u, names_u, row_c, names, at, placed, numbered) refl
