-- Demand 3: "Two accounts whose tables differ at most in the limits, the second with X fen more and limits at least as high: where the first accepts a whole list (and the ceiling holds with X added), the second accepts it too, and after each entry both hold the same positions, orders, margin and locked units, the second exactly X more available."
use Rattle.std.specs.Prelude.{List, ◌≡◌, ℕ, ◌+◌, ◌≤◌, pos, ◌+ℤ◌, Ok}
use Rattle.terms.specs.Verdicts.{accept}
use Rattle.entries.specs.declared.entry.Entry.{Entry}
use Rattle.entries.specs.declared.entry.Figures.{Figures}
use Rattle.entries.specs.declared.entry.Underlying.{Underlying}
use Rattle.account.specs.Money.{available_of}
use Rattle.account.specs.Rows.{holding, underlying}
use Rattle.account.specs.declared.account.Account.{Account}
use Rattle.account.specs.declared.account.Sheet.{Sheet}
use Rattle.account.specs.declared.judged.Outcome.{Outcome}
use Rattle.account.specs.declared.tables.Tables.{Tables}
use Rattle.demands.specs.Each.{Each, EachPair}

-- an underlying's row beside another that differs at most in limits at least as high
pub record Roomier (p q : Underlying) : Type 0 where
  pub class : p.class ≡ q.class
  pub close : p.close ≡ q.close
  pub rights : p.rights ≤ q.rights
  pub total : p.total ≤ q.total
  pub daily : p.daily ≤ q.daily

-- "tables differ at most in the limits .. limits at least as high"
pub record RoomierTables (t t' : Tables) : Type 0 where
  pub contracts : t.contracts ≡ t'.contracts
  pub n : t.n ≡ t'.n
  pub m : t.m ≡ t'.m
  pub rows : (u : ℕ) → Roomier (underlying t u) (underlying t' u)

-- "the second with X fen more" in cash, all else the same
abbrev pub richer_sheet : ℕ → Sheet → Sheet
richer_sheet X s = record { cash = s.cash + X; premium = s.premium; holds = s.holds; margin = s.margin }

abbrev pub richer : ℕ → Account → Account
richer X a =
    record {
      sheet = richer_sheet X a.sheet;
      waiting = a.waiting;
      positions = a.positions;
      orders = a.orders;
      holdings = a.holdings;
      running = a.running;
      closing = a.closing;
      free = a.free;
      last = a.last;
    }

-- "the ceiling holds with X added": cash and covered premium
abbrev pub RoomFor : ℕ → Account → Type 0
RoomFor X a = a.sheet.cash + a.sheet.premium + X ≤ 1_000_000_000_000_000

-- "both hold the same positions, orders, margin and locked units, the second exactly X more available"; "the waiting amounts are equal too" (#101)
pub record XMore (X : ℕ) (first second : Account) : Type 0 where
  pub positions : second.positions ≡ first.positions
  pub orders : second.orders ≡ first.orders
  pub waiting : second.waiting ≡ first.waiting
  pub margin : second.sheet.margin ≡ first.sheet.margin
  pub locked : (u : ℕ) → (holding second u).locked ≡ (holding first u).locked
  pub available : available_of second.sheet ≡ available_of first.sheet +ℤ pos X

-- "the second accepts it too", and what both then hold
pub record Likewise (X : ℕ) (first second : Outcome) : Type 0 where
  pub accepted : second.verdict ≡ accept
  pub account : XMore X first.account second.account

-- a desk: of tables, opening cash and a list of entries with their figures, what each entry leads to (house)
abbrev pub Desk : Type 0
Desk = Tables → ℕ → List (Entry × Figures) → List Outcome

-- demand 3, asked of a desk
abbrev pub Gift : Desk → Type 0
Gift desk =
    (X cash : ℕ) (t t' : Tables) (entries : List (Entry × Figures)) → RoomierTables t t'
    → Each (λ first. first.verdict ≡ accept) (desk t cash entries)
    → Each (λ first. RoomFor X first.account) (desk t cash entries)
    → EachPair (Likewise X) (desk t cash entries) (desk t' (cash + X) entries)
