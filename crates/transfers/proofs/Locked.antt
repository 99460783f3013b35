-- A lock and an unlock see how many underlyings the tables have, so they test what the definition tests; units that are allowed are of an underlying of the tables, whose rows they then see.
use mathlib.Core.Path.{◌≡◌, sym, ap, ◌∙◌}
use mathlib.Core.Bool.{Bool, true}
use Prim.Native.Nat.{ℕ, ◌≤◌, ◌<◌}
use native.Mathlib.Omega.{arith}
use borrow.Author.Tests.{ltb-true}
use lib.Dec.{ltb}
use Rattle.terms.specs.Ranges.{range_of, ◌∈◌}
use Rattle.terms.specs.declared.measure.Measure.TheVariants.{UnitsAtOnce}
use Rattle.terms.proofs.Ranges.{first_holds, second_holds, inside}
use Rattle.entries.specs.Names.{order_named, underlying_named}
use Rattle.entries.specs.declared.entry.Entry.{Entry}
use Rattle.account.specs.Fills.{place_of}
use Rattle.account.specs.Locks.{locking, units_allowed}
use Rattle.account.specs.Rows.{holding}
use Rattle.account.specs.Running.{running_in}
use Rattle.account.specs.Seen.{Sees, contract_for, seen_at}
use Rattle.account.specs.declared.account.Account.{Account}
use Rattle.account.specs.declared.judged.Seen.{Seen}
use Rattle.account.specs.declared.tables.Tables.{Tables}
use Rattle.account.proofs.SeenRows.{shown, underlying_shown}
use Rattle.transfers.specs.Locked.{allowed_among, locked_seen}

-- what is known of units that are allowed
pub record Allowed (t : Tables) (a : Account) (s : Seen) (u units : ℕ) : Type 0 where
  pub listed : u < t.m
  pub few : units ≤ 1_000_000_000
  pub locked : s.holding.locked.0 ≡ (holding a u).locked.0
  pub running : s.running ≡ running_in t a u
  pub changed : (to : ℕ → ℕ) → locked_seen s u (to s.holding.locked.0) ≡ locking a u (to (holding a u).locked.0)

-- found is what the code found of the first test
module _ {t : Tables} {a : Account} {e : Entry} {s : Seen} (sees : Sees t a e s) (u units : ℕ) {found : Bool} (is : found ≡ allowed_among s.m u units) where
  pub tests : found ≡ units_allowed t u units
  tests = is ∙ ap (λ (s : Seen). allowed_among s.m u units) (shown sees)

  module _ (passed : found ≡ true) (names : (of : ℕ) → underlying_named e of ≡ u) where
    there : u < t.m
    there = ltb-true _ _ (first_holds (ltb u t.m) (units ∈ range_of UnitsAtOnce) (sym tests ∙ passed))

    inside_rows : u < 8
    inside_rows = omega (arith, there, sees.sound.tables.few_underlyings)

    row : s ≡ seen_at t a (place_of a (order_named e)) (contract_for a e) u
    row = underlying_shown sees u names inside_rows

    pub known : Allowed t a s u units
    known =
        record {
          listed = there;
          few = (inside units (range_of UnitsAtOnce) (second_holds (ltb u t.m) _ (sym tests ∙ passed))).1;
          locked = ap (λ (s : Seen). s.holding.locked.0) row;
          running = ap (λ (s : Seen). s.running) row ∙ sees.sound.running u inside_rows;
          changed = λ to. ap (λ (s : Seen). locked_seen s u (to s.holding.locked.0)) row;
        }
