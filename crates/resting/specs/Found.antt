-- What a number finds: the order that has it, with what it is judged by, or nothing.
use Rattle.std.specs.Prelude.{ℕ, cond, ltb, Option, Some, None}
use Rattle.entries.specs.declared.entry.Entry.TheVariants.{Cancel}
use Rattle.account.specs.Fills.{named, place_of}
use Rattle.account.specs.Seen.{SeenOf}
use Rattle.account.specs.declared.account.Account.{Account}
use Rattle.account.specs.declared.judged.Named.{Named}
use Rattle.account.specs.declared.judged.Seen.{Seen}
use Rattle.account.specs.declared.tables.Tables.{Tables}

unfoldable pub found_by : Tables → Account → ℕ → Option Named
found_by t a number = cond (ltb (place_of a number) 32) (Some (named t a number)) None

-- what a number sees: a fill sees what a cancel of its order does
pub record NumberSees (s : Seen) : Type 0 where
  pub number : ℕ
  pub of : SeenOf (Cancel number) s
