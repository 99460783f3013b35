-- The stage of a book and its contracts: it waits for underlyings as long as no contract was accepted, and no longer (Records).
use Rattle.std.specs.Prelude.{◌≡◌, ◌≤◌}
use Rattle.set_up.specs.declared.stages.Book.{Book}
use Rattle.set_up.specs.declared.stages.Stage.TheVariants.{Underlyings}

pub record Staged (b : Book) : Type 0 where
  pub none : b.stage ≡ Underlyings → b.tables.n ≡ 0
  pub some : (b.stage ≡ Underlyings → ⊥) → 1 ≤ b.tables.n
