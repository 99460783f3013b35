-- What a run leaves: what the caller is told, and what both slices hold.
use Rattle.std.specs.Prelude.{◌≡◌, ℕ, List, ℤ}
use Rattle.terms.specs.Verdicts.{Verdict}
use Rattle.desk.specs.Runs.{Ran, numbers_left, sums_left, told}
use Rattle.desk.specs.declared.Run.{Run}

abbrev pub Leaves : Verdict → Ran → Run → List ℕ → List ℕ → List ℤ → List ℤ → Type 0
Leaves v run r numbers₀ numbers sums₀ sums = (r ≡ told v run) × ((numbers ≡ numbers_left run numbers₀) × (sums ≡ sums_left run sums₀))
