-- From one contract to a count of them.
use Rattle.std.specs.Prelude.{ℕ, ◌*◌}

-- "rounded for one contract and then multiplied by the count": margin and premium alike (article 20; 14 and 15 speak of each contract)
unfoldable pub for_count : ℕ → ℕ → ℕ
for_count n one = n * one
