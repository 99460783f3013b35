-- The positions of a sound account are summed as the account's own margin, counts and covered units are, so their sums stay as small.
use Prim.Native.Nat.{ℕ, ◌<◌}
use native.Mathlib.Omega.{arith}
use Rattle.account.specs.Rows.{contract}
use Rattle.account.specs.Sound.{SoundTables, Sound}
use Rattle.account.specs.declared.account.Account.{Account}
use Rattle.account.specs.declared.tables.Tables.{Tables}
use Rattle.account.proofs.Bounds.{row_of_lem, count_so_far, margin_so_far, covered_so_far}
use Rattle.day_end.specs.Passes.{Summed, count_to, margin_to, units_to}

-- a contract's underlying has its row
pub row_inside : (t : Tables) → SoundTables t → (c : ℕ) → c < t.n → (contract t c).underlying < 8
row_inside t tables c there = omega (arith, (row_of_lem tables c there).underlying, tables.few_underlyings)

pub positions_summed : (t : Tables) (a : Account) → Sound t a → Summed t a.positions
unfolding margin_to units_to count_to
positions_summed t a sound = record { tables = sound.tables; margin = margin_so_far sound; units = λ k u. covered_so_far sound u k; counts = λ side k u. count_so_far sound side u k }
