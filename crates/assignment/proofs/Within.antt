-- No account is assigned more than it has: a whole part is at most its net total, and one contract more goes only to a fraction, where the whole part is below it. Covered contracts go first, so what is uncovered of a share is what covered ones do not reach.
use mathlib.Core.Path.{◌≡◌, refl}
use mathlib.Core.List.{List}
use mathlib.Core.Logic.{◌⊎◌, inl, inr}
use Prim.Native.Nat.{ℕ, zero, suc, ◌+◌, ◌≤◌, ◌<◌}
use native.Mathlib.Omega.{arith}
use lib.ListN.{length, get_or}
use Rattle.assignment.specs.Assignment.{assigned, fraction, net_total, whole_part}
use Rattle.assignment.specs.Stated.{Stated}
use Rattle.assignment.proofs.Divided.{Allowed, whole_below, whole_within}
use Rattle.assignment.proofs.Served.{as_stated}

module _ (E : ℕ) (short covered : List ℕ) (ok : Allowed E short covered) where
  pub none_passes : (i : ℕ) → i < length short → get_or (assigned E short covered) i 0 ≤ net_total short covered i
  none_passes i there = go (stated.whole_first i there) (fraction E short covered i) refl
    where
      stated : Stated E short covered (assigned E short covered)
      stated = as_stated E short covered ok

      go : (get_or (assigned E short covered) i 0 ≡ whole_part E short covered i) ⊎ (get_or (assigned E short covered) i 0 ≡ whole_part E short covered i + 1) → (rest : ℕ) → fraction E short covered i ≡ rest → get_or (assigned E short covered) i 0 ≤ net_total short covered i
      go (inl e) rest f = let within = whole_within E short covered ok i in omega (arith, e, within)
      go (inr e) zero f = let none = stated.no_fraction i there f in absurd (omega (arith, e, none))
      go (inr e) (suc k) f = let below = whole_below E short covered ok i (omega (arith, f)) in omega (arith, e, below)
