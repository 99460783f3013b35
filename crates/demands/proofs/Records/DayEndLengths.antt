-- A day end's length fits exactly if some allowed counts give it: n and m figures of 4 bytes follow 8 bytes, so the lengths are the multiples of 4 from that of 1 and 1 to that of 64 and 8. For such a length let n be as many of its figures as leave one for m, up to 64, and m the rest.
use mathlib.Core.Path.{◌≡◌}
use mathlib.Core.Bool.{true}
use mathlib.Core.Logic.{◌↔◌}
use Prim.Native.Nat.{ℕ, ◌+◌, ◌-◌, ◌/◌, ◌%◌, min}
use native.Mathlib.Omega.{arith}
use borrow.Author.Tests.{eqb-true, eq-eqb}
use lib.Dec.{eqb}
use Rattle.terms.specs.Ranges.{range_of, ◌to◌, ◌∈◌}
use Rattle.terms.specs.declared.measure.Measure.TheVariants.{Contracts, Underlyings}
use Rattle.terms.proofs.Ranges.{first_holds, second_holds, inside, within}
use Rattle.entries.specs.Table.{length_of, counts_allowed, length_fits}
use Rattle.entries.specs.declared.kind.Kind.TheVariants.{DayEnd}
use Rattle.entries.proofs.Limits.{counts_inside}
use Rattle.entries.proofs.Runs.{total_fours}

pub day_end_lengths : (len : ℕ) → (length_fits DayEnd len ≡ true) ↔ ((n : ℕ) × (m : ℕ) × (counts_allowed n m ≡ true) × (length_of DayEnd n m ≡ len))
unfolding length_fits
day_end_lengths len =
    let lengths = length_of DayEnd 1 1 to length_of DayEnd 64 8 in
    let fours = eqb (len % 4) 0 in (
      λ fits.
          let ends = inside len lengths (first_holds (len ∈ lengths) fours fits) in
          let multiple = eqb-true (len % 4) 0 (second_holds (len ∈ lengths) fours fits) in
          let figures = len / 4 - 2 in
          let n = min (figures - 1) 64 in
          let m = figures - n in
          let contracts = within n (range_of Contracts) (omega arith) (omega arith) in
          let underlyings = within m (range_of Underlyings) (omega arith) (omega arith) in
          (n, m, rw (contracts, underlyings), omega (arith, total_fours (n + m))),
      λ (n, m, allowed, gives).
          let counts = counts_inside n m allowed in
          let figures = total_fours (n + m) in
          rw (within len lengths (omega arith) (omega arith), eq-eqb (len % 4) 0 (omega arith)),
    )
