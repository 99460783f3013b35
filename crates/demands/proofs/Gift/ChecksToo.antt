-- A check that the first account passes the richer one passes too, by limits that are no lower and by room that is left; so what is accepted after one check and the rest is accepted too.
use mathlib.Core.Path.{◌≡◌, refl, sym}
use mathlib.Core.Bool.{Bool, true, false, ◌||◌, true≢false}
use Prim.Native.Nat.{ℕ, ◌+◌, ◌≤◌}
use native.Mathlib.Nat.{le_trans}
use native.Mathlib.Omega.{arith}
use borrow.Author.Tests.{leb-true, le-leb}
use lib.Dec.{leb}
use lib.IntN.{ℤ, pos, negsuc, ◌+ℤ◌}
use lib.Signed.{le_z}
use Rattle.std.specs.Prelude.{Ok}
use Rattle.terms.specs.Ranges.{range_of, ◌∈◌}
use Rattle.terms.specs.declared.measure.Measure.TheVariants.{Money}
use Rattle.terms.specs.declared.refusal.Refusal.{Refusal}
use Rattle.terms.specs.Verdicts.{◌else◌then◌, accept}
use Rattle.terms.specs.Verdicts.{Verdict}
use Rattle.terms.proofs.Ranges.{within}
use Rattle.account.proofs.Passed.{went_on}

-- a check that is passed too, before a verdict that is accepted too
pub check_too : (test test' : Bool) (why : Refusal) (rest rest' : Verdict) → (test ≡ true → test' ≡ true) → (rest ≡ accept → rest' ≡ accept)
    → (test else why then rest) ≡ accept → (test' else why then rest') ≡ accept
check_too test test' why rest rest' passes accepts e =
    let first = went_on test why rest e in
    rw (passes first.0) (accepts first.1)

-- a check that only some meet
pub unless_too : (unmet test test' : Bool) → (test ≡ true → test' ≡ true) → unmet || test ≡ true → unmet || test' ≡ true
unless_too true test test' too e = refl
unless_too false test test' too e = too e

-- what passes a limit passes a higher one
pub under_higher : (x low high : ℕ) → low ≤ high → leb x low ≡ true → leb x high ≡ true
under_higher x low high h e = le-leb x high (le_trans (leb-true x low e) h)

pub within_more : (hold X : ℕ) (available : ℤ) → le_z (pos hold) available ≡ true → le_z (pos hold) (available +ℤ pos X) ≡ true
within_more hold X (pos n) e = under_higher hold n (n + X) (omega arith) e
within_more hold X (negsuc n) e = absurd (true≢false (sym e))

pub within_ceiling : (sum : ℕ) → sum ≤ 1_000_000_000_000_000 → (sum ∈ range_of Money) ≡ true
within_ceiling sum h = within sum (range_of Money) (omega arith) h
