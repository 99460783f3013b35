-- A line is 32 bytes at most: its number has six digits at most, a refusal's three, and available 19 and a minus; two spaces and the end are three more.
use Rattle.std.proofs.Common.{◌≡◌, ℕ, ℤ, pos, negsuc, ◌+◌, ◌^◌, ◌≤◌, ◌<◌, length, w64, FitsSigned, arith}
use Rattle.std.proofs.Math.ListN.{length-append}
use Rattle.std.proofs.lemmas.Fmt.{length-decimal-le, length_signed_le}
use Rattle.book.specs.Lines.{decimal, line_of, signed}
use Rattle.book.proofs.Decimal.{decimal_is, signed_is}

pub length_line : (number refusal : ℕ) (available : ℤ)
    → length (line_of number refusal available) ≡ length (decimal number) + length (decimal refusal) + length (signed available) + 3
unfolding line_of
length_line number refusal available = simp length-append (omega arith)

length_signed : (z : ℤ) → FitsSigned w64 z → length (signed z) ≤ 20
length_signed (pos n) f = let small = f.sfits in rw (signed_is (pos n) f) (length_signed_le 19 (pos n) (omega arith) (omega arith))
length_signed (negsuc n) f = let small = f.sfits in rw (signed_is (negsuc n) f) (length_signed_le 19 (negsuc n) (omega arith) (omega arith))

pub line_within : (number refusal : ℕ) (available : ℤ) → number < 1000000 → refusal < 2 ^ 8 → FitsSigned w64 available → length (line_of number refusal available) ≤ 32
line_within number refusal available n r f =
    let long = length_line number refusal available in
    let numbers : length (decimal number) ≤ 6 = rw (decimal_is number (omega arith)) (length-decimal-le 6 number (omega arith) (omega arith) (omega arith)) in
    let refusals : length (decimal refusal) ≤ 3 = rw (decimal_is refusal (omega arith)) (length-decimal-le 3 refusal (omega arith) (omega arith) (omega arith)) in
    let sums = length_signed available f in
    omega arith
