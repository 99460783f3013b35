-- A number's digits are those that std writes: both put the last digit behind the others, and 20 are enough for 64 bits. So a line is made of std's.
use Rattle.std.proofs.Common.{◌≡◌, refl, ap, ℕ, ℤ, pos, negsuc, suc, ◌<◌, ◌^◌, List, [], ◌∷◌, ◌++◌, w64, FitsSigned, arith}
use Rattle.std.specs.Fmt.{decimal as std·decimal, signed_decimal}
use Rattle.std.proofs.lemmas.Fmt.{decimal_from_appends, length-decimal-le}
use borrow.Author.Tests.{lt-ltb, le-ltb}
use Rattle.book.specs.Lines.{digits_in, decimal, signed, line_of}

pub decimal_is : (n : ℕ) → n < 2 ^ 64 → decimal n ≡ std·decimal n
unfolding decimal digits_in
decimal_is n h =
    decimal_from_appends digits_in (record { one = λ k n few. rw (lt-ltb n 10 few) refl; more = λ k n many. rw (le-ltb n 10 many) refl }) 20 n h
    (length-decimal-le 20 n (omega arith) (omega arith) h)

pub signed_is : (z : ℤ) → FitsSigned w64 z → signed z ≡ signed_decimal z
unfolding signed
signed_is (pos n) f = let small = f.sfits in decimal_is n (omega arith)
signed_is (negsuc n) f = let small = f.sfits in ap (λ (l : List ℕ). 45 ∷ l) (decimal_is (suc n) (omega arith))

pub line_is : (number refusal : ℕ) (available : ℤ) → number < 2 ^ 64 → refusal < 2 ^ 8
    → line_of number refusal available ≡ std·decimal number ++ 32 ∷ std·decimal refusal ++ 32 ∷ signed available ++ 10 ∷ []
unfolding line_of
line_is number refusal available n r = rw (decimal_is number n, decimal_is refusal (omega arith))
