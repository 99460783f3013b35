-- The text that the book program prints, as ASCII: "a line for each record: record number from 1, refusal number or 0, available" (Figures to meet).
use Rattle.std.specs.Prelude.{ℕ, zero, suc, ◌+◌, ◌/◌, ◌%◌, cond, List, [], ◌∷◌, ◌++◌, map, ltb, ℤ, pos, negsuc, length}
use Rattle.desk.specs.Runs.{book_run}

-- a digit, a space, a minus and the end of a line, as ASCII (house)
abbrev pub digit : ℕ → ℕ
digit d = 48 + d

abbrev pub space : ℕ
space = 32

abbrev pub minus : ℕ
minus = 45

abbrev pub new_line : ℕ
new_line = 10

-- a number's digits, the highest first and no zero before it, where there may be `most` at most (house)
unfoldable pub digits_in : ℕ → ℕ → List ℕ
digits_in zero n = []
digits_in (suc most) n = cond (ltb n 10) (digit n ∷ []) (digits_in most (n / 10) ++ digit (n % 10) ∷ [])

-- a number in decimal; 20 digits are enough for every number of 64 bits (house)
unfoldable pub decimal : ℕ → List ℕ
decimal n = digits_in 20 n

-- a number that may lie below zero, a minus before its digits where it does (house)
unfoldable pub signed : ℤ → List ℕ
signed (pos n) = decimal n
signed (negsuc n) = minus ∷ decimal (suc n)

-- a record's line: its number, a space, the refusal's number or 0, a space, available, the end of the line (Figures to meet)
unfoldable pub line_of : ℕ → ℕ → ℤ → List ℕ
line_of number refusal available = decimal number ++ space ∷ decimal refusal ++ space ∷ signed available ++ new_line ∷ []

-- a line for each record, numbered on from the first one's number (Figures to meet)
unfoldable pub lines_from : ℕ → List ℕ → List ℤ → List ℕ
lines_from number [] sums = []
lines_from number (refusal ∷ refusals) [] = []
lines_from number (refusal ∷ refusals) (available ∷ sums) = line_of number refusal available ++ lines_from (suc number) refusals sums

-- the numbers and the sums that a book's records are answered with; with a place for each byte no record goes without an answer (Figures to meet)
abbrev pub refusals_for : List ℕ → List ℕ
refusals_for s = map (λ answer. answer.0) (book_run (length s) s).answers

abbrev pub sums_for : List ℕ → List ℤ
sums_for s = map (λ answer. answer.1) (book_run (length s) s).answers

-- what is printed for a book's bytes (Figures to meet)
unfoldable pub printed_for : List ℕ → List ℕ
printed_for s = lines_from 1 (refusals_for s) (sums_for s)
