-- What holds of every element of a list, and of every pair of two.
use Rattle.std.specs.Prelude.{ℕ, true, List, [], ◌∷◌, ◌≡◌}
use Rattle.account.specs.Checks.{member}

abbrev pub Each : {A : Type 0} → (A → Type 0) → List A → Type 0
Each P [] = Unit {0}
Each P (x ∷ xs) = P x × Each P xs

-- two lists of one length, element beside element
abbrev pub EachPair : {A : Type 0} → (A → A → Type 0) → List A → List A → Type 0
EachPair P [] [] = Unit {0}
EachPair P [] (y ∷ ys) = ⊥
EachPair P (x ∷ xs) [] = ⊥
EachPair P (x ∷ xs) (y ∷ ys) = P x y × EachPair P xs ys

-- a number that a list names
abbrev pub OneOf : List ℕ → ℕ → Type 0
OneOf numbers n = member n numbers ≡ true

-- what a record of a run may be answered with: 0, or one of the paper's refusals but 17, which is of writing, and 18, which is unused (#112)
abbrev pub run_numbers : List ℕ
run_numbers = 0 ∷ 1 ∷ 2 ∷ 3 ∷ 4 ∷ 5 ∷ 6 ∷ 7 ∷ 8 ∷ 9 ∷ 10 ∷ 11 ∷ 12 ∷ 13 ∷ 14 ∷ 15 ∷ 16 ∷ 19 ∷ 20 ∷ []

-- and what a fill may be: 0, or 4, "7, 16, 15" (Refusal numbers)
abbrev pub fill_numbers : List ℕ
fill_numbers = 0 ∷ 4 ∷ 7 ∷ 15 ∷ 16 ∷ []

-- a number that is not 18, which is unused (#112)
abbrev pub Not18 : ℕ → Type 0
Not18 n = n ≡ 18 → ⊥
