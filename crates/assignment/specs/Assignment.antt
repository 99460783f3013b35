-- "Then E exercised contracts are assigned to up to 256 accounts with net totals s (short plus covered) adding up to T" (#105; 002, question 23). Two lists tell what the accounts hold after netting, short and covered, by account number.
use Rattle.std.specs.Prelude.{ℕ, zero, suc, ◌+◌, ◌-◌, ◌*◌, ◌/◌, ◌%◌, min, Bool, cond, ◌&&◌, List, [], ◌∷◌, eqb, leb, length, get_or, set}
use Rattle.terms.specs.Listed.{every, listed}
use Rattle.terms.specs.Ranges.{range_of, ◌∈◌}
use Rattle.terms.specs.Sums.{Σ}
use Rattle.terms.specs.declared.measure.Measure.TheVariants.{Accounts, NetTotal}

-- an account's net total, s: short plus covered (#105)
unfoldable pub net_total : List ℕ → List ℕ → ℕ → ℕ
net_total short covered i = get_or short i 0 + get_or covered i 0

-- T: what the net totals add up to (#105)
unfoldable pub all_totals : List ℕ → List ℕ → ℕ
all_totals short covered = Σ (length short) (net_total short covered)

-- up to 256 accounts, and no s above 10,000 (#105); each has both its counts (house)
unfoldable pub accounts_allowed : List ℕ → List ℕ → Bool
accounts_allowed short covered =
    eqb (length short) (length covered) && (length short ∈ range_of Accounts) && every (length short) (λ i. net_total short covered i ∈ range_of NetTotal)

-- .. and E not above T (#105)
unfoldable pub assign_allowed : ℕ → List ℕ → List ℕ → Bool
assign_allowed E short covered = accounts_allowed short covered && leb E (all_totals short covered)

-- "first the whole part of E x s / T" (#105). Where T is zero E is zero too, and nothing is assigned.
unfoldable pub whole_part : ℕ → List ℕ → List ℕ → ℕ → ℕ
whole_part E short covered i = E * net_total short covered i / all_totals short covered

-- its fraction, in parts of T: what E x s leaves over (#105)
unfoldable pub fraction : ℕ → List ℕ → List ℕ → ℕ → ℕ
fraction E short covered i = E * net_total short covered i % all_totals short covered

-- "what is left": E less all whole parts (#105)
unfoldable pub leftover : ℕ → List ℕ → List ℕ → ℕ
leftover E short covered = E - Σ (length short) (whole_part E short covered)

-- the account with the largest of some fractions; where several have it "the lower account number" (#105)
unfoldable pub largest : List ℕ → ℕ
largest [] = 0
largest (x ∷ xs) = cond (leb (get_or xs (largest xs) 0) x) 0 (suc (largest xs))

-- "what is left goes one by one to the largest fractions, handing out until the leftover count is zero": a fraction that got one is used up (#105)
unfoldable pub hand_out : ℕ → List ℕ → List ℕ → List ℕ
hand_out zero fractions shares = shares
hand_out (suc left) fractions shares =
    hand_out left (set fractions (largest fractions) 0) (set shares (largest fractions) (get_or shares (largest fractions) 0 + 1))

-- what each account is assigned (#105)
unfoldable pub assigned : ℕ → List ℕ → List ℕ → List ℕ
assigned E short covered =
    hand_out (leftover E short covered) (listed (length short) (fraction E short covered)) (listed (length short) (whole_part E short covered))

-- "within an account covered contracts are assigned first": of a share, as many as are covered, and then the others (#105)
abbrev pub covered_first : ℕ → ℕ → ℕ
covered_first share covered = min share covered

abbrev pub uncovered_then : ℕ → ℕ → ℕ
uncovered_then share covered = share - covered_first share covered
