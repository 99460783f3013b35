-- What an assignment is answered with, and what stands in the lent lists afterwards.
use Rattle.std.specs.Prelude.{ℕ, ◌&&◌, List, ◌++◌, leb, length, get_or, drop, Ok, Err}
use Rattle.terms.specs.Listed.{listed}
use Rattle.terms.specs.Verdicts.{◌else◌then◌, accept}
use Rattle.terms.specs.declared.refusal.Refusal.TheVariants.{OutOfRange, BufferTooShort}
use Rattle.terms.specs.Verdicts.{Verdict}
use Rattle.assignment.specs.Assignment.{assign_allowed, covered_first, uncovered_then}

-- "first 4"; then 17 where a lent list has fewer places than there are accounts (house)
unfoldable pub assign_verdict : ℕ → List ℕ → List ℕ → ℕ → ℕ → Verdict
assign_verdict E short covered places places' =
    assign_allowed E short covered else OutOfRange then
    ((leb (length short) places && leb (length short) places') else BufferTooShort then
    accept)

-- of each account's share the covered contracts, and the others (#105)
unfoldable pub covered_shares : List ℕ → List ℕ → List ℕ
covered_shares covered shares = listed (length covered) (λ i. covered_first (get_or shares i 0) (get_or covered i 0))

unfoldable pub uncovered_shares : List ℕ → List ℕ → List ℕ
uncovered_shares covered shares = listed (length covered) (λ i. uncovered_then (get_or shares i 0) (get_or covered i 0))

-- a lent list afterwards: the accounts' contracts in its first places and the rest as it was, or all as it was (house)
abbrev pub lent_after : Verdict → List ℕ → List ℕ → List ℕ
lent_after (Ok tt) contracts lent = contracts ++ drop (length contracts) lent
lent_after (Err why) contracts lent = lent
