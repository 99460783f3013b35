-- What an accepted assignment leaves in the two lent lists, in #105's words: `cover` has the covered contracts that are assigned, by account number, and `naked` the others.
use Rattle.std.specs.Prelude.{ℕ, ◌+◌, ◌≤◌, ◌<◌, ◌≡◌, List, length, get_or}
use Rattle.terms.specs.Listed.{listed}
use Rattle.terms.specs.Sums.{Σ}
use Rattle.assignment.specs.Assignment.{net_total}
use Rattle.assignment.specs.Stated.{Stated}

-- both together: what an account is assigned
abbrev pub share_in : List ℕ → List ℕ → ℕ → ℕ
share_in cover naked i = get_or cover i 0 + get_or naked i 0

pub record Assigns (E : ℕ) (short covered cover naked : List ℕ) : Type 0 where
  pub adds_up : Σ (length short) (share_in cover naked) ≡ E  -- "assignments add up to E"
  pub none_passes : (i : ℕ) → i < length short → share_in cover naked i ≤ net_total short covered i  -- "none passes its s"
  pub within_covered : (i : ℕ) → i < length short → get_or cover i 0 ≤ get_or covered i 0
  pub within_short : (i : ℕ) → i < length short → get_or naked i 0 ≤ get_or short i 0
  pub covered_first : (i : ℕ) → i < length short → 0 < get_or naked i 0 → get_or cover i 0 ≡ get_or covered i 0  -- "covered contracts are assigned first"
  pub as_stated : Stated E short covered (listed (length short) (share_in cover naked))  -- "order is as stated"
