-- The first n and m places hold the numbers read, and those past them the zeros they came with.
use Rattle.std.proofs.Common.{◌≡◌, sym, ap, ap₂, ◌∙◌, List, ◌++◌, ℕ, ◌+◌, ◌-◌, ◌*◌, ◌≤◌, length, take, drop, replicate, arith}
use Rattle.std.proofs.lemmas.List.{drop-replicate, drop_at, length-replicate, length-take-le, replicate-append-replicate, take_all, take_at}
use Rattle.entries.specs.Entries.{figures_from}
use Rattle.entries.specs.Numbers.{numbers_at}
use Rattle.entries.specs.Table.{figures_of}
use Rattle.entries.proofs.Runs.{total_fours, numbers_append, length_numbers}
use Rattle.reading.proofs.figures_at.Goals as goal

-- numbers of four bytes, one after the other
abbrev fours : List ℕ → ℕ → ℕ → List ℕ
fours r at n = numbers_at (replicate n 4) r at

-- read into the first n of so many zeros
filled : (r xs : List ℕ) (at size n : ℕ) → n ≤ size → xs ≡ fours r at (length (take {A = ℕ} n (replicate size 0))) → xs ++ drop n (replicate size 0) ≡ fours r at n ++ replicate (size - n) 0
filled r xs at size n few is =
    let lent : length (take {A = ℕ} n (replicate size 0)) ≡ n = length-take-le n (replicate size 0) (omega (arith, length-replicate {A = ℕ} size 0)) in
    ap₂ ◌++◌ (is ∙ ap (fours r at) lent) (drop-replicate n size 0)

module _ (r : List ℕ) (n m : ℕ) where
  length_fours : (at k : ℕ) → length (fours r at k) ≡ k
  length_fours at k = length_numbers (replicate k 4) r at ∙ length-replicate k 4

  split : numbers_at (figures_of n m) r 8 ≡ fours r 8 n ++ fours r (8 + 4 * n) m
  split =
      ap (λ (ws : List ℕ). numbers_at ws r 8) (sym (replicate-append-replicate n m 4))
      ∙ numbers_append (replicate n 4) (replicate m 4) r 8
      ∙ ap (λ (t : ℕ). fours r 8 n ++ fours r (8 + t) m) (total_fours n)

  settled : take n (numbers_at (figures_of n m) r 8) ≡ fours r 8 n
  settled = ap (take n) split ∙ take_at (fours r 8 n) (fours r (8 + 4 * n) m) n (length_fours 8 n)

  closed : take m (drop n (numbers_at (figures_of n m) r 8)) ≡ fours r (8 + 4 * n) m
  closed =
      ap (λ (xs : List ℕ). take m (drop n xs)) split
      ∙ ap (take m) (drop_at (fours r 8 n) (fours r (8 + 4 * n) m) n (length_fours 8 n))
      ∙ take_all m (fours r (8 + 4 * n) m) (omega (arith, length_fours (8 + 4 * n) m))

  made : n ≤ 64 → m ≤ 8 → (xs ys : List ℕ)
      → xs ≡ fours r 8 (length (take {A = ℕ} n (replicate 64 0))) → ys ≡ fours r (8 + 4 * n) (length (take {A = ℕ} m (replicate 8 0)))
      → record { settlements = xs ++ drop n (replicate 64 0); closes = ys ++ drop m (replicate 8 0) } ≡ figures_from n m (numbers_at (figures_of n m) r 8)
  made few_n few_m xs ys read_n read_m =
      let settlements = filled r xs 8 64 n few_n read_n in
      let closes = filled r ys (8 + 4 * n) 8 m few_m read_m in
      rw (settlements, closes, settled, closed)

pub returns : goal.returns
returns c = made _ _ _ c.requires.0 c.requires.1 _ _ c.numbers4.ensures c.numbers4-2.ensures
