-- n settlements and then m closes are n + m numbers one after the other.
use Rattle.std.proofs.Common.{◌≡◌, sym, ap, ap₂, ◌∙◌, List, ◌++◌, ℕ, ◌+◌, ◌*◌, length, take, replicate, rules, length-take-le}
use Rattle.std.proofs.lemmas.List.{length-replicate, replicate-append-replicate}
use Rattle.std.proofs.lemmas.List.Edits.{sets}
use Rattle.entries.specs.Numbers.{packed}
use Rattle.entries.specs.Table.{figures_of}
use Rattle.entries.proofs.Runs.{total_fours, packed_append, length_packed, sets_append}
use Rattle.writing.proofs.put_figures.Goals as goal

joined : (l d e xs ys : List ℕ) (n m : ℕ) → length xs ≡ n → length ys ≡ m → d ≡ sets l 8 (packed (replicate (length xs) 4) xs) → e ≡ sets d (8 + 4 * n) (packed (replicate (length ys) 4) ys)
    → e ≡ sets l 8 (packed (figures_of n m) (xs ++ ys))
joined l d e xs ys n m hx hy p q =
    let first : List ℕ = packed (replicate n 4) xs in
    let second : List ℕ = packed (replicate m 4) ys in
    let as_long : length xs ≡ length (replicate {A = ℕ} n 4) = hx ∙ sym (length-replicate n 4) in
    q
    ∙ ap₂ (λ (d ws : List ℕ). sets d (8 + 4 * n) (packed ws ys)) (p ∙ ap (λ (k : ℕ). sets l 8 (packed (replicate k 4) xs)) hx) (ap (λ (k : ℕ). replicate k 4) hy)
    ∙ ap (λ (t : ℕ). sets (sets l 8 first) (8 + t) second) (sym (length_packed (replicate n 4) xs as_long ∙ total_fours n))
    ∙ sym (sets_append l 8 first second)
    ∙ ap (sets l 8) (sym (packed_append (replicate n 4) (replicate m 4) xs ys as_long) ∙ ap (λ (ws : List ℕ). packed ws (xs ++ ys)) (replicate-append-replicate n m 4))

pub returns : goal.returns
returns c =
    let settled : length c.args.figures.settlements ≡ 64 = search rules in
    let closed : length c.args.figures.closes ≡ 8 = search rules in
    joined c.args.buffer.now _ _ (take c.args.counts.n c.args.figures.settlements) (take c.args.counts.m c.args.figures.closes) _ _
    (length-take-le _ _ (search rules)) (length-take-le _ _ (search rules)) c.puts4.ensures c.puts4-2.ensures
