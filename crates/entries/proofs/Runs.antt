-- Numbers that stand one after the other, read and put: what holds of a run follows from its parts, since each begins where the widths before it add up to.
use Rattle.std.proofs.Common.{suc-add, add-suc, ◌≡◌, refl, sym, ap, ap₂, ◌∙◌, List, [], ◌∷◌, ◌++◌, append-nil, append_assoc, ℕ, zero, suc, ◌+◌, ◌*◌, ◌<◌, add-zero, add_assoc, add-one, arith, length, get_or, take, drop, set, replicate, length-append, drop-cons, take-suc, length-take-le}
use Rattle.std.proofs.lemmas.List.{length-replicate, replicate-append-replicate, set_at}
use Rattle.std.proofs.lemmas.List.Edits.{sets}
use Rattle.std.proofs.Math.Nat.{suc_inj}
use Rattle.std.proofs.Math.Seq.{append_snoc}
use Rattle.entries.specs.Numbers.{bytes, number_at, numbers_at, packed, total}
use Rattle.entries.proofs.LittleEndian.{length_bytes}

pub sets_append : (l : List ℕ) (i : ℕ) (xs ys : List ℕ) → sets l i (xs ++ ys) ≡ sets (sets l i xs) (i + length xs) ys
sets_append l i [] ys = ap (λ (k : ℕ). sets l k ys) (sym (add-zero i))
sets_append l i (x ∷ xs) ys = sets_append (set l i x) (suc i) xs ys ∙ ap (λ (k : ℕ). sets (sets (set l i x) (suc i) xs) k ys) (suc-add i (length xs) ∙ sym (add-suc i (length xs)))

pub total_fours : (n : ℕ) → total (replicate n 4) ≡ 4 * n
total_fours zero = refl
total_fours (suc n) = ap (λ (t : ℕ). 4 + t) (total_fours n) ∙ omega arith

pub numbers_append : (ws vs s : List ℕ) (at : ℕ) → numbers_at (ws ++ vs) s at ≡ numbers_at ws s at ++ numbers_at vs s (at + total ws)
numbers_append [] vs s at = ap (numbers_at vs s) (sym (add-zero at))
numbers_append (w ∷ ws) vs s at =
    ap (λ (l : List ℕ). number_at w s at ∷ l)
    (numbers_append ws vs s (at + w) ∙ ap (λ (k : ℕ). numbers_at ws s (at + w) ++ numbers_at vs s k) (add_assoc at w (total ws)))

pub length_numbers : (ws s : List ℕ) (at : ℕ) → length (numbers_at ws s at) ≡ length ws
length_numbers [] s at = refl
length_numbers (w ∷ ws) s at = ap suc (length_numbers ws s (at + w))

pub packed_append : (ws vs xs ys : List ℕ) → length xs ≡ length ws → packed (ws ++ vs) (xs ++ ys) ≡ packed ws xs ++ packed vs ys
packed_append [] vs [] ys e = refl
packed_append [] vs (x ∷ xs) ys e = absurd (omega (arith, e))
packed_append (w ∷ ws) vs [] ys e = absurd (omega (arith, e))
packed_append (w ∷ ws) vs (x ∷ xs) ys e =
    ap (λ (l : List ℕ). bytes w x ++ l) (packed_append ws vs xs ys (suc_inj e)) ∙ sym (append_assoc (bytes w x) (packed ws xs) (packed vs ys))

pub length_packed : (ws xs : List ℕ) → length xs ≡ length ws → length (packed ws xs) ≡ total ws
length_packed [] xs e = refl
length_packed (w ∷ ws) [] e = absurd (omega (arith, e))
length_packed (w ∷ ws) (x ∷ xs) e =
    length-append (bytes w x) (packed ws xs) ∙ ap₂ (λ (a b : ℕ). a + b) (length_bytes w x) (length_packed ws xs (suc_inj e))

-- one more number of four bytes, read into its place
pub read_one_more : (r : List ℕ) (at i x : ℕ) (l : List ℕ) → i < length l → x ≡ number_at 4 r (at + 4 * i)
    → set (numbers_at (replicate i 4) r at ++ drop i l) i x ≡ numbers_at (replicate (i + 1) 4) r at ++ drop (i + 1) l
read_one_more r at i x l h e =
    let so_far : List ℕ = numbers_at (replicate i 4) r at in
    ap (λ (d : List ℕ). set (so_far ++ d) i x) (drop-cons l i 0 h)
    ∙ set_at so_far (get_or l i 0) (drop (suc i) l) x i (length_numbers (replicate i 4) r at ∙ length-replicate i 4)
    ∙ sym (append_snoc so_far x (drop (suc i) l))
    ∙ ap₂ (λ (y k : ℕ). so_far ++ (y ∷ []) ++ drop k l) (e ∙ ap (λ (t : ℕ). number_at 4 r (at + t)) (sym (total_fours i))) (sym (add-one i))
    ∙ ap (λ (d : List ℕ). d ++ drop (i + 1) l)
    (sym (numbers_append (replicate i 4) (4 ∷ []) r at) ∙ ap (λ (ws : List ℕ). numbers_at ws r at) (replicate-append-replicate i 1 4))

-- one more number of four bytes, put behind the others
pub put_one_more : (l : List ℕ) (at i : ℕ) (xs : List ℕ) → i < length xs
    → sets (sets l at (packed (replicate i 4) (take i xs))) (at + 4 * i) (bytes 4 (get_or xs i 0)) ≡ sets l at (packed (replicate (i + 1) 4) (take (i + 1) xs))
put_one_more l at i xs h =
    let first : List ℕ = packed (replicate i 4) (take i xs) in
    let fours : List ℕ = replicate i 4 in
    let as_long : length (take i xs) ≡ length fours = length-take-le i xs (omega arith) ∙ sym (length-replicate i 4) in
    ap₂ (λ (t : ℕ) (bs : List ℕ). sets (sets l at first) (at + t) bs) (sym (length_packed (replicate i 4) (take i xs) as_long ∙ total_fours i)) (sym (append-nil (bytes 4 (get_or xs i 0))))
    ∙ sym (sets_append l at first (packed (4 ∷ []) (get_or xs i 0 ∷ [])))
    ∙ ap (sets l at)
    (sym (packed_append (replicate i 4) (4 ∷ []) (take i xs) (get_or xs i 0 ∷ []) as_long)
    ∙ ap₂ packed (replicate-append-replicate i 1 4) (sym (take-suc xs i 0 h) ∙ ap (λ (k : ℕ). take k xs) (sym (add-one i))))
