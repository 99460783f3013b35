-- A number of a + b bytes is the number of its first a bytes and that of the b after them: the same law to read it and to put it, at any widths.
use mathlib.Core.Path.{◌≡◌, refl, sym, ap, ap₂, ◌∙◌}
use mathlib.Core.List.{List, [], ◌∷◌, ◌++◌}
use Prim.Native.Nat.{ℕ, zero, suc, ◌+◌, ◌*◌, ◌/◌, ◌%◌, ◌^◌, ◌≤◌, ◌<◌}
use native.Mathlib.Nat.{add-zero, add-suc, suc-add, zero-add, add_assoc, mul-add, mul_assoc, one-mul, pow-suc, pow-succ', div-one, div-div-eq-div-mul, mod-lt, zero-lt-suc, one-le-pow}
use native.Mathlib.Omega.{arith}
use lib.Arith.{mod-mul, digits_div, digits_mod}
use lib.ListN.{length, get_or, take, drop, set, length-drop}
use lib.Seq.{drop-cons, drop-drop, take-add, length-take-le, sets}
use Rattle.entries.specs.Numbers.{bytes, value, number_at}
use Rattle.entries.proofs.LittleEndian.{length_bytes}
use Rattle.entries.proofs.Runs.{sets_append}

value_append : (xs ys : List ℕ) → value (xs ++ ys) ≡ value xs + 256 ^ length xs * value ys
unfolding value
value_append [] ys = sym (zero-add (1 * value ys) ∙ one-mul (value ys))
value_append (x ∷ xs) ys =
    ap (λ (v : ℕ). x + 256 * v) (value_append xs ys)
    ∙ ap (λ (v : ℕ). x + v) (mul-add 256 (value xs) (256 ^ length xs * value ys))
    ∙ sym (add_assoc x (256 * value xs) (256 * (256 ^ length xs * value ys)))
    ∙ ap (λ (v : ℕ). x + 256 * value xs + v) (sym (mul_assoc 256 (256 ^ length xs) (value ys)) ∙ ap (λ (p : ℕ). p * value ys) (sym (pow-succ' 256 (length xs))))

number_halves : (a b : ℕ) (s : List ℕ) (at : ℕ) → at + a ≤ length s → number_at (a + b) s at ≡ number_at a s at + 256 ^ a * number_at b s (at + a)
unfolding number_at
number_halves a b s at h =
    let room : a ≤ length (drop at s) = simp length-drop (omega arith) in
    ap value (take-add a b (drop at s))
    ∙ value_append (take a (drop at s)) (take b (drop a (drop at s)))
    ∙ ap₂ (λ (n : ℕ) (d : List ℕ). value (take a (drop at s)) + 256 ^ n * value (take b d)) (length-take-le a (drop at s) room) (drop-drop a at s)

-- two numbers read one after the other make the wider one
pub number_joined : (a b : ℕ) (s : List ℕ) (at x y : ℕ) → at + a ≤ length s → x ≡ number_at a s at → y ≡ number_at b s (at + a) → x + 256 ^ a * y ≡ number_at (a + b) s at
number_joined a b s at x y h p q = ap₂ (λ (x y : ℕ). x + 256 ^ a * y) p q ∙ sym (number_halves a b s at h)

pub number_byte : (s : List ℕ) (at : ℕ) → at < length s → number_at 1 s at ≡ get_or s at 0
unfolding number_at value
number_byte s at h = ap (λ (d : List ℕ). value (take 1 d)) (drop-cons s at 0 h) ∙ add-zero (get_or s at 0)

bytes_halves : (a b x : ℕ) → bytes (a + b) x ≡ bytes a x ++ bytes b (x / 256 ^ a)
unfolding bytes
bytes_halves zero b x = ap (λ (w : ℕ). bytes w x) (zero-add b) ∙ ap (bytes b) (sym (div-one x))
bytes_halves (suc a) b x =
    ap (λ (w : ℕ). bytes w x) (suc-add a b)
    ∙ ap (λ (l : List ℕ). x % 256 ∷ l) (bytes_halves a b (x / 256) ∙ ap (λ (y : ℕ). bytes a (x / 256) ++ bytes b y) (div-div-eq-div-mul x 256 (256 ^ a) ∙ ap (λ (p : ℕ). x / p) (sym (pow-succ' 256 a))))

-- what lies above the width is not written
bytes_low : (w x : ℕ) → bytes w (x % 256 ^ w) ≡ bytes w x
unfolding bytes
bytes_low zero x = refl
bytes_low (suc w) x =
    let r = mod-lt x (zero-lt-suc 255) in
    let split = ap (λ (p : ℕ). x % p) (pow-suc 256 w) ∙ mod-mul x {m = 256 ^ w} {c = 256} (one-le-pow w 256 (zero-lt-suc 255)) (zero-lt-suc 255) in
    ap₂ (λ (b : ℕ) (q : ℕ). b ∷ bytes w q)
    (ap (λ (y : ℕ). y % 256) split ∙ digits_mod (x / 256 % 256 ^ w) r)
    (ap (λ (y : ℕ). y / 256) split ∙ digits_div (x / 256 % 256 ^ w) r)
    ∙ ap (λ (l : List ℕ). x % 256 ∷ l) (bytes_low w (x / 256))

-- two numbers put one after the other are the wider one put
pub put_joined : (a b : ℕ) (l d e : List ℕ) (at x : ℕ) → d ≡ sets l at (bytes a (x % 256 ^ a)) → e ≡ sets d (at + a) (bytes b (x / 256 ^ a % 256 ^ b)) → e ≡ sets l at (bytes (a + b) x)
put_joined a b l d e at x p q =
    q
    ∙ ap₂ (λ (d : List ℕ) (bs : List ℕ). sets d (at + a) bs) (p ∙ ap (sets l at) (bytes_low a x)) (bytes_low b (x / 256 ^ a))
    ∙ ap (λ (n : ℕ). sets (sets l at (bytes a x)) (at + n) (bytes b (x / 256 ^ a))) (sym (length_bytes a x))
    ∙ sym (sets_append l at (bytes a x) (bytes b (x / 256 ^ a)))
    ∙ ap (sets l at) (sym (bytes_halves a b x))
