-- A number below 256 to the width is what its bytes make: the lowest is its remainder by 256, and the others, one fewer, are the bytes of its quotient. The library adds bytes up, and takes them off a number, by powers of 256, which comes to the same.
use Rattle.std.proofs.Common.{◌≡◌, refl, ap, ◌∙◌, ℕ, zero, suc, ◌+◌, ◌*◌, ◌/◌, ◌^◌, ◌<◌, List, [], ◌∷◌, length, take, drop, slice_index, sym, ap₂, ◌%◌, arith}
use Rattle.std.proofs.Math.Nat.{mod-add-div, pow-suc, pow-succ', div-one, div-div-eq-div-mul}
use Rattle.std.specs.Int.{byte_at, byte_worth, bytes_low_first, sum_through}
use Rattle.entries.specs.Numbers.{bytes, value, number_at}

pub value_bytes : (w x : ℕ) → x < 256 ^ w → value (bytes w x) ≡ x
unfolding bytes value
value_bytes zero x h = omega arith
value_bytes (suc w) x h = rw (value_bytes w (x / 256) (omega arith)) (mod-add-div x 256)

pub length_bytes : (w x : ℕ) → length (bytes w x) ≡ w
unfolding bytes
length_bytes zero x = refl
length_bytes (suc w) x = ap suc (length_bytes w (x / 256))

-- a number's bytes as the library adds them up
abbrev pub worth : List ℕ → ℕ → ℕ
worth bs i = byte_worth i (slice_index bs i)

worth_behind : (b : ℕ) (bs : List ℕ) (k : ℕ) → sum_through (worth (b ∷ bs)) (suc k) ≡ b + 256 * sum_through (worth bs) k
worth_behind b bs zero = omega arith
worth_behind b bs (suc k) =
    let digit : ℕ = slice_index bs (suc k) in
    let last : digit * 256 ^ suc (suc k) ≡ 256 * (digit * 256 ^ suc k) = rw pow-succ' (omega arith) in
    omega (arith, worth_behind b bs k, last)

worth_value : (bs : List ℕ) (k : ℕ) → length bs ≡ suc k → sum_through (worth bs) k ≡ value bs
unfolding value
worth_value [] k e = absurd (omega arith)
worth_value (b ∷ []) zero e = omega arith
worth_value (b ∷ c ∷ bs) zero e = absurd (omega arith)
worth_value (b ∷ bs) (suc k) e = omega (arith, worth_behind b bs k, worth_value bs k (omega arith))

-- the number that the library makes of the bytes at a place
pub number_made : (w : ℕ) (s : List ℕ) (at : ℕ) (bs : List ℕ) → bs ≡ take (suc w) (drop at s) → length bs ≡ suc w → sum_through (worth bs) w ≡ number_at (suc w) s at
unfolding number_at
number_made w s at bs is long = worth_value bs w long ∙ ap value is

byte_taken : (i x : ℕ) → byte_at i x ≡ x / 256 ^ i % 256
byte_taken zero x = ap (λ (y : ℕ). y % 256) (sym (div-one x))
byte_taken (suc i) x = refl

bytes_from : (i w x : ℕ) → bytes_low_first i w x ≡ bytes w (x / 256 ^ i)
unfolding bytes
bytes_from i zero x = refl
bytes_from i (suc w) x =
    let behind : x / 256 ^ suc i ≡ x / 256 ^ i / 256 = ap (λ (p : ℕ). x / p) (pow-suc 256 i) ∙ sym (div-div-eq-div-mul x (256 ^ i) 256) in
    ap₂ ◌∷◌ (byte_taken i x) (bytes_from (suc i) w x ∙ ap (bytes w) behind)

-- the bytes that the library takes off a number
pub bytes_taken : (w x : ℕ) → bytes_low_first 0 w x ≡ bytes w x
bytes_taken w x = bytes_from 0 w x ∙ ap (bytes w) (div-one x)
