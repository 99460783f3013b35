-- Whole parts and fractions are E x s divided by T, with rest. All of them together are E x T divided so: the whole parts add up to at most E, and the fractions to as many times T as contracts are left. A whole part is at most s, since E is at most T, and below it where there is a fraction.
use mathlib.Core.Path.{◌≡◌, refl, ap, ◌∙◌}
use mathlib.Core.Bool.{true}
use mathlib.Core.List.{List}
use Prim.Native.Nat.{ℕ, zero, suc, ◌+◌, ◌*◌, ◌/◌, ◌≤◌, ◌<◌}
use native.Mathlib.Nat.{add-mul, mul-add, mul_comm, mul-le-mul_right, div-add-mod', div-zero, div-le_of_le-mul, mod-lt, le_of_mul-le-mul_right, lt_of_mul-lt-mul_left}
use native.Mathlib.Omega.{arith}
use lib.ListN.{length}
use Rattle.std.proofs.lemmas.Bool.Decides.{nat_tests}
use Rattle.terms.specs.Listed.{every}
use Rattle.terms.specs.Ranges.{range_of, ◌∈◌}
use Rattle.terms.specs.Sums.{Σ}
use Rattle.terms.specs.declared.measure.Measure.TheVariants.{NetTotal}
use Rattle.terms.proofs.Listed.{each_passes}
use Rattle.terms.proofs.Ranges.{inside}
use Rattle.terms.proofs.Sums.{Σ-none}
use Rattle.assignment.specs.Assignment.{net_total, all_totals, accounts_allowed, assign_allowed, whole_part, fraction, leftover}

-- what is known where E may be assigned
pub record Allowed (E : ℕ) (short covered : List ℕ) : Type 0 where
  pub both : length short ≡ length covered
  pub few : length short ≤ 256
  pub small : (i : ℕ) → i < length short → net_total short covered i ≤ 10_000
  pub enough : E ≤ all_totals short covered

module _ (E : ℕ) (short covered : List ℕ) where
  pub allowed : assign_allowed E short covered ≡ true → Allowed E short covered
  unfolding assign_allowed accounts_allowed
  allowed h =
      let each : every (length short) (λ i. net_total short covered i ∈ range_of NetTotal) ≡ true = grind (arith, nat_tests) in
      record {
        both = grind (arith, nat_tests);
        few = grind (arith, nat_tests);
        small = λ i there. (inside (net_total short covered i) (range_of NetTotal) (each_passes (length short) _ each i there)).1;
        enough = grind (arith, nat_tests);
      }

  abbrev s : ℕ → ℕ
  s = net_total short covered

  abbrev T : ℕ
  T = all_totals short covered

  abbrev whole : ℕ → ℕ
  whole = whole_part E short covered

  abbrev rest : ℕ → ℕ
  rest = fraction E short covered

  divided : (i : ℕ) → whole i * T + rest i ≡ E * s i
  unfolding whole_part fraction
  divided i = div-add-mod' (E * s i) T

  all_divided : (n : ℕ) → Σ n whole * T + Σ n rest ≡ E * Σ n s
  unfolding Σ
  all_divided zero = omega arith
  all_divided (suc n) =
      let so_far = all_divided n in
      let one = divided n in
      let left = add-mul (Σ n whole) (whole n) T in
      let right = mul-add E (Σ n s) (s n) in
      omega (arith, so_far, one, left, right)

  pub together : Σ (length short) whole * T + Σ (length short) rest ≡ E * T
  unfolding all_totals
  together = all_divided (length short)

  of_nothing : (i : ℕ) → T ≡ 0 → whole i ≡ 0
  unfolding whole_part
  of_nothing i none = ap (λ (t : ℕ). E * s i / t) none ∙ div-zero (E * s i)

  pub rest_below : 0 < T → (i : ℕ) → rest i < T
  unfolding fraction
  rest_below some i = mod-lt (E * s i) some

  module _ (ok : Allowed E short covered) where
    pub whole_within : (i : ℕ) → whole i ≤ s i
    unfolding whole_part
    whole_within i = div-le_of_le-mul T (mul-le-mul_right (s i) ok.enough)

    pub whole_below : (i : ℕ) → 0 < rest i → whole i < s i
    whole_below i some =
        let as_divided = divided i in
        let most : E * s i ≤ T * s i = mul-le-mul_right (s i) ok.enough in
        let turned = mul_comm (whole i) T in
        lt_of_mul-lt-mul_left T (omega (arith, as_divided, most, turned, some))

    pub wholes_within : Σ (length short) whole ≤ E
    wholes_within = go T refl
      where
        go : (total : ℕ) → T ≡ total → Σ (length short) whole ≤ E
        go zero none = let nothing = Σ-none (length short) whole (λ i h. of_nothing i none) in omega (arith, nothing)
        go (suc t) some = le_of_mul-le-mul_right {k = T} (omega (arith, together)) (omega (arith, some))

    pub left_over : 0 < T → leftover E short covered * T ≡ Σ (length short) rest
    unfolding leftover
    left_over some =
        let left = leftover E short covered in
        let parts : left + Σ (length short) whole ≡ E = omega (arith, wholes_within) in
        let times = ap (λ (x : ℕ). x * T) parts in
        let each = add-mul left (Σ (length short) whole) T in
        omega (arith, together, times, each)
