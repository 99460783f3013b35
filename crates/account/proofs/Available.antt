-- Available as a signed number means what natural numbers say: cash less holds less margin is cash less their sum, which is what is left of cash where the sum is at most the cash and lies below zero where it is more. So a hold is within available exactly if holds, margin and the hold together are within cash.
use mathlib.Core.Path.{◌≡◌, refl, sym, ◌∙◌, ap}
use mathlib.Core.Bool.{Bool, true, false}
use Prim.Native.Nat.{ℕ, zero, suc, ◌+◌, ◌-◌, ◌≤◌, ◌<◌}
use native.Mathlib.Omega.{arith}
use borrow.Author.Tests.{leb-true, leb-false, le-leb, lt-leb, lt-ltb, le-ltb}
use lib.Dec.{leb}
use lib.IntN.{ℤ, pos, negsuc, neg_ℤ, ◌+ℤ◌, ◌-ℤ◌, +ℤ_assoc, +ℤ_comm, neg_ℤ-+ℤ, -ℤ-+ℤ_cancel}
use lib.Signed.{le_z}
use Rattle.account.specs.Money.{available_of}
use Rattle.account.specs.declared.account.Sheet.{Sheet}

left_of : (c d : ℕ) → d ≤ c → pos c -ℤ pos d ≡ pos (c - d)
left_of c zero h = ap pos (omega arith)
left_of c (suc d) h = simp (le-ltb c (suc d) h)

lacking : (c d : ℕ) → c < d → pos c -ℤ pos d ≡ negsuc (d - suc c)
lacking c zero h = absurd (omega (arith, h))
lacking c (suc d) h = simp (lt-ltb c (suc d) h)

-- what is taken off on one side joins the other
moved : (c d hold : ℕ) → d ≤ c → leb hold (c - d) ≡ leb (d + hold) c
moved c d hold h = go (leb (d + hold) c) refl
  where
    go : (test : Bool) → leb (d + hold) c ≡ test → leb hold (c - d) ≡ test
    go true e = le-leb hold (c - d) (omega (arith, h, leb-true (d + hold) c e))
    go false e = lt-leb hold (c - d) (omega (arith, h, leb-false (d + hold) c e))

-- two signed numbers added in either order
either_order : (a b c : ℤ) → a +ℤ b +ℤ c ≡ a +ℤ c +ℤ b
either_order a b c = +ℤ_assoc a b c ∙ ap (a +ℤ◌) (+ℤ_comm b c) ∙ sym (+ℤ_assoc a c b)

module _ (s : Sheet) where
  together : available_of s ≡ pos s.cash -ℤ pos (s.holds + s.margin)
  unfolding available_of
  together = +ℤ_assoc (pos s.cash) (neg_ℤ (pos s.holds)) (neg_ℤ (pos s.margin)) ∙ ap (pos s.cash +ℤ◌) (sym (neg_ℤ-+ℤ (pos s.holds) (pos s.margin)))

  pub enough : s.holds + s.margin ≤ s.cash → available_of s ≡ pos (s.cash - (s.holds + s.margin))
  enough h = together ∙ left_of _ _ h

  below_zero : s.cash < s.holds + s.margin → available_of s ≡ negsuc (s.holds + s.margin - suc s.cash)
  below_zero h = together ∙ lacking _ _ h

  pub reaches : (hold : ℕ) → le_z (pos hold) (available_of s) ≡ leb (s.holds + s.margin + hold) s.cash
  reaches hold = go (leb (s.holds + s.margin) s.cash) refl
    where
      go : (test : Bool) → leb (s.holds + s.margin) s.cash ≡ test → le_z (pos hold) (available_of s) ≡ leb (s.holds + s.margin + hold) s.cash
      go true e =
          let h = leb-true _ _ e in
          ap (le_z (pos hold)) (enough h) ∙ moved _ _ hold h
      go false e =
          let h = leb-false _ _ e in
          ap (le_z (pos hold)) (below_zero h) ∙ sym (lt-leb (s.holds + s.margin + hold) s.cash (omega (arith, h)))

  pub more_cash : (x : ℕ) → available_of (record { cash = s.cash + x; premium = s.premium; holds = s.holds; margin = s.margin }) ≡ available_of s +ℤ pos x
  unfolding available_of
  more_cash x =
      ap (◌-ℤ pos s.margin) (either_order (pos s.cash) (pos x) (neg_ℤ (pos s.holds)))
      ∙ either_order (pos s.cash -ℤ pos s.holds) (pos x) (neg_ℤ (pos s.margin))

  pub more_held : (x : ℕ) → available_of (record { cash = s.cash; premium = s.premium; holds = s.holds + x; margin = s.margin }) +ℤ pos x ≡ available_of s
  unfolding available_of
  more_held x =
      let (cash, holds, margin, more) : ℤ × ℤ × ℤ × ℤ = (pos s.cash, neg_ℤ (pos s.holds), neg_ℤ (pos s.margin), neg_ℤ (pos x)) in
      ap (λ (z : ℤ). cash +ℤ z +ℤ margin +ℤ pos x) (neg_ℤ-+ℤ (pos s.holds) (pos x))
      ∙ ap (λ (z : ℤ). z +ℤ margin +ℤ pos x) (sym (+ℤ_assoc cash holds more))
      ∙ ap (◌+ℤ pos x) (either_order (cash +ℤ holds) more margin)
      ∙ -ℤ-+ℤ_cancel (available_of s) (pos x)

-- a sheet with so much in cash, 45 in holds and 60 in margin
abbrev pub example : ℕ → Sheet
example cash = record { cash = cash; premium = 0; holds = 45; margin = 60 }

-- with 5 below zero available not even a hold of 0 is within it; with 100, a hold of 100 is and one of 101 is not
pub nothing_within : (available_of (example 100) ≡ negsuc 4) × (le_z (pos 0) (available_of (example 100)) ≡ false)
unfolding available_of
nothing_within = (refl, refl)

pub equal_within : (available_of (example 205) ≡ pos 100) × (le_z (pos 100) (available_of (example 205)) ≡ true) × (le_z (pos 101) (available_of (example 205)) ≡ false)
unfolding available_of
equal_within = (refl, refl, refl)
