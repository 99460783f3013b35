-- What a payout does to what is available: asked for, it is held, so available falls by it; dropped, it is held no more, so available rises by it; paid, it leaves cash too, so available stays.
use mathlib.Core.Path.{◌≡◌, sym, ap, ◌∙◌}
use Prim.Native.Nat.{ℕ, ◌+◌, ◌-◌, ◌≤◌}
use native.Mathlib.Omega.{arith}
use lib.IntN.{pos, ◌+ℤ◌, ◌-ℤ◌, +ℤ-neg_ℤ_cancel}
use Rattle.account.specs.Money.{available_of}
use Rattle.account.specs.Transfers.{withdraw_change, pay_change, drop_change}
use Rattle.account.specs.declared.account.Sheet.{Sheet}
use Rattle.account.proofs.Available.{more_cash, more_held}

module _ (s : Sheet) (last : ℕ) where
  pub asked_available : (amount : ℕ) → available_of (withdraw_change s last amount).sheet +ℤ pos amount ≡ available_of s
  unfolding withdraw_change
  asked_available amount = more_held s amount

  module _ (waiting : ℕ) (held : waiting ≤ s.holds) where
    -- the sheet with other holds and, of cash, another sum
    sheet : ℕ → ℕ → Sheet
    sheet cash holds = record { cash = cash; premium = s.premium; holds = holds; margin = s.margin }

    pub dropped_available : available_of (drop_change s last waiting).sheet ≡ available_of s +ℤ pos waiting
    unfolding drop_change sheet
    dropped_available =
        let back : s.holds - waiting + waiting ≡ s.holds = omega (arith, held) in
        sym (more_held (drop_change s last waiting).sheet waiting) ∙ ap (λ (holds : ℕ). available_of (sheet s.cash holds) +ℤ pos waiting) back

    pub paid_available : waiting ≤ s.cash → available_of (pay_change s last waiting).sheet ≡ available_of s
    unfolding pay_change drop_change sheet
    paid_available reach =
        let paid = (pay_change s last waiting).sheet in
        let back : s.cash - waiting + waiting ≡ s.cash = omega (arith, reach) in
        let same : available_of paid +ℤ pos waiting ≡ available_of s +ℤ pos waiting =
        sym (more_cash paid waiting) ∙ ap (λ (cash : ℕ). available_of (sheet cash (s.holds - waiting))) back ∙ dropped_available in
        sym (+ℤ-neg_ℤ_cancel (available_of paid) (pos waiting)) ∙ ap (◌-ℤ pos waiting) same ∙ +ℤ-neg_ℤ_cancel (available_of s) (pos waiting)
