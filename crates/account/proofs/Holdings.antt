-- Where one underlying's holding changes, what holds of the new one there and of the old one at each underlying holds at each underlying after.
use mathlib.Core.Path.{◌≡◌, sym, ap, subst, ◌∙◌}
use Prim.Native.Nat.{ℕ, ◌<◌}
use native.Mathlib.Decide.{ℕ_discrete}
use native.Mathlib.Omega.{arith}
use lib.ListN.{get_or, set}
use lib.Seq.{get_or-set_same, get_or-set_other}
use Rattle.account.specs.Rows.{no_holding, holding}
use Rattle.account.specs.Sound.{Sound}
use Rattle.account.specs.declared.account.Account.{Account}
use Rattle.account.specs.declared.account.Holding.{Holding}
use Rattle.account.specs.declared.tables.Tables.{Tables}

pub each_holding : (t : Tables) (a : Account) → Sound t a → (u : ℕ) → u < t.m → (new : Holding) (P : Holding → Type 0) (v : ℕ) → (u ≡ v → P new) → P (holding a v) → P (get_or (set a.holdings u new) v no_holding)
each_holding t a s u there new P v here old =
    elim (ℕ_discrete v u) [
      | yes e ↦
          let same = get_or-set_same a.holdings u new no_holding (omega (arith, there, s.tables.few_underlyings, s.holding_rows)) in
          subst P (sym (ap (λ k. get_or (set a.holdings u new) k no_holding) e ∙ same)) (here (sym e))
      | no other ↦ subst P (sym (get_or-set_other a.holdings u v new no_holding other)) old
    ]
