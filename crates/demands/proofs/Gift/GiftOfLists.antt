-- The gift, of lists of entries: each entry that is accepted is accepted on the richer account too, and leaves it just as much richer, so the next one finds the same.
use mathlib.Core.List.{List, [], ◌∷◌}
use mathlib.Core.Path.{◌≡◌, refl, sym, subst}
use Prim.Native.Nat.{ℕ}
use Rattle.std.specs.Prelude.{Ok, Err}
use Rattle.entries.specs.declared.entry.Entry.{Entry}
use Rattle.entries.specs.declared.entry.Figures.{Figures}
use Rattle.account.specs.Opening.{opening}
use Rattle.account.specs.Steps.{refusal_of, tables_after, account_after, outcome, step, run_by, run}
use Rattle.account.specs.declared.account.Account.{Account}
use Rattle.account.specs.declared.judged.Outcome.{Outcome}
use Rattle.terms.specs.Verdicts.{Verdict, accept}
use Rattle.account.specs.declared.tables.Tables.{Tables}
use Rattle.account.proofs.Available.{more_cash}
use Rattle.account.proofs.Held.{Held}
use Rattle.account.proofs.OpeningSound.{opening_held}
use Rattle.account.proofs.StepHeld.{accepted_held}
use Rattle.demands.specs.Each.{Each, EachPair}
use Rattle.demands.specs.Gift.{Gift, Likewise, RoomFor, RoomierTables, XMore, richer}
use Rattle.demands.proofs.Gift.EntriesToo.{entry_too}

-- an outcome beside the first's: the same but for X fen and the limits; what the first holds is still within its cash
pub record Follows (X : ℕ) (first second : Outcome) : Type 0 where
  pub accepted : second.verdict ≡ accept
  pub account : second.account ≡ richer X first.account
  pub tables : RoomierTables first.tables second.tables
  pub held : Held first.tables first.account

-- a way to step: where the first account accepts an entry, what it leads the second to follows
abbrev pub Leads : (Tables → Account → Entry → Figures → Outcome) → Type 0
Leads lead =
    (X : ℕ) (t t' : Tables) (a : Account) (entry : Entry) (f : Figures) → RoomierTables t t' → Held t a
    → (lead t a entry f).verdict ≡ accept → RoomFor X (lead t a entry f).account → Follows X (lead t a entry f) (lead t' (richer X a) entry f)

pub richer_more : (X : ℕ) (a : Account) → XMore X a (richer X a)
richer_more X a = record { positions = refl; orders = refl; waiting = refl; margin = refl; locked = λ u. refl; available = more_cash a.sheet X }

-- an outcome is accepted only where the verdict is, and is then what the entry changes
outcome_accepted : (v : Verdict) (t t' : Tables) (a a' : Account) → (outcome v t a t' a').verdict ≡ accept → v ≡ accept
outcome_accepted (Ok tt) t t' a a' e = refl
outcome_accepted (Err why) t t' a a' e = e

step_accepted : (t : Tables) (a : Account) (entry : Entry) (f : Figures) → refusal_of t a entry f ≡ accept
    → step t a entry f ≡ outcome accept t a (tables_after t entry f) (account_after t a entry f)
unfolding step
step_accepted t a entry f e = rw e

pub step_leads : Leads step
unfolding step
step_leads X t t' a entry f roomier held e room =
    let accepted = outcome_accepted (refusal_of t a entry f) t (tables_after t entry f) a (account_after t a entry f) e in
    let first = step_accepted t a entry f accepted in
    let too = entry_too X t t' a entry f roomier held accepted (rw first at room) in
    let second = step_accepted t' (richer X a) entry f too.accepted in
    rw (first, second) (record { accepted = refl; account = too.account; tables = too.tables; held = accepted_held t a entry f held accepted })

-- from any account on, so that each entry hands on to the rest what it led to
module _ (lead : Tables → Account → Entry → Figures → Outcome) (leads : Leads lead) (X : ℕ) where
  each_follows : (t t' : Tables) (a : Account) (entries : List (Entry × Figures)) → RoomierTables t t' → Held t a
      → Each (λ first. first.verdict ≡ accept) (run_by lead t a entries)
      → Each (λ first. RoomFor X first.account) (run_by lead t a entries)
      → EachPair (Likewise X) (run_by lead t a entries) (run_by lead t' (richer X a) entries)
  each_follows t t' a [] roomier held accepted room = tt
  each_follows t t' a (entry ∷ rest) roomier held accepted room =
      let first = lead t a entry.0 entry.1 in
      let second = lead t' (richer X a) entry.0 entry.1 in
      let here = leads X t t' a entry.0 entry.1 roomier held accepted.0 room.0 in
      let goes_on : Account → Type 0 = λ account. XMore X first.account account
      × EachPair (Likewise X) (run_by lead first.tables first.account rest) (run_by lead second.tables account rest) in
      let after = each_follows first.tables second.tables first.account rest here.tables here.held accepted.1 room.1 in
      let both = subst goes_on (sym here.account) (richer_more X first.account, after) in
      (record { accepted = here.accepted; account = both.0 }, both.1)

pub gift_by : (lead : Tables → Account → Entry → Figures → Outcome) → Leads lead → Gift (λ t cash entries. run_by lead t (opening cash) entries)
gift_by lead leads X cash t t' entries roomier = each_follows lead leads X t t' (opening cash) entries roomier (opening_held t cash)

pub gift : Gift (λ t cash entries. run t (opening cash) entries)
unfolding run
gift = gift_by step step_leads
