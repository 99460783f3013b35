-- An assignment gets an answer, by number; a refused one leaves both lent lists as they were, and an accepted one leaves what #105 says in them: each account's place has its share, covered contracts first, and the shares are as stated.
use mathlib.Core.Bool.{Bool, true, false, ◌&&◌}
use mathlib.Core.List.{List, [], ◌∷◌, ◌++◌}
use mathlib.Core.Path.{◌≡◌, refl, sym, ap, subst, ◌∙◌}
use Prim.Native.Nat.{ℕ, ◌+◌, ◌≤◌, ◌<◌}
use native.Mathlib.Omega.{arith}
use lib.Dec.{leb}
use lib.ListN.{drop, get_or, length, get_or-append}
use lib.Seq.{drop_at}
use Rattle.std.specs.Prelude.{Ok, Err}
use Rattle.terms.specs.Listed.{listed}
use Rattle.terms.specs.Verdicts.{number_in, ◌else◌then◌, accept}
use Rattle.terms.specs.declared.refusal.Refusal.TheVariants.{BufferTooShort, OutOfRange}
use Rattle.terms.specs.Verdicts.{Verdict}
use Rattle.terms.proofs.Listed.{listed_at, listed_is}
use Rattle.terms.proofs.Sums.{Σ-same, Σ-term}
use Rattle.assignment.specs.Assignment.{all_totals, assign_allowed, assigned, covered_first, net_total, uncovered_then}
use Rattle.assignment.specs.Lent.{assign_verdict, covered_shares, lent_after, uncovered_shares}
use Rattle.assignment.specs.Stated.{Stated}
use Rattle.assignment.proofs.Decides.{decides}
use Rattle.assignment.proofs.Divided.{Allowed, allowed}
use Rattle.assignment.proofs.Filled.{covered_sized, uncovered_sized}
use Rattle.assignment.proofs.Served.{as_stated}
use Rattle.assignment.proofs.Within.{none_passes}
use Rattle.assignment.proofs.assign.Met as assign_met
use Rattle.assignment.proofs.assign.Reads as assign
use Rattle.assignment.proofs.assign.Statement as assign_statement
use Rattle.demands.specs.Each.{OneOf}
use Rattle.demands.specs.Expiry.{Assigns, share_in}

pub assign_answers : (M : Type 1) → assign_statement.statement M
assign_answers M = assign_met.met

pub assign_asks : (κs : _) (a : _) → assign.Pre κs a
assign_asks κs a = tt

-- the first of its tests that fails gives the number
pub data Numbered (E : ℕ) (short covered : List ℕ) (places places' : ℕ) : ℕ → Type 0 where
  done : assign_allowed E short covered ≡ true → (leb (length short) places && leb (length short) places') ≡ true → Numbered E short covered places places' 0
  not_allowed : assign_allowed E short covered ≡ false → Numbered E short covered places places' 4
  no_place : assign_allowed E short covered ≡ true → (leb (length short) places && leb (length short) places') ≡ false → Numbered E short covered places places' 17

module _ (E : ℕ) (short covered : List ℕ) (places places' : ℕ) where
  assign_number : Numbered E short covered places places' (number_in (assign_verdict E short covered places places'))
  unfolding assign_verdict
  assign_number = go (assign_allowed E short covered) refl (leb (length short) places && leb (length short) places') refl
    where
      go : (may : Bool) → assign_allowed E short covered ≡ may → (room : Bool) → (leb (length short) places && leb (length short) places') ≡ room
          → Numbered E short covered places places' (number_in (may else OutOfRange then room else BufferTooShort then accept))
      go false a room r = not_allowed a
      go true a false r = no_place a r
      go true a true r = done a r

  accepted_allowed : assign_verdict E short covered places places' ≡ accept → Allowed E short covered
  accepted_allowed accepted = go (number_in (assign_verdict E short covered places places')) (ap number_in accepted) assign_number
    where
      go : (n : ℕ) → n ≡ 0 → Numbered E short covered places places' n → Allowed E short covered
      go _ none (done a r) = allowed E short covered a
      go _ none (not_allowed _) = absurd (omega arith)
      go _ none (no_place _ _) = absurd (omega arith)

pub assign_numbered : (κs : _) (a : _) (r : _) (s : _) → assign.Post κs a r s → Numbered a.0.0 a.1.0.now a.1.1.0.now (length a.1.1.1.0.now) (length a.1.1.1.1.0.now) (number_in r)
assign_numbered κs a r s p = subst (Numbered _ _ _ _ _) (ap number_in (sym p.0)) (assign_number _ _ _ _ _)

one_of : {E : ℕ} {short covered : List ℕ} {places places' : ℕ} (n : ℕ) → Numbered E short covered places places' n → OneOf (0 ∷ 4 ∷ 17 ∷ []) n
one_of _ (done _ _) = refl
one_of _ (not_allowed _) = refl
one_of _ (no_place _ _) = refl

pub assign_numbers : (κs : _) (a : _) (r : _) (s : _) → assign.Post κs a r s → OneOf (0 ∷ 4 ∷ 17 ∷ []) (number_in r)
assign_numbers κs a r s p = one_of (number_in r) (assign_numbered κs a r s p)

-- "refusal by number and nothing written"
untouched : (r : Verdict) (contracts lent : List ℕ) → (number_in r ≡ 0 → ⊥) → lent_after r contracts lent ≡ lent
untouched (Ok tt) contracts lent refused = absurd (refused refl)
untouched (Err why) contracts lent refused = refl

pub assign_refused : (κs : _) (a : _) (r : _) (s : _) → assign.Post κs a r s → (number_in r ≡ 0 → ⊥) → (s.1.1.1.0.now ≡ a.1.1.1.0.now) × (s.1.1.1.1.0.now ≡ a.1.1.1.1.0.now)
assign_refused κs a r s p refused = (p.1.0 ∙ untouched r _ _ refused, p.1.1 ∙ untouched r _ _ refused)

behind : (n : ℕ) (after contracts lent : List ℕ) → length contracts ≡ n → after ≡ contracts ++ drop (length contracts) lent → drop n after ≡ drop n lent
behind n after contracts lent sized e =
    ap (drop n) e ∙ drop_at contracts (drop (length contracts) lent) n sized ∙ ap (λ (k : ℕ). drop k lent) sized

-- what an accepted one leaves
module _ (E : ℕ) (short covered lent lent' cover naked : List ℕ) (verdict : Verdict) (judged : verdict ≡ assign_verdict E short covered (length lent) (length lent')) (covers : cover ≡ lent_after verdict (covered_shares covered (assigned E short covered)) lent) (nakeds : naked ≡ lent_after verdict (uncovered_shares covered (assigned E short covered)) lent') (accepted : verdict ≡ accept) where
  ok : Allowed E short covered
  ok = accepted_allowed E short covered (length lent) (length lent') (sym judged ∙ accepted)

  abbrev share : ℕ → ℕ
  share i = get_or (assigned E short covered) i 0

  abbrev first : List ℕ
  first = covered_shares covered (assigned E short covered)

  abbrev others : List ℕ
  others = uncovered_shares covered (assigned E short covered)

  cover_is : cover ≡ first ++ drop (length first) lent
  cover_is = covers ∙ ap (λ (v : Verdict). lent_after v first lent) accepted

  naked_is : naked ≡ others ++ drop (length others) lent'
  naked_is = nakeds ∙ ap (λ (v : Verdict). lent_after v others lent') accepted

  first_sized : length first ≡ length short
  first_sized = covered_sized covered (assigned E short covered) ∙ sym ok.both

  others_sized : length others ≡ length short
  others_sized = uncovered_sized covered (assigned E short covered) ∙ sym ok.both

  its_cover : (i : ℕ) → i < length short → get_or cover i 0 ≡ covered_first (share i) (get_or covered i 0)
  unfolding covered_shares
  its_cover i there =
      ap (λ (l : List ℕ). get_or l i 0) cover_is
      ∙ get_or-append first (drop (length first) lent) 0 i (omega (arith, there, first_sized))
      ∙ listed_at (length covered) _ i 0 (omega (arith, there, ok.both))

  its_naked : (i : ℕ) → i < length short → get_or naked i 0 ≡ uncovered_then (share i) (get_or covered i 0)
  unfolding uncovered_shares
  its_naked i there =
      ap (λ (l : List ℕ). get_or l i 0) naked_is
      ∙ get_or-append others (drop (length others) lent') 0 i (omega (arith, there, others_sized))
      ∙ listed_at (length covered) _ i 0 (omega (arith, there, ok.both))

  its_share : (i : ℕ) → i < length short → share_in cover naked i ≡ share i
  its_share i there = omega (arith, its_cover i there, its_naked i there)

  fits : (i : ℕ) → i < length short → share i ≤ get_or short i 0 + get_or covered i 0
  unfolding net_total
  fits i there = none_passes E short covered ok i there

  the_shares : assigned E short covered ≡ listed (length short) (share_in cover naked)
  the_shares = listed_is (length short) 0 (assigned E short covered) (share_in cover naked) (as_stated E short covered ok).accounts (λ i there. sym (its_share i there))

  assigns : Assigns E short covered cover naked
  assigns =
      let stated = as_stated E short covered ok in
      record {
        adds_up = Σ-same (length short) (share_in cover naked) share its_share ∙ stated.adds_up;
        none_passes = λ i there. let same = its_share i there in let most = none_passes E short covered ok i there in omega (arith, same, most);
        within_covered = λ i there. let its = its_cover i there in omega (arith, its);
        within_short = λ i there. let its = its_naked i there in let most = fits i there in omega (arith, its, most);
        covered_first = λ i there some. let its = its_naked i there in let all = its_cover i there in omega (arith, its, all, some);
        as_stated = subst (Stated E short covered) the_shares stated;
      }

  rest : (drop (length short) cover ≡ drop (length short) lent) × (drop (length short) naked ≡ drop (length short) lent')
  rest = (behind (length short) cover first lent first_sized cover_is, behind (length short) naked others lent' others_sized naked_is)

  -- "T zero with E zero assigns nothing"
  nothing : all_totals short covered ≡ 0 → (i : ℕ) → i < length short → share_in cover naked i ≡ 0
  unfolding all_totals
  nothing none i there =
      let most = assigns.none_passes i there in
      let term = Σ-term (length short) i (net_total short covered) there in
      omega (arith, most, term, none)

module _ (κs : _) (a : _) (r : _) (s : _) (p : assign.Post κs a r s) (accepted : r ≡ accept) where
  pub assign_assigns : Assigns a.0.0 a.1.0.now a.1.1.0.now s.1.1.1.0.now s.1.1.1.1.0.now
  assign_assigns =
      assigns a.0.0 a.1.0.now a.1.1.0.now a.1.1.1.0.now a.1.1.1.1.0.now s.1.1.1.0.now s.1.1.1.1.0.now r p.0 p.1.0 p.1.1 accepted

  -- that this decides it: any shares that are as stated are those that were left
  pub assign_decided : (shares : List ℕ) → Stated a.0.0 a.1.0.now a.1.1.0.now shares → listed (length a.1.0.now) (share_in s.1.1.1.0.now s.1.1.1.1.0.now) ≡ shares
  assign_decided shares stated = decides a.0.0 a.1.0.now a.1.1.0.now _ shares assign_assigns.as_stated stated

  -- the places behind the accounts are left alone
  pub assign_rest : (drop (length a.1.0.now) s.1.1.1.0.now ≡ drop (length a.1.0.now) a.1.1.1.0.now) × (drop (length a.1.0.now) s.1.1.1.1.0.now ≡ drop (length a.1.0.now) a.1.1.1.1.0.now)
  assign_rest =
      rest a.0.0 a.1.0.now a.1.1.0.now a.1.1.1.0.now a.1.1.1.1.0.now s.1.1.1.0.now s.1.1.1.1.0.now r p.0 p.1.0 p.1.1 accepted

  pub nothing_assigned : all_totals a.1.0.now a.1.1.0.now ≡ 0 → (i : ℕ) → i < length a.1.0.now → share_in s.1.1.1.0.now s.1.1.1.1.0.now i ≡ 0
  nothing_assigned =
      nothing a.0.0 a.1.0.now a.1.1.0.now a.1.1.1.0.now a.1.1.1.1.0.now s.1.1.1.0.now s.1.1.1.1.0.now r p.0 p.1.0 p.1.1 accepted
