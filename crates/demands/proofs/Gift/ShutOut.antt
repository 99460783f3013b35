-- Demand 3 lets the wrong desks through, and the contract of running a list shuts each of them out: on the input that shows it the contract gives other answers.
use mathlib.Core.List.{List, [], ◌∷◌, ◌++◌, map}
use mathlib.Core.Path.{◌≡◌, refl, sym, ap, subst, ◌∙◌}
use Prim.Native.Nat.{ℕ, ◌+◌, min}
use native.Mathlib.Nat.{add_assoc}
use native.Mathlib.Omega.{arith}
use lib.IntN.{ℤ, pos}
use lib.ListN.{length, drop, drop_of_length-le}
use Rattle.std.specs.Prelude.{Ok, Err}
use Rattle.terms.specs.declared.refusal.Refusal.{Refusal}
use Rattle.rules.specs.Count.{for_count}
use Rattle.rules.specs.Premium.{premium_of}
use Rattle.entries.specs.Numbers.{bytes, number_at}
use Rattle.entries.specs.Table.{length_fits}
use Rattle.entries.specs.declared.entry.Entry.{Entry}
use Rattle.entries.specs.declared.entry.Figures.{Figures}
use Rattle.reading.specs.Reading.{of_kind, read_at, read_from, whole_at}
use Rattle.writing.specs.Writing.{record_of}
use Rattle.account.specs.Changes.{applied}
use Rattle.account.specs.Checks.{order_verdict}
use Rattle.account.specs.DayEnd.{daily_zero}
use Rattle.account.specs.Money.{available_of, holds_in}
use Rattle.account.specs.Opening.{opening}
use Rattle.account.specs.Orders.{facts_of, free_place, order_allowed, order_change}
use Rattle.account.specs.Steps.{account_after, refusal_of, run, step, tables_after}
use Rattle.terms.specs.Sums.{lowest, Σ}
use Rattle.account.specs.Totals.{count_in, over_orders, rights_in, total_in}
use Rattle.account.specs.Transfers.{deposit_change, deposit_verdict}
use Rattle.terms.specs.Verdicts.{number_in, accept}
use Rattle.account.specs.declared.account.Account.{Account}
use Rattle.account.specs.declared.judged.Outcome.{Outcome}
use Rattle.terms.specs.Verdicts.{Verdict}
use Rattle.account.specs.declared.tables.Tables.{Tables}
use Rattle.account.proofs.Held.{Held}
use Rattle.account.proofs.OpeningSound.{opening_held}
use Rattle.rows.specs.Given.{list_verdict}
use Rattle.set_up.specs.Stages.{book_after, entered, record_verdict}
use Rattle.desk.specs.Runs.{answer_to, list_run, run_from}
use Rattle.demands.specs.Each.{EachPair}
use Rattle.demands.specs.Gift.{Desk, Gift, Likewise, XMore, richer}
use Rattle.demands.specs.Records.{records_of}
use Rattle.demands.specs.WrongDesks.{OnShown, ShutOut, Tells, always_same, books_nothing, forgets_daily, pretends, refuses_all, shown_cash, shown_entries, shown_tables}
use Rattle.demands.proofs.Gift.GiftOfLists.{gift_by, richer_more, step_leads}

-- one outcome beside another, for every entry of a list
repeated : {X : ℕ} {first second : Outcome} → Likewise X first second → (entries : List (Entry × Figures))
    → EachPair (Likewise X) (map (λ entry. first) entries) (map (λ entry. second) entries)
repeated alike [] = tt
repeated alike (e ∷ es) = (alike, repeated alike es)

richer_twice : (x y : ℕ) (a : Account) → richer y (richer x a) ≡ richer (x + y) a
richer_twice x y a = rw add_assoc

pub always_same_gift : (v : Verdict) (made : Account) → Gift (always_same v made)
always_same_gift v made X cash t t' [] roomier accepted room = tt
always_same_gift v made X cash t t' (e ∷ es) roomier accepted room =
    repeated (record { accepted = accepted.0; account = subst (XMore X (richer cash made)) (richer_twice cash X made) (richer_more X (richer cash made)) }) (e ∷ es)

pub refuses_all_gift : (why : Refusal) → Gift (refuses_all why)
refuses_all_gift why = always_same_gift (Err why) (opening 0)

pub books_nothing_gift : Gift books_nothing
books_nothing_gift = always_same_gift accept (opening 0)

pub pretends_gift : Gift pretends
pretends_gift X cash t t' [] roomier accepted room = tt
pretends_gift X cash t t' (e ∷ es) roomier accepted room =
    let first = step_leads X t t' (opening cash) e.0 e.1 roomier (opening_held t cash) accepted.0 room.0 in
    let more = subst (XMore X (step t (opening cash) e.0 e.1).account) (sym first.account) (richer_more X _) in
    (record { accepted = first.accepted; account = more }, repeated (record { accepted = refl; account = more }) es)

-- the daily counts have no part in what is held
forgets_held : (t : Tables) (a : Account) → Held t a → Held t (daily_zero a)
unfolding daily_zero holds_in over_orders
forgets_held t a held = record { rows = held.rows; emptied = held.emptied; holds = held.holds; reach = held.reach }

-- forgetting the daily counts and adding to the cash touch different parts of an account
pub forgets_daily_gift : Gift forgets_daily
unfolding daily_zero
forgets_daily_gift = gift_by _ (λ X t t' a entry f roomier held. step_leads X t t' (daily_zero a) entry f roomier (forgets_held t a held))

-- what the contract answers on the input
abbrev shown_answers : List (ℕ × ℤ)
shown_answers = (0, pos 600_001) ∷ (0, pos 600_002) ∷ (0, pos 599_902) ∷ (12, pos 599_902) ∷ []

abbrev shown_numbers : List ℕ
shown_numbers = map (λ answer. answer.0) shown_answers

abbrev shown_sums : List ℤ
shown_sums = map (λ answer. answer.1) shown_answers

shown : (list_run shown_tables shown_cash 4 (records_of shown_entries)).answers ≡ shown_answers
unfolding list_verdict run_from answer_to read_at read_from of_kind whole_at length_fits number_at bytes record_of entered record_verdict book_after refusal_of tables_after account_after deposit_verdict deposit_change facts_of order_allowed order_verdict order_change applied free_place lowest Σ rights_in total_in count_in over_orders for_count premium_of available_of
shown = refl

-- four answers fill a slice of four places
filled : {A : Type 0} (part : ℕ × ℤ → A) (answers : List (ℕ × ℤ)) → answers ≡ shown_answers → (lent : List A) → length lent ≡ 4
    → map part answers ++ drop (length answers) lent ≡ map part shown_answers
filled part answers e lent four =
    ap (λ (given : List (ℕ × ℤ)). map part given ++ drop (length given) lent) e ∙ ap (map part shown_answers ++◌) (drop_of_length-le lent {i = 4} (omega arith))

on_shown : (Holds : List ℕ → List ℤ → Type 0) → Holds shown_numbers shown_sums → OnShown Holds
on_shown Holds holds κs a r s post tables cash bytes numbers sums =
    let answers : _ ≡ shown_answers = (λ i. (list_run (tables i) (cash i) (min (numbers i) (sums i)) (bytes i)).answers) ∙ shown in
    let left = post.1.0 ∙ filled (λ answer. answer.0) _ answers _ numbers in
    let left' = post.1.1 ∙ filled (λ answer. answer.1) _ answers _ sums in
    subst (λ (slices : List ℕ × List ℤ). Holds slices.0 slices.1) (λ i. (sym left i, sym left' i)) holds

-- stepped through, the right desk makes just that of the list; to one that forgets the first buy open the second is within the daily limit
stepped : Tells (run shown_tables (opening shown_cash) shown_entries) shown_numbers shown_sums
    × (map (λ after. number_in after.verdict) (forgets_daily shown_tables shown_cash shown_entries) ≡ 0 ∷ 0 ∷ 0 ∷ 0 ∷ [])
unfolding run step refusal_of tables_after account_after deposit_verdict deposit_change facts_of order_allowed order_verdict order_change applied free_place lowest Σ rights_in total_in count_in over_orders for_count premium_of available_of daily_zero
stepped = (record { each_number = refl; each_sum = refl }, refl)

-- so a desk can tell what the contract asks
pub right_tells : OnShown (Tells (run shown_tables (opening shown_cash) shown_entries))
right_tells = on_shown (Tells (run shown_tables (opening shown_cash) shown_entries)) stepped.0

out : (desk : Desk) → (Tells (desk shown_tables shown_cash shown_entries) shown_numbers shown_sums → ⊥) → ShutOut desk
out desk = on_shown (λ numbers sums. Tells (desk shown_tables shown_cash shown_entries) numbers sums → ⊥)

-- the second deposit adds a fen, so the first two sums are not one
two_sums : (sum : ℤ) (rest : List ℤ) → shown_sums ≡ sum ∷ sum ∷ rest → ⊥
two_sums sum rest e = let one : ◌≡◌ {A = ℕ} 600_001 600_002 = cc in omega arith

-- and the second buy open is refused
one_refused : shown_numbers ≡ 0 ∷ 0 ∷ 0 ∷ 0 ∷ [] → ⊥
one_refused e = let none : ◌≡◌ {A = ℕ} 12 0 = cc in omega arith

pub always_same_out : (v : Verdict) (made : Account) → ShutOut (always_same v made)
always_same_out v made = out (always_same v made) (λ told. two_sums _ _ told.each_sum)

pub refuses_all_out : (why : Refusal) → ShutOut (refuses_all why)
refuses_all_out why = always_same_out (Err why) (opening 0)

pub books_nothing_out : ShutOut books_nothing
books_nothing_out = always_same_out accept (opening 0)

pub pretends_out : ShutOut pretends
pretends_out = out pretends (λ told. two_sums _ _ told.each_sum)

pub forgets_daily_out : ShutOut forgets_daily
forgets_daily_out = out forgets_daily (λ told. one_refused (told.each_number ∙ stepped.1))
