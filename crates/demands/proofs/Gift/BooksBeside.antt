-- A record that the first of two books accepts the second accepts too, and they go on side by side: a row of set-up stands at the same number in both, the opening gives X fen more, and from then on each entry finds the richer account.
use mathlib.Core.Path.{◌≡◌, refl, sym, ap, subst, ◌∙◌}
use mathlib.Core.Bool.{Bool, true, true≢false}
use mathlib.Core.List.{List, [], ◌∷◌}
use Prim.Native.Nat.{ℕ, zero, suc, ◌+◌, ◌≤◌, ◌<◌}
use native.Mathlib.Omega.{arith}
use lib.Dec.{ltb}
use lib.ListN.{get_or, length, length-set, set}
use Rattle.std.specs.Prelude.{Ok}
use Rattle.terms.specs.declared.measure.Measure.TheVariants.{OpeningCash}
use Rattle.terms.specs.declared.refusal.Refusal.{Refusal}
use Rattle.terms.specs.declared.refusal.Refusal.TheVariants.{OutOfPlace, OutOfRange}
use Rattle.terms.specs.Ranges.{range_of, ◌to◌}
use Rattle.terms.proofs.Ranges.{first_holds, inside, second_holds, within}
use Rattle.entries.specs.Entries.{kind_of}
use Rattle.entries.specs.Table.{code_of}
use Rattle.entries.specs.declared.entry.Contract as Contracts·of
use Rattle.entries.specs.declared.entry.Entry.{Entry}
use Rattle.entries.specs.declared.entry.Entry.TheVariants.{Underlying, Contract, Opening}
use Rattle.entries.specs.declared.entry.Figures.{Figures}
use Rattle.entries.specs.declared.entry.Underlying as Underlyings·of
use Rattle.account.specs.Rows.{no_underlying}
use Rattle.account.specs.Sound.{underlying_allowed}
use Rattle.account.specs.Steps.{account_after, refusal_of}
use Rattle.terms.specs.Verdicts.{◌else◌then◌, accept}
use Rattle.account.specs.declared.account.Account.{Account}
use Rattle.terms.specs.Verdicts.{Verdict}
use Rattle.account.proofs.Held.{Held}
use Rattle.account.proofs.OpeningSound.{opening_held}
use Rattle.account.proofs.Passed.{went_on}
use Rattle.account.proofs.StepHeld.{accepted_held}
use Rattle.set_up.specs.Stages.{Entered, book_after, contract_verdict, entered, entered_as, in_place, record_verdict, underlying_verdict, with_entry}
use Rattle.set_up.specs.declared.stages.Book.{Book}
use Rattle.set_up.specs.declared.stages.Stage.{Stage}
use Rattle.set_up.specs.declared.stages.Stage.TheVariants.{Underlyings, Contracts, Entries}
use Rattle.set_up.proofs.Entering.{after_entry, each_entry, entered_verdict, entry_verdict, open_stage, verdict}
use Rattle.demands.specs.Gift.{RoomFor, Roomier, RoomierTables, XMore, richer}
use Rattle.demands.specs.GiftRuns.{Alike, BookBeside, higher, more, same}
use Rattle.demands.proofs.Gift.EntriesToo.{entry_too}
use Rattle.demands.proofs.Gift.GiftOfLists.{richer_more}
use Rattle.demands.proofs.Gift.Relisted.{same_row}

-- the second's account, by the stage of both: X fen more from the opening on
abbrev given_at : Stage → ℕ → Account → Account
given_at Underlyings X a = a
given_at Contracts X a = a
given_at Entries X a = richer X a

-- two books after as many records; while underlyings come, both have as many rows for them; once they are open, what the first holds is within its cash
pub record Abreast (X : ℕ) (b b' : Book) : Type 0 where
  pub stage : b'.stage ≡ b.stage
  pub tables : RoomierTables b.tables b'.tables
  pub rows : in_place b.stage 16 ≡ true → length b'.tables.underlyings ≡ length b.tables.underlyings
  pub account : b'.account ≡ given_at b.stage X b.account
  pub held : b.stage ≡ Entries → Held b.tables b.account

pub abreast_beside : {X : ℕ} {b b' : Book} → Abreast X b b' → BookBeside X b b'
abreast_beside {X} {b} {b'} so =
    record {
      stage = so.stage;
      tables = so.tables;
      account = λ stands. subst (XMore X b.account) (sym (so.account ∙ ap (λ (stage : Stage). given_at stage X b.account) stands)) (richer_more X b.account);
    }

-- a row put at the same number of both
put_beside : (rows rows' : List Underlyings·of.Underlying) (m : ℕ) (p q : Underlyings·of.Underlying) → Roomier p q → length rows' ≡ length rows
    → ((u : ℕ) → Roomier (get_or rows u no_underlying) (get_or rows' u no_underlying))
    → (u : ℕ) → Roomier (get_or (set rows m p) u no_underlying) (get_or (set rows' m q) u no_underlying)
put_beside [] [] m p q roomier long so_far u = so_far u
put_beside [] (y ∷ ys) m p q roomier long so_far u = absurd (omega arith)
put_beside (x ∷ xs) [] m p q roomier long so_far u = absurd (omega arith)
put_beside (x ∷ xs) (y ∷ ys) zero p q roomier long so_far zero = roomier
put_beside (x ∷ xs) (y ∷ ys) zero p q roomier long so_far (suc u) = so_far (suc u)
put_beside (x ∷ xs) (y ∷ ys) (suc m) p q roomier long so_far zero = so_far zero
put_beside (x ∷ xs) (y ∷ ys) (suc m) p q roomier long so_far (suc u) = put_beside xs ys m p q roomier (omega arith) (λ i. so_far (suc i)) u

-- a check that passes and a verdict that accepts
pub both_pass : (passed : Bool) (why : Refusal) (rest : Verdict) → passed ≡ true → rest ≡ accept → (passed else why then rest) ≡ accept
both_pass passed why rest e accepted = rw e accepted

-- a book that waits for rows is not open
pub not_open : {stage : Stage} → in_place stage 17 ≡ true → stage ≡ Entries → ⊥
not_open waits opens = true≢false (sym waits ∙ ap (λ (stage : Stage). in_place stage 17) opens)

-- a row of set-up is in its place before the opening alone
unopened : (X : ℕ) (stage : Stage) (kind : ℕ) (a : Account) → 16 ≤ kind → in_place stage kind ≡ true → given_at stage X a ≡ a
unopened X Underlyings kind a many placed = refl
unopened X Contracts kind a many placed = refl
unopened X Entries kind a many placed = absurd (omega (arith, inside kind (1 to 10) placed))

-- an accepted record goes on to the book after it
module _ (b : Book) (entry : Entry) (f : Figures) where
  pub when_accepted : record_verdict b entry f ≡ accept → entered b entry f ≡ record { verdict = accept; book = book_after b entry f }
  unfolding entered
  when_accepted e = ap (λ (v : Verdict). entered_as v b (book_after b entry f)) e

-- the ceiling with X added, of a book that is open
abbrev pub Room : ℕ → Book → Type 0
Room X b = b.stage ≡ Entries → RoomFor X b.account

-- what comes of a record in its place: the second's is accepted, and the books stay abreast
abbrev Onward : ℕ → Book → Book → Figures → Entry → Entry → Type 0
Onward X b b' f entry entry' = (verdict b' f entry' ≡ accept) × Abreast X (book_after b entry f) (book_after b' entry' f)

same_kind : {X : ℕ} {entry entry' : Entry} → Alike X entry entry' → code_of (kind_of entry') ≡ code_of (kind_of entry)
same_kind (higher p q roomier allowed) = refl
same_kind (more cash) = refl
same_kind (same entry kind) = refl

module _ (X : ℕ) (b b' : Book) (f : Figures) (so : Abreast X b b') where
  underlying_onward : (p q : Underlyings·of.Underlying) → Roomier p q → in_place b.stage 16 ≡ true → underlying_verdict b.tables p ≡ accept
      → underlying_allowed q ≡ true → Onward X b b' f (Underlying p) (Underlying q)
  unfolding book_after
  underlying_onward p q roomier placed accepted allowed =
      let t = b.tables in
      let t' = b'.tables in
      let few : ltb t.m 8 ≡ true = second_holds (underlying_allowed p) (ltb t.m 8) (went_on _ OutOfRange accept accepted).0 in
      let put = put_beside t.underlyings t'.underlyings t.m p q roomier (so.rows placed) so.tables.rows in (
        rw (allowed, ← so.tables.m, few) refl,
        record {
          stage = refl;
          tables =
              record {
                contracts = so.tables.contracts;
                n = so.tables.n;
                m = ap (λ (m : ℕ). m + 1) so.tables.m;
                rows = subst (λ (m : ℕ). (u : ℕ) → Roomier (get_or (set t.underlyings t.m p) u no_underlying) (get_or (set t'.underlyings m q) u no_underlying)) so.tables.m put;
              };
          rows = λ waits. simp length-set (so.rows placed);
          account = so.account ∙ unopened X b.stage 16 b.account (omega arith) placed;
          held = λ opens. absurd (not_open refl opens);
        },
      )

  contract_onward : (row : Contracts·of.Contract) → in_place b.stage 17 ≡ true → contract_verdict b.tables row ≡ accept → Onward X b b' f (Contract row) (Contract row)
  unfolding book_after
  contract_onward row placed accepted = (
    rw (← so.tables.m, ← so.tables.n) accepted,
    record {
      stage = refl;
      tables =
          record {
            contracts = cc;
            n = ap (λ (n : ℕ). n + 1) so.tables.n;
            m = so.tables.m;
            rows = so.tables.rows;
          };
      rows = λ waits. absurd (true≢false (sym waits));
      account = so.account ∙ unopened X b.stage 17 b.account (omega arith) placed;
      held = λ opens. absurd (not_open refl opens);
    },
  )

  opening_onward : (cash : ℕ) → cash + X ≤ 1_000_000_000_000_000 → Onward X b b' f (Opening cash) (Opening (cash + X))
  unfolding book_after
  opening_onward cash room = (
    both_pass _ OutOfRange accept (within (cash + X) (range_of OpeningCash) (omega arith) room) refl,
    record {
      stage = refl;
      tables = so.tables;
      rows = λ waits. absurd (true≢false (sym waits));
      account = refl;
      held = λ opens. opening_held b.tables cash;
    },
  )

  entry_onward : (entry : Entry) → code_of (kind_of entry) < 16 → in_place b.stage (code_of (kind_of entry)) ≡ true → refusal_of b.tables b.account entry f ≡ accept
      → RoomFor X (account_after b.tables b.account entry f)
      → (refusal_of b'.tables b'.account entry f ≡ accept) × Abreast X (with_entry b entry f) (with_entry b' entry f)
  entry_onward entry few placed accepted room =
      let stands = open_stage b.stage (code_of (kind_of entry)) few placed in
      let too = entry_too X b.tables b'.tables b.account entry f so.tables (so.held stands) accepted room in
      let given : b'.account ≡ richer X b.account = so.account ∙ ap (λ (stage : Stage). given_at stage X b.account) stands in (
        rw given too.accepted,
        record {
          stage = refl;
          tables = too.tables;
          rows = λ waits. absurd (true≢false (sym waits));
          account = rw given too.account;
          held = λ opens. accepted_held b.tables b.account entry f (so.held stands) accepted;
        },
      )

  same_onward : (entry : Entry) → code_of (kind_of entry) < 18 → in_place b.stage (code_of (kind_of entry)) ≡ true → verdict b f entry ≡ accept
      → Room X (book_after b entry f) → Onward X b b' f entry entry
  unfolding book_after
  same_onward =
      each_entry (λ entry. code_of (kind_of entry) < 18 → in_place b.stage (code_of (kind_of entry)) ≡ true → verdict b f entry ≡ accept → Room X (book_after b entry f) → Onward X b b' f entry entry)
      (λ entry few kind placed e room.
      let (here, there) : (book_after b entry f ≡ with_entry b entry f) × (book_after b' entry f ≡ with_entry b' entry f) = (after_entry b f entry few, after_entry b' f entry few) in
      let on = entry_onward entry few placed (sym (entry_verdict b f entry few) ∙ e) (subst (Room X) here room refl) in
      (entry_verdict b' f entry few ∙ on.0, subst (λ (books : Book × Book). Abreast X books.0 books.1) (λ i. (sym here i, sym there i)) on.1))
      (λ row kind placed e room. underlying_onward row row (same_row row) placed e (first_holds (underlying_allowed row) (ltb b.tables.m 8) (went_on _ OutOfRange accept e).0))
      (λ row kind placed e room. contract_onward row placed e)
      (λ cash kind placed e room. absurd (omega arith))

  alike_onward : {entry entry' : Entry} → Alike X entry entry' → in_place b.stage (code_of (kind_of entry)) ≡ true → verdict b f entry ≡ accept
      → Room X (book_after b entry f) → Onward X b b' f entry entry'
  unfolding book_after
  alike_onward (higher p q roomier allowed) placed e room = underlying_onward p q roomier placed e allowed
  alike_onward (more cash) placed e room = opening_onward cash (omega (arith, room refl))
  alike_onward (same entry kind) placed e room = same_onward entry kind placed e room

  pub entered_onward : (entry entry' : Entry) → Alike X entry entry' → (entered b entry f).verdict ≡ accept → Room X (entered b entry f).book
      → ((entered b' entry' f).verdict ≡ accept) × Abreast X (entered b entry f).book (entered b' entry' f).book
  unfolding record_verdict
  entered_onward entry entry' alike accepted room =
      let first = sym (entered_verdict b entry f) ∙ accepted in
      let passed = went_on (in_place b.stage (code_of (kind_of entry))) OutOfPlace _ first in
      let on = alike_onward alike passed.0 passed.1 (subst (λ (after : Entered). Room X after.book) (when_accepted b entry f first) room) in
      let placed : in_place b'.stage (code_of (kind_of entry')) ≡ true = rw (so.stage, same_kind alike) passed.0 in
      let second : record_verdict b' entry' f ≡ accept = both_pass _ OutOfPlace _ placed on.0 in
      rw (when_accepted b entry f first, when_accepted b' entry' f second) (refl, on.1)
