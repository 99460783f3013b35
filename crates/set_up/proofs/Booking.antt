-- A record ruled and then booked is entered: where a test fails the ruling is the refusal, and the book stays; where all pass it is what the kind adds, and the book is the one after it. What a ruling rests on was tested when it was made.
use mathlib.Core.Path.{◌≡◌, refl, sym, ap, subst, ◌∙◌}
use mathlib.Core.Bool.{Bool, true, false, ◌&&◌}
use Prim.Native.Nat.{◌<◌}
use borrow.Author.Tests.{ltb-true}
use lib.Dec.{ltb}
use Rattle.std.specs.Prelude.{Result, Ok, Err}
use Rattle.terms.specs.Ranges.{range_of, ◌∈◌}
use Rattle.terms.specs.declared.measure.Measure.TheVariants.{OpeningCash}
use Rattle.terms.specs.declared.refusal.Refusal.{Refusal}
use Rattle.terms.specs.declared.refusal.Refusal.TheVariants.{OutOfPlace, OutOfRange}
use Rattle.terms.proofs.Ranges.{second_holds}
use Rattle.entries.specs.Entries.{kind_of}
use Rattle.entries.specs.Table.{code_of}
use Rattle.entries.specs.declared.entry.Entry as Entry·of
use Rattle.entries.specs.declared.entry.Figures.{Figures}
use Rattle.terms.specs.Verdicts.{verdict_in, accept}
use Rattle.account.specs.Sound.{contract_allowed, underlying_allowed}
use Rattle.account.specs.Steps.{account_after, outcome, refusal_of, step, tables_after}
use Rattle.terms.specs.Verdicts.{◌else◌then◌}
use Rattle.account.specs.declared.judged.Decision.{Decision}
use Rattle.account.specs.declared.judged.Decision.TheVariants as Decision·of
use Rattle.terms.specs.Verdicts.{Verdict}
use Rattle.steps.specs.Booked.{Rests, booked_by, decision_on}
use Rattle.steps.proofs.Booking.{rests, stepped, verdict_decided}
use Rattle.set_up.specs.Rulings.{RestsOn, contract_ruling, of_decision, open_with, opening_ruling, ruled_as, ruled_by, ruling_on, underlying_ruling}
use Rattle.set_up.specs.Sound.{SoundBook}
use Rattle.set_up.specs.Stages.{book_after, by_set_up, entered_as, entered, in_place, record_verdict, with_entry}
use Rattle.set_up.specs.declared.ruling.Renewal.TheVariants.{Underlying, Contract, Opening}
use Rattle.set_up.specs.declared.ruling.Ruling.{Ruling}
use Rattle.set_up.specs.declared.ruling.Ruling.TheVariants.{Renews}
use Rattle.set_up.specs.declared.stages.Book.{Book}
use Rattle.set_up.specs.declared.stages.Stage.TheVariants.{Entries}
use Rattle.set_up.proofs.Entering.{after_entry, each_entry, entry_verdict, no_set_up, open_stage, verdict}

-- found is what the code found of the test
pub as_found : (why : Refusal) (test found : Bool) (ruling : Result Ruling Refusal) {answer : Bool} → found ≡ answer → found ≡ test → ruled_as (answer else why then accept) ruling ≡ ruled_as (test else why then accept) ruling
as_found why test found ruling e is = ap (λ (passes : Bool). ruled_as (passes else why then accept) ruling) (sym e ∙ is)

module _ (b : Book) (f : Figures) where
  -- what a record in its place comes to
  abbrev pub by_kind : Entry·of.Entry → Result Ruling Refusal
  by_kind entry = by_set_up (underlying_ruling b.tables.m) (contract_ruling b.tables.m b.tables.n) opening_ruling (of_decision (decision_on b.tables b.account entry f)) entry

  pub entry_ruling : (entry : Entry·of.Entry) → code_of (kind_of entry) < 16 → of_decision (decision_on b.tables b.account entry f) ≡ by_kind entry
  entry_ruling entry few =
      sym (no_set_up (underlying_ruling b.tables.m) (contract_ruling b.tables.m b.tables.n) opening_ruling (of_decision (decision_on b.tables b.account entry f)) entry few)

  -- a ruling tells the verdict, is booked as the book after it, and rests on what it needs
  record Leads (ruling : Result Ruling Refusal) (v : Verdict) (after : Book) : Type 0 where
    told : verdict_in ruling ≡ v
    booked : ruled_by b f ruling ≡ (entered_as v b after).book
    rested : SoundBook b → RestsOn b f ruling

  row_taken : (passes : Bool) (ruling : Result Ruling Refusal) → verdict_in ruling ≡ accept → (passes ≡ true → RestsOn b f ruling) → Leads (ruled_as (passes else OutOfRange then accept) ruling) (passes else OutOfRange then accept) (ruled_by b f ruling)
  row_taken true ruling accepted room = record { told = accepted; booked = refl; rested = λ sound. room refl }
  row_taken false ruling accepted room = record { told = refl; booked = refl; rested = λ sound. tt }

  module _ (entry : Entry·of.Entry) (stands : b.stage ≡ Entries) where
    by_verdict : (v : Verdict) → open_with (outcome v b.tables b.account (tables_after b.tables entry f) (account_after b.tables b.account entry f)) ≡ (entered_as v b (with_entry b entry f)).book
    by_verdict (Ok tt) = refl
    by_verdict (Err why) = λ i. record { stage = sym stands i; tables = b.tables; account = b.account }

    -- what is decided is told, booked and rested on as its ruling is
    of_told : (d : Result Decision Refusal) → verdict_in (of_decision d) ≡ verdict_in d
    of_told (Err why) = refl
    of_told (Ok (Decision·of.Changes change)) = refl
    of_told (Ok Decision·of.DayEnds) = refl

    of_booked : (d : Result Decision Refusal) → ruled_by b f (of_decision d) ≡ open_with (booked_by b.tables b.account f d)
    of_booked (Err why) = λ i. record { stage = stands i; tables = b.tables; account = b.account }
    of_booked (Ok (Decision·of.Changes change)) = refl
    of_booked (Ok Decision·of.DayEnds) = refl

    of_rests : (d : Result Decision Refusal) → Rests b.tables b.account f d → RestsOn b f (of_decision d)
    of_rests (Err why) it = tt
    of_rests (Ok (Decision·of.Changes change)) it = (stands, it)
    of_rests (Ok Decision·of.DayEnds) it = (stands, it)

    entry_leads : Leads (of_decision (decision_on b.tables b.account entry f)) (refusal_of b.tables b.account entry f) (with_entry b entry f)
    unfolding step
    entry_leads =
        let d = decision_on b.tables b.account entry f in
        record {
          told = of_told d ∙ verdict_decided b.tables b.account f entry;
          booked = of_booked d ∙ ap open_with (stepped b.tables b.account f entry) ∙ by_verdict (refusal_of b.tables b.account entry f);
          rested = λ sound. of_rests d (rests b.tables f b.account (sound.account stands) entry);
        }

  kind_leads : (entry : Entry·of.Entry) → in_place b.stage (code_of (kind_of entry)) ≡ true → Leads (by_kind entry) (verdict b f entry) (book_after b entry f)
  unfolding book_after
  kind_leads =
      each_entry (λ entry. in_place b.stage (code_of (kind_of entry)) ≡ true → Leads (by_kind entry) (verdict b f entry) (book_after b entry f))
      (λ entry few placed.
      subst (λ (after : Book). Leads (by_kind entry) (verdict b f entry) after) (sym (after_entry b f entry few))
      (subst (λ (v : Verdict). Leads (by_kind entry) v (with_entry b entry f)) (sym (entry_verdict b f entry few))
      (subst (λ (ruling : Result Ruling Refusal). Leads ruling (refusal_of b.tables b.account entry f) (with_entry b entry f)) (entry_ruling entry few)
      (entry_leads entry (open_stage b.stage (code_of (kind_of entry)) few placed)))))
      (λ row placed. row_taken (underlying_allowed row && ltb b.tables.m 8) (Ok (Renews (Underlying row))) refl (λ h. ltb-true _ _ (second_holds (underlying_allowed row) _ h)))
      (λ row placed. row_taken (contract_allowed b.tables.m row && ltb b.tables.n 64) (Ok (Renews (Contract row))) refl (λ h. ltb-true _ _ (second_holds (contract_allowed b.tables.m row) _ h)))
      (λ cash placed. row_taken (cash ∈ range_of OpeningCash) (Ok (Renews (Opening cash))) refl (λ h. tt))

module _ (b : Book) (entry : Entry·of.Entry) (f : Figures) where
  pub in_its_place : in_place b.stage (code_of (kind_of entry)) ≡ true → by_kind b f entry ≡ ruling_on b entry f
  unfolding ruling_on
  in_its_place placed = ap (λ (passes : Bool). ruled_as (passes else OutOfPlace then accept) (by_kind b f entry)) (sym placed)

  leads : Leads b f (ruling_on b entry f) (record_verdict b entry f) (book_after b entry f)
  unfolding ruling_on record_verdict
  leads = go (in_place b.stage (code_of (kind_of entry))) refl
    where
      go : (placed : Bool) → in_place b.stage (code_of (kind_of entry)) ≡ placed
          → Leads b f (ruled_as (placed else OutOfPlace then accept) (by_kind b f entry)) (placed else OutOfPlace then verdict b f entry) (book_after b entry f)
      go true e = kind_leads b f entry e
      go false e = record { told = refl; booked = refl; rested = λ sound. tt }

  pub ruling_verdict : verdict_in (ruling_on b entry f) ≡ record_verdict b entry f
  ruling_verdict = leads.told

  pub ruled_entered : ruled_by b f (ruling_on b entry f) ≡ (entered b entry f).book
  unfolding entered
  ruled_entered = leads.booked

  pub ruling_rests : SoundBook b → RestsOn b f (ruling_on b entry f)
  ruling_rests = leads.rested
