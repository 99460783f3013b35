-- `rule` meets its contract: a record out of its place is refused; one in its place goes by its kind and by what it sees, and an entry's place is an open book, whose account is sound.
use lib.Dec.{ltb}
use mathlib.Core.Bool.{◌&&◌}
use Rattle.std.proofs.Common.{◌≡◌, ℕ, ◌<◌, Bool, true, refl, sym, ap}
use mathlib.Core.Path.{ap₂, ◌∙◌}
use Rattle.std.specs.Prelude.{Result, Ok, Err}
use Rattle.terms.specs.declared.refusal.Refusal.{Refusal}
use Rattle.terms.specs.declared.refusal.Refusal.TheVariants.{OutOfPlace}
use Rattle.entries.specs.Entries.{kind_of}
use Rattle.entries.specs.Table.{code_of}
use Rattle.entries.specs.declared.entry.Entry.{Entry}
use Rattle.entries.specs.declared.entry.Entry.TheVariants as Record
use Rattle.entries.specs.declared.entry.Contract.{Contract}
use Rattle.entries.specs.declared.entry.Figures.{Figures}
use Rattle.entries.specs.declared.entry.Underlying.{Underlying}
use Rattle.entries.specs.declared.kind.Kind.{Kind}
use Rattle.account.specs.Seen.{Sees, seen_by}
use Rattle.account.specs.declared.judged.Seen.{Seen}
use Rattle.set_up.specs.Rulings.{contract_ruling, of_decision, renewing, ruling_on}
use Rattle.set_up.specs.Sound.{SeesBook}
use Rattle.set_up.specs.Stages.{in_place}
use Rattle.set_up.specs.declared.ruling.Renewal.TheVariants as Renewal
use Rattle.set_up.specs.declared.ruling.Ruling.{Ruling}
use Rattle.set_up.specs.declared.stages.Book.{Book}
use Rattle.set_up.specs.declared.stages.Stage.{Stage}
use Rattle.set_up.proofs.Entering.{each_entry, open_stage}
use Rattle.set_up.proofs.Booking.{as_found, by_kind, entry_ruling, in_its_place}
use Rattle.set_up.proofs.ruling.rule.Goals as goal
use Rattle.set_up.proofs.ruling.rule.Goals.{After-in_place}

-- what is none of set-up's three records is an entry on an open book
few_kinds : (entry : Entry) → ((row : Underlying) → entry ≡ Record.Underlying row → ⊥) → ((row : Contract) → entry ≡ Record.Contract row → ⊥) → ((cash : ℕ) → entry ≡ Record.Opening cash → ⊥) → code_of (kind_of entry) < 16
few_kinds =
    each_entry
    (λ entry. ((row : Underlying) → entry ≡ Record.Underlying row → ⊥) → ((row : Contract) → entry ≡ Record.Contract row → ⊥) → ((cash : ℕ) → entry ≡ Record.Opening cash → ⊥) → code_of (kind_of entry) < 16)
    (λ entry few _ _ _. few)
    (λ row other _ _. absurd (other row refl))
    (λ row _ other _. absurd (other row refl))
    (λ cash _ _ other. absurd (other cash refl))

-- what the code found of the record's place is its place
placed : (c : After-in_place) → c.in_place.result ≡ in_place c.args.stage (code_of (kind_of c.args.entry))
placed c = c.in_place.ensures ∙ ap (in_place c.args.stage) (c.from.ensures ∙ ap code_of c.kind.ensures)

-- a book of which the record sees so much
module _ {stage : Stage} {b : Book} {entry : Entry} {seen : Seen} (sees : SeesBook stage b entry seen) where
  shown_rows : (seen.m ≡ b.tables.m) × (seen.n ≡ b.tables.n)
  unfolding seen_by
  shown_rows = (ap (λ (s : Seen). s.m) sees.is, ap (λ (s : Seen). s.n) sees.is)

  module _ (found : in_place stage (code_of (kind_of entry)) ≡ true) where
    stands : in_place b.stage (code_of (kind_of entry)) ≡ true
    stands = ap (λ (stage : Stage). in_place stage (code_of (kind_of entry))) sees.stands ∙ found

    so : (f : Figures) (is : Entry) (r : Result Ruling Refusal) → entry ≡ is → r ≡ by_kind b f is → r ≡ ruling_on b entry f
    so f is r e ruled = ruled ∙ sym (ap (by_kind b f) e) ∙ in_its_place b entry f stands

    entry_sees : code_of (kind_of entry) < 16 → Sees b.tables b.account entry seen
    entry_sees few = record { sound = sees.sound.account (open_stage b.stage _ few stands); is = sees.is }

pub returns-then-not-in_place : goal.returns-then-not-in_place
unfolding ruling_on
returns-then-not-in_place c b sees =
    let found = placed (goal.at.returns-then-not-in_place c).After-in_place in
    as_found OutOfPlace _ _ (by_kind b c.args.figures.now c.args.entry) c.if-not-in_place.true
    (found ∙ ap (λ (stage : Stage). in_place stage (code_of (kind_of c.args.entry))) (sym sees.stands))

pub decide-requires : goal.decide-requires
decide-requires c =
    let found = sym (placed (goal.at.decide-requires c).After-in_place) ∙ c.if-not-in_place.false in
    let few = few_kinds c.args.entry c.in_default.not-Underlying c.in_default.not-Contract c.in_default.not-Opening in
    record { tables = c.requires.book.tables; account = c.requires.book.account; sees = entry_sees c.requires.sees found few }

pub returns-in-Underlying : goal.returns-in-Underlying
returns-in-Underlying c b sees =
    let found = sym (placed (goal.at.returns-in-Underlying c).After-in_place) ∙ c.if-not-in_place.false in
    so sees found c.args.figures.now _ _ c.in-Underlying.is (c.renews.ensures ∙ ap₂ (λ (allowed : Bool) (m : ℕ). renewing (allowed && ltb m 8) (Renewal.Underlying c.in-Underlying.row)) c.underlying_allowed.ensures (shown_rows sees).0)

pub returns-in-Contract : goal.returns-in-Contract
returns-in-Contract c b sees =
    let found = sym (placed (goal.at.returns-in-Contract c).After-in_place) ∙ c.if-not-in_place.false in
    let rows = shown_rows sees in
    so sees found c.args.figures.now _ _ c.in-Contract.is (c.renews-in-Contract.ensures ∙ ap (λ (allowed : Bool). renewing (allowed && ltb c.args.seen.n 64) (Renewal.Contract c.in-Contract.row)) c.contract_allowed.ensures ∙ ap₂ (λ (m n : ℕ). contract_ruling m n c.in-Contract.row) rows.0 rows.1)

pub returns-in-Opening : goal.returns-in-Opening
returns-in-Opening c b sees =
    let found = sym (placed (goal.at.returns-in-Opening c).After-in_place) ∙ c.if-not-in_place.false in
    so sees found c.args.figures.now _ _ c.in-Opening.is (c.renews-in-Opening.ensures ∙ ap (λ (allowed : Bool). renewing allowed (Renewal.Opening c.in-Opening.cash)) c.allows.ensures)

pub returns-in_default : goal.returns-in_default
returns-in_default c b sees =
    let found = sym (placed (goal.at.returns-in_default c).After-in_place) ∙ c.if-not-in_place.false in
    let few = few_kinds c.args.entry c.in_default.not-Underlying c.in_default.not-Contract c.in_default.not-Opening in
    so sees found c.args.figures.now _ _ refl (c.of_decision.ensures ∙ ap of_decision (c.decide.ensures b.tables b.account (entry_sees sees found few)) ∙ entry_ruling b c.args.figures.now _ few)
