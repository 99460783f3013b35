-- What a record comes to before anything is written, and the book after that is written: the two halves of `entered` (house).
use Rattle.std.specs.Prelude.{◌≡◌, ◌&&◌, Bool, ℕ, ◌<◌, ltb, Result, Ok, Err}
use Rattle.terms.specs.declared.refusal.Refusal.{Refusal}
use Rattle.terms.specs.declared.refusal.Refusal.TheVariants.{OutOfPlace, OutOfRange}
use Rattle.entries.specs.Entries.{kind_of}
use Rattle.entries.specs.Table.{code_of}
use Rattle.entries.specs.declared.entry.Contract as Contract·of
use Rattle.entries.specs.declared.entry.Entry as Entry·of
use Rattle.entries.specs.declared.entry.Figures.{Figures}
use Rattle.entries.specs.declared.entry.Underlying as Underlying·of
use Rattle.account.specs.Changes.{applied}
use Rattle.account.specs.Room.{Movable}
use Rattle.account.specs.Sound.{contract_allowed, underlying_allowed}
use Rattle.terms.specs.Verdicts.{◌else◌then◌, accept}
use Rattle.account.specs.declared.judged.Decision.{Decision}
use Rattle.account.specs.declared.judged.Decision.TheVariants as Decision·of
use Rattle.account.specs.declared.judged.Outcome.{Outcome}
use Rattle.terms.specs.Verdicts.{Verdict}
use Rattle.day_end.specs.Ended.{FiguresTaken, ended_on}
use Rattle.steps.specs.Booked.{decision_on}
use Rattle.set_up.specs.Stages.{by_set_up, in_place, opened, opening_verdict, with_contract, with_underlying}
use Rattle.set_up.specs.declared.ruling.Renewal.{Renewal}
use Rattle.set_up.specs.declared.ruling.Renewal.TheVariants.{Underlying, Contract, Opening, DayEnds}
use Rattle.set_up.specs.declared.ruling.Ruling.{Ruling}
use Rattle.set_up.specs.declared.ruling.Ruling.TheVariants.{Changes, Renews}
use Rattle.set_up.specs.declared.stages.Book.{Book}
use Rattle.set_up.specs.declared.stages.Stage.TheVariants.{Entries}

-- where the verdict is a refusal, it comes to that
abbrev pub ruled_as : Verdict → Result Ruling Refusal → Result Ruling Refusal
ruled_as (Ok tt) ruling = ruling
ruled_as (Err why) ruling = Err why

-- a record of set-up makes the book anew where its values are allowed
abbrev pub renewing : Bool → Renewal → Result Ruling Refusal
renewing allowed renewal = ruled_as (allowed else OutOfRange then accept) (Ok (Renews renewal))

abbrev pub underlying_ruling : ℕ → Underlying·of.Underlying → Result Ruling Refusal
underlying_ruling m row = renewing (underlying_allowed row && ltb m 8) (Underlying row)

abbrev pub contract_ruling : ℕ → ℕ → Contract·of.Contract → Result Ruling Refusal
contract_ruling m n row = renewing (contract_allowed m row && ltb n 64) (Contract row)

abbrev pub opening_ruling : ℕ → Result Ruling Refusal
opening_ruling cash = ruled_as (opening_verdict cash) (Ok (Renews (Opening cash)))

-- and what is decided about an entry
abbrev pub of_decision : Result Decision Refusal → Result Ruling Refusal
of_decision (Err why) = Err why
of_decision (Ok (Decision·of.Changes change)) = Ok (Changes change)
of_decision (Ok Decision·of.DayEnds) = Ok (Renews DayEnds)

-- in its place a record goes by its kind
unfoldable pub ruling_on : Book → Entry·of.Entry → Figures → Result Ruling Refusal
ruling_on b entry f =
    ruled_as (in_place b.stage (code_of (kind_of entry)) else OutOfPlace then accept)
    (by_set_up (underlying_ruling b.tables.m) (contract_ruling b.tables.m b.tables.n) opening_ruling (of_decision (decision_on b.tables b.account entry f)) entry)

-- what a ruling rests on when it is written: there is room for the row; the book is open, what is kept can be moved with the change, and a day ends on figures that its tables take
abbrev pub RenewsOn : Book → Figures → Renewal → Type 0
RenewsOn b f (Underlying row) = b.tables.m < 8
RenewsOn b f (Contract row) = b.tables.n < 64
RenewsOn b f (Opening cash) = Unit
RenewsOn b f DayEnds = (b.stage ≡ Entries) × FiguresTaken b.tables f

abbrev pub RestsOn : Book → Figures → Result Ruling Refusal → Type 0
RestsOn b f (Err why) = Unit
RestsOn b f (Ok (Changes change)) = (b.stage ≡ Entries) × Movable b.account change
RestsOn b f (Ok (Renews renewal)) = RenewsOn b f renewal

-- an open book with what an entry led to
abbrev pub open_with : Outcome → Book
open_with after = record { stage = Entries; tables = after.tables; account = after.account }

-- the book after a ruling
abbrev pub with_day_end : Book → Figures → Book
with_day_end b f = open_with (ended_on b.tables b.account f)

abbrev pub renewed_by : Book → Figures → Renewal → Book
renewed_by b f (Underlying row) = with_underlying b row
renewed_by b f (Contract row) = with_contract b row
renewed_by b f (Opening cash) = opened b.tables cash
renewed_by b f DayEnds = with_day_end b f

abbrev pub ruled_by : Book → Figures → Result Ruling Refusal → Book
ruled_by b f (Err why) = b
ruled_by b f (Ok (Changes change)) = record { stage = Entries; tables = b.tables; account = applied b.account change }
ruled_by b f (Ok (Renews renewal)) = renewed_by b f renewal
