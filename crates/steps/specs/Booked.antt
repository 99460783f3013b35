-- What is decided about an entry, and a decision booked: a refusal leaves tables and account as they were, a change is applied, and a day end goes through all rows: the two halves of `step` (house).
use Rattle.std.specs.Prelude.{cond, Result, Ok, Err}
use Rattle.terms.specs.Verdicts.{accept}
use Rattle.terms.specs.declared.refusal.Refusal.{Refusal}
use Rattle.entries.specs.Entries.{kind_of}
use Rattle.entries.specs.Table.{is_day_end}
use Rattle.entries.specs.declared.entry.Entry.{Entry}
use Rattle.entries.specs.declared.entry.Figures.{Figures}
use Rattle.account.specs.Changes.{applied, decided, ending}
use Rattle.account.specs.Room.{Movable}
use Rattle.account.specs.Steps.{change_of, refusal_of}
use Rattle.account.specs.declared.account.Account.{Account}
use Rattle.account.specs.declared.judged.Decision.{Decision}
use Rattle.account.specs.declared.judged.Decision.TheVariants as Decision·of
use Rattle.account.specs.declared.judged.Outcome.{Outcome}
use Rattle.account.specs.declared.tables.Tables.{Tables}
use Rattle.day_end.specs.Ended.{FiguresTaken, ended_on}

-- the verdict on the entry, with what it changes or with the end of the day
unfoldable pub decision_on : Tables → Account → Entry → Figures → Result Decision Refusal
decision_on t a entry f = cond (is_day_end (kind_of entry)) (ending (refusal_of t a entry f)) (decided (refusal_of t a entry f) (change_of t a entry))

-- what a decision rests on when it is booked: what is kept of the account can be moved with a change; where the day ends, the tables take the figures
abbrev pub Rests : Tables → Account → Figures → Result Decision Refusal → Type 0
Rests t a f (Err why) = Unit
Rests t a f (Ok (Decision·of.Changes change)) = Movable a change
Rests t a f (Ok Decision·of.DayEnds) = FiguresTaken t f

abbrev pub booked_by : Tables → Account → Figures → Result Decision Refusal → Outcome
booked_by t a f (Err why) = record { verdict = Err why; tables = t; account = a }
booked_by t a f (Ok (Decision·of.Changes change)) = record { verdict = accept; tables = t; account = applied a change }
booked_by t a f (Ok Decision·of.DayEnds) = ended_on t a f
