-- A day that ends: on which figures it may, and what it leaves (house).
use Rattle.std.specs.Prelude.{◌≡◌}
use Rattle.terms.specs.Verdicts.{accept}
use Rattle.entries.specs.declared.entry.Figures.{Figures}
use Rattle.account.specs.DayEnd.{day_end_verdict, day_ended, figures_installed}
use Rattle.account.specs.declared.account.Account.{Account}
use Rattle.account.specs.declared.judged.Outcome.{Outcome}
use Rattle.account.specs.declared.tables.Tables.{Tables}

-- figures with which a day end of as many rows as the tables have is accepted
abbrev pub FiguresTaken : Tables → Figures → Type 0
FiguresTaken t f = day_end_verdict t t.n t.m f ≡ accept

-- the tables with the new figures, and the account ended on them
abbrev pub ended_on : Tables → Account → Figures → Outcome
ended_on t a f = let new = figures_installed t f in record { verdict = accept; tables = new; account = day_ended new a }
