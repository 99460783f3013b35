-- What a record that was read comes to on a book, before anything is written (house).
use Rattle.std.specs.Prelude.{Result, Err}
use Rattle.terms.specs.declared.refusal.Refusal.{Refusal}
use Rattle.entries.specs.declared.entry.Figures.{Figures}
use Rattle.reading.specs.declared.Answer.{Answer}
use Rattle.reading.specs.declared.Answer.TheVariants.{Found, Refused}
use Rattle.set_up.specs.Rulings.{ruling_on}
use Rattle.set_up.specs.declared.ruling.Ruling.{Ruling}
use Rattle.set_up.specs.declared.stages.Book.{Book}

-- one that can't be read is refused for what the reader says
abbrev pub ruling_by : Book → Figures → Answer → Result Ruling Refusal
ruling_by b f (Found entry len) = ruling_on b entry f
ruling_by b f (Refused why place) = Err why
