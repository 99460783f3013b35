-- What a book from its first record on satisfies, after every record: its tables are sound, and once it is open so is its account (demand 2).
use Rattle.std.specs.Prelude.{◌≡◌}
use Rattle.entries.specs.declared.entry.Entry.{Entry}
use Rattle.account.specs.Seen.{seen_by}
use Rattle.account.specs.Sound.{Sound, SoundTables}
use Rattle.account.specs.declared.judged.Seen.{Seen}
use Rattle.set_up.specs.declared.stages.Book.{Book}
use Rattle.set_up.specs.declared.stages.Stage.{Stage}
use Rattle.set_up.specs.declared.stages.Stage.TheVariants.{Entries}

pub record SoundBook (b : Book) : Type 0 where
  pub tables : SoundTables b.tables  -- each accepted row was judged
  pub account : b.stage ≡ Entries → Sound b.tables b.account  -- opened within its range, and stepped since

-- a record sees so much of a sound book at a stage; there is such a book; what holds of all of them (house)
pub record SeesBook (stage : Stage) (b : Book) (e : Entry) (s : Seen) : Type 0 where
  pub sound : SoundBook b
  pub stands : b.stage ≡ stage
  pub is : s ≡ seen_by b.tables b.account e

pub record BookSeen (stage : Stage) (e : Entry) (s : Seen) : Type 0 where
  pub book : Book
  pub sees : SeesBook stage book e s

abbrev pub WhereverBook : Stage → Entry → Seen → (Book → Type 0) → Type 0
WhereverBook stage e s P = (b : Book) → SeesBook stage b e s → P b
