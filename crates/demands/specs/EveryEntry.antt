-- Demand 2: "Margins, holds, limits, balances and netting are those of document 01, after every entry of every list."
use Rattle.std.specs.Prelude.{ℕ, ◌≤◌, ◌<◌, ◌≡◌, ℤ}
use Rattle.terms.specs.Refusals.{number_of}
use Rattle.terms.specs.declared.refusal.Refusal.{Refusal}
use Rattle.rules.specs.Netting.{netted}
use Rattle.entries.specs.declared.entry.Entry.{Entry}
use Rattle.entries.specs.declared.entry.Entry.TheVariants.{DayEnd}
use Rattle.reading.specs.declared.Answer.TheVariants as Answer·of
use Rattle.reading.specs.declared.Reading.{Reading}
use Rattle.account.specs.Money.{holds_in, margin_in}
use Rattle.account.specs.Rows.{holding, position, underlying}
use Rattle.account.specs.Running.{closing, closing_on, free_in, running, running_in}
use Rattle.account.specs.Totals.{rights_in, total_in}
use Rattle.terms.specs.Verdicts.{number_in}
use Rattle.account.specs.declared.account.Account.{Account}
use Rattle.account.specs.declared.tables.Tables.{Tables}
use Rattle.set_up.specs.Sound.{SoundBook}
use Rattle.set_up.specs.Stages.{entered}
use Rattle.set_up.specs.declared.stages.Book.{Book}
use Rattle.set_up.specs.declared.stages.Stage.TheVariants.{Entries}
use Rattle.desk.specs.Runs.{available_in}

-- "margins, holds, limits": an account on its tables as document 01 has it
pub record AsRuled (t : Tables) (a : Account) : Type 0 where
  pub margin : a.sheet.margin ≡ margin_in t a  -- the sum of short x margin of one contract, at the figures in force
  pub holds : a.sheet.holds ≡ holds_in t a  -- the sum over the resting orders, and what waits
  pub rights : (u : ℕ) → u < t.m → rights_in t a u ≤ (underlying t u).rights  -- long + resting buy opens
  pub total : (u : ℕ) → u < t.m → total_in t a u ≤ (underlying t u).total  -- long + short + covered + resting opens
  pub daily : (u : ℕ) → u < t.m → (holding a u).bought.0 ≤ (underlying t u).daily  -- today's buy opens
  pub running : (u : ℕ) → u < 8 → running a u ≡ running_in t a u  -- long, total and resting opens as kept are "equal to the sums at every moment" (#107)
  pub closing : (c : ℕ) → c < 64 → closing a c ≡ closing_on a c  -- so are the resting closes on each contract
  pub free : a.free ≡ free_in a  -- and the free places

-- "after every entry": the book before and after a record, how the record was read, and what was written as its answer
pub record AfterEntry (before after : Book) (reading : Reading) (number : ℕ) (sum : ℤ) : Type 0 where
  pub sound : SoundBook after  -- all that the rules ask of tables and account
  pub ruled : after.stage ≡ Entries → AsRuled after.tables after.account
  pub available : sum ≡ available_in after  -- cash less holds less margin, and 0 before the opening
  pub booked : (entry : Entry) (len : ℕ) → reading.answer ≡ Answer·of.Found entry len
      → (number ≡ number_in (entered before entry reading.figures).verdict) × (after ≡ (entered before entry reading.figures).book)  -- "balances": verdict and book are the definitions'
  pub unread : (why : Refusal) (place : ℕ) → reading.answer ≡ Answer·of.Refused why place → (number ≡ number_of why) × (after ≡ before)
  pub netting : (n m len : ℕ) → reading.answer ≡ Answer·of.Found (DayEnd n m) len → number ≡ 0
      → (c : ℕ) → position after.account c ≡ netted (position before.account c)  -- of every contract, at each day end
  pub refused : (number ≡ 0 → ⊥) → after ≡ before  -- demand 1: "a refused entry changes neither the account .."
