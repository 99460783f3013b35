-- What the theorems about records speak of: entries as wide as their fields, lent bytes, and what reading gives back of what was written.
use Rattle.std.specs.Prelude.{◌≡◌, cond, false, List, [], ◌∷◌, ◌++◌, ℕ, ◌^◌, ◌<◌, ℤ, length}
use Rattle.entries.specs.Entries.{kind_of, fields_in, figures_in, figures_from, no_figures}
use Rattle.entries.specs.Table.{fields_of, is_day_end}
use Rattle.entries.specs.declared.entry.Entry.{Entry}
use Rattle.entries.specs.declared.entry.Figures.{Figures}
use Rattle.account.specs.Money.{available_of}
use Rattle.terms.specs.Verdicts.{number_in}
use Rattle.account.specs.declared.judged.Outcome.{Outcome}
use Rattle.writing.specs.Writing.{counts_barred, m_of, n_of, record_of}

-- numbers that are below a bound, one and all
abbrev pub Below : ℕ → List ℕ → Type 0
Below bound [] = Unit {0}
Below bound (x ∷ xs) = (x < bound) × Below bound xs

-- lent bytes
abbrev pub AreBytes : List ℕ → Type 0
AreBytes s = Below 256 s

-- values that fit their widths, one for each
abbrev pub Fit : List ℕ → List ℕ → Type 0
Fit [] [] = Unit {0}
Fit [] (x ∷ xs) = ⊥
Fit (w ∷ ws) [] = ⊥
Fit (w ∷ ws) (x ∷ xs) = (x < 256 ^ w) × Fit ws xs

-- an entry and its figures as their types have them: each field in its width, 64 settlements and 8 closes of 4 bytes
pub record Typed (entry : Entry) (f : Figures) : Type 0 where
  pub fields : Fit (fields_of (kind_of entry)) (fields_in entry)
  pub settlements : length f.settlements ≡ 64
  pub closes : length f.closes ≡ 8
  pub settlements_fit : Below (256 ^ 4) f.settlements
  pub closes_fit : Below (256 ^ 4) f.closes

-- the figures of an entry: a day end's up to its n and m, and none of any other
abbrev pub figures_kept : Entry → Figures → Figures
figures_kept entry f = cond (is_day_end (kind_of entry)) (figures_from (n_of entry) (m_of entry) (figures_in (n_of entry) (m_of entry) f)) no_figures

-- an entry with its figures as its record carries them: one that can be written, and "figures past n and m are no part of an entry"
pub record Carried (entry : Entry) (f : Figures) : Type 0 where
  pub typed : Typed entry f
  pub counts : counts_barred entry ≡ false
  pub kept : figures_kept entry f ≡ f

-- the records of a list of entries, one after the other
abbrev pub records_of : List (Entry × Figures) → List ℕ
records_of [] = []
records_of (e ∷ es) = record_of e.0 e.1 ++ records_of es

-- what is answered to a record whose entry led to this: a number, and what is available then
abbrev pub answer_of : Outcome → ℕ × ℤ
answer_of after = (number_in after.verdict, available_of after.account.sheet)
