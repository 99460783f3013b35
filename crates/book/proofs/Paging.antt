-- What is printed goes page by page: the lines to come are those of a run with a page's places and, unless it stopped, the lines to come from where it stands.
use mathlib.Core.Path.{◌≡◌, refl, sym, ap, ◌∙◌}
use mathlib.Core.Bool.{Bool, true, false, cond}
use mathlib.Core.List.{List, [], ◌∷◌, ◌++◌, append_assoc, append-nil}
use Prim.Native.Nat.{ℕ, suc, ◌+◌, ◌≤◌}
use native.Mathlib.Nat.{add-zero, add-suc, suc-add}
use native.Mathlib.Omega.{arith}
use lib.IntN.{ℤ}
use lib.ListN.{length, take, drop, length-append, length-drop}
use lib.Seq.{drop-append_seam, drop-drop, take-append_seam}
use Rattle.set_up.specs.Stages.{new_book}
use Rattle.set_up.specs.declared.stages.Book.{Book}
use Rattle.desk.specs.Runs.{Ran, run_from}
use Rattle.desk.proofs.Onward.{◌joined◌, goes_onward}
use Rattle.desk.proofs.Places.{enough}
use Rattle.desk.proofs.Turns.{no_byte}
use Rattle.book.specs.Lines.{line_of, lines_from, printed_for}
use Rattle.book.proofs.Answers.{lines_of}

lines_append : (number : ℕ) (first more : List (ℕ × ℤ)) → lines_of number (first ++ more) ≡ lines_of number first ++ lines_of (number + length first) more
unfolding lines_from
lines_append number [] more = ap (λ (k : ℕ). lines_of k more) (sym (add-zero number))
lines_append number (answer ∷ first) more =
    let line = line_of number answer.0 answer.1 in
    ap (λ (l : List ℕ). line ++ l)
    (lines_append (suc number) first more ∙ ap (λ (k : ℕ). lines_of (suc number) first ++ lines_of k more) (suc-add number (length first) ∙ sym (add-suc number (length first))))
    ∙ sym (append_assoc line (lines_of (suc number) first) (lines_of (number + suc (length first)) more))

-- a page: the lines of 128 records from a place on, or of as many as are left; `first` records were answered before
abbrev pub page_from : List ℕ → ℕ → ℕ → Book → List ℕ
page_from s first place b = lines_of (suc first) (run_from 128 s place b).answers

-- all lines from a place on
abbrev pub to_come : List ℕ → ℕ → ℕ → Book → List ℕ
to_come s first place b = lines_of (suc first) (run_from (length s) s place b).answers

-- what comes behind the page of a run
abbrev pub behind : List ℕ → ℕ → Ran → List ℕ
behind s first ran = cond ran.stopped [] (to_come s (first + length ran.answers) ran.place ran.book)

-- so nothing comes where the run stopped, and else all lines from where it stands
module _ (s : List ℕ) (first : ℕ) (ran : Ran) where
  abbrev on : List ℕ
  on = to_come s (first + length ran.answers) ran.place ran.book

  pub none_behind : ran.stopped ≡ true → behind s first ran ≡ []
  none_behind = ap (λ (stops : Bool). cond stops [] on)

  pub more_behind : ran.stopped ≡ false → behind s first ran ≡ on
  more_behind = ap (λ (stops : Bool). cond stops [] on)

module _ (s : List ℕ) (first place : ℕ) (b : Book) where
  next_page : to_come s first place b ≡ page_from s first place b ++ behind s first (run_from 128 s place b)
  next_page =
      ap (λ (r : Ran). lines_of (suc first) r.answers) (enough (length s) (128 + length s) s place b (omega arith) (omega arith) ∙ goes_onward 128 (length s) s place b)
      ∙ go (run_from 128 s place b) (run_from 128 s place b).stopped
    where
      go : (ran : Ran) (stops : Bool)
          → let more = run_from (length s) s ran.place ran.book in
          lines_of (suc first) (cond stops ran (ran joined more)).answers ≡ lines_of (suc first) ran.answers ++ cond stops [] (lines_of (suc (first + length ran.answers)) more.answers)
      go ran true = sym (append-nil _)
      go ran false =
          let more = run_from (length s) s ran.place ran.book in
          lines_append (suc first) ran.answers more.answers ∙ ap (λ (k : ℕ). lines_of (suc first) ran.answers ++ lines_of k more.answers) (suc-add first (length ran.answers))

  pub none_left : length s ≤ place → to_come s first place b ≡ []
  unfolding lines_from
  none_left all = ap (λ (r : Ran). lines_of (suc first) r.answers) (no_byte s place b (length s) all)

-- so many bytes are written of what is printed, and these lines are left
pub record Printed (s : List ℕ) (written : ℕ) (left : List ℕ) : Type 0 where
  pub within : written ≤ length (printed_for s)
  pub rest : drop written (printed_for s) ≡ left

pub from_the_first : (s : List ℕ) → Printed s 0 (to_come s 0 0 new_book)
unfolding printed_for
from_the_first s = record { within = omega arith; rest = refl }

module _ (s : List ℕ) (first written place : ℕ) (b : Book) (so : Printed s written (to_come s first place b)) where
  abbrev page : List ℕ
  page = page_from s first place b

  both : drop written (printed_for s) ≡ page ++ behind s first (run_from 128 s place b)
  both = so.rest ∙ next_page s first place b

  pub page_next : take (length page) (drop written (printed_for s)) ≡ page
  page_next = ap (take (length page)) both ∙ take-append_seam page (behind s first (run_from 128 s place b))

  pub page_passed : Printed s (written + length page) (behind s first (run_from 128 s place b))
  page_passed =
      let after = behind s first (run_from 128 s place b) in
      let long = ap length both ∙ length-append page after in
      record {
        within = omega (arith, long, length-drop written (printed_for s), so.within);
        rest = sym (drop-drop (length page) written (printed_for s)) ∙ ap (drop (length page)) both ∙ drop-append_seam page after;
      }

-- all is written where nothing is left
pub all_written : (s : List ℕ) (written : ℕ) (left : List ℕ) → Printed s written left → left ≡ [] → written ≡ length (printed_for s)
all_written s written left so none = omega (arith, so.within, length-drop written (printed_for s), ap length (so.rest ∙ none))
