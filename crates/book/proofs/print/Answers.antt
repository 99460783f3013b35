-- A turn answers and writes the page that comes next.
use Rattle.std.proofs.Common.{◌≡◌, ℕ, suc, ◌+◌, ◌≤◌, ◌<◌, false, true, sym, ap, subst, ◌∙◌, List, length, take, drop, arith}
use mathlib.Core.Logic.{⊎_elim}
use Rattle.terms.specs.Verdicts.{accept}
use Rattle.set_up.specs.Sound.{SoundBook}
use Rattle.set_up.proofs.EnteredSound.{new_sound}
use Rattle.desk.specs.Runs.{Ran, places_in, run_from}
use Rattle.desk.specs.declared.Run.{Run}
use Rattle.desk.proofs.Onward.{run_sound}
use Rattle.desk.proofs.Places.{went}
use Rattle.desk.proofs.Started.{Leaves}
use Rattle.book.specs.Lines.{printed_for}
use Rattle.book.proofs.Answers.{lines_left}
use Rattle.book.proofs.Paging.{Printed, all_written, behind, from_the_first, more_behind, none_behind, none_left, page_from, page_next, page_passed, to_come}
use Rattle.book.proofs.print.Goals as goal
use Rattle.book.proofs.print.Goals.{After-lines}

-- a turn's run with a page's places from where the book in hand stands, and the page of its answers
module _ (c : After-lines) where
  abbrev s : List ℕ
  s = c.args.bytes.now

  abbrev ran : Ran
  ran = run_from 128 s c.loop-place.place c.loop-place.book

  abbrev run : Run
  run = c.run_on-run.result

  abbrev page : List ℕ
  page = c.lines.new.page.bytes

  left : Leaves accept ran run c.loop-place.numbers c.run_on-run.new.numbers c.loop-place.sums c.run_on-run.new.sums
  left =
      let places : places_in c.loop-place.numbers c.loop-place.sums ≡ 128 = omega arith in
      subst (λ (k : ℕ). Leaves accept (run_from k s c.loop-place.place c.loop-place.book) run c.loop-place.numbers c.run_on-run.new.numbers c.loop-place.sums c.run_on-run.new.sums) places
      (c.run_on-run.ensures.run, (c.run_on-run.ensures.numbers, c.run_on-run.ensures.sums))

  stops : run.stopped ≡ ran.stopped
  stops = ap (λ (r : Run). r.stopped) left.0

  -- a run that did not stop has gone on
  further : run.stopped ≡ false → (c.loop-place.place + run.answered ≤ run.place) × (c.loop-place.place < run.place)
  further on =
      let so = went 128 s c.loop-place.place c.loop-place.book (sym stops ∙ on) in
      let counted = ap (λ (r : Run). r.answered) left.0 in
      let at = ap (λ (r : Run). r.place) left.0 in
      let inside = c.loop-place-test.true in
      (omega (arith, counted, at, so.moved), ⊎_elim (λ none. omega (arith, none)) (λ all. omega (arith, all, at, so.moved)) so.used)

  stays_sound : SoundBook run.book
  stays_sound = subst (λ (r : Run). SoundBook r.book) (sym left.0) (run_sound 128 s c.loop-place.place c.loop-place.book c.loop-place.invariant.sound)

  -- the lines of its answers are the page that comes next
  page_is : page ≡ page_from s c.loop-place.first c.loop-place.place c.loop-place.book
  page_is = c.lines.ensures ∙ lines_left ran run _ _ _ _ left (suc c.loop-place.first)

  next : page ≡ take (length page) (drop c.loop-place.written (printed_for s))
  next =
      subst (λ (l : List ℕ). l ≡ take (length l) (drop c.loop-place.written (printed_for s))) (sym page_is)
      (sym (page_next s c.loop-place.first c.loop-place.written c.loop-place.place c.loop-place.book c.loop-place.invariant.printed))

  passed : Printed s (c.loop-place.written + length page) (behind s c.loop-place.first ran)
  passed =
      subst (λ (l : List ℕ). Printed s (c.loop-place.written + length l) (behind s c.loop-place.first ran)) (sym page_is)
      (page_passed s c.loop-place.first c.loop-place.written c.loop-place.place c.loop-place.book c.loop-place.invariant.printed)

  ends : run.stopped ≡ true → c.loop-place.written + length page ≡ length (printed_for s)
  ends stopped = all_written s _ _ passed (none_behind s c.loop-place.first ran (sym stops ∙ stopped))

  goes_on : run.stopped ≡ false → Printed s (c.loop-place.written + length page) (to_come s (c.loop-place.first + run.answered) run.place run.book)
  goes_on on =
      subst (Printed s (c.loop-place.written + length page))
      (more_behind s c.loop-place.first ran (sym stops ∙ on) ∙ ap (λ (r : Run). to_come s (c.loop-place.first + r.answered) r.place r.book) (sym left.0))
      passed

pub loop-place-init : goal.loop-place-init
loop-place-init c = record {
  printed = rw c.new-book.ensures (from_the_first c.args.bytes.now);
  sound = rw c.new-book.ensures new_sound;
  counted = omega arith;
  short = omega arith;
}

pub put-requires : goal.put-requires
put-requires c = rw c.as_str.ensures.value (next (goal.at.put-requires c).After-lines)

pub returns-then-run : goal.returns-then-run
returns-then-run c = rw c.len-written.ensures.value (ends (goal.at.returns-then-run c).After-lines c.if-run.true)

pub loop-place-smaller : goal.loop-place-smaller
loop-place-smaller c = omega (arith, further (goal.at.loop-place-smaller c).After-lines c.if-run.false)

pub loop-place-preserved : goal.loop-place-preserved
loop-place-preserved c =
    let turn = (goal.at.loop-place-preserved c).After-lines in
    let more = further turn c.if-run.false in
    record {
      printed = rw c.len-written.ensures.value (goes_on turn c.if-run.false);
      sound = stays_sound turn;
      counted = omega (arith, more);
      short = omega (arith, more);
    }

pub returns : goal.returns
returns c = all_written _ _ _ c.loop-place.invariant.printed (none_left c.args.bytes.now _ _ c.loop-place.book (omega arith))
