-- What one answer leaves is as document 01 has it: an entry that was read is entered, which keeps a sound book sound, and one that could not be read changes nothing.
use mathlib.Core.Path.{◌≡◌, refl, sym, ap, subst}
use Prim.Native.Nat.{ℕ}
use native.Mathlib.Omega.{arith}
use lib.ListN.{get_or-map}
use Rattle.std.specs.Prelude.{Ok, Err}
use Rattle.terms.specs.Refusals.{number_of}
use Rattle.terms.proofs.Refusals.{some_number}
use Rattle.rules.specs.Netting.{against_covered, against_short, netted}
use Rattle.entries.specs.declared.entry.Entry.{Entry}
use Rattle.entries.specs.declared.entry.Entry.TheVariants.{DayEnd}
use Rattle.entries.specs.declared.entry.Figures.{Figures}
use Rattle.reading.specs.declared.Answer.{Answer}
use Rattle.reading.specs.declared.Answer.TheVariants.{Found, Refused}
use Rattle.reading.specs.declared.Reading.{Reading}
use Rattle.account.specs.DayEnd.{kept_anew, orders_cancelled, positions_netted, margin_afresh, premium_joined, daily_zero, units_released, day_ended}
use Rattle.account.specs.Rows.{no_position, position}
use Rattle.account.specs.Sound.{Sound}
use Rattle.account.specs.Steps.{account_after}
use Rattle.terms.specs.Verdicts.{number_in}
use Rattle.account.specs.declared.account.Account.{Account}
use Rattle.terms.specs.Verdicts.{Verdict}
use Rattle.account.specs.declared.tables.Tables.{Tables}
use Rattle.set_up.specs.Sound.{SoundBook}
use Rattle.set_up.specs.Stages.{book_after, entered, entered_as, record_verdict}
use Rattle.set_up.specs.declared.stages.Book.{Book}
use Rattle.desk.specs.Runs.{answer_by, answer_to, available_in}
use Rattle.desk.proofs.Answered.{answer_sound}
use Rattle.demands.specs.EveryEntry.{AfterEntry, AsRuled}

as_ruled : (t : Tables) (a : Account) → Sound t a → AsRuled t a
as_ruled t a s = record { margin = s.margin; holds = s.holds; rights = s.rights; total = s.total; daily = s.daily; running = s.running; closing = s.closing; free = s.free }

-- a day end nets every contract, and one that is not held is netted to nothing
day_nets : (t : Tables) (a : Account) (c : ℕ) → position (day_ended t a) c ≡ netted (position a c)
unfolding day_ended kept_anew units_released daily_zero premium_joined margin_afresh positions_netted orders_cancelled netted against_short against_covered
day_nets t a c = get_or-map netted a.positions c no_position

module _ (b : Book) (f : Figures) where
  entered_nets : (n m : ℕ) → number_in (entered b (DayEnd n m) f).verdict ≡ 0 → (c : ℕ) → position (entered b (DayEnd n m) f).book.account c ≡ netted (position b.account c)
  unfolding entered book_after account_after
  entered_nets n m accepted c = go (record_verdict b (DayEnd n m) f) accepted
    where
      go : (v : Verdict) → number_in (entered_as v b (book_after b (DayEnd n m) f)).verdict ≡ 0
          → position (entered_as v b (book_after b (DayEnd n m) f)).book.account c ≡ netted (position b.account c)
      go (Ok tt) e = day_nets _ b.account c
      go (Err why) e = absurd (omega (arith, some_number why, e))

  entered_refused : (entry : Entry) → (number_in (entered b entry f).verdict ≡ 0 → ⊥) → (entered b entry f).book ≡ b
  unfolding entered
  entered_refused entry refused = go (record_verdict b entry f) refused
    where
      go : (v : Verdict) → (number_in (entered_as v b (book_after b entry f)).verdict ≡ 0 → ⊥) → (entered_as v b (book_after b entry f)).book ≡ b
      go (Ok tt) never = absurd (never refl)
      go (Err why) never = refl

pub answer_available : (b : Book) (reading : Reading) → let answer = answer_to b reading in answer.available ≡ available_in answer.book
unfolding answer_to
answer_available b reading = go reading.answer
  where
    go : (v : Answer) → let answer = answer_by b reading.figures v in answer.available ≡ available_in answer.book
    go (Found entry len) = refl
    go (Refused why place) = refl

pub answer_told : (b : Book) (reading : Reading) → SoundBook b → let answer = answer_to b reading in AfterEntry b answer.book reading answer.number answer.available
unfolding answer_to
answer_told b reading sound = go reading.answer refl (answer_sound b reading sound)
  where
    f : Figures
    f = reading.figures

    go : (v : Answer) → reading.answer ≡ v → SoundBook (answer_by b f v).book → let answer = answer_by b f v in AfterEntry b answer.book reading answer.number answer.available
    go (Found entry len) e next =
        record {
          sound = next;
          ruled = λ stands. as_ruled _ _ (next.account stands);
          available = refl;
          booked = λ entry' len' e'. let same : entry ≡ entry' = cc in (ap (λ (x : Entry). number_in (entered b x f).verdict) same, ap (λ (x : Entry). (entered b x f).book) same);
          unread = λ why place e'. let never : ◌≡◌ {A = ℕ} 0 1 = cc in absurd (omega arith);
          netting = λ n m len' e' zero c.
              let same : entry ≡ DayEnd n m = cc in
              subst (λ (x : Entry). position (entered b x f).book.account c ≡ netted (position b.account c)) (sym same)
              (entered_nets b f n m (subst (λ (x : Entry). number_in (entered b x f).verdict ≡ 0) same zero) c);
          refused = entered_refused b f entry;
        }
    go (Refused why place) e next =
        record {
          sound = next;
          ruled = λ stands. as_ruled _ _ (next.account stands);
          available = refl;
          booked = λ entry len e'. let never : ◌≡◌ {A = ℕ} 0 1 = cc in absurd (omega arith);
          unread = λ why' place' e'. let same : why ≡ why' = cc in (ap number_of same, refl);
          netting = λ n m len e' zero c. absurd (omega (arith, some_number why));
          refused = λ never. refl;
        }
