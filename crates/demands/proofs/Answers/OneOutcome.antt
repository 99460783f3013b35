-- Each public contract admits one outcome, and so do those of the steps on an account: it says what the result equals, and two results that equal one value are equal.
use mathlib.Core.Path.{◌≡◌, ◌∙◌, sym, ap}
use Rattle.std.specs.Prelude.{ℕ, Result}
use Rattle.terms.specs.declared.refusal.Refusal.{Refusal}
use Rattle.rules.proofs.margin.Reads as margin
use Rattle.rules.proofs.premium.Reads as premium
use Rattle.rules.proofs.net.Reads as net
use Rattle.terms.specs.Verdicts.{Verdict}
use Rattle.exercise.proofs.exercise.Reads as exercise
use Rattle.assignment.specs.Assignment.{assigned}
use Rattle.assignment.specs.Lent.{covered_shares, lent_after, uncovered_shares}
use Rattle.assignment.proofs.assign.Reads as assign
use Rattle.reading.proofs.read.Reads as read
use Rattle.reader.proofs.read_next.Reads as read_next
use Rattle.writing.specs.Writing.{record_of, buffer_after}
use Rattle.writing.proofs.write.Reads as write
use Rattle.postings.proofs.posted.Reads as posted
use Rattle.entries.specs.declared.entry.Entry.{Entry}
use Rattle.account.specs.Seen.{SeenOf, Wherever}
use Rattle.account.specs.declared.account.Account.{Account}
use Rattle.account.specs.declared.judged.Seen.{Seen}
use Rattle.account.specs.declared.tables.Tables.{Tables}
use Rattle.gathering.proofs.gather.Reads as gather
use Rattle.gathering.proofs.place_of.Reads as place_of
use Rattle.gathering.proofs.see.Reads as see
use Rattle.transfers.proofs.deposit.Reads as deposit
use Rattle.transfers.proofs.drop.Reads as drop
use Rattle.transfers.proofs.pay.Reads as pay
use Rattle.transfers.proofs.withdraw.Reads as withdraw
use Rattle.transfers.proofs.lock.Reads as lock
use Rattle.transfers.proofs.unlock.Reads as unlock
use Rattle.orders.proofs.order.Reads as order
use Rattle.resting.proofs.find.Reads as find
use Rattle.fills.proofs.fill.Reads as fill
use Rattle.fills.proofs.cancel.Reads as cancel
use Rattle.day_end.proofs.decide.Reads as day_end_decide
use Rattle.day_end.proofs.ended.Reads as ended
use Rattle.steps.proofs.decide.Reads as decide
use Rattle.steps.proofs.booked.Reads as booked
use Rattle.steps.proofs.step.Reads as step
use Rattle.set_up.proofs.rule.Reads as rule
use Rattle.set_up.proofs.renewed.Reads as renewed
use Rattle.set_up.proofs.Book.enter.Reads as enter
use Rattle.rows.proofs.list_verdict.Reads as list_verdict
use Rattle.desk.proofs.run_list.Reads as run_list
use Rattle.desk.proofs.run_book.Reads as run_book
use Rattle.desk.proofs.run_on.Reads as run_on
use Rattle.archive.proofs.ravundesk_run_book.Reads as ravundesk_run_book
use Rattle.reader.proofs.Reader.new.Reads as new
use Rattle.reader.proofs.Reader.next.Reads as next
use Rattle.postings.proofs.post.Reads as post

pub margin_one : (κs : _) (a : _) (r r' : _) (s s' : _) → margin.Post κs a r s → margin.Post κs a r' s' → r ≡ r'
margin_one κs a r r' s s' p q = p ∙ sym q

pub premium_one : (κs : _) (a : _) (r r' : _) (s s' : _) → premium.Post κs a r s → premium.Post κs a r' s' → r ≡ r'
premium_one κs a r r' s s' p q = p ∙ sym q

pub net_one : (κs : _) (a : _) (r r' : _) (s s' : _) → net.Post κs a r s → net.Post κs a r' s' → r ≡ r'
net_one κs a r r' s s' p q = p ∙ sym q

pub exercise_one : (κs : _) (a : _) (r r' : _) (s s' : _) → exercise.Post κs a r s → exercise.Post κs a r' s' → r ≡ r'
exercise_one κs a r r' s s' p q = p ∙ sym q

-- both lent lists have one final contents
pub assign_one : (κs : _) (a : _) (r r' : _) (s s' : _) → assign.Post κs a r s → assign.Post κs a r' s'
    → (r ≡ r') × (s.1.1.1.0.now ≡ s'.1.1.1.0.now) × (s.1.1.1.1.0.now ≡ s'.1.1.1.1.0.now)
assign_one κs a r r' s s' p q =
    let same = p.0 ∙ sym q.0 in
    let shares = assigned a.0.0 a.1.0.now a.1.1.0.now in (
      same,
      p.1.0 ∙ ap (λ (v : Verdict). lent_after v (covered_shares a.1.1.0.now shares) a.1.1.1.0.now) same ∙ sym q.1.0,
      p.1.1 ∙ ap (λ (v : Verdict). lent_after v (uncovered_shares a.1.1.0.now shares) a.1.1.1.1.0.now) same ∙ sym q.1.1,
    )

pub read_one : (κs : _) (a : _) (r r' : _) (s s' : _) → read.Post κs a r s → read.Post κs a r' s' → r ≡ r'
read_one κs a r r' s s' p q = p ∙ sym q

pub read_next_one : (κs : _) (a : _) (r r' : _) (s s' : _) → read_next.Post κs a r s → read_next.Post κs a r' s' → r ≡ r'
read_next_one κs a r r' s s' p q = p ∙ sym q

-- a new reader is one reader, the reference in it too
pub new_one : (κs : _) (a : _) (r r' : _) (s s' : _) → new.Post κs a r s → new.Post κs a r' s' → r ≡ r'
new_one κs a r r' s s' p q i = record { bytes = (p.0 ∙ sym q.0) i; place = (p.1 ∙ sym q.1) i }

-- and the lent reader ends in one way
pub next_one : (κs : _) (a : _) (r r' : _) (s s' : _) → next.Post κs a r s → next.Post κs a r' s' → (r ≡ r') × (s.0.now ≡ s'.0.now)
next_one κs a r r' s s' p q = (p.0 ∙ sym q.0, p.1 ∙ sym q.1)

-- and the lent buffer ends in one way: its contents follow from the answer
pub write_one : (κs : _) (a : _) (r r' : _) (s s' : _) → write.Post κs a r s → write.Post κs a r' s' → (r ≡ r') × (s.1.1.0.now ≡ s'.1.1.0.now)
write_one κs a r r' s s' p q =
    let same = p.0 ∙ sym q.0 in
    (same, p.1 ∙ ap (λ (w : (Result ℕ Refusal)). buffer_after w (record_of a.0 a.1.0) a.1.1.0.now) same ∙ sym q.1)

-- so does the lent sheet
pub post_one : (κs : _) (a : _) (r r' : _) (s s' : _) → post.Post κs a r s → post.Post κs a r' s' → s.0.now ≡ s'.0.now
post_one κs a r r' s s' p q = p ∙ sym q

pub posted_one : (κs : _) (a : _) (r r' : _) (s s' : _) → posted.Post κs a r s → posted.Post κs a r' s' → r ≡ r'
posted_one κs a r r' s s' p q = p ∙ sym q

pub place_of_one : (κs : _) (a : _) (r r' : _) (s s' : _) → place_of.Post κs a r s → place_of.Post κs a r' s' → r ≡ r'
place_of_one κs a r r' s s' p q = p ∙ sym q

pub see_one : (κs : _) (a : _) (r r' : _) (s s' : _) → see.Post κs a r s → see.Post κs a r' s' → r ≡ r'
see_one κs a r r' s s' p q = p ∙ sym q

-- what is decided by what an entry sees is decided in one way, since it sees so much of some tables and account
seen_one : {A : Type 0} {e : Entry} {s : Seen} {r r' : A} {of : Tables → Account → A} → SeenOf e s → Wherever e s (λ t a. r ≡ of t a) → Wherever e s (λ t a. r' ≡ of t a) → r ≡ r'
seen_one some p q = p some.tables some.account some.sees ∙ sym (q some.tables some.account some.sees)

pub gather_one : (κs : _) (a : _) (r r' : _) (s s' : _) → gather.Pre κs a → gather.Post κs a r s → gather.Post κs a r' s' → r ≡ r'
gather_one κs a r r' s s' of p q = seen_one of p q

pub deposit_one : (κs : _) (a : _) (r r' : _) (s s' : _) → deposit.Post κs a r s → deposit.Post κs a r' s' → r ≡ r'
deposit_one κs a r r' s s' p q = p ∙ sym q

pub withdraw_one : (κs : _) (a : _) (r r' : _) (s s' : _) → withdraw.Post κs a r s → withdraw.Post κs a r' s' → r ≡ r'
withdraw_one κs a r r' s s' p q = p ∙ sym q

pub pay_one : (κs : _) (a : _) (r r' : _) (s s' : _) → pay.Post κs a r s → pay.Post κs a r' s' → r ≡ r'
pay_one κs a r r' s s' p q = p ∙ sym q

pub drop_one : (κs : _) (a : _) (r r' : _) (s s' : _) → drop.Post κs a r s → drop.Post κs a r' s' → r ≡ r'
drop_one κs a r r' s s' p q = p ∙ sym q

pub lock_one : (κs : _) (a : _) (r r' : _) (s s' : _) → lock.Pre κs a → lock.Post κs a r s → lock.Post κs a r' s' → r ≡ r'
lock_one κs a r r' s s' of p q = seen_one of p q

pub unlock_one : (κs : _) (a : _) (r r' : _) (s s' : _) → unlock.Pre κs a → unlock.Post κs a r s → unlock.Post κs a r' s' → r ≡ r'
unlock_one κs a r r' s s' of p q = seen_one of p q

pub order_one : (κs : _) (a : _) (r r' : _) (s s' : _) → order.Pre κs a → order.Post κs a r s → order.Post κs a r' s' → r ≡ r'
order_one κs a r r' s s' of p q = seen_one of p q

pub find_one : (κs : _) (a : _) (r r' : _) (s s' : _) → find.Pre κs a → find.Post κs a r s → find.Post κs a r' s' → r ≡ r'
find_one κs a r r' s s' sees p q = seen_one sees.of (p sees.number) (q sees.number)

pub fill_one : (κs : _) (a : _) (r r' : _) (s s' : _) → fill.Pre κs a → fill.Post κs a r s → fill.Post κs a r' s' → r ≡ r'
fill_one κs a r r' s s' of p q = seen_one of p q

pub cancel_one : (κs : _) (a : _) (r r' : _) (s s' : _) → cancel.Pre κs a → cancel.Post κs a r s → cancel.Post κs a r' s' → r ≡ r'
cancel_one κs a r r' s s' sees p q = seen_one sees.of (p sees.number) (q sees.number)

pub day_end_decide_one : (κs : _) (a : _) (r r' : _) (s s' : _) → day_end_decide.Pre κs a → day_end_decide.Post κs a r s → day_end_decide.Post κs a r' s' → r ≡ r'
day_end_decide_one κs a r r' s s' of p q = seen_one of p q

pub ended_one : (κs : _) (a : _) (r r' : _) (s s' : _) → ended.Post κs a r s → ended.Post κs a r' s' → r ≡ r'
ended_one κs a r r' s s' p q = p ∙ sym q

pub decide_one : (κs : _) (a : _) (r r' : _) (s s' : _) → decide.Pre κs a → decide.Post κs a r s → decide.Post κs a r' s' → r ≡ r'
decide_one κs a r r' s s' of p q = seen_one of p q

pub booked_one : (κs : _) (a : _) (r r' : _) (s s' : _) → booked.Post κs a r s → booked.Post κs a r' s' → r ≡ r'
booked_one κs a r r' s s' p q = p ∙ sym q

pub step_one : (κs : _) (a : _) (r r' : _) (s s' : _) → step.Post κs a r s → step.Post κs a r' s' → r ≡ r'
step_one κs a r r' s s' p q = p ∙ sym q

pub rule_one : (κs : _) (a : _) (r r' : _) (s s' : _) → rule.Pre κs a → rule.Post κs a r s → rule.Post κs a r' s' → r ≡ r'
rule_one κs a r r' s s' of p q = p of.book of.sees ∙ sym (q of.book of.sees)

pub renewed_one : (κs : _) (a : _) (r r' : _) (s s' : _) → renewed.Post κs a r s → renewed.Post κs a r' s' → r ≡ r'
renewed_one κs a r r' s s' p q = p ∙ sym q

-- and a book that is entered where it stands
pub enter_one : (κs : _) (a : _) (r r' : _) (s s' : _) → enter.Post κs a r s → enter.Post κs a r' s' → s.0.now ≡ s'.0.now
enter_one κs a r r' s s' p q = p ∙ sym q

pub list_verdict_one : (κs : _) (a : _) (r r' : _) (s s' : _) → list_verdict.Post κs a r s → list_verdict.Post κs a r' s' → r ≡ r'
list_verdict_one κs a r r' s s' p q = p ∙ sym q

-- and both lent slices end in one way, the numbers and the sums
pub run_list_one : (κs : _) (a : _) (r r' : _) (s s' : _) → run_list.Post κs a r s → run_list.Post κs a r' s'
    → (r ≡ r') × (s.1.1.1.0.now ≡ s'.1.1.1.0.now) × (s.1.1.1.1.0.now ≡ s'.1.1.1.1.0.now)
run_list_one κs a r r' s s' p q = (p.0 ∙ sym q.0, p.1.0 ∙ sym q.1.0, p.1.1 ∙ sym q.1.1)

pub run_book_one : (κs : _) (a : _) (r r' : _) (s s' : _) → run_book.Post κs a r s → run_book.Post κs a r' s'
    → (r ≡ r') × (s.1.0.now ≡ s'.1.0.now) × (s.1.1.0.now ≡ s'.1.1.0.now)
run_book_one κs a r r' s s' p q = (p.0 ∙ sym q.0, p.1.0 ∙ sym q.1.0, p.1.1 ∙ sym q.1.1)

pub run_on_one : (κs : _) (a : _) (r r' : _) (s s' : _) → run_on.Post κs a r s → run_on.Post κs a r' s'
    → (r ≡ r') × (s.1.1.1.0.now ≡ s'.1.1.1.0.now) × (s.1.1.1.1.0.now ≡ s'.1.1.1.1.0.now)
run_on_one κs a r r' s s' p q = (p.0 ∙ sym q.0, p.1.0 ∙ sym q.1.0, p.1.1 ∙ sym q.1.1)

-- what other programs link ends in one way too
pub ravundesk_run_book_one : (κs : _) (a : _) (r r' : _) (s s' : _) → ravundesk_run_book.Post κs a r s → ravundesk_run_book.Post κs a r' s'
    → (r ≡ r') × (s.1.0.now ≡ s'.1.0.now) × (s.1.1.0.now ≡ s'.1.1.0.now)
ravundesk_run_book_one κs a r r' s s' p q = (p.0 ∙ sym q.0, p.1.0 ∙ sym q.1.0, p.1.1 ∙ sym q.1.1)
