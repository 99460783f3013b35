-- What each entry posts to the money sheet where it is accepted: "the money sheet of four sums is lent to each posting" (The account), and nothing else moves money.
use Rattle.std.specs.Prelude.{List, [], ◌∷◌}
use Rattle.terms.specs.Kinds.{moves_of, opens_of, buys_of}
use Rattle.rules.specs.Count.{for_count}
use Rattle.entries.specs.declared.entry.Entry.{Entry}
use Rattle.entries.specs.declared.entry.Entry.TheVariants.{Deposit, Withdraw, Lock, Unlock, Order, Fill, Cancel, DayEnd, Pay, Drop, Underlying, Contract, Opening}
use Rattle.entries.specs.declared.entry.Figures.{Figures}
use Rattle.entries.specs.declared.entry.Fill as Of
use Rattle.account.specs.DayEnd.{figures_installed, positions_netted}
use Rattle.account.specs.Fills.{named, paid}
use Rattle.account.specs.Money.{hold_one, kind_of, margin_in}
use Rattle.account.specs.declared.account.Account.{Account}
use Rattle.account.specs.declared.judged.Named.{Named}
use Rattle.account.specs.declared.tables.Tables.{Tables}
use Rattle.postings.specs.declared.Posting.{Posting}
use Rattle.postings.specs.declared.Posting.TheVariants as Post
use Rattle.fills.specs.Posts.{fill_postings}

-- a fill of the order that its number names, by the order's kind (Orders and fills)
abbrev pub fill_posts : Named → Of.Fill → List Posting
fill_posts f fill =
    let kind = kind_of f.order in
    fill_postings (moves_of kind) (buys_of kind) (opens_of kind) (for_count fill.quantity f.hold) (paid f fill) (for_count fill.quantity f.margin)

-- cash in; a payout's hold, which is freed when it is paid out of cash or dropped; an order's hold, at its price or margin; the rest of a cancelled order's hold; a day end with its margin, at the new figures over the netted positions, and what waits still held; locks move units and no money (The account; Orders and fills; #101)
unfoldable pub postings_of : Tables → Account → Entry → Figures → List Posting
postings_of t a (Deposit amount) f = Post.CashIn amount ∷ []
postings_of t a (Withdraw amount) f = Post.HoldTaken amount ∷ []
postings_of t a (Lock u units) f = []
postings_of t a (Unlock u units) f = []
postings_of t a (Order o) f = Post.HoldTaken (for_count o.quantity (hold_one t o.kind o.contract o.price)) ∷ []
postings_of t a (Fill fill) f = fill_posts (named t a fill.number) fill
postings_of t a (Cancel number) f =
    let order = named t a number in
    Post.HoldFreed (for_count order.order.left.0 order.hold) ∷ []
postings_of t a (DayEnd n m) f = Post.DayEnd (margin_in (figures_installed t f) (positions_netted a)) a.waiting ∷ []
postings_of t a Pay f = Post.HoldFreed a.waiting ∷ Post.CashOut a.waiting ∷ []
postings_of t a Drop f = Post.HoldFreed a.waiting ∷ []
postings_of t a (Underlying row) f = []
postings_of t a (Contract row) f = []
postings_of t a (Opening cash) f = []
