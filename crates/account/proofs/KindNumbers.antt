-- A kind's number reads back as the kind, so a number tells its kind.
use mathlib.Core.Path.{◌≡◌, refl, sym, ap, ◌∙◌}
use mathlib.Core.Bool.{true}
use borrow.Author.Tests.{eqb-true}
use Rattle.terms.specs.Codes.{kind_code, kind_coded}
use Rattle.terms.specs.Kinds.{opens_of}
use Rattle.terms.specs.declared.kind.OrderKind.{OrderKind}
use Rattle.terms.specs.declared.kind.OrderKind.TheVariants.{BuyOpen, SellClose, SellOpen, BuyClose, CoveredOpen, CoveredClose}
use Rattle.terms.proofs.Codes.{kind_read}
use Rattle.account.specs.Money.{answered}
use Rattle.account.specs.Totals.{is_kind, is_open}

pub answered_kind : (kind : OrderKind) → answered (kind_coded (kind_code kind)) ≡ kind
answered_kind kind = ap answered (kind_read kind)

pub is_kind_lem : (kind other : OrderKind) → is_kind kind (kind_code other) ≡ true → other ≡ kind
is_kind_lem kind other e =
    let same = eqb-true (kind_code other) (kind_code kind) e in
    sym (answered_kind other) ∙ ap (λ n. answered (kind_coded n)) same ∙ answered_kind kind

pub is_open_lem : (kind : OrderKind) → is_open (kind_code kind) ≡ opens_of kind
is_open_lem BuyOpen = refl
is_open_lem SellClose = refl
is_open_lem SellOpen = refl
is_open_lem BuyClose = refl
is_open_lem CoveredOpen = refl
is_open_lem CoveredClose = refl
