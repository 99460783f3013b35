-- Reading a number by a list of words compares it with each word's code, so it stops at a word that has it or passes them all, whatever is made of the word. Hence a code that reads as a word is that word's code; and a word's code reads back as the word, which computes.
use mathlib.Core.Path.{◌≡◌, refl, sym}
use mathlib.Core.Bool.{Bool, true, false}
use mathlib.Core.List.{List, [], ◌∷◌}
use Prim.Native.Nat.{ℕ}
use borrow.Author.Tests.{eqb-true}
use lib.Dec.{eqb}
use Rattle.std.specs.Prelude.{Ok, Err}
use Rattle.terms.specs.Codes.{coded, not_listed, class_code, classes, class_coded, right_code, rights, right_coded, kind_code, kinds, kind_coded}
use Rattle.terms.specs.declared.class.Class.{Class}
use Rattle.terms.specs.declared.class.Class.TheVariants.{Stock, Fund}
use Rattle.terms.specs.declared.right.Right.{Right}
use Rattle.terms.specs.declared.right.Right.TheVariants.{Call, Put}
use Rattle.terms.specs.declared.kind.OrderKind.{OrderKind}
use Rattle.terms.specs.declared.kind.OrderKind.TheVariants.{BuyOpen, SellClose, SellOpen, BuyClose, CoveredOpen, CoveredClose}

-- what a list of words makes of a number, whatever is made of a word: a word whose code it is, or none
pub data Reads {W : Type 0} (code : W → ℕ) (ws : List W) (n : ℕ) : Type 1 where
  word : (w : W) → code w ≡ n → ((A : Type 0) (made : W → A) (none : A) → coded code made none ws n ≡ made w) → Reads code ws n
  unlisted : ((A : Type 0) (made : W → A) (none : A) → coded code made none ws n ≡ none) → Reads code ws n

pub reads : {W : Type 0} (code : W → ℕ) (ws : List W) (n : ℕ) → Reads code ws n
reads code [] n = unlisted (λ A made none. refl)
reads code (v ∷ ws) n = go (eqb n (code v)) refl (reads code ws n)
  where
    go : (test : Bool) → eqb n (code v) ≡ test → Reads code ws n → Reads code (v ∷ ws) n
    go true t later = word v (sym (eqb-true n (code v) t)) (λ A made none. rw t)
    go false t (word w c of) = word w c (λ A made none. rw t (of A made none))
    go false t (unlisted of) = unlisted (λ A made none. rw t (of A made none))

pub class_read : (w : Class) → class_coded (class_code w) ≡ Ok w
class_read Stock = refl
class_read Fund = refl

pub class_coded_lem : (n : ℕ) (w : Class) → class_coded n ≡ Ok w → class_code w ≡ n
class_coded_lem n w e = elim (reads class_code classes n) [ word v c of ↦ cc (of _ Ok (Err not_listed)) | unlisted of ↦ cc (of _ Ok (Err not_listed)) ]

pub right_read : (w : Right) → right_coded (right_code w) ≡ Ok w
right_read Call = refl
right_read Put = refl

pub right_coded_lem : (n : ℕ) (w : Right) → right_coded n ≡ Ok w → right_code w ≡ n
right_coded_lem n w e = elim (reads right_code rights n) [ word v c of ↦ cc (of _ Ok (Err not_listed)) | unlisted of ↦ cc (of _ Ok (Err not_listed)) ]

pub kind_read : (w : OrderKind) → kind_coded (kind_code w) ≡ Ok w
kind_read BuyOpen = refl
kind_read SellClose = refl
kind_read SellOpen = refl
kind_read BuyClose = refl
kind_read CoveredOpen = refl
kind_read CoveredClose = refl

pub kind_coded_lem : (n : ℕ) (w : OrderKind) → kind_coded n ≡ Ok w → kind_code w ≡ n
kind_coded_lem n w e = elim (reads kind_code kinds n) [ word v c of ↦ cc (of _ Ok (Err not_listed)) | unlisted of ↦ cc (of _ Ok (Err not_listed)) ]
