-- The codes that records carry for words (Records; Orders and fills).
use Rattle.std.specs.Prelude.{ℕ, cond, List, [], ◌∷◌, eqb, Result, Ok, Err}
use Rattle.terms.specs.declared.unlisted.Unlisted.{Unlisted}
use Rattle.terms.specs.declared.class.Class.{Class}
use Rattle.terms.specs.declared.class.Class.TheVariants.{Stock, Fund}
use Rattle.terms.specs.declared.right.Right.{Right}
use Rattle.terms.specs.declared.right.Right.TheVariants.{Call, Put}
use Rattle.terms.specs.declared.kind.OrderKind.{OrderKind}
use Rattle.terms.specs.declared.kind.OrderKind.TheVariants.{BuyOpen, SellClose, SellOpen, BuyClose, CoveredOpen, CoveredClose}

-- kind 16: 1 stock or 2 fund (house)
abbrev pub class_code : Class → ℕ
class_code Stock = 1
class_code Fund = 2

-- kind 17: 1 call or 2 put (house)
abbrev pub right_code : Right → ℕ
right_code Call = 1
right_code Put = 2

-- kind 5: 1 buy open, 2 sell close, 3 sell open, 4 buy close, 5 covered open, 6 covered close (house)
abbrev pub kind_code : OrderKind → ℕ
kind_code BuyOpen = 1
kind_code SellClose = 2
kind_code SellOpen = 3
kind_code BuyClose = 4
kind_code CoveredOpen = 5
kind_code CoveredClose = 6

-- how a code is read: as the word of a list that has it, or as not listed (house)
abbrev pub coded : {W A : Type 0} → (W → ℕ) → (W → A) → A → List W → ℕ → A
coded code listed unlisted [] n = unlisted
coded code listed unlisted (w ∷ ws) n = cond (eqb n (code w)) (listed w) (coded code listed unlisted ws n)

-- what is said of a code that no word has (house)
abbrev pub not_listed : Unlisted
not_listed = record {}

abbrev pub classes : List Class
classes = Stock ∷ Fund ∷ []

abbrev pub class_coded : ℕ → Result Class Unlisted
class_coded = coded class_code Ok (Err not_listed) classes

abbrev pub rights : List Right
rights = Call ∷ Put ∷ []

abbrev pub right_coded : ℕ → Result Right Unlisted
right_coded = coded right_code Ok (Err not_listed) rights

abbrev pub kinds : List OrderKind
kinds = BuyOpen ∷ SellClose ∷ SellOpen ∷ BuyClose ∷ CoveredOpen ∷ CoveredClose ∷ []

abbrev pub kind_coded : ℕ → Result OrderKind Unlisted
kind_coded = coded kind_code Ok (Err not_listed) kinds
