-- The cases a to n of document 01's "Figures to meet": what is given, and what comes of it.
use Rattle.std.specs.Prelude.{◌≡◌, List, [], ◌∷◌, ℕ, Ok}
use Rattle.terms.specs.declared.class.Class.{Class}
use Rattle.terms.specs.declared.class.Class.TheVariants.{Stock, Fund}
use Rattle.terms.specs.declared.count.Position.{Position}
use Rattle.terms.specs.declared.right.Right.{Right}
use Rattle.terms.specs.declared.right.Right.TheVariants.{Call, Put}
use Rattle.rules.specs.Charges.{margin_charge}
use Rattle.rules.specs.Netting.{netted}

abbrev pub position : ℕ → ℕ → ℕ → Position
position long short covered = record { long = record { 0 = long }; short = record { 0 = short }; covered = record { 0 = covered } }

-- a margin: class, right, unit, S, P, K, and the fen; a netting: long, short and covered before and after
pub data Case : Type 0 where
  margin : Class → Right → (unit S P K fen : ℕ) → Case
  nets : (long short covered long' short' covered' : ℕ) → Case

abbrev pub Holds : Case → Type 0
Holds (margin class right unit S P K fen) = margin_charge class right S P K unit ≡ Ok fen
Holds (nets l s c l' s' c') = netted (position l s c) ≡ position l' s' c'

abbrev pub cases : List Case
cases =
    margin Fund Call 10_000 500 25_000 26_000 250_000  -- a
    ∷ margin Fund Call 10_000 100 25_000 28_000 185_000  -- b
    ∷ margin Fund Call 10_000 500 25_000 26_250 225_000  -- c
    ∷ margin Fund Put 10_000 400 25_000 24_000 240_000  -- d
    ∷ margin Fund Put 10_000 24_000 1_000 25_000 2_500_000  -- e
    ∷ margin Stock Call 5_000 5_000 100_000 100_000 1_300_000  -- f
    ∷ margin Stock Put 5_000 5_000 100_000 100_000 1_200_000  -- g
    ∷ margin Fund Call 100 0 50 53 4  -- h
    ∷ margin Fund Call 100 0 49 53 3  -- i
    ∷ nets 10 6 0 4 0 0  -- j
    ∷ nets 10 5 3 2 0 0  -- k
    ∷ nets 10 12 3 0 2 3  -- l
    ∷ nets 0 2 2 0 2 2  -- m
    ∷ nets 10 0 15 0 0 5  -- n
    ∷ []
