-- A pass over the contracts and the positions side by side takes those of one number in each turn, which are the first of what is left.
use mathlib.Core.Path.{◌≡◌, sym, ap, ◌∙◌}
use mathlib.Core.List.{List, ◌∷◌}
use Prim.Native.Nat.{ℕ, suc, ◌+◌, ◌<◌}
use native.Mathlib.Numerals.{add-one}
use native.Mathlib.Omega.{arith}
use lib.ListN.{length, get_or, take, drop}
use Rattle.std.proofs.lemmas.List.{get_or-take, length-drop, length-take}
use Rattle.std.proofs.Math.Seq.{drop-cons}
use Rattle.terms.specs.declared.count.Position.{Position}
use Rattle.entries.specs.declared.entry.Contract.{Contract}
use Rattle.account.specs.Rows.{no_contract, no_position, contract}
use Rattle.account.specs.Sound.{SoundTables}
use Rattle.account.specs.declared.tables.Tables.{Tables}
use Rattle.day_end.proofs.Summed.{row_inside}

pub record Turn (t : Tables) (ps : List Position) (k : ℕ) (row : Contract) (held : Position) : Type 0 where
  pub there : k < t.n
  pub row_is : row ≡ contract t k
  pub held_is : held ≡ get_or ps k no_position
  pub inside : row.underlying < 8

-- the first of what is left after k, and what is left after it
module _ {A : Type 0} (none : A) (k : ℕ) (xs : List A) {x : A} {rest left : List A} (so_far : left ≡ drop k xs) (next : left ≡ x ∷ rest) where
  there : k < length xs
  there = omega (arith, ap length (sym next ∙ so_far), length-drop k xs)

  both : x ∷ rest ≡ get_or xs k none ∷ drop (suc k) xs
  both = sym next ∙ so_far ∙ drop-cons xs k none there

  first : x ≡ get_or xs k none
  first = let e = both in cc

  after : rest ≡ drop (k + 1) xs
  after = let e = both in rw add-one cc

-- after k turns
pub record Left (t : Tables) (ps : List Position) (k : ℕ) (rows : List Contract) (helds : List Position) : Type 0 where
  pub contracts : rows ≡ drop k (take t.n t.contracts)
  pub positions : helds ≡ drop k ps

module _ {t : Tables} {ps : List Position} {k : ℕ} {row : Contract} {held : Position} {rows rows_then : List Contract} {helds helds_then : List Position}
    (left : Left t ps k rows helds) (next : (rows ≡ row ∷ rows_then) × (helds ≡ held ∷ helds_then)) where
  pub turn : SoundTables t → Turn t ps k row held
  turn tables =
      let inside : k < t.n = omega (arith, there no_contract k (take t.n t.contracts) left.contracts next.0, length-take t.n t.contracts) in
      let is = first no_contract k (take t.n t.contracts) left.contracts next.0 ∙ get_or-take t.n t.contracts k no_contract inside in
      record { there = inside; row_is = is; held_is = first no_position k ps left.positions next.1; inside = rw is (row_inside t tables k inside) }

  pub left_then : Left t ps (k + 1) rows_then helds_then
  left_then = record { contracts = after no_contract k (take t.n t.contracts) left.contracts next.0; positions = after no_position k ps left.positions next.1 }
