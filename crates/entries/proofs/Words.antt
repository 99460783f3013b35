-- What a code says does not hang on what is made of the word: reading stops at the same word or at none, and the answers tell the words from each other.
use Rattle.std.proofs.Common.{◌≡◌, ℕ, List, Ok, Err}
use Rattle.terms.specs.Codes.{not_listed, coded}
use Rattle.terms.proofs.Codes.{word, unlisted, reads}

pub word_made : {W B : Type 0} (code : W → ℕ) (made : W → B) (none : B) (ws : List W) (n : ℕ) (w : W) → coded code Ok (Err not_listed) ws n ≡ Ok w → coded code made none ws n ≡ made w
word_made code made none ws n w e = elim (reads code ws n) [ word v c of ↦ cc (of _ made none, of _ Ok (Err not_listed)) | unlisted of ↦ cc (of _ Ok (Err not_listed)) ]
