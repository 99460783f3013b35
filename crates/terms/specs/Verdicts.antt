-- How an entry is decided: its checks in their order, the first that fails giving the refusal (Refusal numbers).
use Rattle.std.specs.Prelude.{ℕ, Bool, cond, Result, Ok, Err}
use Rattle.terms.specs.Refusals.{number_of}
use Rattle.terms.specs.declared.refusal.Refusal.{Refusal}

-- yes or no: an entry is accepted, or refused for a reason (house)
abbrev pub Verdict : Type 0
Verdict = Result Unit Refusal

-- accepted: there is nothing to give back (house)
abbrev pub accept : Verdict
accept = Ok tt

infixr 5 ◌else◌then◌
-- a check with the refusal it gives where it fails, and what follows where it passes (house)
abbrev pub ◌else◌then◌ : Bool → Refusal → Verdict → Verdict
passed else why then rest = cond passed rest (Err why)

-- an answer in the paper's numbers: 0, or the refusal's number (house)
abbrev pub number_in : {T : Type 0} → Result T Refusal → ℕ
number_in (Ok given) = 0
number_in (Err why) = number_of why

-- the verdict that an answer tells (house)
abbrev pub verdict_in : {T : Type 0} → Result T Refusal → Verdict
verdict_in (Ok given) = Ok tt
verdict_in (Err why) = Err why
