-- The two public charges say what they should in the paper's numbers: the test of the figures has two outcomes, and each computes.
use mathlib.Core.Path.{refl}
use mathlib.Core.Bool.{Bool, true, false, cond}
use Prim.Native.Nat.{ℕ}
use Rattle.std.specs.Prelude.{Ok, Err}
use Rattle.terms.specs.declared.class.Class.{Class}
use Rattle.terms.specs.declared.refusal.Refusal.TheVariants.{OutOfRange}
use Rattle.terms.specs.declared.right.Right.{Right}
use Rattle.terms.specs.Verdicts.{number_in}
use Rattle.rules.specs.Charges.{margin_allowed, margin_charge, premium_allowed, premium_charge, fen_in}
use Rattle.rules.specs.Margin.{rates_of, margin_of}
use Rattle.rules.specs.Premium.{premium_of}
use Rattle.demands.specs.Says.{Says}

tested : (allowed : Bool) (fen : ℕ) → Says allowed fen (cond allowed (Ok fen) (Err OutOfRange))
unfolding fen_in
tested true fen = (refl, refl)
tested false fen = (refl, refl)

pub margin_says : (class : Class) (right : Right) (S P K U : ℕ) → Says (margin_allowed S P K U) (margin_of (rates_of class right) right S P K U) (margin_charge class right S P K U)
unfolding margin_charge
margin_says class right S P K U = tested (margin_allowed S P K U) _

pub premium_says : (price U : ℕ) → Says (premium_allowed price U) (premium_of price U) (premium_charge price U)
unfolding premium_charge
premium_says price U = tested (premium_allowed price U) _
