-- `available` meets its contract: the three sums of a sound sheet add up to less than 2^63, so both differences are exact.
use Rattle.std.proofs.Common.{◌+◌, ◌^◌, ◌<◌, arith}
use Rattle.account.specs.Money.{available_of}
use Rattle.account.specs.Sound.{SoundSheet}
use Rattle.account.specs.declared.account.Sheet.{Sheet}
use Rattle.money.proofs.Signed.{difference}
use Rattle.money.proofs.reach.available.Goals as goal

below : (s : Sheet) → SoundSheet s → s.cash + s.holds + s.margin < 2 ^ 63
below s sound = omega (arith, sound.ceiling, sound.holds, sound.margin)

pub returns : goal.returns
unfolding available_of
returns c = difference _ _ _ (below _ c.requires)
