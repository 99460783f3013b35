-- `ended` meets its contract: a day end that the tables take leaves a sound account, so what it sums fits.
use Rattle.std.proofs.Common.{sym, subst}
use Rattle.account.specs.DayEnd.{day_ended}
use Rattle.account.specs.Sound.{Sound}
use Rattle.account.specs.declared.tables.Tables.{Tables}
use Rattle.account.proofs.DayEndSound.{day_end_sound}
use Rattle.day_end.proofs.ended.Goals as goal

pub account_after-requires : goal.account_after-requires
account_after-requires c =
    subst
    (λ (t : Tables). Sound t (day_ended t c.args.account))
    (sym c.installed-new.ensures)
    (day_end_sound c.args.tables c.args.account c.args.tables.n c.args.tables.m c.args.figures c.requires.0 c.requires.1)
