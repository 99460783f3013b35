-- The cases a to n hold of the definitions: both sides of each are written-out numbers, and computing makes them the same.
use Rattle.rules.specs.Charges.{margin_charge, margin_allowed}
use Rattle.rules.specs.Margin.{rates_of, out_of_the_money, amount_of, margin_of, halves_up, ◌less◌but_at_least◌}
use Rattle.rules.specs.Netting.{netted, against_short, against_covered}
use Rattle.demands.specs.Each.{Each}
use Rattle.demands.specs.WorkedCases.{Holds, cases}

pub a_to_n : Each Holds cases
unfolding margin_charge margin_allowed rates_of out_of_the_money amount_of margin_of halves_up ◌less◌but_at_least◌ netted against_short against_covered
a_to_n = search tt depth 20
