-- `work_out` meets its contract: each turn adds one contract's margin, and its units and what is held of it to those of its underlying.
use Rattle.std.proofs.Common.{◌≡◌, ◌+◌, [], ◌∷◌, ◌++◌, length, take, arith, rules}
use lib.ListN.{length-append}
use Rattle.std.proofs.lemmas.List.{length-take}
use Rattle.std.proofs.lemmas.Slice.Zip.{zip_end}
use Rattle.day_end.proofs.MarginPass as margins
use Rattle.day_end.proofs.TotalsPass as totals
use Rattle.day_end.proofs.Turn.{left_then, turn}
use Rattle.day_end.proofs.UnitsPass as units
use Rattle.day_end.proofs.after.work_out.Goals as goal

pub loop-contract-init : goal.loop-contract-init
loop-contract-init c =
    let t = c.args.tables in
    let ps = c.args.positions in
    record {
      can = search rules;
      finite = search rules;
      left = record { contracts = search rules; positions = search rules };
      margin_so_far = margins.none t ps;
      holdings_so_far = units.none t ps _ (search rules);
      running_so_far = totals.none t ps _ (search rules);
    }

pub bounds-tables-u : goal.bounds-tables-u
bounds-tables-u c = (turn c.loop-contract.invariant.left c.in-Some.ensures.steps c.requires.tables).inside

pub bounds-holdings-u : goal.bounds-holdings-u
bounds-holdings-u c = (turn c.loop-contract.invariant.left c.in-Some.ensures.steps c.requires.tables).inside

pub bounds-running-u : goal.bounds-running-u
bounds-running-u c = (turn c.loop-contract.invariant.left c.in-Some.ensures.steps c.requires.tables).inside

pub overflow_mul-margin : goal.overflow_mul-margin
overflow_mul-margin c =
    let at = turn c.loop-contract.invariant.left c.in-Some.ensures.steps c.requires.tables in
    let most = margins.most _ _ c.requires _ _ _ at _ _ c.loop-contract.invariant.margin_so_far c.margin_one.ensures in
    record { fits = omega (arith, most) }

pub overflow_add-margin : goal.overflow_add-margin
overflow_add-margin c =
    let at = turn c.loop-contract.invariant.left c.in-Some.ensures.steps c.requires.tables in
    let most = margins.most _ _ c.requires _ _ _ at _ _ c.loop-contract.invariant.margin_so_far c.margin_one.ensures in
    record { fits = omega (arith, most) }

pub add_units-requires : goal.add_units-requires
add_units-requires c =
    let at = turn c.loop-contract.invariant.left c.in-Some.ensures.steps c.requires.tables in
    units.fits _ _ _ _ _ at _ c.loop-contract.invariant.holdings_so_far c.requires

pub add_held-requires : goal.add_held-requires
add_held-requires c =
    let at = turn c.loop-contract.invariant.left c.in-Some.ensures.steps c.requires.tables in
    totals.fits _ _ _ _ _ at _ c.loop-contract.invariant.running_so_far c.requires

pub loop-contract-preserved : goal.loop-contract-preserved
loop-contract-preserved c =
    let so_far = c.loop-contract.invariant in
    let at = turn c.loop-contract.invariant.left c.in-Some.ensures.steps c.requires.tables in
    let now = length c.loop-contract.yielded in
    let one_more : now + 1 ≡ length (c.loop-contract.yielded ++ ((c.in-Some.contract, c.in-Some.position) ∷ [])) = omega (arith, length-append c.loop-contract.yielded ((c.in-Some.contract, c.in-Some.position) ∷ [])) in
    rw (← one_more)
    record {
      can = search rules;
      finite = search rules;
      left = left_then so_far.left c.in-Some.ensures.steps;
      margin_so_far = margins.next _ _ c.requires _ _ _ at _ _ so_far.margin_so_far c.margin_one.ensures;
      holdings_so_far = units.next _ _ _ _ _ at _ so_far.holdings_so_far _ c.add_units.ensures;
      running_so_far = totals.next _ _ _ _ _ at _ so_far.running_so_far _ c.add_held.ensures;
    }

pub returns : goal.returns
returns c =
    let t = c.args.tables in
    let turns = zip_end (take t.n t.contracts) c.args.positions _ c.into_iter-contract-iterator.result c.loop-contract.contract-iterator c.next.new.self _ (search rules) (search rules) c.loop-contract.yielded_by c.in-None.is c.next.ensures.steps in
    let all : length c.loop-contract.yielded ≡ t.n = omega (arith, turns, length-take t.n t.contracts, c.requires.tables.contract_rows, c.requires.tables.few_contracts) in
    cc
