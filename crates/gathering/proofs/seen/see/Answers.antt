-- `see` meets its contract: the rows read are those that the entry names.
use Rattle.gathering.proofs.RowsRead.{rows_read}
use Rattle.gathering.proofs.seen.see.Goals as goal

pub returns : goal.returns
returns c =
    rows_read c.args.tables.now c.args.account.now c.args.entry _ _ _ _ _ _ _ c.order_named.ensures c.place_of-place.ensures c.row-i.ensures c.contract_named.ensures c.row-c.ensures c.underlying_named.ensures c.row-u.ensures
