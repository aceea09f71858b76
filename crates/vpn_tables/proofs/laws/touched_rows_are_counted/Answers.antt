use Rattle.vpn_tables.proofs.RowsCounted.{counted}
use Rattle.vpn_tables.proofs.laws.touched_rows_are_counted.Goals as goal

pub returns : goal.returns
returns c = counted
