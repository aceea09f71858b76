use Rattle.vpn_tables.proofs.Importing.{rows_that_import}
use Rattle.vpn_tables.proofs.laws.touched_rows_are_those_that_import.Goals as goal

pub returns : goal.returns
returns c = rows_that_import
