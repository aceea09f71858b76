-- How what is stored is listed.
use Rattle.std.specs.Prelude.{◌==◌, if◌then◌else◌}
use Rattle.std.specs.declared.option.Option.{Option}
use Rattle.std.specs.declared.option.Option.TheVariants.{None}
use Rattle.std.specs.Option.{option_map}
use Rattle.ov_types.specs.Prefix.{Block}
use Rattle.ov_types.specs.declared.numbers.InstanceId.{InstanceId}
use Rattle.ov_types.specs.declared.rows.TableRow.{TableRow}
use Rattle.path_select.specs.declared.selection.Path.{Path}
use Rattle.vpn_holdings.specs.At.{shown}
use Rattle.vpn_tables.specs.declared.stored.Entry.{Entry}
use Rattle.vpn_tables.specs.declared.stored.RowKey.{RowKey}

-- the row of an instance that is stored in a place, as it is shown
abbrev pub row_in : InstanceId → RowKey × Entry → Option (Block × TableRow)
row_in i e = if e.0.instance.0 == i.0 then option_map (λ (p : Path). (e.0.prefix, shown p)) e.1.path else None
