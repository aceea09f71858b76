-- What is told and shown, entry by entry.
use Rattle.std.specs.Prelude.{List, map}
use Rattle.ov_types.specs.Prefix.{Block}
use Rattle.ov_types.specs.declared.keys.DownKey.{DownKey}
use Rattle.ov_types.specs.declared.keys.DownKey.TheVariants.{Slice, Route}
use Rattle.ov_types.specs.declared.keys.DownValue.{DownValue}
use Rattle.ov_types.specs.declared.keys.DownValue.TheVariants.{Object, Row}
use Rattle.ov_types.specs.declared.numbers.InstanceId.{InstanceId}
use Rattle.ov_types.specs.declared.objects.LowKey.{LowKey}
use Rattle.ov_types.specs.declared.objects.LowValue.{LowValue}
use Rattle.ov_types.specs.declared.rows.Entry.{Entry as RouteEntry}
use Rattle.ov_types.specs.declared.rows.TableRow.{TableRow}
use Rattle.node_routes.specs.NodeModel.Paths.{Holdings}
use Rattle.vpn_tables.specs.Answers.{rows_at}

-- an object of a slice, as an agent is told it
abbrev pub told_object : LowKey × LowValue → DownKey × DownValue
told_object e = (Slice e.0, Object e.1)

-- what an agent is told of a row
abbrev pub hop_of : TableRow → RouteEntry
hop_of r = record { next_hop = r.next_hop; label = r.label }

-- a row of an instance's table, as an agent is told it
abbrev pub told_row : InstanceId → Block × TableRow → DownKey × DownValue
told_row i e = (Route i e.0, Row (record { next_hop = e.1.next_hop; label = e.1.label }))

abbrev pub told_rows : Holdings → InstanceId → List (DownKey × DownValue)
told_rows h i = map (told_row i) (rows_at h i)

-- a row of an instance's table, as it is shown
abbrev pub shown_row : InstanceId → Block × TableRow → (InstanceId × Block) × TableRow
shown_row i e = ((i, e.0), e.1)

abbrev pub shown_rows : Holdings → InstanceId → List ((InstanceId × Block) × TableRow)
shown_rows h i = map (shown_row i) (rows_at h i)
