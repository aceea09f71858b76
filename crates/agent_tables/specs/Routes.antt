-- The tables of instances, and the routes that are put into them. The first route of a prefix counts.
use Rattle.std.specs.Prelude.{Bool, ◌==◌, List, [], ◌∷◌, if◌then◌else◌, is_some}
use Rattle.std.specs.declared.option.Option.{Option}
use Rattle.std.specs.declared.option.Option.TheVariants.{Some, None}
use Rattle.std.specs.declared.cmp.Ordering.{Ordering}
use Rattle.std.specs.BTreeMap.{insert_entry, is_at}
use Rattle.std.specs.FinMap.{entries}
use Rattle.std.specs.List.{filter_map, flat_map, list_any}
use Rattle.std.specs.Map.{lookup}
use Rattle.ov_types.specs.Prefix.{Block, block_cmp}
use Rattle.ov_types.specs.declared.numbers.InstanceId.{InstanceId}
use Rattle.ov_types.specs.declared.rows.Entry.{Entry}
use Rattle.ov_types.specs.contracts.numbers.InstanceIdOrd.TheImpl as instances
use Rattle.node_core.specs.NodeModel.Agent.{Heard, row_entry}
use Rattle.node_core.specs.NodeModel.Maps.{Map}
use Rattle.packet_trace.specs.Tables.{rows_in}

-- an instance with its routes
abbrev pub Table : Type 0
Table = InstanceId × List (Block × Entry)

abbrev pub instance_order : InstanceId → InstanceId → Ordering
instance_order = instances.ghosts.cmp

-- the routes of all tables, with their instances
abbrev pub routes_of : List Table → List ((InstanceId × Block) × Entry)
routes_of tables = flat_map (λ t. rows_in t.0 t.1) tables

abbrev pub has_table : List Table → InstanceId → Bool
has_table tables i = list_any (λ t. t.0.0 == i.0) tables

-- the routes of a table with another one, which does not count where its prefix has one
abbrev pub kept : List (Block × Entry) → Block → Entry → List (Block × Entry)
kept routes prefix entry =
    if is_some (lookup (is_at (block_cmp prefix)) routes) then routes else insert_entry block_cmp routes prefix entry

-- the tables, with one route more in the table of its instance, where that has one
abbrev pub kept_in : List Table → InstanceId → Block → Entry → List Table
kept_in [] i prefix entry = []
kept_in (t ∷ ts) i prefix entry =
    if t.0.0 == i.0 then (t.0, kept t.1 prefix entry) ∷ ts else t ∷ kept_in ts i prefix entry

-- the tables with all of some routes, in turn
abbrev pub kept_all : List Table → List ((InstanceId × Block) × Entry) → List Table
kept_all ts [] = ts
kept_all ts (r ∷ rs) = kept_all (kept_in ts r.0.0 r.0.1 r.1) rs

-- the tables with a route, where there is one
abbrev pub kept_where : List Table → Option ((InstanceId × Block) × Entry) → List Table
kept_where ts None = ts
kept_where ts (Some r) = kept_in ts r.0.0 r.0.1 r.1

-- the routes among what was told, and those of a session, if it is up
abbrev pub routes_in : Map → List ((InstanceId × Block) × Entry)
routes_in m = filter_map (λ e. row_entry e.0 e.1) (entries m)

abbrev pub routes_on : Heard → List ((InstanceId × Block) × Entry)
routes_on s = if s.is_up then routes_in s.map else []
