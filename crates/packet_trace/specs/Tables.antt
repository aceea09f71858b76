-- The tables of instances as the rows of an agent. Of an instance that has two tables the first counts.
use Rattle.std.specs.Prelude.{◌==◌, List, [], ◌∷◌, ◌++◌, map, filter, not, if◌then◌else◌}
use Rattle.ov_types.specs.Prefix.{Block}
use Rattle.ov_types.specs.declared.numbers.InstanceId.{InstanceId}
use Rattle.ov_types.specs.declared.rows.Entry.{Entry}

-- the routes of one instance as rows
abbrev pub rows_in : InstanceId → List (Block × Entry) → List ((InstanceId × Block) × Entry)
rows_in i routes = map (λ r. ((i, r.0), r.1)) routes

-- the rows of other instances
abbrev pub others : InstanceId → List ((InstanceId × Block) × Entry) → List ((InstanceId × Block) × Entry)
others i rows = filter (λ r. not (r.0.0.0 == i.0)) rows

abbrev pub rows_of : List (InstanceId × List (Block × Entry)) → List ((InstanceId × Block) × Entry)
rows_of [] = []
rows_of (t ∷ ts) = rows_in t.0 t.1 ++ others t.0 (rows_of ts)

-- the routes of an instance
abbrev pub table_of : List (InstanceId × List (Block × Entry)) → InstanceId → List (Block × Entry)
table_of [] i = []
table_of (t ∷ ts) i = if t.0.0 == i.0 then t.1 else table_of ts i
