use Rattle.std.proofs.Common.{◌≡◌, ◌++◌, drop}
use Rattle.std.specs.List.{flat_map}
use Rattle.node_model.specs.Uses.{imports}
use Rattle.rt_constrain.proofs.asking.imports_of.Given as goal

abbrev pub invariant-loop-instance : goal.invariant-loop-instance
invariant-loop-instance l =
    l.imported.items ++ flat_map (imports l.tables.feed) (drop l.instance-index l.instances)
    ≡ flat_map (imports l.tables.feed) l.instances
