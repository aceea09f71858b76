use Rattle.std.proofs.Common.{◌≡◌, ◌++◌, drop, flat_map}
use Rattle.inspect_changes.specs.Ways.{ways_of}
use Rattle.inspect_changes.proofs.ways.ways_of_each.Given as goal

abbrev pub invariant-loop-region : goal.invariant-loop-region
invariant-loop-region l =
    l.ways.items ++ flat_map (ways_of l.valid.config) (drop l.region-index l.regions) ≡ flat_map (ways_of l.valid.config) l.regions
