-- The objects of the slice in use, from what the code has of them.
use Rattle.std.specs.Prelude.{List, map}
use Rattle.ov_types.specs.declared.objects.LowKey.{LowKey}
use Rattle.ov_types.specs.declared.objects.LowValue.{LowValue}
use Rattle.agent_tables.specs.declared.object.SliceObject.{SliceObject}

abbrev pub pair_of : SliceObject → LowKey × LowValue
pair_of o = (o.key, o.value.now)

abbrev pub pairs_of : List SliceObject → List (LowKey × LowValue)
pairs_of os = map pair_of os
