use Rattle.std.proofs.Common.{◌≡◌, ◌++◌, List}
use Rattle.std.specs.List.{AllByRecursion, filter_map}
use Rattle.ov_types.specs.declared.keys.DownKey.{DownKey}
use Rattle.ov_types.specs.declared.keys.DownValue.{DownValue}
use Rattle.agent_tables.specs.Slice.{pairs_of}
use Rattle.agent_tables.specs.declared.object.SliceObject.{SliceObject}
use Rattle.agent_tables.proofs.Told.{Fit, object_at}
use Rattle.agent_tables.proofs.slice.objects.Given as goal

pub record SoFar (slice : List SliceObject) (rest held : List (DownKey × DownValue)) : Type 0 where
  pub same : pairs_of slice ++ filter_map object_at rest ≡ filter_map object_at held
  pub fit : AllByRecursion Fit rest

abbrev pub invariant-loop-key : goal.invariant-loop-key
invariant-loop-key l = SoFar l.slice.items l.key-iterator l.held
