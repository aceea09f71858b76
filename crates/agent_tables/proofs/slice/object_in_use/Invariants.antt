use Rattle.std.proofs.Common.{◌≡◌, drop, map}
use Rattle.std.specs.List.{AllByRecursion}
use Rattle.node_core.specs.Told.{AllFit}
use Rattle.ov_types.specs.declared.objects.LowKey.{LowKey}
use Rattle.node_core.specs.NodeModel.Agent.{Heard, Holdings}
use Rattle.agent_tables.specs.Listed.{object_in_use}
use Rattle.agent_tables.specs.Views.{heard_of}
use Rattle.agent_tables.proofs.slice.object_in_use.Given as goal

pub record Left (key : LowKey) (left all : Holdings) : Type 0 where
  pub same : object_in_use left key ≡ object_in_use all key
  pub fit : AllByRecursion (λ (s : Heard). AllFit s.map) left

abbrev pub invariant-loop-session : goal.invariant-loop-session
invariant-loop-session l = Left l.key (map heard_of (drop l.session-index l.sessions)) (map heard_of l.sessions)
