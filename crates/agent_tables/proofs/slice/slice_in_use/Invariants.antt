use Rattle.std.proofs.Common.{◌≡◌, drop, map}
use Rattle.std.specs.List.{AllByRecursion}
use Rattle.node_core.specs.Told.{AllFit}
use Rattle.node_core.specs.NodeModel.Agent.{Heard, Holdings, slice_in_use}
use Rattle.agent_tables.specs.Views.{heard_of}
use Rattle.agent_tables.proofs.slice.slice_in_use.Given as goal

pub record Left (left all : Holdings) : Type 0 where
  pub same : slice_in_use left ≡ slice_in_use all
  pub fit : AllByRecursion (λ (s : Heard). AllFit s.map) left

abbrev pub invariant-loop-session : goal.invariant-loop-session
invariant-loop-session l = Left (map heard_of (drop l.session-index l.sessions)) (map heard_of l.sessions)
