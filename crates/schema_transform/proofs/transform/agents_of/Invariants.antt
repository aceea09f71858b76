use Rattle.std.proofs.Common.{◌≡◌, drop}
use Rattle.std.specs.Prelude.{◌++◌, map}
use Rattle.transform_model.specs.Compiled.{agent_rows}
use Rattle.schema_transform.proofs.transform.agents_of.Given as goal

abbrev pub invariant-loop-node : goal.invariant-loop-node
invariant-loop-node l =
    l.agents ++ map (λ n. agent_rows l.topology l.config n.address) (drop l.node-index l.topology.nodes)
    ≡ map (λ n. agent_rows l.topology l.config n.address) l.topology.nodes
