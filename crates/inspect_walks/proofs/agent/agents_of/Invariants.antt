use Rattle.std.proofs.Common.{◌≡◌, ◌++◌, drop, map}
use Rattle.transform_model.proofs.Agents.{agents_of, forwarder}
use Rattle.inspect_walks.proofs.agent.agents_of.Given as goal

abbrev pub invariant-loop-place : goal.invariant-loop-place
invariant-loop-place l =
    l.agents.items ++ map (forwarder l.valid.topology l.valid.config) (drop l.place l.nodes) ≡ agents_of l.valid.topology l.valid.config
