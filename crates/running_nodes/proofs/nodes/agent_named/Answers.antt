use Rattle.std.proofs.Common.{arith}
use Rattle.std.proofs.lemmas.List.{length-drop}
use Rattle.running_nodes.proofs.nodes.agent_named.Goals as goal

pub edge_named-requires : goal.edge_named-requires
edge_named-requires c = (let long = length-drop c.args.first c.args.edges.now in omega (arith, long, c.requires.few))
