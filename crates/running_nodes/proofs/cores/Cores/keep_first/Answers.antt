use Rattle.std.proofs.Common.{[], ◌∷◌, ◌∙◌, List, ap}
use Rattle.agent_node.specs.Core as agent
use Rattle.running_nodes.specs.ControlNode.Core as control
use Rattle.running_nodes.specs.Cores.{inners}
use Rattle.running_nodes.specs.Halves.{Inner, inner}
use Rattle.running_nodes.proofs.cores.Cores.keep_first.Goals as goal

pub returns : goal.returns
returns c = record {
  first =
      ap (λ (cs : List control.Core). inners c.self.inside.config cs c.clear-2.new.self.items) c.clear.ensures.items
      ∙ (ap (λ (agents : List agent.Core). inners c.self.inside.config [] agents) c.clear-2.ensures.items
      ∙ ap (λ (ns : List Inner). inner ns 0 ∷ []) c.self.view_is);
}
