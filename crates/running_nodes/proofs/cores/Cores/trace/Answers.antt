use Rattle.std.proofs.Common.{ap, ◌∙◌, List, map}
use Rattle.agent_node.specs.Core.{Core}
use Rattle.route_targets.specs.Forwarding.{Forwarder, forwarding}
use Rattle.running_nodes.specs.Changes.{forwarders}
use Rattle.running_nodes.specs.Halves.{Inner}
use Rattle.running_nodes.proofs.Forwarding.{all_forward, shown_at}
use Rattle.running_nodes.proofs.cores.Cores.trace.Goals as goal

pub returns-clause-outcome : goal.returns-clause-outcome
returns-clause-outcome c =
    c.trace.ensures.outcome
    ∙ (ap (λ (as' : List Core). forwarding (map shown_at as') c.args.packet) c.deref_mut.ensures.value
    ∙ (ap (λ (fs : List Forwarder). forwarding fs c.args.packet) (all_forward c.self.inside.config c.self.inside.controls.items c.self.inside.agents.items c.self.invariant.0)
    ∙ ap (λ (ns : List Inner). forwarding (forwarders ns) c.args.packet) c.self.view_is))
