use Rattle.std.proofs.Common.{sym, ◌∙◌}
use Rattle.config_node.proofs.Changed.{all_shared}
use Rattle.config_node.proofs.changing.shares_all_but_ports.Goals as goal

pub returns : goal.returns
returns c = λ h.
    all_shared c.args.before.now c.args.now.now c.config-one.result.now c.config-other.result.now
    c.config-one.ensures.part c.config-other.ensures.part
    (sym c.topology.ensures.part ∙ c.same_topology.ensures c.if-not-same_topology.false ∙ c.topology-2.ensures.part)
    (c.same_networks.ensures c.if-not-same_networks.false) (c.same_policies.ensures c.if-not-same_policies.false)
    (c.same_services.ensures c.if-not-same_services.false) (c.same_chains.ensures h)
