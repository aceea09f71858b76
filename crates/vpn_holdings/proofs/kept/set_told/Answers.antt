use Rattle.std.proofs.Common.{map, sym, ◌∙◌}
use Rattle.vpn_holdings.specs.Views.{agent_of}
use Rattle.vpn_holdings.proofs.AgentsIndexed.{kept_nowhere, order_told}
use Rattle.vpn_holdings.proofs.kept.set_told.Goals as goal

pub returns-in-None-clause-labels : goal.returns-in-None-clause-labels
returns-in-None-clause-labels c =
    kept_nowhere c.tell_agent.result c.args.labels.now (map agent_of c.args.agents.now.items) (map agent_of c.tell_agent.new.agents.items) c.args.session c.args.delta
    c.tell_agent.ensures.ok c.tell_agent.ensures.err (sym c.requires.place ∙ c.in-None.is) c.requires.kept

pub returns-in-None-clause-order : goal.returns-in-None-clause-order
returns-in-None-clause-order c =
    order_told c.tell_agent.result (map agent_of c.args.agents.now.items) (map agent_of c.tell_agent.new.agents.items) c.args.session c.args.delta
    c.tell_agent.ensures.ok c.tell_agent.ensures.err c.requires.order

pub returns-in-Some-clause-order : goal.returns-in-Some-clause-order
returns-in-Some-clause-order c =
    order_told c.set_label.result (map agent_of c.args.agents.now.items) (map agent_of c.set_label.new.agents.items) c.args.session c.args.delta
    c.set_label.ensures.ok c.set_label.ensures.err c.requires.order
