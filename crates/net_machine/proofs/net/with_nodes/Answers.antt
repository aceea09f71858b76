use Rattle.std.proofs.Common.{◌∙◌, ap}
use Rattle.machine_moment_laws.proofs.TiedMoments.{tied_rounds}
use Rattle.net_machine.specs.Seating.{order_of}
use Rattle.net_machine.proofs.Ran.{start_long, start_runs}
use Rattle.net_machine.proofs.net.with_nodes.Goals as goal

pub order_of-requires : goal.order_of-requires
order_of-requires c =
    start_long c.args.opening c.args.nodes.seats
    (record {
      topology = c.config-config.ensures.topology_form;
      config = c.config-config.ensures.config_form;
      valid = c.config-config.ensures.valid;
    })
    c.requires.seats

pub invariant_of-result : goal.invariant_of-result
invariant_of-result c = λ _. (
  start_runs c.args.opening c.args.nodes.seats
      (record {
        topology = c.config-config.ensures.topology_form;
        config = c.config-config.ensures.config_form;
        valid = c.config-config.ensures.valid;
      })
      c.requires.seats
      _ _ c.in_ok-order.order.items c.new.ensures c.requires.ties (c.in_ok-order.ensures.order ∙ ap (order_of c.args.nodes.seats) c.topology.ensures.part),
  c.requires.works,
)

pub returns-clause-state : goal.returns-clause-state
returns-clause-state c =
    (start_runs c.args.opening c.args.nodes.seats
    (record {
      topology = c.config-config.ensures.topology_form;
      config = c.config-config.ensures.config_form;
      valid = c.config-config.ensures.valid;
    })
    c.requires.seats
    _ _ c.in_ok-order.order.items c.new.ensures c.requires.ties (c.in_ok-order.ensures.order ∙ ap (order_of c.args.nodes.seats) c.topology.ensures.part)).stands

pub returns-clause-ties : goal.returns-clause-ties
returns-clause-ties c =
    (start_runs c.args.opening c.args.nodes.seats
    (record {
      topology = c.config-config.ensures.topology_form;
      config = c.config-config.ensures.config_form;
      valid = c.config-config.ensures.valid;
    })
    c.requires.seats
    _ _ c.in_ok-order.order.items c.new.ensures c.requires.ties (c.in_ok-order.ensures.order ∙ ap (order_of c.args.nodes.seats) c.topology.ensures.part)).tied

pub returns-clause-rounds : goal.returns-clause-rounds
returns-clause-rounds c =
    let r = start_runs c.args.opening c.args.nodes.seats
    (record {
      topology = c.config-config.ensures.topology_form;
      config = c.config-config.ensures.config_form;
      valid = c.config-config.ensures.valid;
    })
    c.requires.seats
    _ _ c.in_ok-order.order.items c.new.ensures c.requires.ties (c.in_ok-order.ensures.order ∙ ap (order_of c.args.nodes.seats) c.topology.ensures.part) in
    tied_rounds _ r.written _ r.forms
