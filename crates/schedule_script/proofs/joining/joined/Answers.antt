use Rattle.config_check.proofs.Validity.{valid_iff}
use Rattle.schedule_script.proofs.Alike.{joined_is}
use Rattle.schedule_script.proofs.joining.joined.Goals as goal

pub returns : goal.returns
returns c =
    let x = c.args.valid.now in
    joined_is x c.topology-topology.result.now c.config-config.result.now c.topology-topology.ensures.part c.config-config.ensures.part
    ((valid_iff x.topology x.config).0 c.config-config.ensures.valid)
    c.args.rules.now c.requires _ _ c.args.ties.now c.ties.view_is
    c.in_ok-ports.ensures c.in_ok-uses.ensures c.in_ok-related.ensures c.in_ok-addresses.ensures c.in_ok-names.ensures
