use Rattle.std.proofs.Common.{◌≡◌, true, sym, subst}
use Rattle.std.specs.List.{AllByRecursion}
use Rattle.ov_sync.specs.declared.Delta.{Delta}
use Rattle.ov_types.specs.declared.vpn.VpnKey.{VpnKey}
use Rattle.ov_types.specs.declared.vpn.VpnRoute.{VpnRoute}
use Rattle.bgp_session.specs.BgpVpn.Written.{IfPut}
use Rattle.node_core.specs.NodeModel.Wants.{wanted_by_peers}
use Rattle.node_routes.specs.Told.{IsWritable}
use Rattle.vpn_tables.specs.Views.{peer_of}
use Rattle.control_wants.proofs.Fitting.{peers_fit}
use Rattle.control_node.specs.Planning.{peer_sends}
use Rattle.control_node.proofs.Images.{changes_of_routes_fit}
use Rattle.control_node.proofs.Planned.{peer_plan_is}
use Rattle.control_node.proofs.planning.plan_peer.Goals as goal

pub tell_peer-requires-clause-tracked : goal.tell_peer-requires-clause-tracked
tell_peer-requires-clause-tracked c =
    let sends : peer_sends c.args.end.now ≡ true = cc in
    c.requires.tracked sends

pub spell_routes-requires : goal.spell_routes-requires
spell_routes-requires c =
    subst (AllByRecursion (λ (d : Delta VpnKey VpnRoute). IfPut d IsWritable)) (sym c.deref.ensures.value)
    (changes_of_routes_fit c.in_ok-changes.changes.items (peer_of c.args.end.now.sent) (wanted_by_peers c.args.tables.now)
    c.in_ok-changes.ensures.changes (peers_fit c.args.tables.now c.requires.asn c.requires.held))

pub returns-clause-plan : goal.returns-clause-plan
returns-clause-plan c =
    peer_plan_is c.args.tables.now c.args.end.now c.in_ok-changes.changes.items c.in_ok-spell_routes.field-0
    (cc) c.in_ok-changes.ensures.changes (rw (← c.deref.ensures.value) c.in_ok-spell_routes.ensures)
