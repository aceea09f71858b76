use Rattle.std.proofs.Common.{ap, sym, ◌∙◌, List, map, ◌≤◌, length, arith}
use Rattle.ov_sync.specs.declared.Delta.{Delta}
use Rattle.ov_sync.specs.Embed.{moved_delta}
use Rattle.ov_sync.specs.Keyed.{after}
use Rattle.ov_types.specs.declared.vpn.VpnKey.{VpnKey}
use Rattle.ov_types.specs.declared.vpn.VpnRoute.{VpnRoute}
use Rattle.node_core.specs.NodeModel.Keys.{Vpn}
use Rattle.node_core.specs.NodeModel.Values.{Route}
use Rattle.control_node.specs.Taking.{peer_by}
use Rattle.control_node.proofs.Applied.{peer-next, peer-same, stays-route, stays-same, stays-then}
use Rattle.control_node.proofs.Iterated.{none_left}
use Rattle.control_node.proofs.Tracking.{marked_itself, marked_then}
use Rattle.control_node.proofs.taking.take_routes.Goals as goal

pub returns-in_err-set_peer_route-clause-marked : goal.returns-in_err-set_peer_route-clause-marked
returns-in_err-set_peer_route-clause-marked c =
    marked_then _ _ _ _ _ _ c.loop-change.invariant.marked
    (record { within = c.in_err-set_peer_route.ensures.within; covers = c.in_err-set_peer_route.ensures.covers })

pub loop-change-init : goal.loop-change-init
loop-change-init c =
    let all = c.into_iter-change-iterator.ensures.into_iter_gives.0 in
    record {
      stays = stays-same c.args.tables.now;
      rest = ap (λ (changes : List (Delta VpnKey VpnRoute)). peer_by (λ m. after m (map (moved_delta Vpn Route) changes)) c.args.tables.now c.args.session) all;
      labels = rw all c.requires.labels;
      marked = marked_itself c.args.dirty.now c.args.tables.now;
    }

pub loop-change-preserved : goal.loop-change-preserved
loop-change-preserved c =
    let inv = c.loop-change.invariant in
    let held = c.loop-change.tables in
    let next = c.in-Some.ensures.steps.0 in
    let labels = rw next at inv.labels in
    let known : c.args.session ≤ length held.peers = omega (arith, c.requires.known, inv.stays.peers) in
    let told = c.in_ok-set_peer_route.ensures.ok in
    record {
      stays = stays-then _ _ _ inv.stays (rw told (stays-route held c.args.session c.in-Some.change known labels.0));
      rest = peer-next held c.set_peer_route.new.tables c.args.session c.in-Some.change c.next.new.self.rest.items known told
          ∙ ap (λ (changes : List (Delta VpnKey VpnRoute)). peer_by (λ m. after m (map (moved_delta Vpn Route) changes)) held c.args.session) (sym next) ∙ inv.rest;
      labels = labels.1;
      marked = marked_then _ _ _ _ _ _ inv.marked
          (record { within = c.in_ok-set_peer_route.ensures.within; covers = c.in_ok-set_peer_route.ensures.covers });
    }

pub returns-clause-ok : goal.returns-clause-ok
returns-clause-ok c =
    let l = c.loop-change in
    let none = none_left l.change-iterator.rest.items l.change-iterator.rest.len l.change-iterator.rest.ok.0 c.in-None.ensures.steps.0 in
    sym (peer-same l.tables c.args.session)
    ∙ ap (λ (changes : List (Delta VpnKey VpnRoute)). peer_by (λ m. after m (map (moved_delta Vpn Route) changes)) l.tables c.args.session) (sym none) ∙ l.invariant.rest
