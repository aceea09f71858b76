use Rattle.std.proofs.Common.{◌∙◌, ap, map, arith}
use Rattle.item_wire.specs.Happenings.{idle_session}
use Rattle.item_wire.specs.declared.event.ItemFrom.TheVariants as From
use Rattle.control_node.specs.Made.{new_agent, new_peer, none_told}
use Rattle.control_node.proofs.Made.{ends_made, view_made}
use Rattle.control_node.proofs.Tracking.{tracks-all}
use Rattle.control_node.proofs.ends.ControlEnds.new.Goals as goal

pub invariant_of-result : goal.invariant_of-result
invariant_of-result c =
    let plan = c.args.plan in
    record {
      tracked = tracks-all c.new.result c.in_ok-tables.tables _ _ c.new.ensures;
      ends =
          ends_made plan c.new-2.result c.in_ok-peers.peers.items c.in_ok-agents.agents.items c.in_ok-tables.tables
          (c.new-2.ensures ∙ ap (λ name. idle_session name From.Feed) c.config_name.ensures)
          (c.in_ok-peers.ensures ∙ ap (map (new_peer plan.asn)) c.as_slice-ids.ensures)
          (c.in_ok-agents.ensures ∙ ap (map new_agent) c.as_slice-agent_ids.ensures)
          (c.in_ok-tables.ensures ∙ (λ i. none_told plan.asn (c.as_slice-ids.ensures i) (c.as_slice-agent_ids.ensures i)))
          c.requires.address (omega arith) c.requires.few;
    }

pub returns : goal.returns
returns c =
    let plan = c.args.plan in
    view_made plan c.new-2.result c.in_ok-peers.peers.items c.in_ok-agents.agents.items c.in_ok-tables.tables
    (c.new-2.ensures ∙ ap (λ name. idle_session name From.Feed) c.config_name.ensures)
    (c.in_ok-peers.ensures ∙ ap (map (new_peer plan.asn)) c.as_slice-ids.ensures)
    (c.in_ok-agents.ensures ∙ ap (map new_agent) c.as_slice-agent_ids.ensures)
    (c.in_ok-tables.ensures ∙ (λ i. none_told plan.asn (c.as_slice-ids.ensures i) (c.as_slice-agent_ids.ensures i)))
    c.requires.retired
