use Rattle.std.proofs.Common.{ap, sym, ◌∙◌}
use Rattle.std.specs.List.{filter_map}
use Rattle.node_core.specs.Told.{change_of}
use Rattle.control_node.proofs.Applied.{agent-same}
use Rattle.control_node.proofs.Tracking.{marked_more, marked_then}
use Rattle.control_node.proofs.inputs.hear_from_agent.Goals as goal

pub returns-in-Some-clause-heard : goal.returns-in-Some-clause-heard
returns-in-Some-clause-heard c =
    let h = c.in_ok-heard.ensures.left in (
      filter_map change_of c.in_ok-heard.heard.records.items,
      record { inputs = h.0; leaves = h.1; changes_are = ap (filter_map change_of) h.2; state = h.4; cause_is = sym c.in-Some.is ∙ h.3 },
      sym (agent-same c.args.tables.now c.args.session),
    )

pub returns-in_ok-take_publications-in-None-clause-heard :
    goal.returns-in_ok-take_publications-in-None-clause-heard
returns-in_ok-take_publications-in-None-clause-heard c =
    let h = c.in_ok-heard.ensures.left in (
      filter_map change_of c.in_ok-heard.heard.records.items,
      record { inputs = h.0; leaves = h.1; changes_are = ap (filter_map change_of) h.2; state = h.4; cause_is = sym c.in-None.is ∙ h.3 },
      c.in_ok-take_publications-in-None.ensures.ok,
    )

pub returns-in_err-take_publications-in-None-clause-marked : goal.returns-in_err-take_publications-in-None-clause-marked
returns-in_err-take_publications-in-None-clause-marked c =
    marked_then _ _ _ _ _ _ (marked_more _ _ c.args.tables.now c.mark_silent_agent.ensures.within) c.in_err-take_publications-in-None.ensures.marked

pub returns-in_ok-take_publications-in-None-clause-marked : goal.returns-in_ok-take_publications-in-None-clause-marked
returns-in_ok-take_publications-in-None-clause-marked c =
    marked_then _ _ _ _ _ _ (marked_more _ _ c.args.tables.now c.mark_silent_agent.ensures.within) c.in_ok-take_publications-in-None.ensures.marked

pub returns-in_err-heard-clause-marked : goal.returns-in_err-heard-clause-marked
returns-in_err-heard-clause-marked c = marked_more _ _ c.args.tables.now c.mark_silent_agent.ensures.within

pub returns-in-Some-clause-marked : goal.returns-in-Some-clause-marked
returns-in-Some-clause-marked c = marked_more _ _ c.args.tables.now c.mark_silent_agent.ensures.within
