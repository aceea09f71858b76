use Rattle.std.proofs.Common.{sym, ◌∙◌}
use Rattle.control_node.proofs.Applied.{peer-same}
use Rattle.control_node.proofs.Tracking.{marked_more, marked_then}
use Rattle.control_node.proofs.inputs.hear_from_peer.Goals as goal

pub returns-in-Some-clause-heard : goal.returns-in-Some-clause-heard
returns-in-Some-clause-heard c =
    let h = c.in_ok-heard.ensures.left in (
      c.in_ok-heard.heard.changes.items,
      record { inputs = h.0; leaves = h.1; replied = h.2; changes_are = h.3; state = h.5; wide = h.6; cause_is = sym c.in-Some.is ∙ h.4 },
      sym (peer-same c.args.tables.now c.args.session),
    )

pub returns-in_err-take_routes-in-None-clause-marked : goal.returns-in_err-take_routes-in-None-clause-marked
returns-in_err-take_routes-in-None-clause-marked c =
    marked_then _ _ _ _ _ _ (marked_more _ _ c.args.tables.now c.mark_silent_peer.ensures.within) c.in_err-take_routes-in-None.ensures.marked

pub returns-in_ok-take_routes-in-None-clause-marked : goal.returns-in_ok-take_routes-in-None-clause-marked
returns-in_ok-take_routes-in-None-clause-marked c =
    marked_then _ _ _ _ _ _ (marked_more _ _ c.args.tables.now c.mark_silent_peer.ensures.within) c.in_ok-take_routes-in-None.ensures.marked

pub returns-in_err-heard-clause-marked : goal.returns-in_err-heard-clause-marked
returns-in_err-heard-clause-marked c = marked_more _ _ c.args.tables.now c.mark_silent_peer.ensures.within

pub returns-in-Some-clause-marked : goal.returns-in-Some-clause-marked
returns-in-Some-clause-marked c = marked_more _ _ c.args.tables.now c.mark_silent_peer.ensures.within
