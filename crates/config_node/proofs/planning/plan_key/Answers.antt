use Rattle.std.proofs.Common.{refl, ap, ◌∙◌, map, sym}
use Rattle.node_core.specs.Told.{spelled}
use Rattle.node_core.specs.NodeModel.Maps.{Change}
use Rattle.config_node.proofs.Changes.{fits_by}
use Rattle.config_node.proofs.Posts.{plan_is}
use Rattle.config_node.proofs.Turning.{kept_sent, live_told}
use Rattle.config_node.proofs.planning.plan_key.Goals as goal

pub tell_key-requires : goal.tell_key-requires
tell_key-requires c = c.requires.sent.1 c.requires.told

pub spell_all-requires : goal.spell_all-requires
spell_all-requires c =
    rw c.deref.ensures.value (fits_by c.args.end.now.sent c.args.wants.now.entries c.in_ok-deltas.deltas.items
    c.in_ok-deltas.ensures.changes c.requires.sent.0 c.requires.wants)

pub returns-in_err-deltas-clause-sent : goal.returns-in_err-deltas-clause-sent
returns-in_err-deltas-clause-sent c =
    kept_sent c.args.wants.now.entries c.args.key c.args.end.now c.tell_key.new.sent c.requires.sent c.requires.wants
    c.in_err-deltas.ensures.either

pub returns-in_err-messages-clause-sent : goal.returns-in_err-messages-clause-sent
returns-in_err-messages-clause-sent c =
    kept_sent c.args.wants.now.entries c.args.key c.args.end.now c.tell_key.new.sent c.requires.sent c.requires.wants
    c.in_ok-deltas.ensures.either

pub returns-clause-sent : goal.returns-clause-sent
returns-clause-sent c =
    kept_sent c.args.wants.now.entries c.args.key c.args.end.now c.tell_key.new.sent c.requires.sent c.requires.wants
    c.in_ok-deltas.ensures.either

pub returns-clause-told : goal.returns-clause-told
returns-clause-told c =
    live_told c.args.wants.now.entries c.args.end.now (record c.args.end.now { sent = c.tell_key.new.sent })
    (sym c.requires.sends) refl c.requires.wants c.in_ok-deltas.ensures.sent

pub returns-clause-plan : goal.returns-clause-plan
returns-clause-plan c =
    plan_is c.args.wants.now.entries c.args.end.now c.in_ok-messages.messages (sym c.requires.sends)
    (c.in_ok-messages.ensures
    ∙ rw c.deref.ensures.value (ap (map (λ (d : Change). spelled d)) c.in_ok-deltas.ensures.changes))
