use Rattle.std.proofs.Common.{true, refl, ap, ◌∙◌, map, subst, sym}
use Rattle.ov_sync.specs.Keyed.{map_of}
use Rattle.node_core.specs.Told.{AllFit, spelled}
use Rattle.node_core.specs.NodeModel.Maps.{Change}
use Rattle.config_node.specs.Ends.{low_of, low_order}
use Rattle.config_node.proofs.Changes.{told_as, told_fits}
use Rattle.config_node.proofs.Posts.{not_told, plan_is}
use Rattle.config_node.proofs.Turning.{all_sent, live_told}
use Rattle.config_node.proofs.planning.plan_changes.Goals as goal

pub spell_all-requires : goal.spell_all-requires
spell_all-requires c =
    rw c.deref.ensures.value (told_fits c.args.end.now.sent c.args.wants.now.entries c.in_ok-deltas.deltas.items
    c.in_ok-deltas.ensures.changes c.requires.sent c.requires.wants)

pub returns-in_err-deltas-clause-sent : goal.returns-in_err-deltas-clause-sent
returns-in_err-deltas-clause-sent c = λ changed.
    not_told c.args.wants.now.entries changed (record c.args.end.now { sent = c.replace.new.self })
    (subst AllFit (ap low_of (sym c.in_err-deltas.ensures.err)) c.requires.sent) c.requires.untold

pub returns-in_err-messages-clause-sent : goal.returns-in_err-messages-clause-sent
returns-in_err-messages-clause-sent c = λ changed.
    not_told c.args.wants.now.entries changed (record c.args.end.now { sent = c.replace.new.self })
    (subst AllFit (ap low_of (sym c.in_ok-deltas.ensures.ok)) c.requires.wants) c.requires.untold

pub returns-clause-sent : goal.returns-clause-sent
returns-clause-sent c = λ changed.
    all_sent c.args.wants.now.entries changed
    (record { session = c.args.end.now.session; sent = c.replace.new.self; told = true }) c.requires.wants
    (ap (map_of low_order) c.in_ok-deltas.ensures.ok)

pub returns-clause-told : goal.returns-clause-told
returns-clause-told c =
    live_told c.args.wants.now.entries c.args.end.now
    (record { session = c.args.end.now.session; sent = c.replace.new.self; told = true }) (sym c.requires.sends) refl
    c.requires.wants (ap (map_of low_order) c.in_ok-deltas.ensures.ok)

pub returns-clause-plan : goal.returns-clause-plan
returns-clause-plan c =
    let told = told_as c.args.end.now.sent c.args.wants.now.entries c.in_ok-deltas.deltas.items
    c.in_ok-deltas.ensures.changes in
    plan_is c.args.wants.now.entries c.args.end.now c.in_ok-messages.messages (sym c.requires.sends)
    (c.in_ok-messages.ensures ∙ rw c.deref.ensures.value (ap (map (λ (d : Change). spelled d)) told))
