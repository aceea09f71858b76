use Rattle.std.proofs.Common.{inl, inr, refl, ap}
use Rattle.ov_sync.specs.Keyed.{map_of}
use Rattle.config_node.specs.Ends.{low_order}
use Rattle.config_node.proofs.Changes.{sent_key, told_key}
use Rattle.config_node.proofs.planning.tell_key.Goals as goal

pub returns-clause-changes : goal.returns-clause-changes
returns-clause-changes c =
    told_key c.args.sent.now c.args.wants.now.entries c.args.key c.in_ok-deltas.deltas.items c.in_ok-delta.delta
    c.in_ok-wanted.wanted c.in_ok-deltas.ensures c.in_ok-delta.ensures.change c.in_ok-wanted.ensures c.requires

pub returns-clause-sent : goal.returns-clause-sent
returns-clause-sent c =
    sent_key c.args.sent.now c.replace_key.new.self c.args.wants.now.entries c.args.key c.in_ok-wanted.wanted
    c.in_ok-delta.ensures.sent c.in_ok-wanted.ensures c.requires

pub returns-clause-either : goal.returns-clause-either
returns-clause-either c =
    inr (sent_key c.args.sent.now c.replace_key.new.self c.args.wants.now.entries c.args.key c.in_ok-wanted.wanted
    c.in_ok-delta.ensures.sent c.in_ok-wanted.ensures c.requires)

pub returns-in_err-deltas-clause-either : goal.returns-in_err-deltas-clause-either
returns-in_err-deltas-clause-either c =
    inr (sent_key c.args.sent.now c.replace_key.new.self c.args.wants.now.entries c.args.key c.in_ok-wanted.wanted
    c.in_ok-delta.ensures.sent c.in_ok-wanted.ensures c.requires)

pub returns-in_err-delta-clause-either : goal.returns-in_err-delta-clause-either
returns-in_err-delta-clause-either c = inl (ap (map_of low_order) c.in_err-delta.ensures.err)

pub returns-in_err-wanted-clause-either : goal.returns-in_err-wanted-clause-either
returns-in_err-wanted-clause-either c = inl refl
