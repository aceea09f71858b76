use Rattle.std.proofs.Common.{◌++◌, [], OnOk, OnErr, subst, ◌∙◌}
use Rattle.std.specs.List.{flat_map}
use Rattle.node_model.specs.Maps.{Map}
use Rattle.node_laws.proofs.Quiet.{quiet_by_peers}
use Rattle.ov_io.specs.Inputs.{TookFront}
use Rattle.ov_io.specs.Pieces.{IsOnItsWay}
use Rattle.top_call.specs.Constraint.{sent_to}
use Rattle.top_call.proofs.sending.write_sent_by.Goals as goal

pub returns-clause-ok : goal.returns-clause-ok
returns-clause-ok g c =
    subst (λ (m : Map). OnOk c.write_sent_to_each.result
    (IsOnItsWay (g.K.Sink.taken c.args.sink.now) (g.K.Sink.taken c.write_sent_to_each.new.sink) c.write_sent_to_each.new.gathered []
    (c.args.gathered.now ++ flat_map (sent_to c.args.node.now.name m) c.args.askings.now)))
    (c.in_ok-routes.ensures ∙ quiet_by_peers _ _ c.in-Some.ensures.holds) c.write_sent_to_each.ensures.ok

pub returns-clause-front : goal.returns-clause-front
returns-clause-front g c =
    subst (λ (m : Map). OnErr c.write_sent_to_each.result
    (TookFront (g.K.Sink.taken c.args.sink.now) (g.K.Sink.taken c.write_sent_to_each.new.sink)
    (c.args.gathered.now ++ flat_map (sent_to c.args.node.now.name m) c.args.askings.now)))
    (c.in_ok-routes.ensures ∙ quiet_by_peers _ _ c.in-Some.ensures.holds) c.write_sent_to_each.ensures.front
