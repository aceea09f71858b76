use Rattle.std.proofs.Common.{false, refl, sym, ◌∙◌}
use Rattle.config_node.proofs.Posts.{idle_told, not_told, plan_where_idle}
use Rattle.config_node.proofs.planning.plan_one.Goals as goal

pub returns-then-not-is_live-clause-sent : goal.returns-then-not-is_live-clause-sent
returns-then-not-is_live-clause-sent c =
    not_told c.args.wants.now.entries c.args.changed.now (record c.args.end.now { told = false }) c.requires.sent.0 refl

pub returns-then-not-is_live-clause-told : goal.returns-then-not-is_live-clause-told
returns-then-not-is_live-clause-told c =
    idle_told c.args.wants.now.entries c.args.end.now (sym c.if-not-is_live.true ∙ c.is_live.ensures) c.requires.sent.0

pub returns-then-not-is_live-clause-plan : goal.returns-then-not-is_live-clause-plan
returns-then-not-is_live-clause-plan c =
    plan_where_idle c.args.wants.now.entries c.args.end.now c.new.result
    (sym c.if-not-is_live.true ∙ c.is_live.ensures) c.new.ensures

pub plan_told-requires-clause-sends : goal.plan_told-requires-clause-sends
plan_told-requires-clause-sends c = sym c.is_live.ensures ∙ c.if-not-is_live.false

pub plan_changes-requires-clause-sends : goal.plan_changes-requires-clause-sends
plan_changes-requires-clause-sends c = sym c.is_live.ensures ∙ c.if-not-is_live.false

pub returns-clause-sent : goal.returns-clause-sent
returns-clause-sent c = c.plan_changes.ensures.sent c.args.changed.now
