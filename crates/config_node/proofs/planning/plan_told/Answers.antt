use Rattle.std.proofs.Common.{Option, refl, subst, sym}
use Rattle.ov_types.specs.declared.objects.LowKey.{LowKey}
use Rattle.config_node.specs.Ends.{HasSent}
use Rattle.config_node.proofs.Posts.{plan_where_told}
use Rattle.config_node.proofs.Turning.{live_told, told_already}
use Rattle.config_node.proofs.planning.plan_told.Goals as goal

pub plan_key-requires-clause-sent : goal.plan_key-requires-clause-sent
plan_key-requires-clause-sent c =
    subst (λ (o : Option LowKey). HasSent c.args.wants.now.entries o c.args.end.now) c.in-Some.is c.requires.sent

pub returns-in-Some-clause-sent : goal.returns-in-Some-clause-sent
returns-in-Some-clause-sent c =
    subst (λ (o : Option LowKey). HasSent c.args.wants.now.entries o c.plan_key.new.end) (sym c.in-Some.is)
    c.plan_key.ensures.sent

pub returns-in-None-clause-told : goal.returns-in-None-clause-told
returns-in-None-clause-told c =
    let wants = c.args.wants.now.entries in
    let end = c.args.end.now in
    live_told wants end end (sym c.requires.sends) refl c.requires.wants
    (told_already wants end (subst (λ (o : Option LowKey). HasSent wants o end) c.in-None.is c.requires.sent)
    c.requires.told)

pub returns-in-None-clause-plan : goal.returns-in-None-clause-plan
returns-in-None-clause-plan c =
    let wants = c.args.wants.now.entries in
    let end = c.args.end.now in
    plan_where_told wants end c.new.result
    (told_already wants end (subst (λ (o : Option LowKey). HasSent wants o end) c.in-None.is c.requires.sent)
    c.requires.told) c.new.ensures
