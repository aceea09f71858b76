use Rattle.std.proofs.Common.{ap, subst, sym, ◌∙◌, ◌<◌, ◌&&◌, Ok, Err, OnOk, OnErr, Result, Bool, length, nat_lt, arith}
use Rattle.std.proofs.Common.{lt-ltb}
use Rattle.std.proofs.lemmas.Result.{on_ok_weaker}
use Rattle.running_nodes.specs.ControlNode.Core.{sessions}
use Rattle.running_nodes.specs.Cores.{IsVacated, controlled}
use Rattle.running_nodes.proofs.Leaving.{above_of, departed_seen, departed_vacated, within_others}
use Rattle.running_nodes.proofs.Vacant.{sessions_there, taken_stays}
use Rattle.running_nodes.proofs.acting.leave_control.Goals as goal

pub retire_agent-requires-clause-agent : goal.retire_agent-requires-clause-agent
retire_agent-requires-clause-agent c =
    let plan = c.args.node.now.plan in
    let above = above_of c.args.node.now c.args.session c.args.name.now c.requires.alone in
    let within = within_others c.args.node.now c.args.session c.args.name.now c.requires.alone in
    let many = sessions_there plan in
    let under : length plan.peers < c.args.session = omega (arith, above) in
    let below : c.args.session < sessions plan = omega (arith, within, many) in
    ap (λ (b : Bool). b && nat_lt c.args.session (sessions plan)) (lt-ltb (length plan.peers) c.args.session under)
    ∙ lt-ltb c.args.session (sessions plan) below

pub retire_agent-requires-clause-kept : goal.retire_agent-requires-clause-kept
retire_agent-requires-clause-kept c =
    taken_stays c.args.node.now.plan c.is_retired-retired.ensures.numbers c.args.session c.args.name.now c.requires.alone.there

pub returns-clause-left : goal.returns-clause-left
returns-clause-left c =
    on_ok_weaker c.retire_agent.result
    (λ is. ap controlled is ∙ departed_seen c.args.node.now c.args.session c.args.name.now c.requires.alone) c.retire_agent.ensures.departed

pub returns-clause-vacated : goal.returns-clause-vacated
returns-clause-vacated c =
    let within = within_others c.args.node.now c.args.session c.args.name.now c.requires.alone in
    let lt : c.args.session < length c.args.node.now.posts = omega (arith, within, c.requires.long) in
    by_result c.retire_agent.result c.retire_agent.ensures.departed c.retire_agent.ensures.err
    (λ is. subst IsVacated (sym is) (departed_vacated c.args.node.now c.args.session c.args.name.now c.requires.alone lt c.requires.vacated))
    (λ same. subst IsVacated (sym same) c.requires.vacated)
  where
    by_result : {T E P Q V : Type 0} (r : Result T E) → OnOk r P → OnErr r Q → (P → V) → (Q → V) → V
    by_result (Ok x) p q on_ok on_err = on_ok p
    by_result (Err e) p q on_ok on_err = on_err q
