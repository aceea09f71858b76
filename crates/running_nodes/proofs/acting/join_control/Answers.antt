use Rattle.std.proofs.Common.{ap, sym, ◌∙◌, ◌≡◌, Ok, Err, OnOk, OnErr, Result, subst, arith}
use Rattle.std.proofs.lemmas.Result.{IfOk-weaker, on_ok_weaker}
use Rattle.running_nodes.specs.ControlNode.Agents.{number_for}
use Rattle.running_nodes.specs.Cores.{IsVacated, controlled}
use Rattle.running_nodes.proofs.Joining.{joined_seen, joined_vacated, numbers_agree}
use Rattle.running_nodes.proofs.Vacant.{sessions_there}
use Rattle.running_nodes.proofs.acting.join_control.Goals as goal

pub add_agent-requires : goal.add_agent-requires
add_agent-requires c = record { room = λ none. (let many = sessions_there c.args.node.now.plan in omega (arith, many, c.requires.room)) }

pub returns-clause-number : goal.returns-clause-number
returns-clause-number c =
    IfOk-weaker c.add_agent.result (λ number. number ≡ number_for c.args.node.now.plan) _
    (λ number is. is ∙ numbers_agree c.args.node.now.plan c.is_retired-retired.ensures.numbers) c.add_agent.ensures.number

pub returns-clause-joined : goal.returns-clause-joined
returns-clause-joined c =
    on_ok_weaker c.add_agent.result
    (λ is. ap controlled is ∙ joined_seen c.args.node.now c.args.agent c.is_retired-retired.ensures.numbers) c.add_agent.ensures.joined

pub returns-clause-vacated : goal.returns-clause-vacated
returns-clause-vacated c =
    let many = sessions_there c.args.node.now.plan in
    by_result c.add_agent.result c.add_agent.ensures.joined c.add_agent.ensures.err
    (λ is. subst IsVacated (sym is) (joined_vacated c.args.node.now c.args.agent c.is_retired-retired.ensures.numbers (sym many ∙ sym c.requires.long) c.requires.vacated))
    (λ same. subst IsVacated (sym same) c.requires.vacated)
  where
    by_result : {T E P Q V : Type 0} (r : Result T E) → OnOk r P → OnErr r Q → (P → V) → (Q → V) → V
    by_result (Ok x) p q on_ok on_err = on_ok p
    by_result (Err e) p q on_ok on_err = on_err q
