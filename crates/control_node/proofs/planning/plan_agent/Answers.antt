use Rattle.std.proofs.Common.{◌≡◌, ℕ, List, true, sym, ◌∙◌, ap, subst}
use Rattle.std.specs.List.{AllByRecursion}
use Rattle.ov_sync.specs.declared.Delta.{Delta}
use Rattle.ov_sync.specs.Embed.{moved_delta}
use Rattle.ov_types.specs.declared.keys.DownKey.{DownKey}
use Rattle.ov_types.specs.declared.keys.DownValue.{DownValue}
use Rattle.control_wants.specs.Held.{HoldingsFit, told_in}
use Rattle.node_core.specs.Told.{AllFit, ChangeFits, down_of, down_value}
use Rattle.node_core.proofs.Maps.{difference_fits, nothing_fits}
use Rattle.node_core.specs.NodeModel.Keys.{of_down}
use Rattle.node_core.specs.NodeModel.Paths.{Holdings}
use Rattle.control_node.specs.Ends.{IsAgentEnd}
use Rattle.control_node.specs.Planning.{agent_sends, wanted_on}
use Rattle.control_node.specs.declared.ends.AgentEnd.{AgentEnd}
use Rattle.control_wants.proofs.Fitting.{agents_fit}
use Rattle.control_node.proofs.Closed.{down-empty}
use Rattle.control_node.proofs.Images.{moved_fit}
use Rattle.control_node.proofs.Planned.{agent_plan_is, told_fits}
use Rattle.control_node.proofs.planning.plan_agent.Goals as goal

-- what the agent is to be told can be told
wanted_fits : (h : Holdings) (session : ℕ) → HoldingsFit h → AllFit (wanted_on h session)
wanted_fits h session fit = agents_fit h (told_in h.agents session) fit (told_fits h.agents session fit.agents)

sent_fits : (e : AgentEnd) (now : List (DownKey × DownValue)) → IsAgentEnd e → AllFit (down_of now)
    → IsAgentEnd (record e { sent = now })
sent_fits e now is fit = record { peer = is.peer; from = is.from; sent = fit }

pub tell_agent-requires-clause-tracked : goal.tell_agent-requires-clause-tracked
tell_agent-requires-clause-tracked c =
    let sends : agent_sends c.args.end.now ≡ true = cc in
    c.requires.tracked sends

pub returns-in_err-changes-clause-end : goal.returns-in_err-changes-clause-end
returns-in_err-changes-clause-end c =
    sent_fits c.args.end.now _ c.requires.end (subst AllFit (sym (ap down_of c.in_err-changes.ensures.err ∙ down-empty)) nothing_fits)

pub spell_items-requires : goal.spell_items-requires
spell_items-requires c =
    subst (AllByRecursion (λ (d : Delta DownKey DownValue). ChangeFits (moved_delta of_down down_value d)))
    (sym c.deref.ensures.value)
    (moved_fit c.in_ok-changes.changes.items
    (subst (AllByRecursion ChangeFits) (sym c.in_ok-changes.ensures.changes)
    (difference_fits _ _ c.requires.end.sent (wanted_fits c.args.tables.now c.args.session c.requires.held))))

pub returns-in_err-spell_items-clause-end : goal.returns-in_err-spell_items-clause-end
returns-in_err-spell_items-clause-end c =
    sent_fits c.args.end.now _ c.requires.end
    (subst AllFit (sym c.in_ok-changes.ensures.sent) (wanted_fits c.args.tables.now c.args.session c.requires.held))

pub returns-clause-end : goal.returns-clause-end
returns-clause-end c =
    sent_fits c.args.end.now _ c.requires.end
    (subst AllFit (sym c.in_ok-changes.ensures.sent) (wanted_fits c.args.tables.now c.args.session c.requires.held))

pub returns-clause-plan : goal.returns-clause-plan
returns-clause-plan c =
    agent_plan_is c.args.tables.now c.args.session c.args.end.now c.in_ok-changes.changes.items c.in_ok-spell_items.field-0
    (cc) c.in_ok-changes.ensures.changes (rw (← c.deref.ensures.value) c.in_ok-spell_items.ensures)
