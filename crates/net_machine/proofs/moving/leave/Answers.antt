use Rattle.std.proofs.Common.{ℕ, IfOk, sym, ◌∙◌, subst, ◌≡◌}
use Rattle.std.specs.declared.option.Option.{Option}
use Rattle.running_laws.proofs.Lists.{named_by}
use Rattle.net_machine.specs.Moving.{left_at}
use Rattle.net_machine.proofs.Leaving.{none_goes, place_is_agents}
use Rattle.net_machine.proofs.moving.leave.Goals as goal

pub retire_agent-requires-clause-node : goal.retire_agent-requires-clause-node
retire_agent-requires-clause-node c =
    (place_is_agents _ c.args.name.now c.args.control.now c.in-Some.place c.requires.agent
    (sym c.place_of.ensures ∙ c.in-Some.is)).node

pub retire_agent-requires-clause-agent : goal.retire_agent-requires-clause-agent
retire_agent-requires-clause-agent c =
    let p = place_is_agents _ c.args.name.now c.args.control.now c.in-Some.place c.requires.agent
    (sym c.place_of.ensures ∙ c.in-Some.is) in
    (p.controls, p.who, p.behind)

pub retire_agent-requires-clause-there : goal.retire_agent-requires-clause-there
retire_agent-requires-clause-there c =
    (place_is_agents _ c.args.name.now c.args.control.now c.in-Some.place c.requires.agent
    (sym c.place_of.ensures ∙ c.in-Some.is)).there

pub retire_agent-requires-clause-alone : goal.retire_agent-requires-clause-alone
retire_agent-requires-clause-alone c =
    (place_is_agents _ c.args.name.now c.args.control.now c.in-Some.place c.requires.agent
    (sym c.place_of.ensures ∙ c.in-Some.is)).alone

pub returns-in-None-clause-left : goal.returns-in-None-clause-left
returns-in-None-clause-left c =
    none_goes _ c.args.name.now c.args.control.now c.requires.agent (sym c.place_of.ensures ∙ c.in-None.is)

pub returns-in-Some-clause-left : goal.returns-in-Some-clause-left
returns-in-Some-clause-left c =
    let seats = c.args.nodes.now.seats in
    subst (λ (o : Option ℕ). IfOk c.retire_agent.result (λ _. c.retire_agent.new.self.seats ≡ left_at c.args.name.now o seats))
    (sym (named_by seats c.args.control.now c.args.name.now c.in-Some.place (sym c.place_of.ensures ∙ c.in-Some.is)))
    c.retire_agent.ensures.left
