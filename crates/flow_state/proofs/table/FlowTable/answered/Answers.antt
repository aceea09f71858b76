use Rattle.std.proofs.Common.{◌∙◌, ap, Option}
use Rattle.flow_state.specs.declared.flow.Flow.{Flow}
use Rattle.flow_state.specs.Flows.{standing}
use Rattle.flow_state.proofs.Replies.{answered_is}
use Rattle.flow_state.proofs.table.FlowTable.answered.Goals as goal

pub returns : goal.returns
returns c =
    let v = c.args.valid.now in
    c.standing.ensures
    ∙ ap (λ (o : Option Flow). standing o c.args.self.now.flows) c.candidate.ensures
    ∙ answered_is v.topology v.config c.config-config.ensures.config_form c.config-config.ensures.valid c.args.self.now.flows c.args.packet c.requires.kept
