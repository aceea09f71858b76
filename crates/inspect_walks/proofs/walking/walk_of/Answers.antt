use Rattle.std.proofs.Common.{not, ap, ◌∙◌}
use Rattle.config_types.specs.declared.config.Config.{Config}
use Rattle.config_check.specs.Finding.{port_numbered}
use Rattle.inspect_walks.proofs.Found.{absent, walked, within}
use Rattle.inspect_walks.proofs.walking.walk_of.Goals as goal

pub trace-traced-requires : goal.trace-traced-requires
trace-traced-requires c =
    within c.args.valid.now c.config.ensures.config_form c.config.ensures.valid c.args.packet c.port_numbered.result
    (c.port_numbered.ensures ∙ ap (λ (k : Config). port_numbered k c.args.packet.source.0) c.config.ensures.part) (c.is_none.ensures ∙ ap not c.if-is_none.false)

pub returns-then-is_none-clause-walk : goal.returns-then-is_none-clause-walk
returns-then-is_none-clause-walk c =
    c.new.ensures
    ∙ absent c.args.valid.now c.config.ensures.config_form c.config.ensures.valid c.args.packet c.port_numbered.result
    (c.port_numbered.ensures ∙ ap (λ (k : Config). port_numbered k c.args.packet.source.0) c.config.ensures.part) (c.is_none.ensures ∙ ap not c.if-is_none.true)

pub returns-clause-walk : goal.returns-clause-walk
returns-clause-walk c =
    c.from_vec.ensures
    ∙ walked c.args.valid.now c.config.ensures.config_form c.config.ensures.valid c.args.packet _ _ _ _ c.requires c.trace-traced.ensures.kept
    (c.as_slice-hops.ensures ∙ c.trace-traced.ensures.hops) c.in_ok-steps.ensures.told
