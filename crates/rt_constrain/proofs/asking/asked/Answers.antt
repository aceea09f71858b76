use Rattle.std.proofs.Common.{sym, subst, ◌∙◌}
use Rattle.rt_membership.proofs.Reading.{if_ok}
use Rattle.rt_constrain.specs.Covering.{AreAsked}
use Rattle.rt_constrain.proofs.Asks.{agents_still, asked_at, asked_form, peers_still, tables_still}
use Rattle.rt_constrain.proofs.asking.asked.Goals as goal

pub returns-clause-asked : goal.returns-clause-asked
returns-clause-asked c = if_ok c.asked_by.result _ _ (λ found is. is ∙ asked_at c.args.tables.now c.args.asn c.requires) c.asked_by.ensures.asked

pub returns-clause-form : goal.returns-clause-form
returns-clause-form c =
    if_ok c.asked_by.result _ _
    (λ found is. subst AreAsked (sym (is ∙ asked_at c.args.tables.now c.args.asn c.requires)) (asked_form c.args.tables.now)) c.asked_by.ensures.asked

pub returns-clause-peers : goal.returns-clause-peers
returns-clause-peers c = peers_still c.args.tables.now c.asked_by.ensures.in_range

pub returns-clause-agents : goal.returns-clause-agents
returns-clause-agents c = agents_still c.args.tables.now c.asked_by.ensures.in_range

pub returns-clause-tables : goal.returns-clause-tables
returns-clause-tables c = tables_still c.args.tables.now c.asked_by.ensures.in_range
