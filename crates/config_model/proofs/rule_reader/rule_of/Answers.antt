use Rattle.config_model.specs.Rule.{rule_at}
use Rattle.config_model.proofs.rule_reader.rule_of.Goals as goal

pub returns-clause-reads : goal.returns-clause-reads
unfolding rule_at
returns-clause-reads c = rw (c.in_ok-members.ensures, c.in_ok-direction.ensures.reads, c.in_ok-source.ensures.reads, c.in_ok-destination.ensures.reads, c.in_ok-protocol.ensures.reads, c.in_ok-source_ports.ensures.reads, c.in_ok-destination_ports.ensures.reads, c.in_ok-action.ensures.reads, c.in_ok-check_other_members.ensures) Rattle.std.proofs.Common.refl
