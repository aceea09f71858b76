use Rattle.std.proofs.Common.{sym, ap, ◌∙◌}
use Rattle.node_core.specs.Told.{up_of}
use Rattle.agent_tables.specs.Kept.{added}
use Rattle.agent_tables.proofs.Added.{added_none}
use Rattle.agent_tables.proofs.wants.publish.Goals as goal

pub returns-in-None : goal.returns-in-None
returns-in-None c = sym (added_none (up_of c.args.wanted.now.entries)) ∙ ap (added (up_of c.args.wanted.now.entries)) c.in-None.ensures
