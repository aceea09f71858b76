use Rattle.std.proofs.Common.{ap, ◌∙◌, map}
use Rattle.node_core.specs.Told.{up_of}
use Rattle.node_core.specs.NodeModel.Agent.{needed_by}
use Rattle.agent_tables.specs.Slice.{pairs_of}
use Rattle.agent_tables.specs.Views.{heard_of}
use Rattle.agent_tables.proofs.Added.{all_wanted, up-none}
use Rattle.agent_tables.proofs.wants.wanted.Goals as goal

pub returns : goal.returns
returns c =
    all_wanted (map heard_of c.args.sessions.now) (up_of c.new-wanted.result.entries) (up_of c.publish_all.new.wanted.entries) (up_of c.subscribe_all.new.wanted.entries)
    (pairs_of c.as_slice-2.result.now) c.as_slice-3.result.now
    (up-none c.new-wanted.result.entries c.new-wanted.ensures.empty) c.in_ok-publish_all.ensures c.in_ok-subscribe_all.ensures
    (ap pairs_of c.as_slice-2.ensures.value ∙ c.in_ok-slice.ensures)
    (c.as_slice-3.ensures.value ∙ c.in_ok-needed.ensures ∙ ap needed_by (ap pairs_of c.as_slice.ensures.value ∙ c.in_ok-slice.ensures))
