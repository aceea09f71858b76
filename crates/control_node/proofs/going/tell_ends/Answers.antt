use Rattle.std.proofs.Common.{refl, sym}
use Rattle.std.proofs.lemmas.List.{set-get_or}
use Rattle.node_core.specs.NodeModel.Step.{nothing}
use Rattle.control_node.specs.Agents.{as_it_is}
use Rattle.control_node.proofs.going.tell_ends.Goals as goal

pub returns-clause-steps : goal.returns-clause-steps
returns-clause-steps g c =
    let posts = c.args.ends.now.posts in
    c.in_ok-lowest.ensures.steps posts (as_it_is posts)
    (record { replied = refl; applied = sym (set-get_or posts 0 nothing) })
