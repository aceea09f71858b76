use Rattle.std.proofs.Common.{[]}
use Rattle.node_core.specs.Keeping.{left_in}
use Rattle.node_core.specs.Whole.{session_of}
use Rattle.node_core.specs.NodeModel.Step.{post}
use Rattle.control_node.proofs.Octets.{left_few}
use Rattle.control_node.proofs.ends.ControlEndsEnds.begin.Goals as goal

pub returns-clause-few : goal.returns-clause-few
returns-clause-few c =
    let now = c.args.self.now in
    let session = session_of c.args.input in
    let begun = c.in_ok-started.ensures.begun in
    left_few now.plan session (post now.posts session) begun.given c.in_ok-started.started.cause
    (left_in c.args.input c.in_ok-started.started.taken) [] c.args.input begun.begins
