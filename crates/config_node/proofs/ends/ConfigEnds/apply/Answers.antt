use Rattle.std.specs.Prelude.{[]}
use Rattle.node_core.specs.Whole.{session_of}
use Rattle.node_core.specs.NodeModel.Step.{post}
use Rattle.node_core.proofs.Begun.{begun_bytes, begun_closed, begun_opened, left_few}
use Rattle.node_core.specs.NodeModel.Naming.{config}
use Rattle.config_node.specs.Beginning.{session_at}
use Rattle.config_node.proofs.ends.ConfigEnds.apply.Goals as goal

pub returns-in_ok-replies-in-Opened-clause-begins : goal.returns-in_ok-replies-in-Opened-clause-begins
returns-in_ok-replies-in-Opened-clause-begins c =
    begun_opened config (session_at c.args.self.now.setup) c.args.self.now.posts c.greet_at.new.self.posts c.args.input c.in-Opened.session
    c.in_ok-replies-in-Opened.replies c.in-Opened.is c.in_ok-replies-in-Opened.ensures.hello c.greet_at.ensures.opened

pub returns-in_ok-taken-in-Bytes-clause-begins : goal.returns-in_ok-taken-in-Bytes-clause-begins
returns-in_ok-taken-in-Bytes-clause-begins c =
    begun_bytes config (session_at c.args.self.now.setup) c.args.self.now.posts c.hear_on.new.self.posts c.args.input c.in-Bytes.session
    c.new.result c.in-Bytes.bytes c.in_ok-taken-in-Bytes.field-0.taken c.in_ok-taken-in-Bytes.field-0.cause c.in-Bytes.is
    c.new.ensures c.in_ok-taken-in-Bytes.ensures.heard

pub returns-in_ok-taken-in-Bytes-clause-few : goal.returns-in_ok-taken-in-Bytes-clause-few
returns-in_ok-taken-in-Bytes-clause-few c =
    let session = session_of c.args.input in
    let here = post c.args.self.now.posts session in
    let b = returns-in_ok-taken-in-Bytes-clause-begins c in
    left_few config (session_at c.args.self.now.setup session here.phase) here [] c.args.input b.0
    c.in_ok-taken-in-Bytes.field-0.cause _ b.1

pub returns-in-Closed-clause-begins : goal.returns-in-Closed-clause-begins
returns-in-Closed-clause-begins c =
    begun_closed config (session_at c.args.self.now.setup) c.args.self.now.posts c.close.new.self.posts c.args.input c.in-Closed.session
    c.new-in-Closed.result c.in-Closed.is c.new-in-Closed.ensures c.close.ensures.closed
