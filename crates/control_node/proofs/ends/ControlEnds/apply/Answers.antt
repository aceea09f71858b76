use Rattle.std.proofs.Common.{subst, sym, [], None}
use Rattle.ov_link.specs.declared.step.Input.{Input}
use Rattle.node_core.specs.Keeping.{left_in}
use Rattle.node_core.specs.Whole.{session_of}
use Rattle.node_core.specs.NodeModel.Step.{post}
use Rattle.control_node.specs.Begun.{IsBegun}
use Rattle.control_node.proofs.Starting.{closed-begins}
use Rattle.control_node.proofs.ends.ControlEnds.apply.Goals as goal

pub returns-in-Closed-clause-begun : goal.returns-in-Closed-clause-begun
returns-in-Closed-clause-begun c =
    let now = c.args.self.now in
    let session = c.in-Closed.session in
    subst (λ (i : Input). IsBegun now.plan now.posts (session_of i) i c.new.result None (left_in i 0) c.close_end.new.self.posts) (sym c.in-Closed.is) (record {
      given = record { replies = []; after = None };
      begins = closed-begins now.plan session (post now.posts session);
      begun = record { replied = c.new.ensures; applied = c.close_end.ensures.closed };
    })
