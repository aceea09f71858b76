use Rattle.std.proofs.Common.{◌≢◌, None, drop}
use Rattle.ov_link.specs.declared.step.Input.TheVariants as input
use Rattle.control_node.proofs.Starting.{heard-falls}
use Rattle.control_node.proofs.ends.ControlEnds.hear.Goals as goal

pub returns-in-Some-clause-begun : goal.returns-in-Some-clause-begun
returns-in-Some-clause-begun c =
    let now = c.args.self.now in
    let begun = c.in_ok-begun.begun in
    let is = c.in-Some.is in
    let falls : begun.cause ≢ None = λ none. cc (is, none) in
    heard-falls now.plan now.posts c.args.session (input.Bytes c.args.session c.args.bytes) begun.replies begun.cause (drop begun.taken c.args.bytes.now) c.hear_open.new.self.posts c.close_end.new.self.posts
    c.in_ok-begun.ensures.heard falls c.close_end.ensures.closed
