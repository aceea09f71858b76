use Rattle.std.proofs.Common.{subst, None, []}
use Rattle.ov_link.specs.declared.step.Input.TheVariants as input
use Rattle.control_node.specs.Begun.{IsBegun}
use Rattle.control_node.specs.Ends.{Ends, posts_of}
use Rattle.control_node.proofs.Starting.{feed-opened}
use Rattle.control_node.proofs.ends.ControlEnds.open_feed.Goals as goal

pub returns-clause-begun : goal.returns-clause-begun
returns-clause-begun c =
    let inside = c.self.inside in
    let s = c.args.session in
    let posts = posts_of c.greet.new.session.state inside.peers.items inside.agents.items inside.tables in
    subst (λ (v : Ends). IsBegun v.plan v.posts s (input.Opened s) c.in_ok-replies.replies None [] posts) c.self.view_is (
    feed-opened inside.me inside.asn inside.feed inside.peers.items inside.agents.items inside.tables c.self.invariant.ends s
    c.greet.new.session c.in_ok-replies.replies c.requires.session c.in_ok-replies.ensures.opened c.in_ok-replies.ensures.hello)
