use Rattle.std.proofs.Common.{subst, drop}
use Rattle.ov_link.specs.declared.step.Input.TheVariants as input
use Rattle.control_node.specs.Begun.{IsHeard}
use Rattle.control_node.specs.Ends.{Ends, posts_of}
use Rattle.control_node.proofs.Keeping.{ends-feed}
use Rattle.control_node.proofs.Starting.{feed-heard}
use Rattle.control_node.proofs.Tracking.{tracks-still}
use Rattle.control_node.proofs.ends.ControlEnds.hear_feed.Goals as goal

pub returns-clause-heard : goal.returns-clause-heard
returns-clause-heard c =
    let inside = c.self.inside in
    let s = c.args.session in
    let w = c.in_ok-heard.heard in
    let rest = drop w.taken c.args.bytes.now in
    let heard = c.in_ok-heard.ensures.heard in
    let posts = posts_of c.hear_from_feed.new.feed.state inside.peers.items inside.agents.items c.hear_from_feed.new.tables in
    subst (λ (v : Ends). IsHeard v.plan v.posts s (input.Bytes s c.args.bytes) c.new.result c.item_cause.result rest posts) c.self.view_is (
    feed-heard inside.me inside.asn inside.feed inside.peers.items inside.agents.items inside.tables c.self.invariant.ends s
    c.hear_from_feed.new.feed c.args.bytes rest heard.0 w.cause c.item_cause.result c.new.result c.hear_from_feed.new.tables c.requires heard.1 c.item_cause.ensures c.new.ensures heard.2)

pub invariant_of-self : goal.invariant_of-self
invariant_of-self c =
    let inside = c.self.inside in
    let heard = c.in_err-heard.ensures in
    record {
      ends = ends-feed inside.me inside.asn inside.feed inside.peers.items inside.agents.items inside.tables c.hear_from_feed.new.tables c.self.invariant.ends heard.stays
          c.hear_from_feed.new.feed heard.peer heard.from;
      tracked = tracks-still inside.dirty c.hear_from_feed.new.dirty inside.tables c.hear_from_feed.new.tables inside.peers.items inside.agents.items
          c.self.invariant.tracked heard.marked;
    }

pub invariant_of-self-2 : goal.invariant_of-self-2
invariant_of-self-2 c =
    let inside = c.self.inside in
    let heard = c.in_ok-heard.ensures in
    record {
      ends = ends-feed inside.me inside.asn inside.feed inside.peers.items inside.agents.items inside.tables c.hear_from_feed.new.tables c.self.invariant.ends heard.stays
          c.hear_from_feed.new.feed heard.peer heard.from;
      tracked = tracks-still inside.dirty c.hear_from_feed.new.dirty inside.tables c.hear_from_feed.new.tables inside.peers.items inside.agents.items
          c.self.invariant.tracked heard.marked;
    }
