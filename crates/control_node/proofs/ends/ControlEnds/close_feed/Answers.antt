use Rattle.std.proofs.Common.{◌∙◌, ap, set}
use Rattle.item_wire.specs.Happenings.{SessionFields}
use Rattle.node_core.specs.NodeModel.Step.{nothing}
use Rattle.control_node.specs.Ends.{Ends, posts_of}
use Rattle.control_node.proofs.Closed.{feed-closed}
use Rattle.control_node.proofs.Keeping.{ends-feed, stays-without}
use Rattle.control_node.proofs.Tracking.{tracks-all}
use Rattle.control_node.proofs.ends.ControlEnds.close_feed.Goals as goal

pub invariant_of-self : goal.invariant_of-self
invariant_of-self c =
    let inside = c.self.inside in
    let stays = rw (← c.lose.ensures.tables) at (stays-without inside.tables 0) in
    record {
      ends = ends-feed inside.me inside.asn inside.feed inside.peers.items inside.agents.items inside.tables c.lose.new.tables c.self.invariant.ends stays
          c.shut_feed.new.feed (ap (λ (s : SessionFields). s.peer) c.shut_feed.ensures) (ap (λ (s : SessionFields). s.from) c.shut_feed.ensures);
      tracked = tracks-all c.lose.new.dirty c.lose.new.tables _ _ c.lose.ensures.all;
    }

pub returns-clause-closed : goal.returns-clause-closed
returns-clause-closed c =
    let inside = c.self.inside in
    (λ i. posts_of (c.shut_feed.ensures i).state inside.peers.items inside.agents.items (c.lose.ensures.tables i))
    ∙ feed-closed inside.feed.state inside.peers.items inside.agents.items inside.tables c.self.invariant.ends.peers_held c.self.invariant.ends.agents_held
    ∙ ap (λ (v : Ends). set v.posts 0 nothing) c.self.view_is
