use Rattle.std.proofs.Common.{sym, ◌∙◌, ap}
use Rattle.control_node.specs.Core.{holdings}
use Rattle.control_node.specs.Ends.{Ends}
use Rattle.control_node.proofs.Holding.{holdings_are}
use Rattle.control_node.proofs.ends.ControlEnds.held.Goals as goal

pub returns : goal.returns
returns c =
    let inside = c.self.inside in
    sym (holdings_are inside.me inside.asn inside.feed inside.peers.items inside.agents.items inside.tables c.self.invariant.ends)
    ∙ ap (λ (v : Ends). holdings v.plan v.posts) c.self.view_is
