use Rattle.std.proofs.Common.{◌≡◌, length, None}
use Rattle.node_routes.proofs.Leading.{Leads}
use Rattle.node_model.proofs.OvLink.Ends.{IsEnd}
use Rattle.node_routes.proofs.hearing.hear.Given as goal

abbrev pub decreases-messages : goal.decreases-messages
decreases-messages l = length l.rest

-- all that is heard leads back to the start, and the session is up
pub record Going (l : goal.Live-messages) : Type 0 where
  pub leads : Leads l.me l.fn.session l.bytes l.session l.rest l.heard.replies l.heard.changes.items
  pub end : IsEnd l.bytes l.rest
  pub asn : l.session.asn ≡ l.asn
  pub peer : l.session.peer ≡ l.fn.session.peer
  pub up : l.heard.cause ≡ None

abbrev pub invariant-messages : goal.invariant-messages
invariant-messages l = Going l
