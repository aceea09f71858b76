-- The octets that are kept of a session.
use Rattle.std.specs.Prelude.{◌≡◌, ◌≢◌, ◌≤◌, ℕ, List, ◌++◌, length, Bool, true, false}
use Rattle.std.specs.declared.option.Option.{Option}
use Rattle.std.specs.declared.option.Option.TheVariants.{Some, None}
use Rattle.std.specs.Option.{option_map}
use Rattle.std.proofs.Common.{sym, ◌∙◌, ap, arith}
use Rattle.ov_link.specs.declared.step.Input.{Input}
use Rattle.ov_link.specs.declared.step.Input.TheVariants as input
use Rattle.ov_types.specs.declared.prefix.Addr.{Addr}
use Rattle.bgp_session.specs.Happenings as peers
use Rattle.bgp_session.specs.declared.event.Cause.{Cause as PeerCause}
use Rattle.bgp_session.specs.declared.event.Cause.TheVariants.{Ended as PeerEnded}
use Rattle.item_wire.specs.declared.event.ItemCause.{ItemCause}
use Rattle.item_wire.specs.declared.event.ItemCause.TheVariants.{Ended as ItemEnded}
use Rattle.node_core.proofs.Begun as items
use Rattle.node_core.proofs.NotEnded as item_causes
use Rattle.node_routes.specs.Beginning as route
use Rattle.node_routes.proofs.Cutting as route_cutting
use Rattle.node_routes.proofs.NotEnded as route_causes
use Rattle.node_core.specs.NodeModel.Step.{Beginning, Post}
use Rattle.control_node.specs.Beginning.{BeginsKeeping, ItemKeeps, KeepsBy, PeerKeeps, item_session, peer_session}
use Rattle.control_node.specs.Core.{is_peer}
use Rattle.control_node.specs.declared.cause.NodeCause.{NodeCause}
use Rattle.control_node.specs.declared.cause.NodeCause.TheVariants as Because
use Rattle.control_node.specs.declared.plan.ControlPlan.{ControlPlan}

-- an input whose octets are all of these
abbrev all_of : List ℕ → Input → Input
all_of kept (input.Bytes session bytes) = input.Bytes session (record bytes { now = kept ++ bytes.now })
all_of kept came = came

-- ---- a session of routes
module _ (id : Addr) (s : peers.SessionFields) (p : Post) (given : Beginning) (c : Option PeerCause) (left : List ℕ) where
  route_few : (kept : List ℕ) (came : Input) → route.BeginsKeeping id s p kept came given c left → length left ≤ 65539
  route_few kept (input.Bytes i bytes) b = (let few = route_cutting.leaves_few s (kept ++ bytes.now) b.0 left b.1 in omega (arith, few))
  route_few kept (input.Opened i) b = (let none = ap length b.1 in omega (arith, none))
  route_few kept (input.Closed i) b = (let none = ap length b.1 in omega (arith, none))

  route_begins : (kept : List ℕ) (came : Input) → route.BeginsKeeping id s p kept came given c left
      → route.Begins id s p (all_of kept came) given c
  route_begins kept (input.Bytes i bytes) b = (b.0, route_cutting.leaving_hears s (kept ++ bytes.now) b.0 left b.1, b.2, b.3)
  route_begins kept (input.Opened i) b = b.0
  route_begins kept (input.Closed i) b = b.0

-- ---- any session of a control node
module _ (plan : ControlPlan) (i : ℕ) (p : Post) (given : Beginning) (cause : Option NodeCause) (left : List ℕ) where
  few_by : (b : Bool) (kept : List ℕ) (came : Input) → KeepsBy b plan i p kept came given cause left → length left ≤ 65539
  few_by true kept came b = route_few plan.me.address (peer_session plan i p) p given b.0 left kept came b.2
  few_by false kept came b = items.left_few plan.me.name (item_session plan i p.phase) p kept came given b.0 left b.2

  pub left_few : (kept : List ℕ) (came : Input) → BeginsKeeping plan i p kept came given cause left → length left ≤ 65539
  left_few kept came = few_by (is_peer plan i) kept came

-- ---- no input closes its session as ended
peer_ended : (c : Option PeerCause) → option_map Because.Peer c ≡ Some (Because.Peer PeerEnded) → c ≡ Some PeerEnded
peer_ended None e = cc
peer_ended (Some cause) e = cc

item_ended : (c : Option ItemCause) → option_map Because.Item c ≡ Some (Because.Item ItemEnded) → c ≡ Some ItemEnded
item_ended None e = cc
item_ended (Some cause) e = cc

peer_no_item : (c : Option PeerCause) → option_map Because.Peer c ≢ Some (Because.Item ItemEnded)
peer_no_item None e = cc
peer_no_item (Some cause) e = cc

item_no_peer : (c : Option ItemCause) → option_map Because.Item c ≢ Some (Because.Peer PeerEnded)
item_no_peer None e = cc
item_no_peer (Some cause) e = cc

module _ (plan : ControlPlan) (i : ℕ) (p : Post) (kept : List ℕ) (came : Input) (given : Beginning) (cause : Option NodeCause) (left : List ℕ) where
  peer_never : PeerKeeps plan i p kept came given cause left → (cause ≢ Some (Because.Item ItemEnded)) × (cause ≢ Some (Because.Peer PeerEnded))
  peer_never b =
      let begins = route_begins plan.me.address (peer_session plan i p) p given b.0 left kept came b.2 in (
        (λ e. peer_no_item b.0 (sym b.1 ∙ e)),
        (λ e. route_causes.never_ended plan.me.address (peer_session plan i p) p (all_of kept came) given b.0 begins (peer_ended b.0 (sym b.1 ∙ e))),
      )

  item_never : ItemKeeps plan i p kept came given cause left → (cause ≢ Some (Because.Item ItemEnded)) × (cause ≢ Some (Because.Peer PeerEnded))
  item_never b = (
    (λ e. item_causes.never_ended_keeping plan.me.name (item_session plan i p.phase) p kept came given b.0 left b.2 (item_ended b.0 (sym b.1 ∙ e))),
    (λ e. item_no_peer b.0 (sym b.1 ∙ e)),
  )

  never_by : (b : Bool) → KeepsBy b plan i p kept came given cause left → (cause ≢ Some (Because.Item ItemEnded)) × (cause ≢ Some (Because.Peer PeerEnded))
  never_by true b = peer_never b
  never_by false b = item_never b

  pub never_ended : BeginsKeeping plan i p kept came given cause left → (cause ≢ Some (Because.Item ItemEnded)) × (cause ≢ Some (Because.Peer PeerEnded))
  never_ended b = never_by (is_peer plan i) b
