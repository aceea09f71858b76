-- Octets that are heard behind those that were kept are heard as all of them at once.
use Rattle.std.specs.Prelude.{ℕ, List, [], Bool, true, false}
use Rattle.std.specs.declared.option.Option.{Option}
use Rattle.std.proofs.Common.{subst}
use Rattle.ov_link.specs.declared.step.Input.{Input}
use Rattle.ov_link.specs.declared.step.Input.TheVariants as input
use Rattle.ov_types.specs.declared.prefix.Addr.{Addr}
use Rattle.bgp_session.specs.Happenings as peers
use Rattle.bgp_session.specs.declared.event.Cause.{Cause as PeerCause}
use Rattle.node_core.specs.Keeping.{IsBehind}
use Rattle.node_core.proofs.Begun as items
use Rattle.node_core.specs.NodeModel.Step.{Beginning, Post}
use Rattle.node_routes.specs.Beginning as route
use Rattle.node_routes.specs.Keeping.{Leaves}
use Rattle.control_node.specs.Beginning.{BeginsKeeping, KeepsBy, item_session, peer_session}
use Rattle.control_node.specs.Core.{is_peer}
use Rattle.control_node.specs.declared.cause.NodeCause.{NodeCause}
use Rattle.control_node.specs.declared.plan.ControlPlan.{ControlPlan}

-- ---- on a session of routes
module _ (id : Addr) (s : peers.SessionFields) (p : Post) (given : Beginning) (c : Option PeerCause) (left : List ℕ) where
  abbrev RouteBegins : List ℕ → Input → Type 0
  RouteBegins kept came = route.BeginsKeeping id s p kept came given c left

  route_behind : (kept : List ℕ) (came whole : Input) → IsBehind kept came whole → RouteBegins [] whole
      → RouteBegins kept came
  route_behind kept (input.Bytes i bytes) (input.Bytes j whole) same begins =
      (begins.0, subst (λ (o : List ℕ). Leaves s o begins.0 left) same.1 begins.1, begins.2, begins.3)
  route_behind kept (input.Bytes i bytes) (input.Opened j) same begins = subst (RouteBegins kept) same begins
  route_behind kept (input.Bytes i bytes) (input.Closed j) same begins = subst (RouteBegins kept) same begins
  route_behind kept (input.Opened i) whole same begins = subst (RouteBegins []) same begins
  route_behind kept (input.Closed i) whole same begins = subst (RouteBegins []) same begins

-- ---- on any session of a control node
module _ (plan : ControlPlan) (i : ℕ) (p : Post) (given : Beginning) (cause : Option NodeCause) (left : List ℕ) where
  behind_by : (is_peer : Bool) (kept : List ℕ) (came whole : Input) → IsBehind kept came whole
      → KeepsBy is_peer plan i p [] whole given cause left → KeepsBy is_peer plan i p kept came given cause left
  behind_by true kept came whole same b =
      (b.0, b.1, route_behind plan.me.address (peer_session plan i p) p given b.0 left kept came whole same b.2)
  behind_by false kept came whole same b =
      (b.0, b.1, items.behind plan.me.name (item_session plan i p.phase) p kept came whole given b.0 left same b.2)

  pub begins_behind : (kept : List ℕ) (came whole : Input) → IsBehind kept came whole
      → BeginsKeeping plan i p [] whole given cause left → BeginsKeeping plan i p kept came given cause left
  begins_behind kept came whole same begins = behind_by (is_peer plan i) kept came whole same begins
