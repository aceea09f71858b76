-- What is held, as the map of one session changes.
use Rattle.std.specs.Prelude.{◌≡◌, ℕ, zero, suc, List, [], ◌∷◌}
use Rattle.std.specs.declared.option.Option.{Option}
use Rattle.std.specs.declared.option.Option.TheVariants.{Some, None}
use Rattle.std.specs.List.{filter_map}
use Rattle.ov_sync.specs.Keyed.{after, changed}
use Rattle.ov_sync.specs.declared.Delta.{Delta}
use Rattle.ov_types.specs.declared.prefix.Addr.{Addr}
use Rattle.ov_types.specs.declared.vpn.VpnKey.{VpnKey}
use Rattle.ov_types.specs.declared.vpn.VpnRoute.{VpnRoute}
use Rattle.bgp_session.specs.Happenings as peers
use Rattle.bgp_session.specs.Inputs as peer_inputs
use Rattle.bgp_session.specs.declared.event.Cause.{Cause as PeerCause}
use Rattle.item_wire.specs.Happenings as items
use Rattle.item_wire.specs.declared.event.ItemCause.{ItemCause}
use Rattle.item_wire.specs.declared.input.Came.{Came}
use Rattle.node_core.specs.Hearing as item
use Rattle.node_core.specs.Left as kept_items
use Rattle.node_core.specs.Told.{change_of}
use Rattle.node_core.specs.NodeModel.Maps.{Map, Change}
use Rattle.node_core.specs.NodeModel.Paths.{Holdings}
use Rattle.node_routes.specs.Hearing as route
use Rattle.node_routes.specs.Keeping as kept_routes
use Rattle.vpn_tables.specs.Changes.{at_session}

-- a map after a change that may not be there
abbrev pub changed_by : Map → Option Change → Map
changed_by m None = m
changed_by m (Some c) = changed m c

-- a map after the changes of a session, which count where the session stays up
abbrev pub taken : {C : Type 0} → Option C → List Change → Map → Map
taken None changes m = after m changes
taken (Some cause) changes m = m

-- ---- what is held, with the map of one session as f has it
abbrev pub feed_by : (Map → Map) → Holdings → Holdings
feed_by f h = record h { feed = f h.feed }

abbrev pub at_place : (Map → Map) → List Map → ℕ → List Map
at_place f [] i = []
at_place f (m ∷ ms) zero = f m ∷ ms
at_place f (m ∷ ms) (suc i) = m ∷ at_place f ms i

abbrev pub peer_by : (Map → Map) → Holdings → ℕ → Holdings
peer_by f h zero = h
peer_by f h (suc i) = record h { peers = at_place f h.peers i }

abbrev pub agent_by : (Map → Map) → Holdings → ℕ → Holdings
agent_by f h session = record h { agents = at_session f h.agents session }

-- ---- what octets bring to a session
-- to one of items: these changes are handed out, in order, and these octets are left
pub record ItemsHeard (s s' : items.SessionFields) (octets left : List ℕ) (changes : List Change)
    (cause : Option ItemCause) : Type 0 where
  pub inputs : List Came
  pub leaves : kept_items.Leaves s octets inputs left
  pub changes_are : changes ≡ filter_map change_of (item.heard s inputs).records
  pub state : s'.state ≡ (item.heard s inputs).state
  pub cause_is : cause ≡ (item.heard s inputs).cause

-- to one of routes, of the speaker at this address
pub record RoutesHeard (id : Addr) (s s' : peers.SessionFields) (octets left : List ℕ) (replies : List (List ℕ))
    (changes : List (Delta VpnKey VpnRoute)) (cause : Option PeerCause) : Type 0 where
  pub inputs : List peer_inputs.Came
  pub leaves : kept_routes.Leaves s octets inputs left
  pub replied : replies ≡ (route.heard id s inputs).replies
  pub changes_are : changes ≡ (route.heard id s inputs).changes
  pub state : s'.state ≡ (route.heard id s inputs).state
  pub wide : s'.wide ≡ (route.heard id s inputs).wide
  pub cause_is : cause ≡ (route.heard id s inputs).cause
