-- Bounded revocation: how soon each agent goes by the present configuration alone, with sessions down or not.
use Rattle.std.specs.Prelude.{◌≡◌, ◌⊎◌, ℕ, ◌≤◌, List, [], length, Bool, true, false, if◌then◌else◌}
use Rattle.std.specs.List.{filter, list_all}
use Rattle.std.specs.FinMap.{empty, get}
use Rattle.ov_types.specs.declared.objects.LowKey.{LowKey}
use Rattle.ov_types.specs.declared.objects.LowValue.{LowValue}
use Rattle.ov_types.specs.declared.packet.Outcome.{Outcome}
use Rattle.ov_types.specs.declared.packet.Outcome.TheVariants.{Dropped}
use Rattle.ov_types.specs.declared.packet.Packet.{Packet}
use Rattle.ov_types.specs.declared.packet.Why.{Why}
use Rattle.ov_types.specs.declared.packet.Why.TheVariants as Reason
use Rattle.route_targets.specs.Forwarding.{forwarding}
use Rattle.transform_model.specs.ReachPlain.Reachability.{reachability}
use Rattle.config_types.specs.declared.config.Config.{Config}
use Rattle.config_types.specs.declared.topology.Node.{Node}
use Rattle.node_laws.specs.NodeModel.Members.{Member}
use Rattle.node_laws.specs.NodeModel.Keys.{Low}
use Rattle.node_laws.specs.NodeModel.Maps.{objects}
use Rattle.node_laws.specs.NodeModel.Wants.{slice}
use Rattle.node_laws.specs.NodeModel.Agent.{slice_in_use}
use Rattle.machine_model.specs.Setup.{Name, Setup, agents_of, low}
use Rattle.machine_model.specs.Session.{Configuration, Controller, Agent, Message, Session, is_live}
use Rattle.machine_model.specs.Network.{MachineState, View, address_in, view, views_of, wanted}
use Rattle.machine_model.specs.Events.{MachineEvent, Round, Show, Trace, after, agent_rows, forwarders}
use Rattle.machine_model.specs.Moments.{Each}
use Rattle.machine_model.specs.Rounds.{AreRounds, after_rounds, is_delivery, is_unbroken}

-- ---- what is asked
-- an agent goes by what the present configuration has for its address, or by nothing
abbrev pub GoesByPresent : Setup → Node → List (LowKey × LowValue) → Type 0
GoesByPresent x n slice_used = (slice_used ≡ slice (low x) n.address) ⊎ (slice_used ≡ [])

-- each agent of the present topology does
abbrev pub AllGoByPresent : MachineState → Type 0
AllGoByPresent w =
    (n : Node) → Member n w.setup.topology.nodes → GoesByPresent w.setup n (slice_in_use (agent_rows w n.name))

-- from a moment without a pending break, with sessions down or not: so many rounds of deliveries, or more, end in a
-- state of this kind. Rounds are of deliveries alone, so within them there is no edit, loss, connection, restart or break
abbrev pub EndsIn : ℕ → (MachineState → Type 0) → (Name → Message → ℕ) → MachineState → Type 0
EndsIn least Kind size w =
    (rounds : List (List MachineEvent)) → is_unbroken w ≡ true → least ≤ length rounds → AreRounds size w rounds
    → Kind (after_rounds size w rounds)

-- two rounds do it
abbrev pub RevokesInTwo : (Name → Message → ℕ) → MachineState → Type 0
RevokesInTwo = EndsIn 2 AllGoByPresent

-- ---- what it is asked for: packets
-- why policies let no packet through: no port has its source number, no network of its own or related to it has its
-- address, or it is denied
abbrev pub IsRefusal : Why → Type 0
IsRefusal Reason.NoSourcePort = Unit {0}
IsRefusal Reason.NoDestination = Unit {0}
IsRefusal (Reason.Denied rule) = Unit {0}
IsRefusal Reason.NoRoute = ⊥
IsRefusal Reason.NoLabel = ⊥
IsRefusal Reason.TtlExpired = ⊥

-- a packet that policies refuse is dropped, for the same reason, or since no agent has its source port
abbrev pub DropsIfRefused : Config → Packet → Outcome → Type 0
DropsIfRefused c p o =
    (why : Why) → IsRefusal why → reachability c p ≡ Dropped why → (o ≡ Dropped why) ⊎ (o ≡ Dropped Reason.NoSourcePort)

-- each packet that the present policies refuse is dropped, for the same reason, or since no agent has its source port
abbrev pub DropsWhatIsRefused : MachineState → Type 0
DropsWhatIsRefused w = (p : Packet) → DropsIfRefused w.setup.config p (forwarding (forwarders w) p)

abbrev pub RefusesInTwo : (Name → Message → ℕ) → MachineState → Type 0
RefusesInTwo = EndsIn 2 DropsWhatIsRefused

-- ---- in the words of a schedule: meanwhile it does nothing but deliver and look, with two rounds among that
abbrev pub delivers_or_looks : MachineEvent → Bool
delivers_or_looks (Show name) = true
delivers_or_looks (Trace p) = true
delivers_or_looks e = is_delivery e

abbrev pub is_round : MachineEvent → Bool
is_round Round = true
is_round e = false

pub record HasTwoRounds (es : List MachineEvent) : Type 0 where
  pub deliveries : list_all delivers_or_looks es ≡ true
  pub rounds : 2 ≤ length (filter is_round es)

abbrev pub RefusesSoonAfter : (Name → Message → ℕ) → MachineState → Type 0
RefusesSoonAfter size w =
    is_unbroken w ≡ true → (es : List MachineEvent) → HasTwoRounds es → DropsWhatIsRefused (after size w es)

-- ---- on the way: feeds after one round. On a session that is down an end holds nothing
abbrev pub HoldsFeed : Setup → Session → Type 0
HoldsFeed x s =
    s.near.role ≡ Configuration → s.far.held ≡ (if s.is_down then empty else low x)

abbrev pub AllHoldFeeds : MachineState → Type 0
AllHoldFeeds w = Each (HoldsFeed w.setup) w.sessions

abbrev pub FeedsInOne : (Name → Message → ℕ) → MachineState → Type 0
FeedsInOne = EndsIn 1 AllHoldFeeds

-- ---- and slices after two: on each session from a control node to an agent the agent holds what the present
-- configuration has for its address, or no object
abbrev pub HoldsSlice : Setup → Session → Type 0
HoldsSlice x s =
    s.near.role ≡ Controller → s.far.role ≡ Agent
    → (objects s.far.held ≡ slice (low x) (address_in (agents_of x s.near.name) s.far.name)) ⊎ (objects s.far.held ≡ [])

abbrev pub AllHoldSlices : MachineState → Type 0
AllHoldSlices w = Each (HoldsSlice w.setup) w.sessions

abbrev pub SlicesInTwo : (Name → Message → ℕ) → MachineState → Type 0
SlicesInTwo = EndsIn 2 AllHoldSlices

-- ---- at every moment, with sessions down or not: what a control node told an agent of low-level objects is what it
-- wants the agent to have been told of them
abbrev pub TellsSlice : Setup → List View → Session → Type 0
TellsSlice x own s =
    s.near.role ≡ Controller → s.far.role ≡ Agent → is_live s.near ≡ true
    → (k : LowKey) → get s.near.sent (Low k) ≡ get (wanted x own (view s)) (Low k)

abbrev pub AllTellSlices : MachineState → Type 0
AllTellSlices w = Each (λ s. TellsSlice w.setup (views_of s.near.name w.sessions) s) w.sessions
