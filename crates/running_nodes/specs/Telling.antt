-- Which messages a node may have in flight, so that the other end hears what was told.
use Rattle.std.specs.Prelude.{◌≡◌, IsTrue, Bool, true, false}
use Rattle.std.specs.List.{AllByRecursion}
use Rattle.ov_types.specs.declared.vpn.VpnKey.{VpnKey}
use Rattle.ov_types.specs.declared.vpn.VpnRoute.{VpnRoute}
use Rattle.ov_sync.specs.Embed.{moved_delta}
use Rattle.ov_sync.specs.declared.Delta.{Delta}
use Rattle.control_node.specs.BgpVpn.Written.{IfPut}
use Rattle.agent_node.specs.ItemWire.Inputs.{may_send}
use Rattle.agent_node.specs.ItemWire.ItemFrom.{ItemFrom}
use Rattle.agent_node.specs.ItemWire.ItemFrom.TheVariants as From
use Rattle.agent_node.specs.NodeCore.Told.{CanBeTold}
use Rattle.agent_node.specs.NodeModel.Keys.{Vpn}
use Rattle.agent_node.specs.NodeModel.Maps.{Change}
use Rattle.agent_node.specs.NodeModel.Values.{Route}
use Rattle.control_node.specs.NodeRoutes.First.{ChangeFitsItsTypes}
use Rattle.control_node.specs.NodeRoutes.Told.{IsWritable}
use Rattle.config_node.specs.MachineModel.Session.{Role, Configuration, Controller, Agent, are_peers}
use Rattle.config_node.specs.MachineModel.Session.{Message, Carries, Session}

-- which records a node may send to another, besides its hello
abbrev pub from_of : Role → Role → ItemFrom
from_of Configuration to = From.Feed
from_of Controller Agent = From.Control
from_of Controller to = From.Nothing
from_of Agent to = From.Agent

-- a change of a route that has an UPDATE
pub record IsRouteChange (c : Change) : Type 0 where
  pub change : Delta VpnKey VpnRoute
  pub is : c ≡ moved_delta Vpn Route change
  pub writable : IfPut change IsWritable
  pub typed : ChangeFitsItsTypes change

-- a change that has a record, of those that may be sent
pub record IsRecordChange (from : ItemFrom) (c : Change) : Type 0 where
  pub told : CanBeTold c
  pub may : IsTrue (may_send from told.item)

abbrev pub CanCarryAs : Bool → ItemFrom → Change → Type 0
CanCarryAs true from c = IsRouteChange c
CanCarryAs false from c = IsRecordChange from c

-- between control nodes a route, and else a record
abbrev pub CanCarry : Role → Role → Change → Type 0
CanCarry from to c = CanCarryAs (are_peers from to) (from_of from to) c

-- from a node to another
abbrev pub CanSend : Role → Role → Message → Type 0
CanSend from to (Carries c) = CanCarry from to c
CanSend from to m = Unit {0}

-- all that is in flight on a session
pub record CanBeHeard (s : Session) : Type 0 where
  pub near : AllByRecursion (CanSend s.near.role s.far.role) s.near.flight
  pub far : AllByRecursion (CanSend s.far.role s.near.role) s.far.flight
