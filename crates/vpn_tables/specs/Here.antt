-- Where an object is attached, before a change of it and after, and what the agent of a session is to have been told.
use Rattle.std.specs.Prelude.{◌≡◌, Bool, false, true, is_some, ℕ}
use Rattle.std.specs.declared.option.Option.{Option}
use Rattle.std.specs.declared.option.Option.TheVariants.{Some, None}
use Rattle.std.specs.FinMap.{get}
use Rattle.ov_sync.specs.declared.Delta.{Delta}
use Rattle.ov_sync.specs.declared.Delta.TheVariants.{Put, Drop}
use Rattle.ov_types.specs.Prefix.{Block}
use Rattle.ov_types.specs.declared.numbers.InstanceId.{InstanceId}
use Rattle.ov_types.specs.declared.objects.LowKey.{LowKey}
use Rattle.ov_types.specs.declared.objects.LowKey.TheVariants as key
use Rattle.ov_types.specs.declared.objects.LowValue.{LowValue}
use Rattle.ov_types.specs.declared.prefix.Addr.{Addr}
use Rattle.node_model.specs.Keys.{Key, Low, Row}
use Rattle.node_model.specs.Maps.{Map, object}
use Rattle.node_model.specs.Paths.{Holdings, Path}
use Rattle.node_model.specs.Tables.{table}
use Rattle.node_model.specs.Wants.{is_at, port_at, wanted_by_agent}
use Rattle.vpn_holdings.specs.Listing.{told_in}

-- an object that may not be there is attached at this address
abbrev pub is_here : Addr → Option LowValue → Bool
is_here address None = false
is_here address (Some v) = is_at address v

-- the network of an object that may not be there, where it is a port at this address
abbrev pub port_here : Addr → Option LowValue → Option InstanceId
port_here address None = None
port_here address (Some v) = port_at address v

-- a key is that of a held access list of the network of an object that is a port at this address
pub record IsListOfPort (feed : Map) (address : Addr) (o : Option LowValue) (k : Key) : Type 0 where
  pub network : InstanceId
  pub to : ℕ
  pub port_is : port_here address o ≡ Some network
  pub held : is_some (object feed (key.Acl network.0 to)) ≡ true
  pub key_is : k ≡ Low (key.Acl network.0 to)

-- the object that a change puts
abbrev pub put_by : Delta LowKey LowValue → Option LowValue
put_by (Put k v) = Some v
put_by (Drop k) = None

-- what the agent of a session is to have been told
abbrev pub wanted_on : Holdings → ℕ → Map
wanted_on h session = wanted_by_agent h (told_in h.agents session)

-- a key is that of a row that the table of an instance has
pub record IsRowOf (h : Holdings) (i : InstanceId) (k : Key) : Type 0 where
  pub prefix : Block
  pub path : Path
  pub has : get (table h i) prefix ≡ Some path
  pub key_is : k ≡ Row i prefix
