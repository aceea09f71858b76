-- What a control node wants each session to have been told.
use Rattle.std.specs.Prelude.{◌≡◌, ℕ, List, ◌++◌, map, Bool, true, false, is_some, ◌==◌, if◌then◌else◌}
use Rattle.std.specs.declared.option.Option.{Option}
use Rattle.std.specs.declared.option.Option.TheVariants.{Some, None}
use Rattle.std.specs.List.{filter, filter_map, flat_map, list_any}
use Rattle.std.specs.FinMap.{entries, from_entries, get}
use Rattle.ov_types.specs.declared.numbers.InstanceId.{InstanceId}
use Rattle.ov_types.specs.declared.objects.LowKey.{LowKey}
use Rattle.ov_types.specs.declared.objects.LowKey.TheVariants as key
use Rattle.ov_types.specs.declared.objects.LowValue.{LowValue}
use Rattle.ov_types.specs.declared.objects.LowValue.TheVariants as low
use Rattle.ov_types.specs.declared.prefix.Addr.{Addr}
use Rattle.ov_types.specs.Prefix.{Block}
use Rattle.ov_types.specs.declared.rows.Entry.{Entry as RouteEntry}
use Rattle.node_model.specs.Members.{Member}
use Rattle.node_model.specs.Keys.{Key, Low, Vpn, Row, Subscribe}
use Rattle.node_model.specs.Values.{Value, Object, Route, Entry}
use Rattle.node_model.specs.Maps.{Map, objects}
use Rattle.node_model.specs.Paths.{Holdings, Told, Path, own_paths}
use Rattle.node_model.specs.Reaching.{reoriginated_paths}
use Rattle.node_model.specs.Tables.{table}

-- ---- towards peers
abbrev pub route_entry : Path → Key × Value
route_entry p = (
  Vpn (record { rd = p.rd; prefix = p.prefix }),
  Route (record { next_hop = p.next_hop; label = p.label; targets = p.targets }),
)

-- what peers are to be told: a control node's own and its re-originated routes. Where two have one key, the first
-- counts: an own route before a re-originated one, the lower session before the higher, a right subnet's before a
-- left's
abbrev pub wanted_by_peers : Holdings → Map
wanted_by_peers h = from_entries (map route_entry (own_paths h ++ reoriginated_paths h))

-- ---- towards an agent
abbrev pub is_at : Addr → LowValue → Bool
is_at address (low.AttachPort port instance host node) = node.0 == address.0
is_at address (low.AttachCircuit circuit service node) = node.0 == address.0
is_at address _ = false

abbrev pub port_at : Addr → LowValue → Option InstanceId
port_at address (low.AttachPort port instance host node) = if node.0 == address.0 then Some instance else None
port_at address _ = None

-- the networks of the ports at an address
abbrev pub networks_at : Map → Addr → List InstanceId
networks_at feed address = filter_map (λ e. port_at address e.1) (objects feed)

abbrev pub is_in_slice : Map → Addr → LowKey → LowValue → Bool
is_in_slice feed address (key.Attach label) v = is_at address v
is_in_slice feed address (key.Acl from to) v = list_any (λ n. n.0 == from) (networks_at feed address)
is_in_slice feed address _ v = false

-- the attachments at an address, and the access lists of its networks
abbrev pub slice : Map → Addr → List (LowKey × LowValue)
slice feed address = filter (λ e. is_in_slice feed address e.0 e.1) (objects feed)

abbrev pub slice_entry : LowKey × LowValue → Key × Value
slice_entry e = (Low e.0, Object e.1)

abbrev pub subscribed : Key → Option InstanceId
subscribed (Subscribe i) = Some i
subscribed _ = None

abbrev pub subscriptions : Map → List InstanceId
subscriptions told = filter_map (λ e. subscribed e.0) (entries told)

abbrev pub rows_of : Holdings → InstanceId → List (Key × Value)
rows_of h i =
    map (λ e. (Row i e.0, Entry (record { next_hop = e.1.next_hop; label = e.1.label }))) (entries (table h i))

-- what an agent is to be told: its slice, and the rows of the instances that it subscribed
abbrev pub wanted_by_agent : Holdings → Told → Map
wanted_by_agent h a =
    from_entries (map slice_entry (slice h.feed a.address) ++ flat_map (rows_of h) (subscriptions a.map))

-- ---- slices and wants, said as relations
-- an attachment at this address
abbrev pub IsAttachedAt : Addr → LowValue → Type 0
IsAttachedAt address (low.AttachPort port instance host node) = node ≡ address
IsAttachedAt address (low.AttachCircuit circuit service node) = node ≡ address
IsAttachedAt address _ = ⊥

-- a port of this network is attached at this address
pub record HasPortAt (feed : Map) (address : Addr) (network : ℕ) : Type 0 where
  pub name : LowKey
  pub port : LowValue
  pub held : Member (name, port) (objects feed)
  pub port_is : port_at address port ≡ Some (record { 0 = network })

-- what belongs into the slice of an address: its attachments, and the access lists of the networks of its ports
abbrev pub BelongsTo : Map → Addr → LowKey → LowValue → Type 0
BelongsTo feed address (key.Attach label) v = IsAttachedAt address v
BelongsTo feed address (key.Acl from to) v = HasPortAt feed address from
BelongsTo feed address _ v = ⊥

-- a row of the table of an instance that the agent subscribed
pub record IsSubscribedRow (h : Holdings) (a : Told) (i : InstanceId) (prefix : Block) (hop : RouteEntry) : Type 0 where
  pub subscribed : is_some (get a.map (Subscribe i)) ≡ true
  pub path : Path
  pub row : get (table h i) prefix ≡ Some path
  pub hop_is : hop ≡ record { next_hop = path.next_hop; label = path.label }
