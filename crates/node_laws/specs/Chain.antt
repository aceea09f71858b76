-- An example: two networks at two control nodes with an agent each, and one chain between them through two services,
-- the first at the first agent and the second at the second. What the first control node and the first agent hold.
use Rattle.std.specs.Prelude.{ℕ, ◌+◌, ◌*◌, ◌^◌, List, [], ◌∷◌, ◌++◌, map, true}
use Rattle.std.specs.declared.option.Option.TheVariants.{None}
use Rattle.std.specs.FinMap.{from_sorted}
use Rattle.ov_types.specs.Prefix.{Block, host_prefix}
use Rattle.ov_types.specs.declared.numbers.InstanceId.{InstanceId}
use Rattle.ov_types.specs.declared.objects.AclAction.TheVariants.{Enter}
use Rattle.ov_types.specs.declared.objects.AclRule.{AclRule}
use Rattle.ov_types.specs.declared.objects.LowKey.{LowKey}
use Rattle.ov_types.specs.declared.objects.LowKey.TheVariants as key
use Rattle.ov_types.specs.declared.objects.LowValue.{LowValue}
use Rattle.ov_types.specs.declared.objects.LowValue.TheVariants as low
use Rattle.ov_types.specs.declared.prefix.Addr.{Addr}
use Rattle.ov_types.specs.declared.vpn.VpnKey.{VpnKey}
use Rattle.route_targets.specs.Numbers.{distinguisher_of, target_of}
use Rattle.node_model.specs.Keys.{Key, Low, Vpn, Row, Publish, Subscribe}
use Rattle.node_model.specs.Values.{Value, Object, Route, Entry, Label}
use Rattle.node_model.specs.Maps.{Map}
use Rattle.node_model.specs.Uses.{Use}
use Rattle.node_model.specs.Paths.{Holdings, Told}
use Rattle.node_model.specs.Agent as agent

-- ---- addresses, networks and places
abbrev pub dotted : ℕ → ℕ → ℕ → ℕ → ℕ
dotted a b c d = a * 2 ^ 24 + b * 2 ^ 16 + c * 2 ^ 8 + d

abbrev pub instance : ℕ → InstanceId
instance n = record { 0 = n }

abbrev pub first_agent : Addr
first_agent = record { 0 = dotted 192 0 2 11 }

abbrev pub second_agent : Addr
second_agent = record { 0 = dotted 192 0 2 12 }

abbrev pub left_subnet : Block
left_subnet = record { addr = dotted 10 1 0 0; len = 24 }

abbrev pub right_subnet : Block
right_subnet = record { addr = dotted 10 2 0 0; len = 24 }

-- ---- the feed
abbrev pub attached_port : ℕ → ℕ → Addr → LowValue
attached_port port host node =
    low.AttachPort (record { 0 = port }) (instance port) (record { 0 = host }) node

abbrev pub attached_circuit : ℕ → ℕ → Addr → LowValue
attached_circuit circuit service node = low.AttachCircuit circuit (record { 0 = service }) node

-- every packet enters the chain at this place
abbrev pub entering : ℕ → AclRule
entering place = record {
  protocol = None;
  sports = record { lo = 0; hi = 65535 };
  dports = record { lo = 0; hi = 65535 };
  action = Enter (instance place);
  rule = record { sequence = 20; position = 1 };
}

abbrev pub chain_objects : List (LowKey × LowValue)
chain_objects =
    (key.Instance 1, low.Instance (instance 1 ∷ []))
    ∷ (key.Instance 2, low.Instance (instance 2 ∷ []))
    ∷ (key.Attach 17, attached_port 1 (dotted 10 1 0 1) first_agent)
    ∷ (key.Attach 18, attached_port 2 (dotted 10 2 0 2) second_agent)
    ∷ (key.Attach 557057, attached_circuit 32769 1 first_agent)
    ∷ (key.Attach 557058, attached_circuit 32770 1 first_agent)
    ∷ (key.Attach 557059, attached_circuit 32771 2 second_agent)
    ∷ (key.Attach 557060, attached_circuit 32772 2 second_agent)
    ∷ (key.Acl 1 1, low.Acl (left_subnet ∷ []) [])
    ∷ (key.Acl 1 2, low.Acl (right_subnet ∷ []) (entering 16384 ∷ []))
    ∷ (key.Acl 2 1, low.Acl (left_subnet ∷ []) (entering 16386 ∷ []))
    ∷ (key.Acl 2 2, low.Acl (right_subnet ∷ []) [])
    ∷ (
      key.ChainUse 0,
      low.ChainUse (instance 1) (instance 2) (left_subnet ∷ []) (right_subnet ∷ [])
          ((record { 0 = 1 }, first_agent) ∷ (record { 0 = 2 }, second_agent) ∷ []),
    )
    ∷ []

abbrev pub told_objects : List (LowKey × LowValue) → List (Key × Value)
told_objects objects = map (λ e. (Low e.0, Object e.1)) objects

abbrev pub chain_feed : Map
chain_feed = from_sorted (told_objects chain_objects)

-- the use of the chain, as it is held
abbrev pub chain_use : Use
chain_use = record {
  number = 0;
  left = instance 1;
  right = instance 2;
  left_subnets = left_subnet ∷ [];
  right_subnets = right_subnet ∷ [];
  services = 2;
}

-- ---- what the second control node told the first
abbrev pub key_at : Addr → ℕ → Block → VpnKey
key_at address place prefix = record { rd = distinguisher_of address (instance place); prefix = prefix }

abbrev pub route_at : Addr → ℕ → Block → ℕ → Key × Value
route_at address place prefix label = (
  Vpn (key_at address place prefix),
  Route (record {
    next_hop = address;
    label = record { 0 = label };
    targets = target_of 64512 (instance place) ∷ [];
  }),
)

abbrev pub of_the_port : Key × Value
of_the_port = route_at second_agent 2 (host_prefix (dotted 10 2 0 2)) 18

abbrev pub of_the_left_circuit : Key × Value
of_the_left_circuit = route_at second_agent 16385 (host_prefix (dotted 250 0 128 3)) 557059

abbrev pub of_the_right_circuit : Key × Value
of_the_right_circuit = route_at second_agent 16386 (host_prefix (dotted 250 0 128 4)) 557060

-- the routes of its own, and with them those that lead on: the right subnet into place 1, and the left one into place 2
abbrev pub own_entries : List (Key × Value)
own_entries = of_the_port ∷ of_the_left_circuit ∷ of_the_right_circuit ∷ []

abbrev pub all_entries : List (Key × Value)
all_entries =
    of_the_port
    ∷ route_at second_agent 16385 right_subnet 557059
    ∷ of_the_left_circuit
    ∷ route_at second_agent 16386 left_subnet 557060
    ∷ of_the_right_circuit
    ∷ []

abbrev pub own_told : Map
own_told = from_sorted own_entries

abbrev pub all_told : Map
all_told = from_sorted all_entries

-- ---- what the first agent told
abbrev pub publication_at : ℕ → ℕ → ℕ → Key × Value
publication_at place host label = (Publish (instance place) (host_prefix host), Label (record { 0 = label }))

abbrev pub subscription_of : ℕ → Key × Value
subscription_of place = (Subscribe (instance place), Label (record { 0 = 0 }))

abbrev pub agent_entries : List (Key × Value)
agent_entries =
    publication_at 1 (dotted 10 1 0 1) 17
    ∷ publication_at 16384 (dotted 250 0 128 1) 557057
    ∷ publication_at 16385 (dotted 250 0 128 2) 557058
    ∷ subscription_of 1
    ∷ subscription_of 16384
    ∷ subscription_of 16385
    ∷ []

abbrev pub agent_told : Told
agent_told = record {
  session = 2;
  address = first_agent;
  map = from_sorted agent_entries;
}

-- ---- the first control node, as the second has told it this
abbrev pub holding : Map → Holdings
holding told = record { asn = 64512; feed = chain_feed; peers = told ∷ []; agents = agent_told ∷ [] }

-- once all is told, and before any route is led on
abbrev pub settled : Holdings
settled = holding all_told

abbrev pub early : Holdings
early = holding own_told

-- what it then leads on: the right subnet into the chain's first place, towards the left circuit of the first service
abbrev pub leading_on : Key × Value
leading_on = route_at first_agent 16384 right_subnet 557057

-- ---- the first agent: its slice, with a row of the chain's first place, and without
abbrev pub agent_objects : List (LowKey × LowValue)
agent_objects =
    (key.Attach 17, attached_port 1 (dotted 10 1 0 1) first_agent)
    ∷ (key.Attach 557057, attached_circuit 32769 1 first_agent)
    ∷ (key.Attach 557058, attached_circuit 32770 1 first_agent)
    ∷ (key.Acl 1 1, low.Acl (left_subnet ∷ []) [])
    ∷ (key.Acl 1 2, low.Acl (right_subnet ∷ []) (entering 16384 ∷ []))
    ∷ []

abbrev pub chain_row : Key × Value
chain_row =
    (Row (instance 16384) right_subnet, Entry (record { next_hop = first_agent; label = record { 0 = 557057 } }))

abbrev pub hearing : Map → agent.Holdings
hearing m = record { is_up = true; map = m } ∷ []

abbrev pub with_row : agent.Holdings
with_row = hearing (from_sorted (told_objects agent_objects ++ chain_row ∷ []))

abbrev pub without_row : agent.Holdings
without_row = hearing (from_sorted (told_objects agent_objects))
