-- The instances that a control node needs the routes of, as a list.
use Rattle.std.specs.Prelude.{ℕ, ◌-◌, ◌*◌, ◌/◌, ◌^◌, ◌==◌, ◌&&◌, Bool, List, if◌then◌else◌}
use Rattle.std.specs.declared.cmp.Ordering.{Ordering}
use Rattle.std.specs.declared.option.Option.{Option}
use Rattle.std.specs.declared.option.Option.TheVariants.{Some, None}
use Rattle.std.specs.List.{filter, filter_map}
use Rattle.ov_types.specs.Prefix.{Block}
use Rattle.ov_types.specs.contracts.numbers.InstanceIdOrd.TheImpl as instances
use Rattle.ov_types.specs.declared.keys.UpKey.{UpKey}
use Rattle.ov_types.specs.declared.keys.UpKey.TheVariants.{Publish, Subscribe}
use Rattle.ov_types.specs.declared.numbers.InstanceId.{InstanceId}
use Rattle.node_model.specs.Paths.{Holdings}
use Rattle.node_model.specs.Uses.{is_known}
use Rattle.vpn_tables.specs.Gathered.{held_keys, in_order}
use Rattle.vpn_tables.specs.Views.{up_order}
use Rattle.rt_constrain.specs.Needs.{instance_across, is_circuit}

abbrev pub instance_order : InstanceId → InstanceId → Ordering
instance_order = instances.ghosts.cmp

-- the number of the circuit that has an address
abbrev pub circuit_numbered : ℕ → ℕ
circuit_numbered address = address - 250 * 2 ^ 24

-- a prefix of an instance is a circuit's: its host address, in its instance
abbrev pub is_of_circuit : ℕ → InstanceId → Block → Bool
is_of_circuit circuit i prefix = is_circuit circuit && (circuit / 2 == i.0 && prefix.len == 32)

-- the instance that a key of an agent makes needed, where it is known: one that it subscribes, and that across a circuit
-- that it publishes
abbrev pub reason : UpKey → Option InstanceId
reason (Subscribe i) = Some i
reason (Publish i prefix) =
    if is_of_circuit (circuit_numbered prefix.addr) i prefix
    then Some (instance_across (circuit_numbered prefix.addr))
    else None

-- the keys of what all agents told, each once, in order
abbrev pub up_keys : Holdings → List UpKey
up_keys h = in_order up_order (held_keys h)

-- the known instances that a key makes needed, in order
abbrev pub needed : Holdings → List InstanceId
needed h = filter (is_known h.feed) (in_order instance_order (filter_map reason (up_keys h)))
