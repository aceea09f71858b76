-- What the code takes for a step, and for an access list.
use Rattle.std.specs.Prelude.{ℕ, Bool, true, false, nat_le, nat_lt, List, Option, Some, None, option_map, if◌then◌else◌}
use Rattle.std.specs.List.{filter_map}
use Rattle.std.specs.Ordering.{is_eq}
use Rattle.ov_types.specs.Access.{Access}
use Rattle.ov_types.specs.Keys.{row_key_cmp}
use Rattle.ov_types.specs.Prefix.{Block}
use Rattle.ov_types.specs.declared.numbers.InstanceId.{InstanceId}
use Rattle.ov_types.specs.declared.objects.LowKey.{LowKey}
use Rattle.ov_types.specs.declared.objects.LowKey.TheVariants as Key
use Rattle.ov_types.specs.declared.rows.Entry.{Entry}
use Rattle.route_targets.specs.Forwarding.{Forwarder, agent_at}
use Rattle.packet_trace.specs.declared.hops.Hop.{Hop}
use Rattle.config_check.specs.Checked.{Checked}
use Rattle.inspect_walks.specs.Told.{told}
use Rattle.inspect_walks.specs.Walks.{Step, step_of}
use Rattle.inspect_walks.specs.declared.told_step.ToldStep.{ToldStep}
use Rattle.inspect_walks.specs.declared.verdicts.AccessList.{AccessList}

-- where an access list leads, and its entries
abbrev pub as_access : Option AccessList → Option Access
as_access o = option_map (λ l. record { to = l.to; rules = l.rules.now }) o

-- a key stands before the access lists of a network
abbrev pub is_before : ℕ → LowKey → Bool
is_before network (Key.Acl from to) = nat_lt from network
is_before network (Key.ChainUse n) = false
is_before network _ = true

-- a key stands not behind the access lists of a network
abbrev pub is_not_behind : ℕ → LowKey → Bool
is_not_behind network (Key.Acl from to) = nat_le from network
is_not_behind network (Key.ChainUse n) = false
is_not_behind network _ = true

-- an item where it passes
abbrev pub passing : {A : Type 0} → (A → Bool) → Option A → Option A
passing passes None = None
passing passes (Some x) = if passes x then Some x else None

-- a row has a key
abbrev pub has_key : InstanceId × Block → (InstanceId × Block) × Entry → Bool
has_key key r = is_eq (row_key_cmp r.0 key)

-- the step of a lookup that is known by the address of its agent
abbrev pub step_at : List Forwarder → ℕ → Hop → Option Step
step_at agents address h = option_map (λ g. step_of agents address (record { agent = g; instance = h.instance })) (agent_at agents h.node)

abbrev pub told_at : Checked → List Forwarder → ℕ → Hop → Option ToldStep
told_at x agents address h = option_map (told x) (step_at agents address h)

-- what is told of lookups, of each whose agent is there
abbrev pub told_steps : Checked → List Forwarder → ℕ → List Hop → List ToldStep
told_steps x agents address hops = filter_map (told_at x agents address) hops
