-- What access lists say, in terms of the rules that decide.
use Rattle.std.specs.Prelude.{◌≡◌, ◌<◌, ◌≤◌, ◌⊎◌, Bool, true, false, find, Option, length}
use Rattle.std.specs.Prelude.{if◌then◌else◌}
use Rattle.ov_types.specs.Access.{holds}
use Rattle.ov_types.specs.Prefix.{Block}
use Rattle.ov_types.specs.declared.objects.AclAction.{AclAction}
use Rattle.ov_types.specs.declared.objects.AclAction.TheVariants as Does
use Rattle.ov_types.specs.declared.objects.AclRule.{AclRule}
use Rattle.ov_types.specs.declared.packet.Tuple.{Tuple}
use Rattle.route_targets.specs.Numbers.{left_circuit_of, right_circuit_of, circuit_instance_of}
use Rattle.config_types.specs.declared.config.Action.{Action}
use Rattle.config_types.specs.declared.config.Action.TheVariants.{Pass, Deny, Through}
use Rattle.config_types.specs.declared.config.Config.{Config}
use Rattle.config_types.specs.declared.config.Network.{Network}
use Rattle.chain_expand.specs.Expansion.{expansion}
use Rattle.policy_rules.specs.declared.matching.Match.{Match}
use Rattle.acl_compile.specs.Oriented.{forward_entry, mirrored_entry, acl_rules}

-- the entry of the access list from one network to another that decides on a packet
abbrev pub deciding_entry : Config → Network → Network → Tuple → Option AclRule
deciding_entry c from to t = find (λ r. holds r t) (acl_rules c from to)

-- the entry of a rule that matches
abbrev pub entry_by : Config → Match → AclRule
entry_by c m = if m.mirrored then mirrored_entry c m.rule else forward_entry c m.rule

-- an action as an entry has it: a packet that a chain rule matches forwards enters where the left circuit of the first
-- service is, and one that it matches mirrored where the right circuit of the last service is
abbrev pub IsActionOf : Config → Bool → Action → AclAction → Type 0
IsActionOf c mirrored Pass done = done ≡ Does.Pass
IsActionOf c mirrored Deny done = done ≡ Does.Deny
IsActionOf c false (Through chain use_no) done = done ≡ Does.Enter (circuit_instance_of (left_circuit_of use_no 1))
IsActionOf c true (Through chain use_no) done =
    done ≡ Does.Enter (circuit_instance_of (right_circuit_of use_no (length (expansion c chain))))

-- a prefix comes no later than another: its address is less, or it is the same and its length is no greater
abbrev pub ComesNoLater : Block → Block → Type 0
ComesNoLater p q = (p.addr < q.addr) ⊎ ((p.addr ≡ q.addr) × (p.len ≤ q.len))
