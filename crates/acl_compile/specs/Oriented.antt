-- The access list from one network to another: the rules between the two as they speak of packets that go this way.
use Rattle.std.specs.Prelude.{ℕ, ◌&&◌, Bool, true, false, List, [], ◌∷◌, ◌++◌, length, flat_map, Option, Some, None}
use Rattle.std.specs.Prelude.{if◌then◌else◌}
use Rattle.std.specs.Ordering.{is_lt}
use Rattle.ov_types.specs.First.{same_name}
use Rattle.ov_types.specs.Prefix.{Block, block_cmp}
use Rattle.ov_types.specs.declared.objects.AclAction.{AclAction}
use Rattle.ov_types.specs.declared.objects.AclAction.TheVariants as Does
use Rattle.ov_types.specs.declared.objects.AclRule.{AclRule}
use Rattle.ov_types.specs.declared.objects.LowValue.{LowValue}
use Rattle.ov_types.specs.declared.objects.LowValue.TheVariants.{Acl}
use Rattle.route_targets.specs.Numbers.{hop_instance_of}
use Rattle.config_types.specs.declared.config.Action.{Action}
use Rattle.config_types.specs.declared.config.Action.TheVariants.{Pass, Deny, Through}
use Rattle.config_types.specs.declared.config.Config.{Config}
use Rattle.config_types.specs.declared.config.Network.{Network}
use Rattle.config_types.specs.declared.config.Protocol.{Protocol}
use Rattle.config_types.specs.declared.config.Protocol.TheVariants.{Any, Number}
use Rattle.chain_expand.specs.Expansion.{expansion}
use Rattle.policy_rules.specs.declared.numbered.NumberedRule.{NumberedRule}
use Rattle.policy_rules.specs.Related.{fits, rules_between}
use Rattle.policy_rules.specs.Matching.{speaks_both_ways}

-- an entry's protocol: any is none
abbrev pub protocol_of : Protocol → Option ℕ
protocol_of Any = None
protocol_of (Number n) = Some n

-- the hop of a chain that packets enter: the first where they go as the rule is written, the last where they go the
-- other way
abbrev pub hop_entered : Config → List ℕ → Bool → ℕ
hop_entered c chain false = 0
hop_entered c chain true = length (expansion c chain)

-- what an entry does, of the rule as it is written or mirrored
abbrev pub does : Config → Bool → Action → AclAction
does c mirrored Pass = Does.Pass
does c mirrored Deny = Does.Deny
does c mirrored (Through chain use_no) = Does.Enter (hop_instance_of use_no (hop_entered c chain mirrored))

-- the entry for packets that go as the rule is written
abbrev pub forward_entry : Config → NumberedRule → AclRule
forward_entry c r = record {
  protocol = protocol_of r.rule.protocol;
  sports = r.rule.source_ports;
  dports = r.rule.destination_ports;
  action = does c false r.rule.action;
  rule = r.number;
}

-- the entry for the answers to those packets: with the ranges exchanged
abbrev pub mirrored_entry : Config → NumberedRule → AclRule
mirrored_entry c r = record {
  protocol = protocol_of r.rule.protocol;
  sports = r.rule.destination_ports;
  dports = r.rule.source_ports;
  action = does c true r.rule.action;
  rule = r.number;
}

-- the forward entry where the rule speaks of packets that go this way
abbrev pub forwards : Config → Network → Network → NumberedRule → List AclRule
forwards c from to r = if fits r.rule from to then forward_entry c r ∷ [] else []

-- the mirrored entry where a rule of both directions speaks of packets that go the other way
abbrev pub backwards : Config → Network → Network → NumberedRule → List AclRule
backwards c from to r =
    if speaks_both_ways r.rule.direction && fits r.rule to from then mirrored_entry c r ∷ [] else []

-- the entries of a rule, forwards before mirrored
abbrev pub entries_of : Config → Network → Network → NumberedRule → List AclRule
entries_of c from to r = forwards c from to r ++ backwards c from to r

-- the entries of the rules between two networks, for packets from the one to the other
abbrev pub oriented : Config → Network → Network → List AclRule
oriented c from to = flat_map (entries_of c from to) (rules_between c from to)

-- inside a network no rule is asked
abbrev pub acl_rules : Config → Network → Network → List AclRule
acl_rules c from to = if same_name from.name to.name then [] else oriented c from to

-- a prefix in its place, before those that do not come before it
abbrev pub put_prefix : Block → List Block → List Block
put_prefix p [] = p ∷ []
put_prefix p (q ∷ qs) = if is_lt (block_cmp q p) then q ∷ put_prefix p qs else p ∷ q ∷ qs

-- prefixes by address, and then by length
abbrev pub ascending : List Block → List Block
ascending [] = []
ascending (p ∷ ps) = put_prefix p (ascending ps)

-- the access list from one network to another: where packets go, and what decides on them
abbrev pub acl_value : Config → Network → Network → LowValue
acl_value c from to = Acl (ascending to.subnets) (acl_rules c from to)
