-- What rules claim of the packets between two networks.
use Rattle.std.specs.Prelude.{◌&&◌, true, false, List, [], ◌∷◌, ◌++◌, flat_map, Option, Some, None}
use Rattle.std.specs.Prelude.{if◌then◌else◌}
use Rattle.ov_types.specs.declared.packet.Range16.{Range16}
use Rattle.config_types.specs.declared.config.Action.{Action}
use Rattle.config_types.specs.declared.config.Action.TheVariants.{Pass, Deny, Through}
use Rattle.config_types.specs.declared.config.Config.{Config}
use Rattle.config_types.specs.declared.config.Network.{Network}
use Rattle.config_types.specs.declared.config.Protocol.{Protocol}
use Rattle.config_types.specs.declared.config.Protocol.TheVariants.{Any, Number}
use Rattle.policy_rules.specs.declared.matching.Match.{Match}
use Rattle.policy_rules.specs.declared.numbered.NumberedRule.{NumberedRule}
use Rattle.policy_rules.specs.Related.{fits, rules_between}
use Rattle.policy_rules.specs.Matching.{speaks_both_ways}
use Rattle.policy_regions.specs.declared.region.Effect.{Effect}
use Rattle.policy_regions.specs.declared.region.Effect.TheVariants.{Passes, Drops, Leads}
use Rattle.policy_regions.specs.declared.region.Claim.{Claim}

-- what an action does with packets
abbrev pub effect_of : Action → Effect
effect_of Pass = Passes
effect_of Deny = Drops
effect_of (Through chain use_no) = Leads chain

-- what is done with packets by a match, or by none
abbrev pub effect_by : Option Match → Effect
effect_by None = Drops
effect_by (Some m) = effect_of m.rule.rule.action

-- the protocol numbers that a rule speaks of
abbrev pub protocols_of : Protocol → Range16
protocols_of Any = record { lo = 0; hi = 255 }
protocols_of (Number n) = record { lo = n; hi = n }

-- what a rule claims of packets that go as it is written
abbrev pub forward_claim : NumberedRule → Claim
forward_claim r = record {
  region = record {
    protocols = protocols_of r.rule.protocol;
    source_ports = r.rule.source_ports;
    destination_ports = r.rule.destination_ports;
  };
  decision = record { rule = r.number; mirrored = false };
  effect = effect_of r.rule.action;
}

-- what it claims of the answers to those: the ports exchanged
abbrev pub mirrored_claim : NumberedRule → Claim
mirrored_claim r = record {
  region = record {
    protocols = protocols_of r.rule.protocol;
    source_ports = r.rule.destination_ports;
    destination_ports = r.rule.source_ports;
  };
  decision = record { rule = r.number; mirrored = true };
  effect = effect_of r.rule.action;
}

-- the claim of a rule that speaks of packets that go this way
abbrev pub forwards : Network → Network → NumberedRule → List Claim
forwards from to r = if fits r.rule from to then forward_claim r ∷ [] else []

-- the claim of a rule of both directions that speaks of packets that go the other way
abbrev pub backwards : Network → Network → NumberedRule → List Claim
backwards from to r = if speaks_both_ways r.rule.direction && fits r.rule to from then mirrored_claim r ∷ [] else []

-- the claims of a rule, forwards before mirrored
abbrev pub claims_of : Network → Network → NumberedRule → List Claim
claims_of from to r = forwards from to r ++ backwards from to r

-- the claims of the rules between two networks, in order
abbrev pub claims_between : Config → Network → Network → List Claim
claims_between c from to = flat_map (claims_of from to) (rules_between c from to)
