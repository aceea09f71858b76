-- What becomes of a packet.
use Rattle.std.specs.Prelude.{ℕ, ◌&&◌, ◌||◌, Bool, true, false, List, [], map, reverse, find, Option, Some, None}
use Rattle.std.specs.Prelude.{if◌then◌else◌}
use Rattle.ov_types.specs.declared.numbers.ServiceNo.{ServiceNo}
use Rattle.ov_types.specs.declared.packet.Outcome.{Outcome}
use Rattle.ov_types.specs.declared.packet.Outcome.TheVariants.{Delivered, Dropped}
use Rattle.ov_types.specs.declared.packet.Packet.{Packet}
use Rattle.ov_types.specs.declared.packet.RuleNo.{RuleNo}
use Rattle.ov_types.specs.declared.packet.Why.TheVariants.{NoSourcePort, NoDestination, NoRoute, Denied}
use Rattle.config_types.specs.declared.config.Action.{Action}
use Rattle.config_types.specs.declared.config.Action.TheVariants.{Pass, Deny, Through}
use Rattle.config_types.specs.declared.config.Config.{Config}
use Rattle.config_types.specs.declared.config.Network.{Network}
use Rattle.config_types.specs.declared.config.Port.{Port}
use Rattle.chain_expand.specs.Expansion.{expansion}
use Rattle.ov_types.specs.First.{same_name}
use Rattle.policy_rules.specs.Related.{are_related}
use Rattle.config_check.specs.Finding.{network_named, port_numbered, port_at}
use Rattle.config_check.specs.Rules.{holds_address}
use Rattle.policy_rules.specs.Matching.{deciding}
use Rattle.policy_rules.specs.declared.matching.Match.{Match}

-- the network that a packet is for: the source's own, or one related to it, whose subnet holds the address
abbrev pub network_towards : Config → Network → ℕ → Option Network
network_towards c a address =
    find (λ b. (same_name b.name a.name || are_related c a b) && holds_address b address) c.networks

-- the services of a chain, in order where its rule was matched forwards, and reversed where mirrored
abbrev pub services_through : Config → List ℕ → Bool → List ServiceNo
services_through c chain false = map (λ s. s.id) (expansion c chain)
services_through c chain true = reverse (map (λ s. s.id) (expansion c chain))

-- a packet that may enter a network arrives at the port that has the address
abbrev pub arrival_at : Option Port → List ServiceNo → Outcome
arrival_at None services = Dropped NoRoute
arrival_at (Some q) services = Delivered q.id services

-- what the rule that decides does with a packet to a port
abbrev pub outcome_of : Config → Option Port → RuleNo → Bool → Action → Outcome
outcome_of c q number mirrored Pass = arrival_at q []
outcome_of c q number mirrored Deny = Dropped (Denied (Some number))
outcome_of c q number mirrored (Through chain use_no) = arrival_at q (services_through c chain mirrored)

abbrev pub outcome_by : Config → Option Port → Option Match → Outcome
outcome_by c q None = Dropped (Denied None)
outcome_by c q (Some m) = outcome_of c q m.rule.number m.mirrored m.rule.rule.action

-- inside one network no policy is asked
abbrev pub outcome_between : Config → Network → Network → Packet → Outcome
outcome_between c a b p =
    if same_name b.name a.name then arrival_at (port_at c b p.destination.0) []
    else outcome_by c (port_at c b p.destination.0) (deciding c a b p.tuple)

abbrev pub outcome_towards : Config → Network → Packet → Option Network → Outcome
outcome_towards c a p None = Dropped NoDestination
outcome_towards c a p (Some b) = outcome_between c a b p

abbrev pub outcome_from : Config → Packet → Option Network → Outcome
outcome_from c p None = Dropped NoDestination
outcome_from c p (Some a) = outcome_towards c a p (network_towards c a p.destination.0)

abbrev pub outcome_at : Config → Packet → Option Port → Outcome
outcome_at c p None = Dropped NoSourcePort
outcome_at c p (Some source) = outcome_from c p (network_named c source.network)

-- the outcome for a packet
unfoldable pub reachability : Config → Packet → Outcome
reachability c p = outcome_at c p (port_numbered c p.source.0)
