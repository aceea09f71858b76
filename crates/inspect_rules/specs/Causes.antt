-- Why a packet has its outcome: the networks that it goes between, and the rules between these that are asked.
use Rattle.std.specs.Prelude.{ℕ, ◌==◌, Bool, not, List, [], ◌∷◌, ◌++◌, find, flat_map, map, Option, Some, None}
use Rattle.std.specs.Prelude.{option_map, if◌then◌else◌}
use Rattle.ov_types.specs.Access.{in_range}
use Rattle.ov_types.specs.First.{same_name}
use Rattle.ov_types.specs.declared.packet.Packet.{Packet}
use Rattle.ov_types.specs.declared.packet.RuleNo.{RuleNo}
use Rattle.ov_types.specs.declared.packet.Tuple.{Tuple}
use Rattle.config_types.specs.declared.config.Config.{Config}
use Rattle.config_types.specs.declared.config.Direction.{Direction}
use Rattle.config_types.specs.declared.config.Direction.TheVariants.{OneWay, BothWays}
use Rattle.config_types.specs.declared.config.Network.{Network}
use Rattle.config_types.specs.declared.config.Port.{Port}
use Rattle.config_types.specs.declared.config.Rule.{Rule}
use Rattle.config_check.specs.Finding.{network_named, port_numbered}
use Rattle.config_check.specs.Rules.{holds_address}
use Rattle.policy_rules.specs.Matching.{deciding, has_protocol}
use Rattle.policy_rules.specs.Related.{fits, rules_between}
use Rattle.policy_rules.specs.declared.matching.Match.{Match}
use Rattle.policy_rules.specs.declared.numbered.NumberedRule.{NumberedRule}
use Rattle.reach_plain.specs.Reachability.{network_towards}
use Rattle.inspect_rules.specs.declared.cause.Cause.{Cause}
use Rattle.inspect_rules.specs.declared.cause.Cause.TheVariants as Of
use Rattle.inspect_rules.specs.declared.cause.Condition.{Condition}
use Rattle.inspect_rules.specs.declared.cause.Condition.TheVariants.{Protocol, SourcePorts, DestinationPorts, Direction as TheDirection}

-- the name of the policy that a rule is of
abbrev pub policy_of : Config → RuleNo → Option (List ℕ)
policy_of c number = option_map (λ p. p.name) (find (λ p. p.sequence == number.sequence) c.policies)

-- the first of four conditions that fails
abbrev pub first_failing : Bool → Bool → Bool → Bool → Option Condition
first_failing protocol source destination direction =
    if not protocol then Some Protocol
    else (if not source then Some SourcePorts
    else (if not destination then Some DestinationPorts
    else (if not direction then Some TheDirection else None)))

-- the first condition of a rule that a packet from one network to another fails, where the rule is read forwards
abbrev pub fails_forwards : Network → Network → Tuple → Rule → Option Condition
fails_forwards a b t r =
    first_failing (has_protocol r.protocol t.proto) (in_range r.source_ports t.sport) (in_range r.destination_ports t.dport) (fits r a b)

-- the first condition of a rule that a packet fails, where the rule is read mirrored, with the networks and the ports
-- exchanged
abbrev pub fails_mirrored : Network → Network → Tuple → Rule → Option Condition
fails_mirrored a b t r =
    first_failing (has_protocol r.protocol t.proto) (in_range r.source_ports t.dport) (in_range r.destination_ports t.sport) (fits r b a)

-- what fails of a rule, by what fails forwards and mirrored: a rule of one direction is not read mirrored
abbrev pub failing : Direction → Option Condition → Option Condition → Option (Condition × Option Condition)
failing direction None mirrored = None
failing OneWay (Some forwards) mirrored = Some (forwards, None)
failing BothWays (Some forwards) None = None
failing BothWays (Some forwards) (Some mirrored) = Some (forwards, Some mirrored)

-- a rule that does not match a packet either way, with what fails
abbrev pub skipped : Config → Network → Network → Tuple → NumberedRule → Option Cause
skipped c a b t r =
    option_map (λ f. Of.Skipped r.number (policy_of c r.number) f.0 f.1)
    (failing r.rule.direction (fails_forwards a b t r.rule) (fails_mirrored a b t r.rule))

-- an answer before others, which end where there is none
abbrev pub leading_by : {A : Type 0} → Option A → List A → List A
leading_by None rest = []
leading_by (Some x) rest = x ∷ rest

-- the answers of the first items of a list, up to the first item that has none
abbrev pub leading : {A B : Type 0} → (A → Option B) → List A → List B
leading answer [] = []
leading answer (x ∷ xs) = leading_by (answer x) (leading answer xs)

-- the rule that decides
abbrev pub decided : Config → Option Match → List Cause
decided c None = []
decided c (Some m) = Of.Decided m.rule.number (policy_of c m.rule.number) m.mirrored ∷ []

-- the rules that are asked between two networks, in order: those that do not match, and then the one that decides
abbrev pub asked : Config → Network → Network → Tuple → List Cause
asked c a b t = leading (skipped c a b t) (rules_between c a b) ++ decided c (deciding c a b t)

-- inside one network no rule is asked
abbrev pub between : Config → Network → Network → Tuple → List Cause
between c a b t = if same_name b.name a.name then [] else asked c a b t

-- a network, with a policy that it attaches, or as one that is not related
abbrev pub network_told : List ℕ → Option (List ℕ) → Cause
network_told network None = Of.Unrelated network
network_told network (Some policy) = Of.Attached network policy

-- the policies of a network
abbrev pub attached : Network → List Cause
attached a = map (λ policy. Of.Attached a.name policy) a.policies

-- a network that holds an address, with its policies
abbrev pub holder : ℕ → Network → List Cause
holder address b = if holds_address b address then Of.Unrelated b.name ∷ attached b else []

-- where no network is found: the policies of the source's network, and each network that holds the address
abbrev pub nowhere : Config → Network → ℕ → List Cause
nowhere c a address = attached a ++ flat_map (holder address) c.networks

abbrev pub towards : Config → Network → Packet → Option Network → List Cause
towards c a p None = nowhere c a p.destination.0
towards c a p (Some b) = Of.To b.name ∷ between c a b p.tuple

abbrev pub leaving : Config → Packet → Option Network → List Cause
leaving c p None = []
leaving c p (Some a) = Of.From a.name ∷ towards c a p (network_towards c a p.destination.0)

abbrev pub starting : Config → Packet → Option Port → List Cause
starting c p None = []
starting c p (Some source) = leaving c p (network_named c source.network)

-- what the outcome of a packet comes of
unfoldable pub causes : Config → Packet → List Cause
causes c p = starting c p (port_numbered c p.source.0)
