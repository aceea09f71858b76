-- What of a configuration decides nothing, or is not in use.
use Rattle.std.specs.Prelude.{ℕ, ◌==◌, ◌&&◌, ◌||◌, nat_lt, Bool, false, not, List, [], ◌∷◌, ◌++◌, count_by, flat_map, if◌then◌else◌}
use Rattle.std.specs.List.{list_any}
use Rattle.ov_types.specs.First.{same_name}
use Rattle.ov_types.specs.declared.packet.RuleNo.{RuleNo}
use Rattle.config_types.specs.declared.config.Action.{Action}
use Rattle.config_types.specs.declared.config.Action.TheVariants.{Pass, Deny, Through}
use Rattle.config_types.specs.declared.config.Chain.{Chain}
use Rattle.config_types.specs.declared.config.Config.{Config}
use Rattle.config_types.specs.declared.config.End.{End}
use Rattle.config_types.specs.declared.config.End.TheVariants.{Any, Named}
use Rattle.config_types.specs.declared.config.Network.{Network}
use Rattle.config_types.specs.declared.config.Policy.{Policy}
use Rattle.config_types.specs.declared.config.Rule.{Rule}
use Rattle.policy_rules.specs.declared.numbered.NumberedRule.{NumberedRule}
use Rattle.policy_rules.specs.Related.{all_rules, attaches, fits}
use Rattle.inspect_rules.specs.Deciders.{decides_some}
use Rattle.inspect_rules.specs.declared.idle.Idle.{Idle}
use Rattle.inspect_rules.specs.declared.idle.Idle.TheVariants as Is

-- a rule's number comes before another
abbrev pub comes_before : RuleNo → RuleNo → Bool
comes_before m n = nat_lt m.sequence n.sequence || ((m.sequence == n.sequence) && nat_lt m.position n.position)

-- a network attaches the policy of the rule of this number
abbrev pub attaches_rule : Config → Network → RuleNo → Bool
attaches_rule c a n = list_any (λ p. (p.sequence == n.sequence) && attaches a p) c.policies

-- a network attaches the policies of two rules
abbrev pub attaches_both : Config → NumberedRule → NumberedRule → Network → Bool
attaches_both c m n a = attaches_rule c a m.number && attaches_rule c a n.number

-- a rule speaks of packets between two networks, either way
abbrev pub speaks_between : Rule → Network → Network → Bool
speaks_between r a b = fits r a b || fits r b a

-- both of two rules speak of packets between two networks
abbrev pub both_speak : NumberedRule → NumberedRule → Network → Network → Bool
both_speak m n a b = not (same_name a.name b.name) && (speaks_between m.rule a b && speaks_between n.rule a b)

-- two rules stand between two networks, of which the first attaches the policies of both
abbrev pub both_between : Config → NumberedRule → NumberedRule → Network → Network → Bool
both_between c m n a b =
    not (same_name a.name b.name)
    && (attaches_both c m n b && (speaks_between m.rule a b && speaks_between n.rule a b))

abbrev pub both_from : Config → NumberedRule → NumberedRule → Network → Bool
both_from c m n a = attaches_both c m n a && list_any (both_between c m n a) c.networks

-- a rule stands before another between some two networks
abbrev pub stands_before : Config → NumberedRule → NumberedRule → Bool
stands_before c n m = comes_before m.number n.number && list_any (both_from c m n) c.networks

abbrev pub before_of : Config → NumberedRule → NumberedRule → List RuleNo
before_of c n m = if stands_before c n m then m.number ∷ [] else []

-- a rule that decides, or not, among others
abbrev pub rule_unless : Config → List NumberedRule → NumberedRule → Bool → List Idle
rule_unless c rules n decides = if decides then [] else Is.Rule n.number (flat_map (before_of c n) rules) ∷ []

-- a rule that decides no packet, with the rules that stand before it
abbrev pub idle_rule : Config → NumberedRule → List Idle
idle_rule c n = rule_unless c (all_rules c) n (decides_some c n.number)

-- how many networks attach a policy
abbrev pub attached_count : Policy → List Network → ℕ
attached_count p networks = count_by (λ a. attaches a p) networks

-- a policy that fewer than two networks attach
abbrev pub policy_if : Policy → ℕ → List Idle
policy_if p networks = if nat_lt networks 2 then Is.Policy p.name networks ∷ [] else []

abbrev pub idle_policy : Config → Policy → List Idle
idle_policy c p = policy_if p (attached_count p c.networks)

-- an end of a rule names a network that attaches its policy
abbrev pub is_attached_end : Config → Policy → End → Bool
is_attached_end c p Any = false
is_attached_end c p (Named name) = list_any (λ a. same_name name a.name && attaches a p) c.networks

abbrev pub leads_by : List ℕ → Action → Bool
leads_by chain Pass = false
leads_by chain Deny = false
leads_by chain (Through by use_no) = same_name by chain

-- a rule of a policy is a use of a chain, in effect
abbrev pub is_use : Config → List ℕ → Policy → Rule → Bool
is_use c chain p r = leads_by chain r.action && (is_attached_end c p r.source && is_attached_end c p r.destination)

abbrev pub has_use : Config → List ℕ → Policy → Bool
has_use c chain p = list_any (is_use c chain p) p.rules

-- a chain of which no use is in effect
abbrev pub idle_chain : Config → Chain → List Idle
idle_chain c k = if list_any (has_use c k.name) c.policies then [] else Is.Chain k.name ∷ []

-- what is idle of a configuration: rules, policies and chains, each in the order of the document
unfoldable pub idle : Config → List Idle
idle c = flat_map (idle_rule c) (all_rules c) ++ (flat_map (idle_policy c) c.policies ++ flat_map (idle_chain c) c.chains)
