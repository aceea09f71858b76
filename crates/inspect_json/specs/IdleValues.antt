-- The JSON values of what decides nothing, or is not in use.
use Rattle.std.specs.Prelude.{ℕ, List, codes}
use Rattle.serde_json.specs.Data.{Data, member, no_members, object, string}
use Rattle.ov_types.specs.declared.packet.RuleNo.{RuleNo}
use Rattle.config_types.specs.declared.config.Config.{Config}
use Rattle.inspect_rules.specs.declared.idle.Idle.{Idle}
use Rattle.inspect_rules.specs.declared.idle.Idle.TheVariants.{Rule, Policy, Chain}
use Rattle.inspect_json.specs.Values.{list_value, number_value, rule_value}

-- a rule, and those that stand before it
unfoldable pub idle_rule_value : Config → RuleNo → List RuleNo → Data
idle_rule_value c rule before = object (member (codes "behind") (list_value (rule_value c) before)
    (member (codes "kind") (string (codes "rule"))
    (member (codes "rule") (rule_value c rule) no_members)))

-- a policy, and how many networks attach it
unfoldable pub idle_policy_value : List ℕ → ℕ → Data
idle_policy_value name networks = object (member (codes "kind") (string (codes "policy"))
    (member (codes "name") (string name)
    (member (codes "networks") (number_value networks) no_members)))

unfoldable pub idle_chain_value : List ℕ → Data
idle_chain_value name = object (member (codes "kind") (string (codes "chain"))
    (member (codes "name") (string name) no_members))

abbrev pub idle_value : Config → Idle → Data
idle_value c (Rule rule before) = idle_rule_value c rule before
idle_value c (Policy name networks) = idle_policy_value name networks
idle_value c (Chain name) = idle_chain_value name
