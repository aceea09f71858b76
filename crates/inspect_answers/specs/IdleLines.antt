-- The lines of what decides nothing, or is not in use.
use Rattle.std.specs.Prelude.{ℕ, List, [], ◌∷◌, ◌++◌, codes, decimal, flat_map}
use Rattle.ov_types.specs.Rows.{rule_text}
use Rattle.ov_types.specs.declared.packet.RuleNo.{RuleNo}
use Rattle.config_types.specs.declared.config.Config.{Config}
use Rattle.inspect_changes.specs.Report.Lists.{list_text}
use Rattle.inspect_rules.specs.Idle.{idle}
use Rattle.inspect_rules.specs.declared.idle.Idle.{Idle}
use Rattle.inspect_rules.specs.declared.idle.Idle.TheVariants.{Rule, Policy, Chain}
use Rattle.inspect_json.specs.Form.{json_line}
use Rattle.inspect_json.specs.IdleValues.{idle_value}
use Rattle.inspect_json.specs.declared.form.Form.{Form}
use Rattle.inspect_json.specs.declared.form.Form.TheVariants.{Text, Json}

-- rules with commas between them, and `-` where there are none
unfoldable pub rules_text : List RuleNo → List ℕ
rules_text rules = list_text rule_text rules

-- a rule, and those that stand before it
abbrev pub rule_words : RuleNo → List RuleNo → List ℕ
rule_words rule before = codes "rule " ++ (rule_text rule ++ (codes " unused behind " ++ rules_text before))

unfoldable pub rule_line : RuleNo → List RuleNo → List ℕ
rule_line rule before = rule_words rule before ++ (10 ∷ [])

-- a policy, and how many networks attach it
unfoldable pub policy_line : List ℕ → ℕ → List ℕ
policy_line name networks = codes "policy " ++ (name ++ (codes " attached by " ++ (decimal networks ++ (10 ∷ []))))

unfoldable pub chain_line : List ℕ → List ℕ
chain_line name = codes "chain " ++ (name ++ (codes " unused" ++ (10 ∷ [])))

abbrev pub idle_line : Idle → List ℕ
idle_line (Rule rule before) = rule_line rule before
idle_line (Policy name networks) = policy_line name networks
idle_line (Chain name) = chain_line name

-- the line of what is idle, in the form that is asked for
abbrev pub idle_line_in : Form → Config → Idle → List ℕ
idle_line_in Text c x = idle_line x
idle_line_in Json c x = json_line (idle_value c x)

-- what `inspect unused` writes of a valid configuration
abbrev pub idle_in : Form → Config → List ℕ
idle_in form c = flat_map (idle_line_in form c) (idle c)
