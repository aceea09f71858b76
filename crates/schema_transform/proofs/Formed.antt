-- What validity gives the transformer.
use Rattle.std.proofs.Common.{◌≡◌, ◌≢◌, ◌&&◌, ◌<◌, ℕ, IsTrue, List, None, get_or, length, sym, subst}
use Rattle.std.specs.List.{list_all}
use Rattle.ov_types.specs.Name.{is_name}
use Rattle.ov_types.proofs.FirstLemmas.{all_here}
use Rattle.std.specs.Prelude.{nat_le}
use Rattle.config_types.specs.Form.{has_chain_form, has_config_form, has_network_form, has_policy_form, has_port_form}
use Rattle.config_types.specs.Form.{has_action_form, has_rule_form, has_service_form}
use Rattle.config_types.specs.declared.config.Policy.{Policy}
use Rattle.config_types.specs.declared.config.Rule.{Rule}
use Rattle.acl_compile.proofs.Kept.{action_form as acts_formed}
use Rattle.config_types.specs.declared.config.Config.{Config}
use Rattle.config_types.specs.declared.topology.Topology.{Topology}
use Rattle.std.proofs.lemmas.Bool.{and_parts}
use Rattle.config_check.specs.Rules.{first_broken}
use Rattle.config_check.specs.Sentences.{IsValid}
use Rattle.config_check.proofs.Validity.{valid_iff}
use Rattle.acl_compile.proofs.Bounded.{keeps_bounds}
use Rattle.transform_model.proofs.Lemmas.{uses_are_distinct}
use Rattle.transform_model.proofs.Lists.{pairs_of_map}
use Rattle.transform_model.proofs.Prefixes.{third_of_five, second_of_five}
use Rattle.schema_transform.specs.Sound.{IsSound}

pub ports_formed : (c : Config) → IsSound c → IsTrue (list_all has_port_form c.ports)
unfolding has_config_form
ports_formed c h =
    second_of_five (list_all has_network_form c.networks) (list_all has_port_form c.ports)
    (list_all has_policy_form c.policies) (list_all has_service_form c.services) (list_all has_chain_form c.chains)
    h.bounds.form

pub is_sound : (t : Topology) (c : Config) → IsTrue (has_config_form c) → first_broken t c ≡ None → IsSound c
is_sound t c form h =
    let v : IsValid t c = (valid_iff t c).0 h in
    record {
      bounds = keeps_bounds t c form h;
      services = pairs_of_map (λ s. s.id.0) (λ m n. m ≢ n) c.services v.numbers.services;
      uses = uses_are_distinct t c h;
    }

rules_of : (p : Policy) → IsTrue (has_policy_form p) → IsTrue (list_all has_rule_form p.rules)
unfolding has_policy_form
rules_of p h = (and_parts (is_name p.name && nat_le p.sequence 65535) (list_all has_rule_form p.rules) h).1

policies_formed : (c : Config) → IsSound c → IsTrue (list_all has_policy_form c.policies)
unfolding has_config_form
policies_formed c h =
    third_of_five (list_all has_network_form c.networks) (list_all has_port_form c.ports)
    (list_all has_policy_form c.policies) (list_all has_service_form c.services) (list_all has_chain_form c.chains)
    h.bounds.form

-- the rules of the policy at a place
pub policy_formed : (c : Config) (ps : List Policy) (i : ℕ) (p : Policy) → IsSound c → ps ≡ c.policies → i < length ps
    → p ≡ get_or ps i p → IsTrue (list_all has_rule_form p.rules)
policy_formed c ps i p h same lt at =
    rules_of p (all_here has_policy_form ps i p lt at
    (subst (λ (qs : List Policy). IsTrue (list_all has_policy_form qs)) (sym same) (policies_formed c h)))

-- the action of the rule at a place
pub action_formed : (p : Policy) (rs : List Rule) (i : ℕ) (r : Rule) → IsTrue (list_all has_rule_form p.rules)
    → rs ≡ p.rules → i < length rs → r ≡ get_or rs i r → IsTrue (has_action_form r.action)
action_formed p rs i r h same lt at =
    acts_formed r (all_here has_rule_form rs i r lt at
    (subst (λ (qs : List Rule). IsTrue (list_all has_rule_form qs)) (sym same) h))
