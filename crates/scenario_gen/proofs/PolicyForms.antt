-- Policies have the written form.
use Rattle.std.proofs.Common.{◌≡◌, ℕ, ◌<◌, ◌≤◌, ◌+◌, ◌*◌, ◌&&◌, true, nat_le, List, codes, refl, arith}
use Rattle.std.specs.List.{list_all}
use Rattle.config_types.specs.declared.config.Action.{Action}
use Rattle.config_types.specs.declared.config.Action.TheVariants.{Pass, Deny, Through}
use Rattle.config_types.specs.declared.config.End.{End}
use Rattle.config_types.specs.declared.config.End.TheVariants.{Any, Named}
use Rattle.config_types.specs.declared.config.Rule.{Rule}
use Rattle.config_types.specs.Form.{has_policy_form, has_rule_form, has_end_form, has_action_form}
use Rattle.ov_types.specs.Name.{is_name}
use Rattle.scenario_gen.specs.Tenants.{web, application, database, management, front_policy, back_policy, management_policy, chain_name}
use Rattle.scenario_gen.specs.Policies.{rule_of, policy_of, front_rules, back_rules, management_rules, policies_of}
use Rattle.scenario_gen.proofs.Forms.{at_most}
use Rattle.scenario_gen.proofs.TenantForms.{tenant_is_name, web_is_network_name, application_is_network_name}
use Rattle.scenario_gen.proofs.TenantForms.{database_is_network_name, management_is_network_name}

rule : (source destination : End) (port : ℕ) (action : Action) → has_end_form source ≡ true → has_end_form destination ≡ true
    → (nat_le port port && nat_le port 65535) ≡ true → has_action_form action ≡ true → has_rule_form (rule_of source destination port action) ≡ true
unfolding has_rule_form
rule source destination port action a b c d = rw (a, b, c, d) refl

front_have_form : (t : ℕ) → t < 16 → list_all has_rule_form (front_rules t) ≡ true
unfolding front_rules
front_have_form t h =
    rw (
      rule Any Any 23 Deny refl refl refl refl,
      rule (Named (web t)) (Named (application t)) 80 (Through (chain_name t) t) (web_is_network_name t h) (application_is_network_name t h) refl
          (rw (tenant_is_name (codes "k") t refl (omega arith) h, at_most 3071 t (omega (arith, h))) refl),
    ) refl

back_have_form : (t : ℕ) → t < 16 → list_all has_rule_form (back_rules t) ≡ true
unfolding back_rules
back_have_form t h =
    rw (rule (Named (application t)) (Named (database t)) 5432 Pass (application_is_network_name t h) (database_is_network_name t h) refl refl) refl

management_have_form : (t : ℕ) → t < 16 → list_all has_rule_form (management_rules t) ≡ true
unfolding management_rules
management_have_form t h = rw (rule (Named (management t)) Any 22 Pass (management_is_network_name t h) refl refl refl) refl

policy : (name : List ℕ) (sequence : ℕ) (rules : List Rule) → is_name name ≡ true → sequence ≤ 65535 → list_all has_rule_form rules ≡ true
    → has_policy_form (policy_of name sequence rules) ≡ true
unfolding has_policy_form
policy name sequence rules a b c = rw (a, at_most 65535 sequence b, c) refl

pub policies_have_form : (t : ℕ) → t < 16 → list_all has_policy_form (policies_of t) ≡ true
unfolding policies_of
policies_have_form t h =
    rw (
      policy (front_policy t) (3 * t + 1) (front_rules t) (tenant_is_name (codes "pf") t refl (omega arith) h) (omega (arith, h)) (front_have_form t h),
      policy (back_policy t) (3 * t + 2) (back_rules t) (tenant_is_name (codes "pb") t refl (omega arith) h) (omega (arith, h)) (back_have_form t h),
      policy (management_policy t) (3 * t + 3) (management_rules t) (tenant_is_name (codes "pm") t refl (omega arith) h) (omega (arith, h)) (management_have_form t h),
    ) refl
