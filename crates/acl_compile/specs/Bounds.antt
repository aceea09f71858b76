-- What access lists rest on.
use Rattle.std.specs.Prelude.{◌≢◌, ◌≤◌, IsTrue, length}
use Rattle.std.specs.List.{All, AllPairs, list_all}
use Rattle.config_types.specs.Form.{has_config_form, has_rule_form}
use Rattle.config_types.specs.declared.config.Config.{Config}
use Rattle.config_types.specs.declared.config.Policy.{Policy}
use Rattle.chain_expand.specs.Expansion.{expansion}

-- a configuration of the written form keeps those bounds of a valid one that its access lists rest on: few rules in
-- each policy, and chains that have at most 15 services, each once
pub record KeepsBounds (c : Config) : Type 0 where
  pub form : IsTrue (has_config_form c)
  pub rules : All (λ p. length p.rules ≤ 16) c.policies
  pub chains : length c.chains ≤ 128
  pub short : All (λ d. length (expansion c d.name) ≤ 15) c.chains
  pub once : All (λ d. AllPairs (λ s u. s.id.0 ≢ u.id.0) (expansion c d.name)) c.chains

-- a policy of the written form has few rules
pub record IsBounded (p : Policy) : Type 0 where
  pub rules : length p.rules ≤ 16
  pub form : IsTrue (list_all has_rule_form p.rules)
