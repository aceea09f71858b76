-- The policies: three of each tenant.
use Rattle.std.specs.Prelude.{ℕ, List, [], ◌∷◌, ◌+◌, ◌*◌}
use Rattle.std.specs.List.{flat_map}
use Rattle.config_types.specs.declared.config.Action.{Action}
use Rattle.config_types.specs.declared.config.Action.TheVariants.{Pass, Deny, Through}
use Rattle.config_types.specs.declared.config.Direction.TheVariants.{BothWays}
use Rattle.config_types.specs.declared.config.End.{End}
use Rattle.config_types.specs.declared.config.End.TheVariants.{Any, Named}
use Rattle.config_types.specs.declared.config.Policy.{Policy}
use Rattle.config_types.specs.declared.config.Protocol.TheVariants.{Number}
use Rattle.config_types.specs.declared.config.Rule.{Rule}
use Rattle.scenario_gen.specs.Naming.{below}
use Rattle.scenario_gen.specs.Tenants.{tenants, web, application, database, management, chain_name}
use Rattle.scenario_gen.specs.Tenants.{front_policy, back_policy, management_policy}

-- a rule of both directions about TCP (protocol 6) to one port number, from any
abbrev pub rule_of : End → End → ℕ → Action → Rule
rule_of source destination port action = record {
  direction = BothWays;
  source = source;
  destination = destination;
  protocol = Number 6;
  source_ports = record { lo = 0; hi = 65535 };
  destination_ports = record { lo = port; hi = port };
  action = action;
}

abbrev pub policy_of : List ℕ → ℕ → List Rule → Policy
policy_of name sequence rules = record { name = name; sequence = sequence; rules = rules }

-- telnet (23) is denied, and the web (80) reaches the applications through the tenant's chain, by use t
unfoldable pub front_rules : ℕ → List Rule
front_rules t =
    rule_of Any Any 23 Deny
    ∷ rule_of (Named (web t)) (Named (application t)) 80 (Through (chain_name t) t)
    ∷ []

-- the applications reach the databases (5432)
unfoldable pub back_rules : ℕ → List Rule
back_rules t = rule_of (Named (application t)) (Named (database t)) 5432 Pass ∷ []

-- the management reaches all (22)
unfoldable pub management_rules : ℕ → List Rule
management_rules t = rule_of (Named (management t)) Any 22 Pass ∷ []

unfoldable pub policies_of : ℕ → List Policy
policies_of t =
    policy_of (front_policy t) (3 * t + 1) (front_rules t)
    ∷ policy_of (back_policy t) (3 * t + 2) (back_rules t)
    ∷ policy_of (management_policy t) (3 * t + 3) (management_rules t)
    ∷ []

abbrev pub policies : ℕ → List Policy
policies n = flat_map policies_of (below (tenants n))
