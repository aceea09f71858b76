-- A scenario by its number.
use Rattle.std.specs.Prelude.{ℕ}
use Rattle.config_types.specs.declared.config.Config.{Config}
use Rattle.scenario_gen.specs.declared.whole.Scenario.{Scenario}
use Rattle.scenario_gen.specs.Nodes.{topology}
use Rattle.scenario_gen.specs.Networks.{networks}
use Rattle.scenario_gen.specs.Ports.{ports}
use Rattle.scenario_gen.specs.Policies.{policies}
use Rattle.scenario_gen.specs.Services.{services, chains}
use Rattle.scenario_gen.specs.Schedule.{events, packets}

unfoldable pub config : ℕ → Config
config n = record {
  networks = networks n;
  ports = ports n;
  policies = policies n;
  services = services n;
  chains = chains n;
}

unfoldable pub scenario : ℕ → Scenario
scenario n = record { topology = topology; config = config n; events = events n; packets = packets n }
