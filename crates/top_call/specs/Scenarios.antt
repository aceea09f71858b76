-- What is run of a scenario.
use Rattle.std.specs.Prelude.{ℕ, List, ◌++◌, map}
use Rattle.config_check.specs.Checked.{Checked}
use Rattle.config_types.specs.declared.event.Event.{Event}
use Rattle.config_types.specs.declared.event.Event.TheVariants.{Trace}
use Rattle.scenario_gen.specs.Scenario.{scenario}

-- the configuration that a scenario begins with, and its topology
abbrev pub opening : ℕ → Checked
opening n = record { topology = (scenario n).topology; config = (scenario n).config }

-- the events of a scenario, and then one trace for each of its packets
abbrev pub schedule : ℕ → List Event
schedule n = (scenario n).events ++ map Trace (scenario n).packets
