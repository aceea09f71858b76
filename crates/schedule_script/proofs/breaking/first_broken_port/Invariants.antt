use Rattle.std.proofs.Common.{◌≡◌, drop}
use Rattle.ov_types.specs.First.{first_of}
use Rattle.schedule_script.specs.Broken.{broken_port}
use Rattle.schedule_script.specs.Kept.{ties_in}
use Rattle.schedule_script.proofs.breaking.first_broken_port.Given as goal

abbrev pub invariant-loop-port : goal.invariant-loop-port
invariant-loop-port l =
    first_of (broken_port (ties_in l.ties) l.config) (drop l.port-index l.port-items)
    ≡ first_of (broken_port (ties_in l.ties) l.config) l.config.ports
