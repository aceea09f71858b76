use Rattle.std.proofs.Common.{◌≡◌, drop}
use Rattle.ov_types.specs.First.{first_of, ◌<|>◌}
use Rattle.ov_types.specs.declared.numbers.PortNo.{PortNo}
use Rattle.schedule_script.specs.Kept.{home_by, port_in}
use Rattle.schedule_script.proofs.joining.tie_ports.Given as goal

abbrev pub invariant-loop-port : goal.invariant-loop-port
invariant-loop-port l =
    (p : PortNo) → (port_in l.ports.entries p <|> first_of (home_by l.config p) (drop l.port-index l.port-items))
    ≡ (port_in l.fn.ports.entries p <|> first_of (home_by l.config p) l.config.ports)
