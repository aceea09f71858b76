use Rattle.std.proofs.Common.{◌≡◌, ◌++◌, drop, map}
use Rattle.inspect_changes.specs.Objects.{port_of}
use Rattle.inspect_changes.proofs.objects.push_ports.Given as goal

abbrev pub invariant-loop-port : goal.invariant-loop-port
invariant-loop-port l = l.objects.items ++ map port_of (drop l.port-index l.ports) ≡ l.initial.objects.items ++ map port_of l.ports
