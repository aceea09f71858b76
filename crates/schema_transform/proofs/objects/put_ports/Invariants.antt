use Rattle.std.proofs.Common.{◌≡◌, drop}
use Rattle.std.specs.List.{filter_map}
use Rattle.transform_model.specs.Objects.{port_object, with_objects}
use Rattle.schema_transform.proofs.objects.put_ports.Given as goal

abbrev pub invariant-loop-port : goal.invariant-loop-port
invariant-loop-port l =
    with_objects l.low.entries (filter_map (port_object l.topology l.config) (drop l.port-index l.config.ports))
    ≡ with_objects l.fn.low.entries (filter_map (port_object l.topology l.config) l.config.ports)
