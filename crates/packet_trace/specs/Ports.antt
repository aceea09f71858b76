-- Where a port is.
use Rattle.std.specs.Prelude.{◌≡◌}
use Rattle.std.specs.List.{Contains}
use Rattle.ov_types.specs.declared.numbers.InstanceId.{InstanceId}
use Rattle.ov_types.specs.declared.numbers.Label.{Label}
use Rattle.ov_types.specs.declared.numbers.PortNo.{PortNo}
use Rattle.ov_types.specs.declared.rows.Attached.{Attached}
use Rattle.ov_types.specs.declared.rows.Attached.TheVariants.{Port}
use Rattle.route_targets.specs.Forwarding.{Forwarder}

-- a port is among the labels of an agent
pub record HasPort (port : PortNo) (agent : Forwarder) : Type 0 where
  pub entry : Label × Attached
  pub instance : InstanceId
  pub listed : Contains agent.rows.labels entry
  pub leads : entry.1 ≡ Port port instance
