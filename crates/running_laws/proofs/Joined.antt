-- At every moment each session that is not down is joined.
use Rattle.std.specs.Prelude.{false, ◌≡◌}
use Rattle.machine_laws.specs.MachineModel.Moments.{Each, IsJoined}
use Rattle.machine_laws.specs.MachineModel.Network.{MachineState}
use Rattle.machine_laws.proofs.MachineModel.EveryMoment.{joined_is}
use Rattle.machine_laws.proofs.MachineModel.SessionFact.{Fact}
use Rattle.machine_laws.proofs.MachineModel.Twins.{each_weaker}
use Rattle.running_nodes.specs.Stands.{message_size}
use Rattle.running_laws.specs.Moments.{IsMoment}
use Rattle.running_laws.proofs.Moments.{moment_sound}

pub moment_joined : (w : MachineState) → IsMoment w → Each (λ s. s.is_down ≡ false → IsJoined s) w.sessions
moment_joined w m =
    each_weaker (Fact message_size) (λ s. s.is_down ≡ false → IsJoined s) (joined_is message_size) w.sessions
    (moment_sound w m)
