-- Packets pass only as configurations so far permitted, said of the answers of a schedule, place by place.
use Rattle.std.specs.Prelude.{ℕ, List, take, ⊤}
use Rattle.ov_types.specs.declared.packet.Outcome.{Outcome}
use Rattle.ov_types.specs.declared.packet.Packet.{Packet}
use Rattle.config_types.specs.declared.event.Event.{Event}
use Rattle.config_types.specs.declared.event.Event.TheVariants.{Trace}
use Rattle.schedule_script.specs.ConfigCheck.Checked.{Checked}
use Rattle.schedule_script.specs.declared.answer.Answer.TheVariants.{Traced}
use Rattle.schedule_script.specs.declared.tied_answer.TiedAnswer.{TiedAnswer}
use Rattle.schedule_script.specs.declared.tied_answer.TiedAnswer.TheVariants.{Answered}
use Rattle.machine_moment_laws.specs.Isolated.{StandsAt}
use Rattle.machine_moment_laws.specs.Runs.{configs_so_far}
use Rattle.machine_moment_laws.specs.Permission.{PassesAsPermitted}

-- where an event is the trace of a packet, this is said of the packet and of the outcome that is answered
abbrev pub OfOutcome : (Packet → Outcome → Type 0) → Event → TiedAnswer → Type 0
OfOutcome Becomes (Trace p) (Answered (Traced o)) = Becomes p o
OfOutcome Becomes e a = ⊤

-- a packet that is traced after these events passes only as the configurations so far permitted
abbrev pub PermittedSoFar : Checked → List Event → Event → TiedAnswer → Type 0
PermittedSoFar x es e a = OfOutcome (PassesAsPermitted (configs_so_far x es)) e a

-- at every place of a schedule, settled or not
abbrev pub IsPermittedThroughout : Checked → List Event → List TiedAnswer → Type 0
IsPermittedThroughout x es answered =
    (place : ℕ) (e : Event) (a : TiedAnswer) → StandsAt es answered place e a → PermittedSoFar x (take place es) e a
