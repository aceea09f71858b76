-- Packets that the policies of the moment refuse are dropped, said of the answers of a schedule, place by place.
use Rattle.std.specs.Prelude.{◌≡◌, ℕ, List, drop, map, take, true, ⊤}
use Rattle.ov_types.specs.declared.packet.Outcome.{Outcome}
use Rattle.ov_types.specs.declared.packet.Packet.{Packet}
use Rattle.config_types.specs.declared.event.Event.{Event}
use Rattle.config_types.specs.declared.event.Event.TheVariants.{Trace}
use Rattle.schedule_script.specs.ConfigCheck.Checked.{Checked}
use Rattle.schedule_script.specs.declared.answer.Answer.TheVariants.{Traced}
use Rattle.schedule_script.specs.declared.tied_answer.TiedAnswer.{TiedAnswer}
use Rattle.schedule_script.specs.declared.tied_answer.TiedAnswer.TheVariants.{Answered}
use Rattle.machine_model.specs.Events.{event_of}
use Rattle.machine_model.specs.Rounds.{is_unbroken}
use Rattle.machine_moment_laws.specs.Isolated.{StandsAt}
use Rattle.machine_moment_laws.specs.Runs.{tied_moment}
use Rattle.machine_moment_laws.specs.Revocation.{DropsIfRefused, HasTwoRounds}

-- a fact of what becomes of a packet, where the answer says it
abbrev pub IfTraced : (Outcome → Type 0) → TiedAnswer → Type 0
IfTraced Becomes (Answered (Traced o)) = Becomes o
IfTraced Becomes a = ⊤

-- where an event is the trace of a packet, this is said of the packet and of what becomes of it
abbrev pub OfTrace : (Packet → Outcome → Type 0) → Event → TiedAnswer → Type 0
OfTrace Becomes (Trace p) a = IfTraced (Becomes p) a
OfTrace Becomes e a = ⊤

-- after these events: where since some place of them they did nothing but deliver and look, with two rounds among that, and
-- no break was pending there, a packet that the policies of the moment refuse is answered as dropped
abbrev pub RevokedSoFar : Checked → List Event → Event → TiedAnswer → Type 0
RevokedSoFar x es e a =
    (since : ℕ) → is_unbroken (tied_moment x (take since es)).network ≡ true → HasTwoRounds (map event_of (drop since es))
    → OfTrace (DropsIfRefused (tied_moment x es).network.setup.config) e a

-- at every place of a schedule
abbrev pub IsRevoked : Checked → List Event → List TiedAnswer → Type 0
IsRevoked x es answered =
    (place : ℕ) (e : Event) (a : TiedAnswer) → StandsAt es answered place e a → RevokedSoFar x (take place es) e a
