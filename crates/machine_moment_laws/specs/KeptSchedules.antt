-- Packets that configurations keep to a port are delivered there, said of the answers of a schedule, place by place,
-- where ties are kept.
use Rattle.std.specs.Prelude.{ℕ, List, drop, map, take, ⊤}
use Rattle.std.specs.List.{AllByRecursion}
use Rattle.ov_types.specs.declared.numbers.PortNo.{PortNo}
use Rattle.ov_types.specs.declared.packet.Outcome.{Outcome}
use Rattle.ov_types.specs.declared.packet.Packet.{Packet}
use Rattle.config_types.specs.declared.event.Event.{Event}
use Rattle.config_types.specs.declared.event.Event.TheVariants.{Trace}
use Rattle.schedule_script.specs.ConfigCheck.Checked.{Checked}
use Rattle.schedule_script.specs.declared.answer.Answer.TheVariants.{Traced}
use Rattle.schedule_script.specs.declared.tied_answer.TiedAnswer.{TiedAnswer}
use Rattle.schedule_script.specs.declared.tied_answer.TiedAnswer.TheVariants.{Answered}
use Rattle.machine_model.specs.Events.{event_of}
use Rattle.machine_laws.specs.Refusing.{kept_events}
use Rattle.machine_moment_laws.specs.Isolated.{StandsAt}
use Rattle.machine_moment_laws.specs.RunningNodes.Stands.{message_size}
use Rattle.machine_moment_laws.specs.Runs.{tied_moment}
use Rattle.hitless_cells.specs.Keeping.{Keep}
use Rattle.hitless_cells.specs.Ways.{Way}
use Rattle.machine_moment_laws.specs.Windows.{IsBeginning, IsOfOneEdit, IsOfWindow, configurations}
use Rattle.machine_moment_laws.specs.Kept.{IsDeliveredBy, IsInHand}

-- since a place of these events a window goes on: the moment there was settled with no break pending, and since then no
-- session was lost by itself, no node restarted, and no send was broken
pub record IsWindowSince (x : Checked) (since : ℕ) (es : List Event) : Type 0 where
  pub begins : IsBeginning (tied_moment x (take since es)).network
  pub goes_on : AllByRecursion IsOfWindow (map event_of (drop since es))

-- the configurations of a window: that of its first moment, and those that the accepted edits since then led to, in
-- their order
abbrev pub configurations_since : Checked → ℕ → List Event → List Checked
configurations_since x since es =
    configurations message_size (tied_moment x (take since es)).network
    (kept_events message_size (tied_moment x (take since es)) (map event_of (drop since es)))

-- a packet that these configurations keep to a port is delivered there by one of its ways: where its destination's address
-- does not change hands, and wherever there was one accepted edit at most
pub record DeliversIfKept (cs : List Checked) (p : Packet) (o : Outcome) : Type 0 where
  pub in_hand : (number : PortNo) (ways : List Way) → Keep cs p number ways → IsInHand cs p number ways
      → IsDeliveredBy cs p number ways o
  pub in_one_edit : IsOfOneEdit cs → (number : PortNo) (ways : List Way) → Keep cs p number ways
      → IsDeliveredBy cs p number ways o

-- where an event is the trace of a packet, this is said of the packet and of the outcome that is answered
abbrev pub OfOutcome : (Packet → Outcome → Type 0) → Event → TiedAnswer → Type 0
OfOutcome Becomes (Trace p) (Answered (Traced o)) = Becomes p o
OfOutcome Becomes e a = ⊤

-- after these events, for each window that goes on
abbrev pub KeptSoFar : Checked → List Event → Event → TiedAnswer → Type 0
KeptSoFar x es e a =
    (since : ℕ) → IsWindowSince x since es → OfOutcome (DeliversIfKept (configurations_since x since es)) e a

-- at every place of a schedule
abbrev pub IsKeptThroughout : Checked → List Event → List TiedAnswer → Type 0
IsKeptThroughout x es answered =
    (place : ℕ) (e : Event) (a : TiedAnswer) → StandsAt es answered place e a → KeptSoFar x (take place es) e a
