-- Packets that configurations keep to a port are delivered again, said of the answers of a schedule, place by place,
-- where ties are kept.
use Rattle.std.specs.Prelude.{◌≡◌, ◌≤◌, ℕ, ◌+◌, List, [], ◌∷◌, drop, length, map, take}
use Rattle.std.specs.List.{AllByRecursion}
use Rattle.ov_types.specs.declared.numbers.PortNo.{PortNo}
use Rattle.ov_types.specs.declared.numbers.ServiceNo.{ServiceNo}
use Rattle.ov_types.specs.declared.packet.Outcome.{Outcome}
use Rattle.ov_types.specs.declared.packet.Outcome.TheVariants.{Delivered}
use Rattle.ov_types.specs.declared.packet.Packet.{Packet}
use Rattle.config_types.specs.declared.event.Event.{Event}
use Rattle.schedule_script.specs.ConfigCheck.Checked.{Checked}
use Rattle.schedule_script.specs.declared.tied_answer.TiedAnswer.{TiedAnswer}
use Rattle.reach_plain.specs.Reachability.{reachability}
use Rattle.machine_model.specs.Events.{event_of}
use Rattle.machine_laws.specs.Refusing.{kept_events}
use Rattle.machine_moment_laws.specs.Isolated.{StandsAt}
use Rattle.machine_moment_laws.specs.RunningNodes.Stands.{message_size}
use Rattle.machine_moment_laws.specs.Runs.{tied_moment}
use Rattle.hitless_cells.specs.Keeping.{Keep}
use Rattle.hitless_cells.specs.Ways.{Way}
use Rattle.machine_moment_laws.specs.Windows.{IsOfWindow}
use Rattle.machine_moment_laws.specs.Kept.{IsDeliveredBy, IsInHand}
use Rattle.machine_moment_laws.specs.KeptSchedules.{OfOutcome, configurations_since}
use Rattle.machine_moment_laws.specs.Recovery.{NoneIsDown, rounds_in}
use Rattle.machine_moment_laws.specs.Again.{VisitAtMost}

-- at a place of these events no session was down, and since then no session was lost by itself, no node restarted, and no
-- send was broken
pub record GoesOnSince (x : Checked) (since : ℕ) (es : List Event) : Type 0 where
  pub begins : NoneIsDown (tied_moment x (take since es)).network
  pub goes_on : AllByRecursion IsOfWindow (map event_of (drop since es))

-- the rounds since then, and each settling as one
abbrev pub rounds_since : Checked → ℕ → List Event → ℕ
rounds_since x since es =
    rounds_in message_size (tied_moment x (take since es)).network
    (kept_events message_size (tied_moment x (take since es)) (map event_of (drop since es)))

-- a packet that some configurations keep to a port is delivered once enough rounds have passed, and so is all that a
-- configuration delivers that is the only one
pub record DeliversAgainSince (rounds : ℕ) (cs : List Checked) (p : Packet) (o : Outcome) : Type 0 where
  pub kept : (number : PortNo) (ways : List Way) → Keep cs p number ways
      → IsInHand cs p number ways → (most : ℕ) → VisitAtMost most cs p number ways → most + 5 ≤ rounds
      → IsDeliveredBy cs p number ways o
  pub by_one : (c : Checked) → cs ≡ c ∷ [] → (number : PortNo) (services : List ServiceNo)
      → reachability c.config p ≡ Delivered number services → length services + 5 ≤ rounds → o ≡ Delivered number services

-- after these events, since each such place
abbrev pub AgainSoFar : Checked → List Event → Event → TiedAnswer → Type 0
AgainSoFar x es e a =
    (since : ℕ) → GoesOnSince x since es
    → OfOutcome (DeliversAgainSince (rounds_since x since es) (configurations_since x since es)) e a

-- at every place of a schedule
abbrev pub IsAgainThroughout : Checked → List Event → List TiedAnswer → Type 0
IsAgainThroughout x es answered =
    (place : ℕ) (e : Event) (a : TiedAnswer) → StandsAt es answered place e a → AgainSoFar x (take place es) e a
