-- What the answers of a schedule are counted to be.
use Rattle.std.specs.Prelude.{ℕ, ◌+◌, ◌==◌, ◌&&◌, List, [], ◌∷◌, Bool, true, false, if◌then◌else◌}
use Rattle.std.specs.declared.option.Option.TheVariants.{Some, None}
use Rattle.std.specs.Cmp.Lexicographic.{pointwise}
use Rattle.ov_types.specs.declared.packet.Outcome.{Outcome}
use Rattle.ov_types.specs.declared.packet.Outcome.TheVariants.{Delivered, Dropped}
use Rattle.ov_types.specs.declared.packet.Packet.{Packet}
use Rattle.ov_types.specs.declared.packet.Why.{Why}
use Rattle.ov_types.specs.declared.packet.Why.TheVariants.{NoSourcePort, NoDestination, NoRoute, Denied, NoLabel}
use Rattle.ov_types.specs.declared.packet.Why.TheVariants.{TtlExpired}
use Rattle.config_check.specs.Checked.{Checked}
use Rattle.config_types.specs.declared.event.Event.{Event}
use Rattle.config_types.specs.declared.event.Event.TheVariants.{Settle, Trace}
use Rattle.reach_plain.specs.Reachability.{reachability}
use Rattle.schedule_script.specs.declared.answer.Answer.TheVariants.{Rounds, Traced}
use Rattle.net_machine.specs.MachineLaws.Refusing.{TiedNetwork, next_tied, tied_start}
use Rattle.machine_model.specs.Events.{event_of}
use Rattle.machine_model.specs.Setup.{checked}
use Rattle.net_machine.specs.RunningNodes.Stands.{message_size}
use Rattle.schedule_script.specs.declared.tied_answer.TiedAnswer.{TiedAnswer}
use Rattle.schedule_script.specs.declared.tied_answer.TiedAnswer.TheVariants.{Answered}
use Rattle.net_machine.specs.MachineMomentLaws.Runs.{answer_tied}
use Rattle.top_call.specs.declared.tally.Tally.{Tally}

-- ---- outcomes that are one
abbrev pub same_why : Why → Why → Bool
same_why NoSourcePort NoSourcePort = true
same_why NoDestination NoDestination = true
same_why NoRoute NoRoute = true
same_why (Denied None) (Denied None) = true
same_why (Denied (Some r)) (Denied (Some s)) = (r.sequence == s.sequence) && (r.position == s.position)
same_why NoLabel NoLabel = true
same_why TtlExpired TtlExpired = true
same_why _ _ = false

abbrev pub same_outcome : Outcome → Outcome → Bool
same_outcome (Delivered port services) (Delivered port' services') =
    (port.0 == port'.0) && pointwise (λ s t. s.0 == t.0) services services'
same_outcome (Dropped why) (Dropped why') = same_why why why'
same_outcome _ _ = false

abbrev pub is_delivered : Outcome → Bool
is_delivered (Delivered port services) = true
is_delivered (Dropped why) = false

abbrev pub one_if : Bool → ℕ
one_if b = if b then 1 else 0

-- ---- counting
-- a settle more: what was the last one is the one before it
abbrev pub settled : TiedAnswer → Tally → Tally
settled (Answered (Rounds rounds is_settled)) t =
    record { rounds = (t.rounds.1, rounds); delivered = t.delivered; agreed = t.agreed }
settled answer t = t

-- a trace more, under this configuration
abbrev pub traced : Checked → Packet → TiedAnswer → Tally → Tally
traced y p (Answered (Traced outcome)) t = record {
  rounds = t.rounds;
  delivered = t.delivered + one_if (is_delivered outcome);
  agreed = t.agreed + one_if (same_outcome outcome (reachability y.config p));
}
traced y p answer t = t

-- an event more, which left this configuration, and its answer
abbrev pub counted : Checked → Event → TiedAnswer → Tally → Tally
counted y Settle answer t = settled answer t
counted y (Trace p) answer t = traced y p answer t
counted y event answer t = t

-- the events of a schedule from a state, counted on
abbrev pub tally_from : TiedNetwork → List Event → Tally → Tally
tally_from s [] t = t
tally_from s (e ∷ es) t =
    let s' = next_tied message_size s (event_of e) in
    tally_from s' es (counted (checked s'.network.setup) e (answer_tied s (event_of e)) t)

abbrev pub nothing : Tally
nothing = record { rounds = (0, 0); delivered = 0; agreed = 0 }

-- the rounds of the last settle but one and of the last, how many packets were delivered, and how many had the outcome
-- that the configuration of their moment has for them
unfoldable pub tally : Checked → List Event → Tally
tally x es = tally_from (tied_start x) es nothing
