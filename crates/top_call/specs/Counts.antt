-- What the counts of a schedule say of its answers.
use Rattle.std.specs.Prelude.{◌≡◌, ◌↔◌, ℕ, List, [], ◌∷◌, ◌++◌, Bool, true, false, take, length}
use Rattle.std.specs.List.{filter, filter_map}
use Rattle.std.specs.declared.option.Option.{Option}
use Rattle.std.specs.declared.option.Option.TheVariants.{Some, None}
use Rattle.ov_types.specs.declared.packet.Outcome.{Outcome}
use Rattle.ov_types.specs.declared.packet.Outcome.TheVariants.{Delivered}
use Rattle.ov_types.specs.declared.packet.Packet.{Packet}
use Rattle.config_check.specs.Checked.{Checked}
use Rattle.config_types.specs.declared.event.Event.{Event}
use Rattle.config_types.specs.declared.event.Event.TheVariants.{Trace}
use Rattle.reach_plain.specs.Reachability.{reachability}
use Rattle.schedule_script.specs.declared.answer.Answer.TheVariants.{Rounds, Traced}
use Rattle.schedule_script.specs.declared.tied_answer.TiedAnswer.{TiedAnswer}
use Rattle.schedule_script.specs.declared.tied_answer.TiedAnswer.TheVariants.{Answered}
use Rattle.net_machine.specs.MachineMomentLaws.Isolated.{StandsAt}
use Rattle.net_machine.specs.MachineMomentLaws.Runs.{answers, tied_moment}
use Rattle.top_call.specs.declared.tally.Tally.{Tally}

abbrev pub is_trace : Event → Bool
is_trace (Trace p) = true
is_trace event = false

-- whether an answer is that a packet was delivered
abbrev pub is_delivery : TiedAnswer → Bool
is_delivery (Answered (Traced (Delivered port services))) = true
is_delivery answer = false

-- the rounds that a settle took, where the answer is that of a settle
abbrev pub rounds_of : TiedAnswer → Option ℕ
rounds_of (Answered (Rounds rounds is)) = Some rounds
rounds_of answer = None

-- each packet that was traced has the outcome that the configuration of its moment has for it
abbrev pub EachAgrees : Checked → List Event → Type 0
EachAgrees x es = (place : ℕ) (p : Packet) (o : Outcome)
    → StandsAt es (answers x es) place (Trace p) (Answered (Traced o))
    → o ≡ reachability (tied_moment x (take place es)).network.setup.config p

-- the packets that were delivered are counted; as many as were traced agree exactly where each agrees; and the rounds
-- are those of the last two settles
pub record CountsAnswers (x : Checked) (es : List Event) (t : Tally) : Type 0 where
  pub delivered : t.delivered ≡ length (filter is_delivery (answers x es))
  pub agreed : (t.agreed ≡ length (filter is_trace es)) ↔ EachAgrees x es
  pub rounds : (before : List ℕ) (one other : ℕ)
      → filter_map rounds_of (answers x es) ≡ before ++ one ∷ other ∷ [] → t.rounds ≡ (one, other)
