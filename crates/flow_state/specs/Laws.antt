-- What a table of flows changes, as relations.
use Rattle.std.specs.Prelude.{◌≡◌, ◌≢◌, ◌↔◌, ℕ, ◌<◌, IsTrue, List, [], ◌∷◌, ◌++◌, length, reverse, Option, Some, None, ⊤}
use Rattle.std.specs.List.{All, AllByRecursion, Contains}
use Rattle.ov_types.specs.declared.numbers.PortNo.{PortNo}
use Rattle.ov_types.specs.declared.numbers.ServiceNo.{ServiceNo}
use Rattle.ov_types.specs.declared.packet.Outcome.{Outcome}
use Rattle.ov_types.specs.declared.packet.Outcome.TheVariants.{Delivered, Dropped}
use Rattle.ov_types.specs.declared.packet.Packet.{Packet}
use Rattle.ov_types.specs.declared.packet.RuleNo.{RuleNo}
use Rattle.ov_types.specs.declared.packet.Why.{Why}
use Rattle.ov_types.specs.declared.packet.Why.TheVariants.{Denied}
use Rattle.config_types.specs.Form.{has_config_form}
use Rattle.config_types.specs.declared.config.Config.{Config}
use Rattle.config_check.specs.Rules.{first_broken}
use Rattle.reach_plain.specs.Reachability.{reachability}
use Rattle.flow_state.specs.declared.step.FlowStep.{FlowStep}
use Rattle.flow_state.specs.declared.step.FlowStep.TheVariants as Steps
use Rattle.flow_state.specs.declared.flow.Flow.{Flow}
use Rattle.flow_state.specs.Flows.{PermitsOneWay, forward_packet, reply_packet}
use Rattle.flow_state.specs.Recent.{each_once}
use Rattle.flow_state.specs.Replay.{Replay, after_step, edit_answer, fault_in, table_of}
use Rattle.flow_state.specs.declared.answer.FlowAnswer.{FlowAnswer}
use Rattle.flow_state.specs.declared.answer.FlowAnswer.TheVariants.{Traced}

-- a drop is not a denial
abbrev pub IsNoDenial : Why → Type 0
IsNoDenial (Denied rule) = ⊥
IsNoDenial why = Unit {0}

-- a packet is the reply of a flow in the table, and passes to that flow's source, through the services of its forward
-- packet in reverse
pub record IsLetBack (c : Config) (flows : List Flow) (p : Packet) (number : PortNo) (services : List ServiceNo) : Type 0 where
  pub flow : Flow
  pub stands : Contains flows flow
  pub reply : reply_packet c flow ≡ Some p
  pub source : flow.source ≡ number
  pub forward : Packet
  pub forward_is : forward_packet c flow ≡ Some forward
  pub through : List ServiceNo
  pub delivered : reachability c forward ≡ Delivered flow.target through
  pub back : reverse through ≡ services

-- a packet uses a flow: it is the forward packet of one that is permitted one way, or it is denied and is the reply of
-- one in the table
pub record IsForwardUse (c : Config) (p : Packet) (f : Flow) : Type 0 where
  pub permitted : PermitsOneWay c f
  pub forward : forward_packet c f ≡ Some p

pub record IsReplyUse (c : Config) (flows : List Flow) (p : Packet) (f : Flow) : Type 0 where
  pub rule : Option RuleNo
  pub denied : reachability c p ≡ Dropped (Denied rule)
  pub stands : Contains flows f
  pub reply : reply_packet c f ≡ Some p

-- since the last use of a flow, in a list of uses with the last first, fewer other flows than there is room for were
-- used
pub record WasUsedLast (capacity : ℕ) (uses : List Flow) (f : Flow) : Type 0 where
  pub newer : List Flow
  pub older : List Flow
  pub is : uses ≡ newer ++ f ∷ older
  pub spares : AllByRecursion (λ g. g ≢ f) newer
  pub few : length (each_once newer) < capacity

-- what a moment of a replay is: a valid configuration, which permits one way each flow that was used under it
pub record IsMoment (s : Replay) : Type 0 where
  pub form : IsTrue (has_config_form s.checked.config)
  pub valid : first_broken s.checked.topology s.checked.config ≡ None
  pub permitted : All (PermitsOneWay s.checked.config) s.uses

-- an outcome is that of a packet beside the flows of a table, in the words of a user: what is delivered stays delivered, a
-- drop without a denial stays, and a denied packet passes exactly where it answers a flow that stands in the table
pub record IsBeside (c : Config) (flows : List Flow) (p : Packet) (outcome : Outcome) : Type 0 where
  pub delivered : (number : PortNo) (services : List ServiceNo) → reachability c p ≡ Delivered number services
      → outcome ≡ Delivered number services
  pub dropped : (why : Why) → IsNoDenial why → reachability c p ≡ Dropped why → outcome ≡ Dropped why
  pub passes : (rule : Option RuleNo) (number : PortNo) (services : List ServiceNo)
      → reachability c p ≡ Dropped (Denied rule)
      → (outcome ≡ Delivered number services) ↔ IsLetBack c flows p number services
  pub stays : (rule : Option RuleNo) → reachability c p ≡ Dropped (Denied rule)
      → (outcome ≡ Dropped (Denied rule)) ↔ All (λ f. reply_packet c f ≢ Some p) flows

-- an answer is that to a packet at a moment of a replay: its outcome beside the flows that stand by their last uses, each
-- of which is permitted one way. So the table opens no way between two networks that no rule of one direction opened
pub record IsTraced (capacity : ℕ) (s : Replay) (p : Packet) (answer : FlowAnswer) : Type 0 where
  pub moment : IsMoment s
  pub permitted : All (PermitsOneWay s.checked.config) (table_of capacity s)
  pub standing : (f : Flow) → Contains (table_of capacity s) f ↔ WasUsedLast capacity s.uses f
  pub outcome : Outcome
  pub beside : IsBeside s.checked.config (table_of capacity s) p outcome
  pub is : answer ≡ Traced outcome

-- each step is answered, with what those before it left: an edit is made, or refused with its fault, and a packet is traced
abbrev pub AreAnswered : ℕ → Replay → List FlowStep → List FlowAnswer → Type 0
AreAnswered capacity s [] [] = ⊤
AreAnswered capacity s [] (a ∷ given) = ⊥
AreAnswered capacity s (x ∷ xs) [] = ⊥
AreAnswered capacity s (Steps.Edit e ∷ xs) (a ∷ given) =
    (a ≡ edit_answer (fault_in e s)) × AreAnswered capacity (after_step capacity (Steps.Edit e) s) xs given
AreAnswered capacity s (Steps.Trace p ∷ xs) (a ∷ given) =
    IsTraced capacity s p a × AreAnswered capacity (after_step capacity (Steps.Trace p) s) xs given
