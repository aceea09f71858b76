-- Isolation at every moment, settled or not: between which ports a packet may be delivered.
use Rattle.std.specs.Prelude.{◌≡◌, ◌⊎◌, ℕ, List, take, slice_get, ⊤}
use Rattle.std.specs.declared.option.Option.TheVariants.{Some}
use Rattle.ov_types.specs.declared.numbers.InstanceId.{InstanceId}
use Rattle.ov_types.specs.declared.numbers.PortNo.{PortNo}
use Rattle.ov_types.specs.declared.packet.Outcome.TheVariants.{Delivered}
use Rattle.config_types.specs.declared.config.Config.{Config}
use Rattle.config_types.specs.declared.event.Event.{Event}
use Rattle.config_types.specs.declared.event.Event.TheVariants.{Trace}
use Rattle.config_check.specs.Checked.{Checked}
use Rattle.schedule_script.specs.Ties.{HasPort, HasRelated, Ties}
use Rattle.schedule_script.specs.declared.answer.Answer.TheVariants.{Traced}
use Rattle.schedule_script.specs.declared.tied_answer.TiedAnswer.{TiedAnswer}
use Rattle.schedule_script.specs.declared.tied_answer.TiedAnswer.TheVariants.{Answered}
use Rattle.machine_laws.specs.TiedMoments.{AreJoined}
use Rattle.machine_laws.specs.Relating.{AreRelatedIn, StandsIn, StoodRelated}
use Rattle.machine_laws.specs.Stood.{InSome, WereJoined}
use Rattle.machine_moment_laws.specs.Runs.{configs_so_far}

-- both port numbers stood in configurations so far, in networks that are one or that a configuration so far related; and
-- whichever networks configurations so far had the two in, they are one or were so related
pub record StayJoined (cs : List Config) (p q : PortNo) : Type 0 where
  pub stood : WereJoined cs p q
  pub near : (m n : InstanceId) → InSome cs (λ c. HasPort c p m) → InSome cs (λ c. HasPort c q n)
      → (m ≡ n) ⊎ InSome cs (λ c. HasRelated c m n)

-- a fact of the port that a packet reaches, where the answer is its delivery
abbrev pub IfDelivered : (PortNo → Type 0) → TiedAnswer → Type 0
IfDelivered Reaches (Answered (Traced (Delivered q services))) = Reaches q
IfDelivered Reaches a = ⊤

-- where an event is the trace of a packet and is answered with its delivery, this is said of the packet's port and of the
-- port that it reaches
abbrev pub OfDelivery : (PortNo → PortNo → Type 0) → Event → TiedAnswer → Type 0
OfDelivery Joins (Trace p) a = IfDelivered (Joins p.source) a
OfDelivery Joins e a = ⊤

-- a packet that is delivered after these events stays among ports so joined
abbrev pub DeliversSoFar : Checked → List Event → Event → TiedAnswer → Type 0
DeliversSoFar x es e a = OfDelivery (StayJoined (configs_so_far x es)) e a

-- a packet that is delivered stays among ports that ties join
abbrev pub DeliversTied : Ties → Event → TiedAnswer → Type 0
DeliversTied t e a = OfDelivery (AreJoined t) e a

-- the event of a place of a schedule, and its answer
pub record StandsAt (es : List Event) (answered : List TiedAnswer) (place : ℕ) (e : Event) (a : TiedAnswer) : Type 0
  where
    pub event : slice_get es place ≡ Some e
    pub answer : slice_get answered place ≡ Some a

-- at every place of a schedule, settled or not
abbrev pub IsIsolated : Checked → List Event → List TiedAnswer → Type 0
IsIsolated x es answered =
    (place : ℕ) (e : Event) (a : TiedAnswer) → StandsAt es answered place e a → DeliversSoFar x (take place es) e a

-- ---- isolation with no definition of ties
-- both port numbers stood in configurations so far, in networks that are one or between which a configuration so far had a
-- rule that lets packets through; and so are whichever networks configurations so far had the two in
pub record StayRelated (cs : List Config) (p q : PortNo) : Type 0 where
  pub stood : StoodRelated cs p q
  pub near : (m n : InstanceId) → InSome cs (λ c. StandsIn c p m) → InSome cs (λ c. StandsIn c q n)
      → (m ≡ n) ⊎ InSome cs (λ c. AreRelatedIn c m n)

-- a packet that is delivered after these events stays among ports so related
abbrev pub DeliversRelated : Checked → List Event → Event → TiedAnswer → Type 0
DeliversRelated x es e a = OfDelivery (StayRelated (configs_so_far x es)) e a

-- at every place of a schedule, settled or not
abbrev pub StaysAmongRelated : Checked → List Event → List TiedAnswer → Type 0
StaysAmongRelated x es answered =
    (place : ℕ) (e : Event) (a : TiedAnswer) → StandsAt es answered place e a → DeliversRelated x (take place es) e a
