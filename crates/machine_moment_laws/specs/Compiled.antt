-- What is promised of the answers of a schedule.
use Rattle.std.specs.Prelude.{◌≡◌, ◌≢◌, ℕ, suc, List, map, take, slice_get, true, ⊤}
use Rattle.std.specs.List.{AllPairs}
use Rattle.std.specs.declared.option.Option.TheVariants.{Some}
use Rattle.ov_types.specs.declared.packet.Outcome.{Outcome}
use Rattle.ov_types.specs.declared.packet.Outcome.TheVariants.{Delivered, Dropped}
use Rattle.ov_types.specs.declared.rows.NodeId.{NodeId}
use Rattle.ov_types.specs.declared.rows.NodeRows.TheVariants as rows
use Rattle.config_types.specs.declared.event.Event.{Event}
use Rattle.config_types.specs.declared.event.Event.TheVariants.{Show, Trace}
use Rattle.config_types.specs.declared.topology.Node.{Node}
use Rattle.config_check.specs.Checked.{Checked}
use Rattle.reach_plain.specs.Reachability.{reachability}
use Rattle.machine_laws.specs.TransformModel.Compiled.{agent_rows}
use Rattle.machine_laws.specs.TransformModel.Tables.{control_rows}
use Rattle.schedule_script.specs.declared.answer.Answer.{Answer}
use Rattle.schedule_script.specs.declared.answer.Answer.TheVariants.{Shown, Traced}
use Rattle.node_model.specs.Members.{Member}
use Rattle.machine_laws.specs.MachineModel.Setup.{checked}
use Rattle.machine_laws.specs.MachineModel.Network.{start}
use Rattle.machine_laws.specs.MachineModel.Steps.{is_settled}
use Rattle.machine_laws.specs.MachineModel.Events.{event_of, run}
use Rattle.running_nodes.specs.Stands.{message_size, moment}
use Rattle.machine_moment_laws.specs.Ends.{SettlesAtOnce}

-- what the events of a schedule answer, from a network that is empty
abbrev pub answers : Checked → List Event → List Answer
answers x es = run message_size (start x) (map event_of es)

-- no service is passed twice
abbrev pub PassesEachOnce : Outcome → Type 0
PassesEachOnce (Delivered port services) = AllPairs (λ s u. s.0 ≢ u.0) services
PassesEachOnce (Dropped why) = ⊤

-- what a settled network with this configuration answers: a control node shows the tables of all instances, an agent
-- the rows of its node's address, and a packet goes where policies permit it
abbrev pub AnswersCompiled : Checked → Event → Answer → Type 0
AnswersCompiled y (Show name) answer =
    ((c : NodeId) → Member c y.topology.controllers → c.name ≡ name
    → answer ≡ Shown (rows.Control (control_rows y.topology y.config)))
    × ((n : Node) → Member n y.topology.nodes → n.name ≡ name
    → answer ≡ Shown (rows.Agent (agent_rows y.topology y.config n.address)))
AnswersCompiled y (Trace p) answer =
    (answer ≡ Traced (reachability y.config p)) × PassesEachOnce (reachability y.config p)
AnswersCompiled y e answer = ⊤

-- the event of a place, and its answer
pub record StandsAt (es : List Event) (answered : List Answer) (place : ℕ) (e : Event) (a : Answer) : Type 0 where
  pub event : slice_get es place ≡ Some e
  pub answer : slice_get answered place ≡ Some a

-- after any events, once every session is up and nothing is in flight, what is shown is what the configuration of that
-- moment compiles to, and a packet goes exactly where its policies permit; and `settle` always leads there
pub record AreAsCompiled (x : Checked) (es : List Event) (answered : List Answer) : Type 0 where
  pub settled : (place : ℕ) (e : Event) (a : Answer) → StandsAt es answered place e a
      → is_settled (moment x (take place es)) ≡ true → AnswersCompiled (checked (moment x (take place es)).setup) e a
  pub settles : (place : ℕ) (e : Event) (a : Answer) → StandsAt es answered place e a
      → SettlesAtOnce (moment x (take place es)) e a (moment x (take (suc place) es))
