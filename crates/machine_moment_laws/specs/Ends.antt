-- What `settle` ends in.
use Rattle.std.specs.Prelude.{◌≡◌, ◌≤◌, ℕ, ◌+◌, true, ⊤}
use Rattle.config_types.specs.declared.event.Event.{Event}
use Rattle.config_types.specs.declared.event.Event.TheVariants.{Settle}
use Rattle.schedule_script.specs.declared.answer.Answer.{Answer}
use Rattle.schedule_script.specs.declared.answer.Answer.TheVariants.{Rounds}
use Rattle.machine_laws.specs.MachineModel.Setup.{longest}
use Rattle.machine_laws.specs.MachineModel.Network.{MachineState}
use Rattle.machine_laws.specs.MachineModel.Steps.{is_settled}

-- the answer is that the network settled, in at most six rounds more than the longest chain in effect has services; and
-- it is settled then
pub record EndsSettled (before : MachineState) (answer : Answer) (then : MachineState) : Type 0 where
  pub rounds : ℕ
  pub is : answer ≡ Rounds rounds true
  pub few : rounds ≤ longest before.setup + 6
  pub settled : is_settled then ≡ true

-- whatever state it begins in, `settle` does so
abbrev pub SettlesAtOnce : MachineState → Event → Answer → MachineState → Type 0
SettlesAtOnce before Settle answer then = EndsSettled before answer then
SettlesAtOnce before event answer then = ⊤
