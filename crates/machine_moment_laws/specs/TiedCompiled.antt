-- What is promised of the answers of a schedule where ties are kept, at its settled moments.
use Rattle.std.specs.Prelude.{◌≡◌, ℕ, suc, List, take, true}
use Rattle.config_types.specs.declared.event.Event.{Event}
use Rattle.config_check.specs.Checked.{Checked}
use Rattle.machine_laws.specs.MachineModel.Setup.{checked}
use Rattle.machine_laws.specs.MachineModel.Steps.{is_settled}
use Rattle.machine_moment_laws.specs.Compiled.{AnswersCompiled}
use Rattle.machine_moment_laws.specs.Ends.{SettlesAtOnce}
use Rattle.schedule_script.specs.Answers.{OfAnswer}
use Rattle.schedule_script.specs.declared.tied_answer.TiedAnswer.{TiedAnswer}
use Rattle.machine_laws.specs.Refusing.{TiedNetwork}
use Rattle.machine_moment_laws.specs.Isolated.{StandsAt}
use Rattle.machine_moment_laws.specs.Runs.{tied_moment}

-- what is answered at a settled moment is what its configuration compiles to
abbrev pub IsAsCompiled : TiedNetwork → Event → TiedAnswer → Type 0
IsAsCompiled s e a = is_settled s.network ≡ true → OfAnswer (AnswersCompiled (checked s.network.setup) e) e a

-- `settle` ends settled, whatever state it begins in
abbrev pub EndsAtOnce : TiedNetwork → Event → TiedAnswer → TiedNetwork → Type 0
EndsAtOnce before e a then = OfAnswer (λ b. SettlesAtOnce before.network e b then.network) e a

-- after any events, once every session is up and nothing is in flight, what is shown is what the configuration of that
-- moment compiles to, and a packet goes exactly where its policies permit; and `settle` always leads there
pub record AreAsCompiled (x : Checked) (es : List Event) (answered : List TiedAnswer) : Type 0 where
  pub settled : (place : ℕ) (e : Event) (a : TiedAnswer) → StandsAt es answered place e a
      → IsAsCompiled (tied_moment x (take place es)) e a
  pub settles : (place : ℕ) (e : Event) (a : TiedAnswer) → StandsAt es answered place e a
      → EndsAtOnce (tied_moment x (take place es)) e a (tied_moment x (take (suc place) es))
