-- A run that keeps ties: its moments, its configurations so far, and what its events answer.
use Rattle.std.specs.Prelude.{ℕ, List, [], ◌∷◌, map}
use Rattle.std.specs.declared.option.Option.{Option}
use Rattle.std.specs.declared.option.Option.TheVariants.{Some, None}
use Rattle.config_types.specs.declared.config.Config.{Config}
use Rattle.config_types.specs.declared.event.Event.{Event as Written}
use Rattle.config_check.specs.Checked.{Checked}
use Rattle.schedule_script.specs.Broken.{broken_tie}
use Rattle.schedule_script.specs.Ties.{Ties}
use Rattle.schedule_script.specs.declared.breaking.Tie.{Tie}
use Rattle.schedule_script.specs.declared.answer.Answer.{Answer}
use Rattle.schedule_script.specs.declared.tied_answer.TiedAnswer.{TiedAnswer}
use Rattle.schedule_script.specs.declared.tied_answer.TiedAnswer.TheVariants.{Answered, EditTied}
use Rattle.machine_laws.specs.MachineModel.Events.{MachineEvent, Edits, answer_to, event_of}
use Rattle.machine_laws.specs.MachineModel.Network.{start}
use Rattle.machine_laws.specs.MachineModel.Session.{Message}
use Rattle.machine_laws.specs.MachineModel.Setup.{Name, Setup, checked, edited}
use Rattle.running_nodes.specs.Stands.{message_size}
use Rattle.machine_laws.specs.Refusing.{TiedNetwork, after_tied, kept_events, next_tied, tied_start}
use Rattle.machine_laws.specs.Running.{configs}

-- the first tie that an edit would break which leads to this configuration, where it has no other fault
abbrev pub broken_by : Ties → Option Setup → Option Tie
broken_by t None = None
broken_by t (Some y) = broken_tie t (checked y)

-- only an edit breaks ties
abbrev pub tie_broken : TiedNetwork → MachineEvent → Option Tie
tie_broken s (Edits e) = broken_by s.ties (edited s.network.setup e)
tie_broken s _ = None

abbrev pub unless_tied : Option Tie → Answer → TiedAnswer
unless_tied None a = Answered a
unless_tied (Some tie) a = EditTied tie

-- what an event answers: an edit that would break a tie is refused so, and to every other event the network answers
abbrev pub answer_tied : TiedNetwork → MachineEvent → TiedAnswer
answer_tied s e = unless_tied (tie_broken s e) (answer_to s.network e)

module _ (size : Name → Message → ℕ) where
  -- the answers of a schedule
  abbrev pub run_tied : TiedNetwork → List MachineEvent → List TiedAnswer
  run_tied s [] = []
  run_tied s (e ∷ es) = answer_tied s e ∷ run_tied (next_tied size s e) es

-- the moment after these events, from a network that is empty: its ties, and the network
abbrev pub tied_moment : Checked → List Written → TiedNetwork
tied_moment x es = after_tied message_size (tied_start x) (map event_of es)

-- the configurations so far, from the opening one on
abbrev pub configs_so_far : Checked → List Written → List Config
configs_so_far x es = configs message_size (start x) (kept_events message_size (tied_start x) (map event_of es))

-- what the events of a schedule answer, from a network that is empty
abbrev pub answers : Checked → List Written → List TiedAnswer
answers x es = run_tied message_size (tied_start x) (map event_of es)
