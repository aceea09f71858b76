-- The ties of a run so far: those of the opening configuration, and those that each accepted edit adds.
use Rattle.std.specs.Prelude.{◌≡◌, ℕ, List, [], ◌∷◌, Option, Some, None}
use Rattle.config_types.specs.declared.config.Config.{Config}
use Rattle.schedule_script.specs.ConfigCheck.Checked.{Checked}
use Rattle.schedule_script.specs.Ties.{BreaksNone, IsTiedBy, Ties}
use Rattle.schedule_script.specs.Tying.{joined, ties_of}
use Rattle.node_laws.specs.NodeModel.Members.{Member}
use Rattle.machine_model.specs.Events.{MachineEvent, Edits, after, next}
use Rattle.machine_model.specs.Moments.{ArePositive}
use Rattle.machine_model.specs.Network.{MachineState, start}
use Rattle.machine_model.specs.Session.{Message}
use Rattle.machine_model.specs.Setup.{Name, Setup, checked, edited, opening}
use Rattle.machine_laws.specs.Headline.{IsOfForm, IsWritten}
use Rattle.machine_laws.specs.TiedMoments.{DeliversToJoined}

-- the ties with those of the configuration that an edit leads to, if it is accepted
abbrev pub ties_with : Option Setup → Ties → Ties
ties_with None t = t
ties_with (Some y) t = joined t (checked y)

abbrev pub ties_next : Ties → MachineState → MachineEvent → Ties
ties_next t w (Edits e) = ties_with (edited w.setup e) t
ties_next t w _ = t

-- an accepted edit leads to a configuration of the written form that breaks no tie of the run so far
abbrev pub EditKeeps : Ties → MachineState → MachineEvent → Type 0
EditKeeps t w (Edits e) = (y : Setup) → edited w.setup e ≡ Some y → IsOfForm y × BreaksNone t y.config
EditKeeps t w _ = Unit {0}

module _ (size : Name → Message → ℕ) where
  abbrev pub ties_after : Ties → MachineState → List MachineEvent → Ties
  ties_after t w [] = t
  ties_after t w (e ∷ es) = ties_after (ties_next t w e) (next size w e) es

  abbrev pub EditsKeep : Ties → MachineState → List MachineEvent → Type 0
  EditsKeep t w [] = Unit {0}
  EditsKeep t w (e ∷ es) = EditKeeps t w e × EditsKeep (ties_next t w e) (next size w e) es

  -- the configurations of a run so far
  abbrev pub configs : MachineState → List MachineEvent → List Config
  configs w [] = w.setup.config ∷ []
  configs w (e ∷ es) = w.setup.config ∷ configs (next size w e) es

-- after any schedule from a valid configuration, whose accepted edits break no tie of the run so far: of the ties, of
-- the configurations so far, and of the network
abbrev pub AtMomentsOfRuns : (Ties → List Config → MachineState → Type 0) → Type 0
AtMomentsOfRuns P =
    (size : Name → Message → ℕ) → ArePositive size
    → (x : Checked) → IsWritten (opening x)
    → (es : List MachineEvent) → EditsKeep size (ties_of x) (start x) es
    → P (ties_after size (ties_of x) (start x) es) (configs size (start x) es) (after size (start x) es)

-- the ties of the run so far join the two ports of each packet that is delivered
abbrev pub IsIsolated : Ties → List Config → MachineState → Type 0
IsIsolated t cs w = DeliversToJoined t w

-- each configuration so far is as the ties have it
abbrev pub HasAllTies : Ties → List Config → MachineState → Type 0
HasAllTies t cs w = (c : Config) → Member c cs → IsTiedBy t c
