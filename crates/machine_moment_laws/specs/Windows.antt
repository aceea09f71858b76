-- A window: what happens from a settled moment on while no session is lost, no node restarts and no break is pending; and
-- the configurations that it leads through.
use Rattle.std.specs.Prelude.{◌≡◌, ◌≤◌, ℕ, List, [], ◌∷◌, ◌++◌, Option, Some, None, length, true}
use Rattle.std.specs.List.{AllByRecursion}
use Rattle.schedule_script.specs.ConfigCheck.Checked.{Checked}
use Rattle.machine_model.specs.Events.{MachineEvent, Edits, Lose, Restart, Break, after, next}
use Rattle.machine_model.specs.Moments.{ArePositive, EditsAreValid}
use Rattle.machine_model.specs.Network.{MachineState, start}
use Rattle.machine_model.specs.Rounds.{is_unbroken}
use Rattle.machine_model.specs.Session.{Message}
use Rattle.machine_model.specs.Setup.{Name, Setup, checked, edited, opening}
use Rattle.machine_model.specs.Steps.{is_settled}
use Rattle.machine_laws.specs.Headline.{IsOfForm, IsWritten}

-- no session is lost by itself, no node restarts, and no send is broken: all other events may come, in any order
abbrev pub IsOfWindow : MachineEvent → Type 0
IsOfWindow (Lose a b) = ⊥
IsOfWindow (Restart n) = ⊥
IsOfWindow (Break a b n) = ⊥
IsOfWindow _ = Unit {0}

-- the moment that a window begins with
pub record IsBeginning (w : MachineState) : Type 0 where
  pub settled : is_settled w ≡ true
  pub unbroken : is_unbroken w ≡ true

-- the configuration, with its topology, that an accepted edit leads to
abbrev pub led_by : Option Setup → List Checked
led_by None = []
led_by (Some y) = checked y ∷ []

abbrev pub led_to_by : MachineState → MachineEvent → List Checked
led_to_by w (Edits e) = led_by (edited w.setup e)
led_to_by w _ = []

module _ (size : Name → Message → ℕ) where
  -- the configurations that the accepted edits of a list of events lead to, in their order
  abbrev pub led_to : MachineState → List MachineEvent → List Checked
  led_to w [] = []
  led_to w (e ∷ es) = led_to_by w e ++ led_to (next size w e) es

  -- the configuration of the moment which a list of events begins with, and those that its accepted edits lead to
  abbrev pub configurations : MachineState → List MachineEvent → List Checked
  configurations w es = checked w.setup ∷ led_to w es

-- after any schedule that ends in such a moment, at every moment of every window from there: of the configurations of the
-- window so far, and of the network
abbrev pub AtMomentsOfWindows : (List Checked → MachineState → Type 0) → Type 0
AtMomentsOfWindows P =
    (size : Name → Message → ℕ) → ArePositive size
    → (x : Checked) → IsWritten (opening x)
    → (before : List MachineEvent) → EditsAreValid size IsOfForm (start x) before
    → IsBeginning (after size (start x) before)
    → (es : List MachineEvent) → AllByRecursion IsOfWindow es
    → EditsAreValid size IsOfForm (after size (start x) before) es
    → P (configurations size (after size (start x) before) es) (after size (after size (start x) before) es)

-- the window has one accepted edit, or none
abbrev pub IsOfOneEdit : List Checked → Type 0
IsOfOneEdit cs = length cs ≤ 2
