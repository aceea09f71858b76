-- What holds after any schedule of a network whose configurations have sound low-level objects.
use Rattle.std.specs.Prelude.{◌≡◌, ℕ, ◌+◌, ◌≤◌, List, true}
use Rattle.schedule_script.specs.ConfigCheck.Checked.{Checked}
use Rattle.machine_model.specs.Setup.{Name, longest, opening}
use Rattle.machine_model.specs.Session.{Message}
use Rattle.machine_model.specs.Network.{MachineState, start}
use Rattle.machine_model.specs.Steps.{is_settled, settle}
use Rattle.machine_model.specs.Events.{MachineEvent, after, is_node, shown}
use Rattle.machine_model.specs.Moments.{ArePositive, EditsAreValid}
use Rattle.machine_laws.specs.Settling.{SettlesIn}
use Rattle.machine_laws.specs.Compiled.{compiled}
use Rattle.machine_laws.specs.Setups.{IsSoundSetup}

abbrev pub AtMoments : ((Name → Message → ℕ) → MachineState → Type 0) → Type 0
AtMoments P =
    (size : Name → Message → ℕ) → ArePositive size
    → (x : Checked) → IsSoundSetup (opening x)
    → (es : List MachineEvent) → EditsAreValid size IsSoundSetup (start x) es
    → P size (after size (start x) es)

-- at a settled moment each node shows its compiled rows
abbrev pub ShowsCompiled : MachineState → Type 0
ShowsCompiled w =
    is_settled w ≡ true → (name : Name) → is_node w name ≡ true → shown w name ≡ compiled w.setup name

-- where no session is down and no break is pending, as many rounds as the longest chain in effect has services and five
-- more end settled
abbrev pub SettlesInTime : (Name → Message → ℕ) → MachineState → Type 0
SettlesInTime size w = SettlesIn (longest w.setup + 5) size w

-- `settle` always ends settled, in at most six rounds more than the longest chain in effect has services
abbrev pub SettleSettles : MachineState → Type 0
SettleSettles w = (is_settled (settle w).1 ≡ true) × ((settle w).0 ≤ longest w.setup + 6)
