-- The machine that keeps ties: an edit that would break one is refused, and changes nothing.
use Rattle.std.specs.Prelude.{◌≡◌, ℕ, Bool, false, is_some, List, [], ◌∷◌, ◌++◌, Option, Some, None, if◌then◌else◌}
use Rattle.config_types.specs.declared.config.Config.{Config}
use Rattle.schedule_script.specs.ConfigCheck.Checked.{Checked}
use Rattle.schedule_script.specs.Broken.{broken_tie}
use Rattle.schedule_script.specs.Ties.{Ties}
use Rattle.schedule_script.specs.Tying.{ties_of}
use Rattle.machine_model.specs.Events.{MachineEvent, Edits, after, next}
use Rattle.machine_model.specs.Moments.{ArePositive, EditsAreValid}
use Rattle.machine_model.specs.Network.{MachineState, start}
use Rattle.machine_model.specs.Session.{Message}
use Rattle.machine_model.specs.Setup.{Name, Setup, checked, edited, opening}
use Rattle.machine_laws.specs.Headline.{IsOfForm, IsWritten}
use Rattle.machine_laws.specs.Running.{configs, ties_next}

pub record TiedNetwork : Type 0 where
  pub ties : Ties
  pub network : MachineState

abbrev pub breaks : Ties → Option Setup → Bool
breaks t None = false
breaks t (Some y) = is_some (broken_tie t (checked y))

-- an edit without another fault that breaks a tie
abbrev pub refuses : Ties → MachineState → MachineEvent → Bool
refuses t w (Edits e) = breaks t (edited w.setup e)
refuses t w _ = false

abbrev pub tied_start : Checked → TiedNetwork
tied_start x = record { ties = ties_of x; network = start x }

module _ (size : Name → Message → ℕ) where
  abbrev pub next_tied : TiedNetwork → MachineEvent → TiedNetwork
  next_tied s e =
      if refuses s.ties s.network e then s
      else record { ties = ties_next s.ties s.network e; network = next size s.network e }

  abbrev pub after_tied : TiedNetwork → List MachineEvent → TiedNetwork
  after_tied s [] = s
  after_tied s (e ∷ es) = after_tied (next_tied s e) es

  -- the events of a schedule that are not refused so
  abbrev pub kept_events : TiedNetwork → List MachineEvent → List MachineEvent
  kept_events s [] = []
  kept_events s (e ∷ es) =
      if refuses s.ties s.network e then kept_events s es
      else e ∷ kept_events (record { ties = ties_next s.ties s.network e; network = next size s.network e }) es

-- after any schedule of that machine from a valid configuration, whose edits are of the written form: of its ties, its
-- configurations so far, and its network
abbrev pub AtMomentsWithTies : (Ties → List Config → MachineState → Type 0) → Type 0
AtMomentsWithTies P =
    (size : Name → Message → ℕ) → ArePositive size
    → (x : Checked) → IsWritten (opening x)
    → (es : List MachineEvent) → EditsAreValid size IsOfForm (start x) (kept_events size (tied_start x) es)
    → P (after_tied size (tied_start x) es).ties (configs size (start x) (kept_events size (tied_start x) es))
    (after_tied size (tied_start x) es).network

-- the machine without ties takes the events that are kept to the same state
abbrev pub KeepsWhatIsNotRefused : Type 0
KeepsWhatIsNotRefused =
    (size : Name → Message → ℕ) (s : TiedNetwork) (es : List MachineEvent)
    → (after_tied size s es).network ≡ after size s.network (kept_events size s es)

-- an event more is one step more, and is kept where it is not refused
abbrev pub GoesOn : Type 0
GoesOn =
    (size : Name → Message → ℕ) (s : TiedNetwork) (es : List MachineEvent) (e : MachineEvent)
    → (after_tied size s (es ++ e ∷ []) ≡ next_tied size (after_tied size s es) e)
    × (kept_events size s (es ++ e ∷ [])
    ≡ kept_events size s es
    ++ (if refuses (after_tied size s es).ties (after_tied size s es).network e then [] else e ∷ []))
