-- What holds where a window begins, and of the configurations that it leads through.
use Rattle.std.specs.Prelude.{List, map, ℕ, [], ◌∷◌}
use Rattle.std.specs.declared.option.Option.{Option}
use Rattle.std.proofs.Common.{inl, refl, subst, sym}
use Rattle.schedule_script.specs.ConfigCheck.Checked.{Checked}
use Rattle.node_laws.specs.NodeModel.Members.{Member}
use Rattle.node_laws.proofs.NodeModel.Members.{in_left, in_right}
use Rattle.machine_model.specs.Events.{MachineEvent, Break, Connect, Deliver, DeliverOctets, Edits, Lose, Restart, Round, Settle, Show, Trace, after, next}
use Rattle.machine_model.specs.Moments.{ArePositive, EditIsValid, EditsAreValid, IsAtRest, IsLaidOut, LaidOut, nodes}
use Rattle.machine_model.specs.Network.{MachineState, start}
use Rattle.machine_model.specs.Session.{Message}
use Rattle.machine_model.specs.Setup.{Name, Setup, checked, opening}
use Rattle.machine_model.proofs.AtRest.{settled_is_at_rest}
use Rattle.machine_model.proofs.Turns.{laid_apart}
use Rattle.machine_model.proofs.Twins.{NoTwins}
use Rattle.machine_laws.specs.Headline.{IsOfForm, IsWritten}
use Rattle.machine_laws.specs.Setups.{IsSoundSetup}
use Rattle.machine_laws.proofs.EachFact.{edits_valid}
use Rattle.machine_laws.proofs.Final.{laid_out}
use Rattle.machine_laws.proofs.Written.{all_sound, sound_setup, written_now}
use Rattle.machine_moment_laws.specs.Windows.{IsBeginning, led_by, led_to, led_to_by}

-- ---- each configuration that an accepted edit leads to is one of the window
abbrev pub IsAmong : List Checked → Setup → Type 0
IsAmong cs y = Member (checked y) cs

edit_among : (cs : List Checked) (w : MachineState) (e : MachineEvent) → ((c : Checked) → Member c (led_to_by w e) → Member c cs) → EditIsValid (IsAmong cs) w e
edit_among cs w (Edits d) m = λ y is. m (checked y) (subst (λ (o : Option Setup). Member (checked y) (led_by o)) (sym is) (inl refl))
edit_among cs w (Deliver a b n) m = tt
edit_among cs w (DeliverOctets a b n) m = tt
edit_among cs w (Lose a b) m = tt
edit_among cs w (Connect a b) m = tt
edit_among cs w (Restart n) m = tt
edit_among cs w Round m = tt
edit_among cs w Settle m = tt
edit_among cs w (Show n) m = tt
edit_among cs w (Trace p) m = tt
edit_among cs w (Break a b n) m = tt

pub edits_among : (size : Name → Message → ℕ) (cs : List Checked) (w : MachineState) (es : List MachineEvent) → ((c : Checked) → Member c (led_to size w es) → Member c cs) → EditsAreValid size (IsAmong cs) w es
edits_among size cs w [] m = tt
edits_among size cs w (e ∷ es) m = (
  edit_among cs w e (λ c h. m c (in_left c (led_to_by w e) (led_to size (next size w e) es) h)),
  edits_among size cs (next size w e) es (λ c h. m c (in_right c (led_to_by w e) (led_to size (next size w e) es) h)),
)

-- ---- the moment that a window begins with
module _ (size : Name → Message → ℕ) (positive : ArePositive size) (x : Checked) (written : IsWritten (opening x)) (before : List MachineEvent) (asked : EditsAreValid size IsOfForm (start x) before) where
  abbrev pub first : MachineState
  first = after size (start x) before

  pub first_written : IsWritten first.setup
  first_written = written_now size positive x written before asked

  all_laid : EditsAreValid size LaidOut (start x) before
  all_laid = edits_valid size IsSoundSetup LaidOut laid_out (start x) before (all_sound size positive x written before asked)

  first_laid : IsLaidOut x.topology
  first_laid = laid_out (opening x) (sound_setup (opening x) written)

  pub first_apart : NoTwins (map nodes first.sessions)
  first_apart = laid_apart size positive x first_laid before all_laid

  pub first_rests : IsBeginning first → IsAtRest first
  first_rests b = settled_is_at_rest size positive x first_laid.apart before b.settled
