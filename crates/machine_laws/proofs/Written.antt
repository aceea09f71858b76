-- A valid configuration of the written form is sound, and stays so by edits of the written form.
use Rattle.std.specs.Option.{option_map}
use Rattle.std.specs.Prelude.{List, ℕ, [], ◌∷◌, ◌≡◌}
use Rattle.std.specs.declared.option.Option.TheVariants.{None, Some}
use Rattle.std.specs.declared.option.Option.{Option}
use Rattle.std.proofs.Common.{refl, subst}
use Rattle.std.proofs.lemmas.Option.{same_Some}
use Rattle.ov_types.proofs.FirstLemmas.{both_none, mapped_none}
use Rattle.config_types.specs.declared.edit.Edit.{Edit}
use Rattle.schedule_script.specs.ConfigCheck.Checked.{Checked}
use Rattle.schedule_script.specs.ConfigCheck.Edits as edits
use Rattle.schedule_script.specs.ConfigCheck.Edits.{edit_fault}
use Rattle.schedule_script.specs.ConfigCheck.Rules.{first_broken}
use Rattle.schedule_script.specs.ConfigCheck.EditFault.TheVariants.{Missing, Rule}
use Rattle.schedule_script.specs.ConfigCheck.EditFault.{EditFault}
use Rattle.schedule_script.proofs.ConfigCheck.Validity.{valid_iff}
use Rattle.transform_model.proofs.Needed.{asked}
use Rattle.node_laws.specs.NodeModel.Keys.{Key}
use Rattle.node_laws.specs.NodeModel.Values.{Value}
use Rattle.node_laws.proofs.NodeModel.Members.{none_some}
use Rattle.machine_model.specs.Events.{MachineEvent, after}
use Rattle.machine_model.specs.Moments.{ArePositive, Each, EditsAreValid}
use Rattle.machine_model.specs.Network.{View, sessions_of, start, view, views_of, wanted}
use Rattle.machine_model.specs.Session.{Message, Session}
use Rattle.machine_model.specs.Setup.{Name, Setup, checked, edited, edited_without, opening}
use Rattle.machine_laws.specs.Settling.{FairMap, WantsFair}
use Rattle.machine_laws.proofs.EachFact.{edits_valid}
use Rattle.machine_laws.proofs.RanksSettle.{kept, stay_valid}
use Rattle.machine_laws.specs.Goal.{Party}
use Rattle.machine_laws.specs.Moments.{SettleSettles, SettlesInTime, ShowsCompiled}
use Rattle.machine_laws.specs.Setups.{IsSoundSetup}
use Rattle.machine_laws.proofs.Final.{all_rounds_settle, settle_settles, tables_are_compiled}
use Rattle.machine_laws.specs.Headline.{AfterAnySchedule, IsOfForm, IsWritten}
use Rattle.machine_laws.proofs.Names.{is_named}
use Rattle.machine_laws.proofs.Sound.{homed, is_sound, within_longest}

pub sound_setup : (x : Setup) → IsWritten x → IsSoundSetup x
sound_setup x w =
    let v = (valid_iff x.topology x.config).0 w.valid in
    record { named = is_named x.topology x.config w.topology v; sound = is_sound x w.config v; within = within_longest x w.config v; homed = homed x w.config v }

-- an edit without a fault breaks no rule
pub none_broken : (y : Setup) (d : Edit) → edit_fault (checked y) d ≡ None → first_broken (edits.edited_topology d y.topology) (edits.edited_config d y.config) ≡ None
unfolding edit_fault
none_broken y d e =
    let made = first_broken (edits.edited_topology d y.topology) (edits.edited_config d y.config) in
    (mapped_none (λ r. Rule r) made).0 ((both_none (option_map (λ name. Missing name) (edits.missing_name d (checked y))) (option_map (λ r. Rule r) made)).0 e).1

pub edits_keep : (y : Setup) (d : Edit) (z : Setup) → IsWritten y → edited y d ≡ Some z → IsOfForm z → IsWritten z
edits_keep y d z w e form = by_fault (edit_fault (checked y) d) refl e
  where
    by_fault : (o : Option EditFault) → edit_fault (checked y) d ≡ o → edited_without o y d ≡ Some z → IsWritten z
    by_fault (Some f) is h = absurd (none_some z h)
    by_fault None is h = record {
      topology = form.0;
      config = form.1;
      valid = subst (λ (z : Setup). first_broken z.topology z.config ≡ None) (same_Some _ z h) (none_broken y d is);
    }

-- nothing is asked of what is told
abbrev pub anything : Party → Party → Key → Value → Type 0
anything p q k v = Unit {0}

pub each_anything : (x : Setup) (vs : List View) (own : List Session) → Each (λ s. FairMap anything (s.near.name, s.near.role) (s.far.name, s.far.role) (wanted x vs (view s))) own
each_anything x vs [] = tt
each_anything x vs (s ∷ own) = ((λ k v e. tt), each_anything x vs own)

anything_wants : WantsFair anything IsWritten
anything_wants x ss n w f = each_anything x (views_of n ss) (sessions_of n ss)

module _ (size : Name → Message → ℕ) (positive : ArePositive size) (x : Checked) (written : IsWritten (opening x)) (es : List MachineEvent) (asked : EditsAreValid size IsOfForm (start x) es) where
  all_written : EditsAreValid size IsWritten (start x) es
  all_written = stay_valid size positive x IsWritten anything anything_wants IsOfForm edits_keep written es asked

  pub written_now : IsWritten (after size (start x) es).setup
  written_now = (kept size positive x IsWritten anything anything_wants written es all_written).0

  pub all_sound : EditsAreValid size IsSoundSetup (start x) es
  all_sound = edits_valid size IsWritten IsSoundSetup sound_setup (start x) es all_written

  pub rounds_now : SettlesInTime size (after size (start x) es)
  rounds_now = all_rounds_settle size positive x (sound_setup (opening x) written) es all_sound

  pub settles_now : SettleSettles (after size (start x) es)
  settles_now = settle_settles size positive x (sound_setup (opening x) written) es all_sound

  pub compiled_now : ShowsCompiled (after size (start x) es)
  compiled_now = tables_are_compiled size positive x (sound_setup (opening x) written) es all_sound

pub written_rounds_settle : AfterAnySchedule SettlesInTime
written_rounds_settle size positive x written es asked = rounds_now size positive x written es asked

pub written_settle_settles : AfterAnySchedule (λ size w. SettleSettles w)
written_settle_settles size positive x written es asked = settles_now size positive x written es asked

pub written_tables_are_compiled : AfterAnySchedule (λ size w. ShowsCompiled w)
written_tables_are_compiled size positive x written es asked = compiled_now size positive x written es asked
