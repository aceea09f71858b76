-- A network is settled, and then one edit is accepted: packets still go as they went before it.
use Rattle.std.specs.Prelude.{IsTrue, List, cond, false, is_some, true, ℕ, [], ◌∷◌, ◌≡◌}
use Rattle.std.specs.declared.option.Option.TheVariants.{None, Some}
use Rattle.std.specs.declared.option.Option.{Option}
use Rattle.std.proofs.Common.{ap, inl, inr, refl, subst, sym, ◌∙◌}
use Rattle.config_types.specs.Form.{has_config_form, has_topology_form}
use Rattle.config_types.specs.declared.config.Config.{Config}
use Rattle.config_types.specs.declared.edit.Edit.{Edit}
use Rattle.schedule_script.specs.ConfigCheck.Checked.{Checked}
use Rattle.schedule_script.specs.ConfigCheck.Edits as edits
use Rattle.schedule_script.specs.ConfigCheck.Edits.{edit_fault}
use Rattle.std.specs.Prelude.{◌⊎◌}
use Rattle.ov_types.specs.declared.packet.Packet.{Packet}
use Rattle.transform_model.specs.ReachPlain.Reachability.{reachability}
use Rattle.machine_laws.specs.Headline.{IsWritten}
use Rattle.ov_types.specs.declared.numbers.InstanceId.{InstanceId}
use Rattle.std.proofs.Common.{arith}
use Rattle.std.proofs.lemmas.Option.{same_Some}
use Rattle.route_targets.specs.Forwarding.{Forwarder, forwarding}
use Rattle.schedule_script.specs.ConfigCheck.Sentences.{IsValid}
use Rattle.schedule_script.specs.ConfigCheck.EditFault.{EditFault}
use Rattle.schedule_script.proofs.ConfigCheck.Validity.{valid_iff}
use Rattle.node_laws.specs.NodeModel.Members.{Member}
use Rattle.machine_model.specs.Events.{Edits, MachineEvent, Settle, after, forwarders, next}
use Rattle.machine_model.specs.Moments.{ArePositive, EditsAreValid}
use Rattle.machine_model.specs.Network.{MachineState, start}
use Rattle.machine_model.specs.Session.{Message}
use Rattle.machine_model.specs.Setup.{Move, Name, Setup, checked, edited, edited_without, moves, opening, remade, renumbered}
use Rattle.machine_model.specs.Steps.{is_settled}
use Rattle.machine_model.proofs.Deeds.{edit_made, setup_kept}
use Rattle.machine_laws.specs.Headline.{IsOfForm}
use Rattle.machine_laws.proofs.Delivers.{written_delivers}
use Rattle.machine_laws.proofs.Written.{none_broken, written_settle_settles}
use Rattle.machine_laws.specs.Running.{configs}
use Rattle.machine_laws.specs.Untied.{moved_by}
use Rattle.machine_laws.proofs.Yet.{moves_nothing_yet}

abbrev pub size : Name → Message → ℕ
size n m = 1

pub positive : ArePositive size
positive n m = omega arith

module _ (x : Checked) (written : IsWritten (opening x)) (d : Edit) (c : Config) (fault : edit_fault x d ≡ None) (made : edits.edited d x ≡ record { topology = x.topology; config = c }) (still : moves d x.topology ≡ None) (form : IsTrue (has_config_form c)) where
  abbrev settled : MachineState
  settled = next size (start x) Settle

  abbrev pub schedule : List MachineEvent
  schedule = Settle ∷ Edits d ∷ []

  abbrev pub now : MachineState
  now = after size (start x) schedule

  abbrev changed : Checked
  changed = record { topology = x.topology; config = c }

  settled_setup : settled.setup ≡ opening x
  settled_setup = setup_kept size (start x) Settle (λ d e. no_edit d e)
    where
      no_edit : (d : Edit) → Settle ≡ Edits d → ⊥
      no_edit d e = cc

  settled_fault : edit_fault (checked settled.setup) d ≡ None
  settled_fault = ap (λ (y : Setup). edit_fault (checked y) d) settled_setup ∙ fault

  settled_made : edits.edited d (checked settled.setup) ≡ changed
  settled_made = ap (λ (y : Setup). edits.edited d (checked y)) settled_setup ∙ made

  settled_still : moved_by settled d ≡ None
  settled_still =
      ap (λ (o : Option Move). cond (is_some (edited settled.setup d)) o None) (ap (λ (y : Setup). moves d y.topology) settled_setup ∙ still)
      ∙ elim (is_some (edited settled.setup d)) as (λ b. ◌≡◌ {A = Option Move} (cond {A = Option Move} b None None) None) [ true ↦ refl | false ↦ refl ]

  pub now_config : now.setup.config ≡ c
  now_config = ap (λ (y : Checked). y.config) (edit_made size settled d settled_fault ∙ settled_made)

  edit_leads_to : (y : Setup) → edited settled.setup d ≡ Some y → checked y ≡ changed
  edit_leads_to y e =
      let there : Setup = remade (edits.edited d (checked settled.setup)) (renumbered (moves d settled.setup.topology) settled.setup.numbers) in
      let is : Some there ≡ Some y = sym (ap (λ (o : Option EditFault). edited_without o settled.setup d) settled_fault) ∙ e in
      ap checked (sym (same_Some there y is)) ∙ settled_made

  pub edit_leads : (y : Setup) → edited settled.setup d ≡ Some y → y.config ≡ c
  edit_leads y e = ap (λ (y : Checked). y.config) (edit_leads_to y e)

  pub leads_to_form : (y : Setup) → edited settled.setup d ≡ Some y → IsOfForm y
  leads_to_form y e =
      let is = sym (edit_leads_to y e) in
      (subst (λ (y : Checked). IsTrue (has_topology_form y.topology)) is written.topology, subst (λ (y : Checked). IsTrue (has_config_form y.config)) is form)

  pub asked : EditsAreValid size IsOfForm (start x) schedule
  asked = (tt, (leads_to_form, tt))

  settles : is_settled settled ≡ true
  unfolding next
  settles = (written_settle_settles size positive x written [] tt).0

  pub still_goes : (p : Packet) → forwarding (forwarders now) p ≡ reachability x.config p
  still_goes p =
      ap (λ (fs : List Forwarder). forwarding fs p) ((moves_nothing_yet size positive x written (Settle ∷ []) (tt, tt) d).0 settled_still)
      ∙ written_delivers size positive x written (Settle ∷ []) (tt, tt) settles p
      ∙ ap (λ (y : Setup). reachability y.config p) settled_setup

  pub each_is : (e : Config) → Member e (configs size (start x) schedule) → (e ≡ x.config) ⊎ (e ≡ c)
  each_is e (inl h) = inl (sym h)
  each_is e (inr (inl h)) = inl (sym h ∙ ap (λ (y : Setup). y.config) settled_setup)
  each_is e (inr (inr (inl h))) = inr (sym h ∙ now_config)
  each_is e (inr (inr (inr n))) = absurd n

  pub valid_before : IsValid x.topology x.config
  valid_before = (valid_iff x.topology x.config).0 written.valid

  pub valid_after : IsValid x.topology c
  valid_after =
      let y = edits.edited d x in
      subst (λ (y : Checked). IsValid y.topology y.config) made ((valid_iff y.topology y.config).0 (none_broken (opening x) d fault))

-- the two networks of the examples are two
pub never_one : ◌≡◌ {A = InstanceId} (record { 0 = 1 }) (record { 0 = 2 }) → ⊥
never_one e = differ (ap (λ (n : InstanceId). n.0) e)
  where
    differ : ◌≡◌ {A = ℕ} 1 2 → ⊥
    differ e = omega (arith, e)
