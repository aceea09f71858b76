-- A packet joins ports of networks that are related no more.
use Rattle.std.specs.Prelude.{IsTrue, List, false, ℕ, [], ◌∷◌, ◌≡◌}
use Rattle.std.specs.declared.option.Option.TheVariants.{None, Some}
use Rattle.std.proofs.Common.{inl, inr, refl, subst, sym, ◌∙◌}
use Rattle.std.proofs.lemmas.Bool.{true≢false}
use Rattle.ov_types.specs.declared.packet.Outcome.TheVariants.{Delivered}
use Rattle.config_types.specs.Form.{has_config_form, has_controller_form, has_policy_form, has_rule_form, has_network_form, has_node_form, has_port_form, has_topology_form}
use Rattle.config_types.specs.declared.config.Config.{Config}
use Rattle.schedule_script.specs.ConfigCheck.Edits as edits
use Rattle.schedule_script.specs.ConfigCheck.Edits.{edit_fault, missing_name}
use Rattle.schedule_script.specs.ConfigCheck.Rules.{broken_id, broken_limit, broken_long, broken_loop, broken_name, broken_needs, broken_nested, broken_outside, broken_overlap, broken_reference, broken_reserved, broken_same, broken_taken, broken_twice, first_broken}
use Rattle.policy_rules.specs.Matching.{deciding}
use Rattle.transform_model.specs.ReachPlain.Reachability.{reachability}
use Rattle.schedule_script.specs.Ties.{HasPort, HasRelated}
use Rattle.schedule_script.specs.Tying.{port_network, relates}
use Rattle.machine_laws.specs.Headline.{IsWritten}
use Rattle.schedule_script.specs.ConfigCheck.Sentences.{IsValid}
use Rattle.schedule_script.proofs.Having.{port_iff, relates_iff}
use Rattle.machine_model.specs.Events.{Edits, MachineEvent, Settle, after}
use Rattle.machine_model.specs.Network.{start}
use Rattle.machine_model.specs.Setup.{opening as setup_of}
use Rattle.machine_laws.specs.Untied.{packet}
use Rattle.machine_laws.specs.Past.{StaysAmongPresent, leave, related, with_first_attaching}
use Rattle.machine_laws.specs.Running.{AtMomentsOfRuns, EditsKeep}
use Rattle.schedule_script.specs.Ties.{BreaksNone}
use Rattle.schedule_script.specs.Tying.{ties_of}
use Rattle.schedule_script.proofs.Broken.{broken_iff}
use Rattle.machine_laws.proofs.AtOnce.{edit_leads, leads_to_form, never_one, now_config, positive, size, still_goes, valid_after}

abbrev parted : Config
parted = with_first_attaching []

related_written : IsWritten (setup_of related)
unfolding has_topology_form has_controller_form has_node_form has_config_form has_network_form has_port_form has_policy_form has_rule_form first_broken broken_limit broken_name broken_id broken_reference broken_reserved broken_nested broken_outside broken_taken broken_needs broken_same broken_loop broken_long broken_twice broken_overlap
related_written = record { topology = refl; config = refl; valid = refl }

arrives : reachability related.config packet ≡ Delivered (record { 0 = 2 }) []
unfolding reachability deciding
arrives = refl

unrelated : relates parted (record { 0 = 1 }) (record { 0 = 2 }) ≡ false
unrelated = refl

left : edits.edited leave related ≡ record { topology = related.topology; config = parted }
unfolding edits.edited_topology edits.edited_config
left = refl

no_fault : edit_fault related leave ≡ None
unfolding edit_fault missing_name edits.edited_topology edits.edited_config first_broken broken_limit broken_name broken_id broken_reference broken_reserved broken_nested broken_outside broken_taken broken_needs broken_same broken_loop broken_long broken_twice broken_overlap
no_fault = refl

of_form : IsTrue (has_config_form parted)
unfolding has_config_form has_network_form has_port_form has_policy_form has_rule_form
of_form = refl

valid : IsValid related.topology parted
valid = valid_after related related_written leave parted no_fault left refl of_form

breaks_none : BreaksNone (ties_of related) parted
breaks_none = ((broken_iff (ties_of related) (record { topology = related.topology; config = parted }) valid).0 refl).0

abbrev schedule : List MachineEvent
schedule = Settle ∷ Edits leave ∷ []

keeps : EditsKeep size (ties_of related) (start related) schedule
keeps = (
  tt,
  ((λ y e. (leads_to_form related related_written leave parted no_fault left refl of_form y e, subst (BreaksNone (ties_of related)) (sym (edit_leads related related_written leave parted no_fault left refl of_form y e)) breaks_none)), tt),
)

abbrev last : Config
last = (after size (start related) schedule).setup.config

last_is : last ≡ parted
last_is = now_config related related_written leave parted no_fault left refl of_form

port_in : (number : ℕ) → port_network parted (record { 0 = number }) ≡ Some (record { 0 = number }) → HasPort last (record { 0 = number }) (record { 0 = number })
port_in number e = subst (λ (c : Config). HasPort c (record { 0 = number }) (record { 0 = number })) (sym last_is) ((port_iff related.topology parted valid (record { 0 = number }) (record { 0 = number })).0 e)

never_related : HasRelated last (record { 0 = 1 }) (record { 0 = 2 }) → ⊥
never_related h =
    let here = subst (λ (c : Config). HasRelated c (record { 0 = 1 }) (record { 0 = 2 })) last_is h in
    true≢false (sym ((relates_iff parted (record { 0 = 1 }) (record { 0 = 2 })).1 here) ∙ unrelated)

pub not_present : AtMomentsOfRuns StaysAmongPresent → ⊥
not_present h =
    let delivered = still_goes related related_written leave parted no_fault left refl of_form packet ∙ arrives in
    elim (h size positive related related_written schedule keeps packet (record { 0 = 2 }) [] delivered (record { 0 = 1 }) (record { 0 = 2 }) (port_in 1 refl) (port_in 2 refl)) as (λ _. ⊥) [
      | inl same ↦ never_one same
      | inr is ↦ never_related is
    ]
