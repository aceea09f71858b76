-- Without ties a packet joins ports of networks that were never related.
use Rattle.std.specs.Prelude.{IsTrue, List, false, ℕ, [], ◌∷◌, ◌≡◌, codes}
use Rattle.std.specs.declared.option.Option.TheVariants.{None}
use Rattle.std.proofs.Common.{inl, inr, refl, subst, sym, ◌∙◌}
use Rattle.std.proofs.lemmas.Bool.{true≢false}
use Rattle.ov_types.specs.declared.packet.Outcome.TheVariants.{Delivered}
use Rattle.config_types.specs.Form.{has_config_form, has_controller_form, has_network_form, has_node_form, has_port_form, has_topology_form}
use Rattle.config_types.specs.declared.config.Config.{Config}
use Rattle.schedule_script.specs.ConfigCheck.Edits as edits
use Rattle.schedule_script.specs.ConfigCheck.Edits.{edit_fault, missing_name}
use Rattle.schedule_script.specs.ConfigCheck.Rules.{broken_id, broken_limit, broken_long, broken_loop, broken_name, broken_needs, broken_nested, broken_outside, broken_overlap, broken_reference, broken_reserved, broken_same, broken_taken, broken_twice, first_broken}
use Rattle.transform_model.specs.ReachPlain.Reachability.{reachability}
use Rattle.schedule_script.specs.Ties.{HasPort, HasRelated}
use Rattle.schedule_script.specs.Tying.{relates}
use Rattle.machine_laws.specs.Headline.{IsWritten}
use Rattle.schedule_script.proofs.ConfigCheck.Validity.{valid_iff}
use Rattle.schedule_script.proofs.Having.{port_iff, relates_iff}
use Rattle.machine_model.specs.Events.{Edits, Settle}
use Rattle.machine_model.specs.Network.{start}
use Rattle.machine_model.specs.Setup.{opening as setup_of}
use Rattle.machine_laws.specs.Running.{configs}
use Rattle.machine_laws.specs.Stood.{InSome, StaysAmong}
use Rattle.machine_laws.specs.Untied.{AtMomentsWithout, move, opening, packet, with_second_in}
use Rattle.machine_laws.proofs.AtOnce.{asked, each_is, never_one, now_config, positive, size, still_goes, valid_after}

opening_written : IsWritten (setup_of opening)
unfolding has_topology_form has_controller_form has_node_form has_config_form has_network_form has_port_form first_broken broken_limit broken_name broken_id broken_reference broken_reserved broken_nested broken_outside broken_taken broken_needs broken_same broken_loop broken_long broken_twice broken_overlap
opening_written = record { topology = refl; config = refl; valid = refl }

arrives : reachability opening.config packet ≡ Delivered (record { 0 = 2 }) []
unfolding reachability
arrives = refl

unrelated : (home : List ℕ) → relates (with_second_in home) (record { 0 = 1 }) (record { 0 = 2 }) ≡ false
unrelated home = refl

moved : edits.edited move opening ≡ record { topology = opening.topology; config = with_second_in (codes "blue") }
unfolding edits.edited_topology edits.edited_config
moved = refl

no_fault : edit_fault opening move ≡ None
unfolding edit_fault missing_name edits.edited_topology edits.edited_config first_broken broken_limit broken_name broken_id broken_reference broken_reserved broken_nested broken_outside broken_taken broken_needs broken_same broken_loop broken_long broken_twice broken_overlap
no_fault = refl

-- ---- the second port is moved once the network is settled
of_form : IsTrue (has_config_form (with_second_in (codes "blue")))
unfolding has_config_form has_network_form has_port_form
of_form = refl

abbrev all : List Config
all = configs size (start opening) (Settle ∷ Edits move ∷ [])

starts_in_red : InSome all (λ c. HasPort c packet.source (record { 0 = 1 }))
starts_in_red =
    let v = (valid_iff opening.topology opening.config).0 opening_written.valid in
    (opening.config, inl refl, (port_iff opening.topology opening.config v (record { 0 = 1 }) (record { 0 = 1 })).0 refl)

ends_in_blue : InSome all (λ c. HasPort c (record { 0 = 2 }) (record { 0 = 2 }))
ends_in_blue =
    let blue = with_second_in (codes "blue") in (
      blue,
      inr (inr (inl (now_config opening opening_written move blue no_fault moved refl of_form))),
      (port_iff opening.topology blue (valid_after opening opening_written move blue no_fault moved refl of_form) (record { 0 = 2 }) (record { 0 = 2 })).0 refl,
    )

related_not : (home : List ℕ) → HasRelated (with_second_in home) (record { 0 = 1 }) (record { 0 = 2 }) → ⊥
related_not home h = true≢false (sym ((relates_iff (with_second_in home) (record { 0 = 1 }) (record { 0 = 2 })).1 h) ∙ unrelated home)

never_related : InSome all (λ c. HasRelated c (record { 0 = 1 }) (record { 0 = 2 })) → ⊥
never_related q =
    elim (each_is opening opening_written move (with_second_in (codes "blue")) no_fault moved refl of_form q.0 q.1) as (λ _. ⊥) [
      | inl e ↦ related_not (codes "red") (subst (λ (c : Config). HasRelated c (record { 0 = 1 }) (record { 0 = 2 })) e q.2)
      | inr e ↦ related_not (codes "blue") (subst (λ (c : Config). HasRelated c (record { 0 = 1 }) (record { 0 = 2 })) e q.2)
    ]

pub not_without : AtMomentsWithout StaysAmong → ⊥
not_without h =
    let blue = with_second_in (codes "blue") in
    let delivered = still_goes opening opening_written move blue no_fault moved refl of_form packet ∙ arrives in
    elim (h size positive opening opening_written (Settle ∷ Edits move ∷ []) (asked opening opening_written move blue no_fault moved refl of_form) packet (record { 0 = 2 }) [] delivered (record { 0 = 1 }) (record { 0 = 2 }) starts_in_red ends_in_blue) as (λ _. ⊥) [
      | inl same ↦ never_one same
      | inr related ↦ never_related related
    ]
