-- In a window with one accepted edit a packet that both configurations keep goes as one of them has it go; so no put of a new
-- object and no delete interrupts one.
use Rattle.std.specs.Prelude.{◌≡◌, ◌≤◌, ◌⊎◌, ℕ, List, [], ◌∷◌}
use Rattle.std.specs.List.{Any}
use Rattle.std.proofs.Common.{arith, inl, inr, refl, subst, sym, ◌∙◌}
use Rattle.ov_types.specs.declared.numbers.PortNo.{PortNo}
use Rattle.ov_types.specs.declared.numbers.ServiceNo.{ServiceNo}
use Rattle.ov_types.specs.declared.packet.Outcome.TheVariants.{Delivered}
use Rattle.ov_types.specs.declared.packet.Packet.{Packet}
use Rattle.ov_types.proofs.FirstLemmas.{contains_cases}
use Rattle.route_targets.specs.Forwarding.{forwarding}
use Rattle.config_types.specs.declared.edit.Edit.TheVariants.{Delete, Put}
use Rattle.config_types.specs.declared.edit.Object.{Object}
use Rattle.config_types.specs.declared.edit.Object.TheVariants as Objects
use Rattle.config_types.specs.declared.edit.ObjectKind.{ObjectKind}
use Rattle.config_types.specs.declared.edit.ObjectKind.TheVariants as Kinds
use Rattle.schedule_script.specs.ConfigCheck.Checked.{Checked}
use Rattle.schedule_script.specs.ConfigCheck.EditLaws.{chains_of, networks_of, nodes_of, policies_of, ports_of, services_of}
use Rattle.schedule_script.specs.ConfigCheck.Edits.{chain_name, edited, network_name, node_name, policy_name, port_name, service_name}
use Rattle.reach_plain.specs.Reachability.{reachability}
use Rattle.node_laws.specs.NodeModel.Members.{Member}
use Rattle.machine_model.specs.Events.{after, forwarders}
use Rattle.machine_model.specs.Network.{MachineState, start}
use Rattle.machine_model.specs.Setup.{opening}
use Rattle.machine_laws.specs.Headline.{IsWritten}
use Rattle.hitless_cells.specs.Keeping.{IsHitless, IsValidAsWritten, Keep}
use Rattle.hitless_cells.specs.Kinds.{DeleteIsHitless, NewIsHitless}
use Rattle.hitless_cells.specs.Ways.{Way}
use Rattle.hitless_cells.proofs.Both.{two_keep}
use Rattle.hitless_cells.proofs.ByKind.{delete_chain, delete_network, new_chain, new_network, new_node, new_policy, new_port, new_service, delete_node, delete_policy, delete_port, delete_service}
use Rattle.machine_moment_laws.specs.Windows.{AtMomentsOfWindows, configurations}
use Rattle.machine_moment_laws.proofs.CommonMoments.{all_are_written, first_one, others}
use Rattle.machine_moment_laws.specs.Kept.{DeleteInterruptsNothing, GoesByEither, HitlessInterruptsNothing, IsOfEither, KeptInOneEdit, NewInterruptsNothing}
use Rattle.machine_moment_laws.proofs.KeptDelivered.{kept_are_delivered}
use Rattle.machine_moment_laws.proofs.OneEdit.{first_made, in_hand}

pub kept_in_one_edit : AtMomentsOfWindows KeptInOneEdit
kept_in_one_edit size positive x written before asked begins es window form few p number ways keep =
    let began : MachineState = after size (start x) before in
    let b = first_one size positive x written before asked begins es window form in
    let ds = others size positive x written before asked begins es window form in
    kept_are_delivered size positive x written before asked begins es window form p number ways keep
    (in_hand b ds few (all_are_written size positive x written before asked begins es window form) (λ c cs e. first_made size began es c cs e) p number ways)

-- ---- of two configurations
one_of_two : (P : Checked → Type 0) (x y : Checked) → Any P (x ∷ y ∷ []) → P x ⊎ P y
one_of_two P x y h =
    elim (contains_cases x (y ∷ []) h.1 (h.0, h.2, h.3)) [
      | inl first ↦ inl (subst P (sym first) h.4)
      | inr later ↦ elim (contains_cases y [] h.1 later) [ inl second ↦ inr (subst P (sym second) h.4) | inr never ↦ absurd (omega (arith, never.1)) ]
    ]

as_written : (c : Checked) → IsWritten (opening c) → IsValidAsWritten c
as_written c w = record { form = w.config; valid = w.valid }

module _ (cs : List Checked) (w : MachineState) (kept : KeptInOneEdit cs w) (written : (c : Checked) → Member c cs → IsWritten (opening c)) where
  two : 2 ≤ 2
  two = omega arith

  by_ways : (x y : Checked) → cs ≡ x ∷ y ∷ [] → (p : Packet) (number : PortNo) (ways : List Way) → Keep (x ∷ y ∷ []) p number ways → IsOfEither x y p (forwarding (forwarders w) p)
  by_ways x y e p number ways keep =
      let d = subst (λ (cs : List Checked). KeptInOneEdit cs w) e kept two p number ways keep in
      one_of_two (λ (z : Checked). forwarding (forwarders w) p ≡ reachability z.config p) x y d.as_one

  of_first : (x y : Checked) → cs ≡ x ∷ y ∷ [] → IsWritten (opening x)
  of_first x y e = written x (subst (Member x) (sym e) (inl refl))

  of_second : (x y : Checked) → cs ≡ x ∷ y ∷ [] → IsWritten (opening y)
  of_second x y e = written y (subst (Member y) (sym e) (inr (inl refl)))

  by_either : GoesByEither cs w
  by_either x y e p number before later lead_x lead_y alike_before alike_after =
      let k = (two_keep x y p number before later (as_written x (of_first x y e)) (as_written y (of_second x y e)) lead_x lead_y).1 (alike_before, alike_after) in
      by_ways x y e p number k.0 k.1

  hitless : HitlessInterruptsNothing cs w
  hitless x y e h p number from_x from_y =
      let k = h.kept p number from_x from_y in
      by_ways x y e p number k.0 k.1

  -- what the one delivers and the other alike
  both_alike : (x y : Checked) → cs ≡ x ∷ y ∷ [] → IsHitless x y → (p : Packet) (number : PortNo) (services : List ServiceNo)
      → reachability x.config p ≡ Delivered number services → reachability y.config p ≡ Delivered number services → forwarding (forwarders w) p ≡ Delivered number services
  both_alike x y e h p number services from_x from_y =
      let k = h.kept p number (services, from_x) (services, from_y) in
      elim (by_ways x y e p number k.0 k.1) [ inl first ↦ first ∙ from_x | inr second ↦ second ∙ from_y ]

  of_new : {A : Type 0} (name_of : A → List ℕ) (object : A → Object) (list : Checked → List A) → NewIsHitless name_of object list → NewInterruptsNothing name_of object list cs w
  of_new name_of object list is x o e form fresh accepted p number services from_x =
      let y : Checked = edited (Put (object o)) x in
      let h = is x o (as_written x (of_first x y e)) form fresh accepted in
      both_alike x y e h.0 p number services from_x (h.1 p number services from_x)

  of_delete : (kind : ObjectKind) → DeleteIsHitless kind → DeleteInterruptsNothing kind cs w
  of_delete kind is x name e form accepted p number services from_y =
      let y : Checked = edited (Delete kind name) x in
      let h = is x name (as_written x (of_first x y e)) form accepted in
      both_alike x y e h.0 p number services (h.1 p number services from_y) from_y

-- ---- at each moment
module _ (P : List Checked → MachineState → Type 0) (of : (cs : List Checked) (w : MachineState) → KeptInOneEdit cs w → ((c : Checked) → Member c cs → IsWritten (opening c)) → P cs w) where
  everywhere : AtMomentsOfWindows P
  everywhere size positive x written before asked begins es window form =
      of (configurations size (after size (start x) before) es) (after size (after size (start x) before) es)
      (kept_in_one_edit size positive x written before asked begins es window form)
      (all_are_written size positive x written before asked begins es window form)

pub goes_by_either : AtMomentsOfWindows GoesByEither
goes_by_either = everywhere GoesByEither by_either

pub hitless_interrupts_nothing : AtMomentsOfWindows HitlessInterruptsNothing
hitless_interrupts_nothing = everywhere HitlessInterruptsNothing hitless

pub new_networks : AtMomentsOfWindows (NewInterruptsNothing network_name (λ x. Objects.Network x) networks_of)
new_networks = everywhere (NewInterruptsNothing network_name (λ x. Objects.Network x) networks_of) (λ cs w kept written. of_new cs w kept written network_name (λ x. Objects.Network x) networks_of new_network)

pub new_ports : AtMomentsOfWindows (NewInterruptsNothing port_name (λ x. Objects.Port x) ports_of)
new_ports = everywhere (NewInterruptsNothing port_name (λ x. Objects.Port x) ports_of) (λ cs w kept written. of_new cs w kept written port_name (λ x. Objects.Port x) ports_of new_port)

pub new_policies : AtMomentsOfWindows (NewInterruptsNothing policy_name (λ x. Objects.Policy x) policies_of)
new_policies = everywhere (NewInterruptsNothing policy_name (λ x. Objects.Policy x) policies_of) (λ cs w kept written. of_new cs w kept written policy_name (λ x. Objects.Policy x) policies_of new_policy)

pub new_services : AtMomentsOfWindows (NewInterruptsNothing service_name (λ x. Objects.Service x) services_of)
new_services = everywhere (NewInterruptsNothing service_name (λ x. Objects.Service x) services_of) (λ cs w kept written. of_new cs w kept written service_name (λ x. Objects.Service x) services_of new_service)

pub new_chains : AtMomentsOfWindows (NewInterruptsNothing chain_name (λ x. Objects.Chain x) chains_of)
new_chains = everywhere (NewInterruptsNothing chain_name (λ x. Objects.Chain x) chains_of) (λ cs w kept written. of_new cs w kept written chain_name (λ x. Objects.Chain x) chains_of new_chain)

pub new_nodes : AtMomentsOfWindows (NewInterruptsNothing node_name (λ x. Objects.Node x) nodes_of)
new_nodes = everywhere (NewInterruptsNothing node_name (λ x. Objects.Node x) nodes_of) (λ cs w kept written. of_new cs w kept written node_name (λ x. Objects.Node x) nodes_of new_node)

module _ (kind : ObjectKind) (is : DeleteIsHitless kind) where
  deletes : AtMomentsOfWindows (DeleteInterruptsNothing kind)
  deletes = everywhere (DeleteInterruptsNothing kind) (λ cs w kept written. of_delete cs w kept written kind is)

pub network_deletes : AtMomentsOfWindows (DeleteInterruptsNothing Kinds.Network)
network_deletes = deletes Kinds.Network delete_network

pub port_deletes : AtMomentsOfWindows (DeleteInterruptsNothing Kinds.Port)
port_deletes = deletes Kinds.Port delete_port

pub policy_deletes : AtMomentsOfWindows (DeleteInterruptsNothing Kinds.Policy)
policy_deletes = deletes Kinds.Policy delete_policy

pub service_deletes : AtMomentsOfWindows (DeleteInterruptsNothing Kinds.Service)
service_deletes = deletes Kinds.Service delete_service

pub chain_deletes : AtMomentsOfWindows (DeleteInterruptsNothing Kinds.Chain)
chain_deletes = deletes Kinds.Chain delete_chain

pub node_deletes : AtMomentsOfWindows (DeleteInterruptsNothing Kinds.Node)
node_deletes = deletes Kinds.Node delete_node
