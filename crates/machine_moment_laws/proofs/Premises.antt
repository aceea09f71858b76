-- A valid configuration meets the premises by itself, and what its policies deliver it permits.
use Rattle.std.specs.List.{Contains}
use Rattle.std.specs.Prelude.{List, [], ◌∷◌, ◌≡◌, ◌⊎◌, map}
use Rattle.std.proofs.Common.{ap, inl, inr, refl, subst, sym, ◌∙◌}
use Rattle.std.proofs.lemmas.Option.{same_Some}
use Rattle.ov_types.specs.declared.numbers.InstanceId.{InstanceId}
use Rattle.ov_types.specs.declared.numbers.PortNo.{PortNo}
use Rattle.ov_types.specs.declared.numbers.ServiceNo.{ServiceNo}
use Rattle.ov_types.specs.declared.packet.Outcome.TheVariants.{Delivered}
use Rattle.ov_types.specs.declared.packet.Packet.{Packet}
use Rattle.ov_types.specs.declared.prefix.Addr.{Addr}
use Rattle.config_types.specs.declared.config.Config.{Config}
use Rattle.config_types.specs.declared.config.Network.{Network}
use Rattle.reach_plain.specs.PolicyRules.Standing.{AreRelated}
use Rattle.reach_plain.specs.Outcomes.{IsDelivered, IsLetThrough, IsTowards, MayEnter}
use Rattle.reach_plain.specs.Reachability.{reachability}
use Rattle.reach_plain.proofs.Becoming.{outcome_iff}
use Rattle.reach_plain.proofs.Found.{target_is}
use Rattle.schedule_script.specs.ConfigCheck.Checked.{Checked}
use Rattle.schedule_script.specs.ConfigCheck.Sentences.{IsValid}
use Rattle.schedule_script.proofs.ConfigCheck.Validity.{valid_iff}
use Rattle.transform_model.specs.IsUse.{IsUse}
use Rattle.transform_model.specs.Uses.{ConfiguredUse}
use Rattle.transform_model.proofs.InUse.{one_use}
use Rattle.transform_model.proofs.Objects.{one_named, one_numbered}
use Rattle.node_laws.specs.NodeModel.Members.{Member}
use Rattle.machine_model.specs.Setup.{opening}
use Rattle.machine_laws.specs.Headline.{IsWritten}
use Rattle.machine_laws.specs.Relating.{AreRelatedIn}
use Rattle.machine_laws.specs.Stood.{InSome}
use Rattle.machine_moment_laws.specs.Permission.{DeliversAsPermitted, HeadsTo, KeptServices, LayInAlone, Permits, WasPermitted}

only_one : (c e : Config) → Member e (c ∷ []) → c ≡ e
only_one c e (inl same) = same
only_one c e (inr none) = absurd none

module _ (x : Checked) (written : IsWritten (opening x)) where
  valid : IsValid x.topology x.config
  valid = (valid_iff x.topology x.config).0 written.valid

  pub keeps_services : (a b : InstanceId) → KeptServices (x.config ∷ []) a b
  keeps_services a b c e number ss ts mc me u v =
      let used : (d : Config) → Member d (x.config ∷ []) → (w : ConfiguredUse) → IsUse d w → IsUse x.config w = λ d m w is. subst (λ (d : Config). IsUse d w) (sym (only_one x.config d m)) is in
      let same = one_use x.topology x.config u.in_effect v.in_effect valid (used c mc u.in_effect u.is_use) (used e me v.in_effect v.is_use) (u.number_is ∙ sym v.number_is) in
      sym u.services_are ∙ ap (λ (w : ConfiguredUse). map (λ s. s.id) w.services) same ∙ v.services_are

  -- ---- destinations
  module _ (own target : Network) (d : Addr) (in_own : Contains x.config.networks own) (towards : IsTowards x.config own target d.0) where
    is_target : (n : Network) → IsTowards x.config own n d.0 → n.id ≡ target.id
    is_target n t =
        ap (λ (m : Network). m.id) (same_Some n target
        (sym (target_is x.topology x.config own n d.0 written.config valid in_own t) ∙ target_is x.topology x.config own target d.0 written.config valid in_own towards))

    near_own : (n : Network) → Contains x.config.networks n → (n.id ≡ own.id) ⊎ InSome (x.config ∷ []) (λ e. AreRelatedIn e own.id n.id) → (n.name ≡ own.name) ⊎ AreRelated x.config own n
    near_own n in_n (inl same) = inl (ap (λ (m : Network). m.name) (one_numbered x.topology x.config n own valid in_n in_own same))
    near_own n in_n (inr some) =
        let r : AreRelatedIn x.config own.id n.id = subst (λ (e : Config). AreRelatedIn e own.id n.id) (sym (only_one x.config some.0 some.1)) some.2 in
        let first = one_numbered x.topology x.config r.first own valid r.has_first in_own r.first_is in
        let second = one_numbered x.topology x.config r.second n valid r.has_second in_n r.second_is in
        inr (subst (λ (m : Network). AreRelated x.config m n) first (subst (λ (m : Network). AreRelated x.config r.first m) second r.related))

    pub lies_alone : LayInAlone (x.config ∷ []) own.id target.id d
    lies_alone c n mc in_n near held =
        let here : Contains x.config.networks n = subst (λ (e : Config). Contains e.networks n) (sym (only_one x.config c mc)) in_n in
        is_target n (record { stands = here; near = near_own n here near; holds = held })

  -- ---- what policies deliver is what they permit
  same_network : (a b : Network) → Contains x.config.networks a → Contains x.config.networks b → a.id ≡ b.id → a ≡ b
  same_network a b in_a in_b e = one_numbered x.topology x.config a b valid in_a in_b e

  pub delivers_permitted : (p : Packet) (q : PortNo) (services : List ServiceNo) → reachability x.config p ≡ Delivered q services → DeliversAsPermitted x.config p q services
  delivers_permitted p q services e = of_outcome ((outcome_iff x.topology x.config p (Delivered q services) written.config written.valid).0 e)
    where
      of_outcome : IsDelivered x.config p q services → DeliversAsPermitted x.config p q services
      of_outcome d = record {
        from = d.own.id;
        to = d.target.id;
        heads = record { own = d.own; target = d.target; own_is = refl; target_is = refl; goes = d.goes; arrival = d.arrival; has_arrival = d.arrival_stands; arrival_network = d.arrival_network; arrival_address = d.arrival_address; arrival_number = d.arrival_number };
        alone = lies_alone d.own d.target p.destination d.goes.leaves.own_stands d.goes.towards;
        permitted = enters d.enters;
      }
        where
          enters : MayEnter x.config d.own d.target p.tuple services → WasPermitted (x.config ∷ []) d.own.id d.target.id p.tuple services
          enters (inl inside) = inl (ap (λ (n : Network). n.id) (one_named x.topology x.config d.own d.target valid d.goes.leaves.own_stands d.goes.towards.stands (sym inside.0)), inside.1)
          enters (inr by) = inr (
            (λ same. by.0 (ap (λ (n : Network). n.name) (same_network d.target d.own d.goes.towards.stands d.goes.leaves.own_stands (sym same)))),
            (x.config, inl refl, record { own = d.own; target = d.target; has_own = d.goes.leaves.own_stands; has_target = d.goes.towards.stands; own_is = refl; target_is = refl; lets = by.1 }),
          )

  pub permitted_delivers : (p : Packet) (from to : InstanceId) (q : PortNo) (services : List ServiceNo) → HeadsTo x.config p from to q → WasPermitted (x.config ∷ []) from to p.tuple services → reachability x.config p ≡ Delivered q services
  permitted_delivers p from to q services h w =
      (outcome_iff x.topology x.config p (Delivered q services) written.config written.valid).1
      (record { own = h.own; target = h.target; goes = h.goes; enters = enters w; arrival = h.arrival; arrival_stands = h.has_arrival; arrival_network = h.arrival_network; arrival_address = h.arrival_address; arrival_number = h.arrival_number })
    where
      has_own : Contains x.config.networks h.own
      has_own = h.goes.leaves.own_stands

      has_target : Contains x.config.networks h.target
      has_target = h.goes.towards.stands

      enters : WasPermitted (x.config ∷ []) from to p.tuple services → MayEnter x.config h.own h.target p.tuple services
      enters (inl inside) = inl (ap (λ (n : Network). n.name) (same_network h.target h.own has_target has_own (h.target_is ∙ sym inside.0 ∙ sym h.own_is)), inside.1)
      enters (inr some) =
          let by : Permits x.config from to p.tuple services = subst (λ (e : Config). Permits e from to p.tuple services) (sym (only_one x.config some.1.0 some.1.1)) some.1.2 in
          let own = same_network by.own h.own by.has_own has_own (by.own_is ∙ sym h.own_is) in
          let target = same_network by.target h.target by.has_target has_target (by.target_is ∙ sym h.target_is) in
          inr (
            (λ same. some.0 (sym h.own_is ∙ ap (λ (n : Network). n.id) (one_named x.topology x.config h.own h.target valid has_own has_target (sym same)) ∙ h.target_is)),
            subst (λ (n : Network). IsLetThrough x.config n h.target p.tuple services) own (subst (λ (n : Network). IsLetThrough x.config by.own n p.tuple services) target by.lets),
          )
