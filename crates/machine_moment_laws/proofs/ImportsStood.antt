-- What an instance imports leads where a configuration so far had its rows lead.
use Rattle.std.specs.FinMap.{get}
use Rattle.std.specs.Prelude.{List, cond, false, length, nat_le, true, ℕ, [], ◌+◌, ◌++◌, ◌==◌, ◌∷◌, ◌≡◌}
use Rattle.std.specs.declared.option.Option.TheVariants.{None, Some}
use Rattle.std.specs.declared.option.Option.{Option}
use Rattle.std.proofs.Common.{ap, inl, inr, refl, subst, sym, ◌∙◌}
use Rattle.std.proofs.lemmas.Bool.{eqb-true, true≢false}
use Rattle.ov_types.specs.Prefix.{Block}
use Rattle.ov_types.specs.declared.numbers.InstanceId.{InstanceId}
use Rattle.ov_types.specs.declared.numbers.Label.{Label as LabelNo}
use Rattle.ov_types.specs.declared.numbers.ServiceNo.{ServiceNo}
use Rattle.ov_types.specs.declared.objects.LowKey.TheVariants as key
use Rattle.ov_types.specs.declared.objects.LowValue.TheVariants as low
use Rattle.ov_types.specs.declared.prefix.Addr.{Addr}
use Rattle.route_targets.specs.Numbers.{hop_instance_of}
use Rattle.config_types.specs.declared.config.Config.{Config}
use Rattle.node_laws.specs.NodeModel.Keys.{Low}
use Rattle.node_laws.specs.NodeModel.Maps.{Map, as_object}
use Rattle.node_laws.specs.NodeModel.Members.{Member}
use Rattle.node_laws.specs.NodeModel.Uses.{hop_imports, imports, is_hop, network_imports, place_of, use_from, use_of}
use Rattle.node_laws.specs.NodeModel.Values.{Entry, Label, Object, Route, Value}
use Rattle.node_laws.proofs.NodeModel.Members.{in_either, member_when}
use Rattle.node_laws.proofs.NodeModel.Objects.{is_hop-hop}
use Rattle.schedule_script.specs.Ties.{Ties}
use Rattle.machine_laws.proofs.Labels.{place_back}
use Rattle.machine_moment_laws.proofs.LowStood.{network_is_no_hop}
use Rattle.machine_moment_laws.proofs.SoFar.{AllStood, IsOwn, IsPortOf, IsRowOf, IsUseOf}
use Rattle.machine_moment_laws.proofs.SoFar.IsOwn.{attached, leftwards, rightwards}
use Rattle.machine_moment_laws.proofs.SoFar.IsRowOf.{left_end, near, own, right_end}

-- in the instance of a network only its ports are told
pub own_port : (t : Ties) (cs : List Config) (n : InstanceId) (prefix : Block) (label : LabelNo) → is_hop n ≡ false → IsOwn t cs n prefix label → IsPortOf t cs n prefix label
own_port t cs n prefix label net (attached (inl p)) = p
own_port t cs n prefix label net (attached (inr c)) = absurd (true≢false (sym c.of_hop ∙ net))
own_port t cs n prefix label net (rightwards r) = absurd (true≢false (sym (ap is_hop r.instance ∙ is_hop-hop r.in_effect.number r.place) ∙ net))
own_port t cs n prefix label net (leftwards l) = absurd (true≢false (sym (ap is_hop l.instance ∙ is_hop-hop l.in_effect.number (l.place + 1)) ∙ net))

module _ (t : Ties) (cs : List Config) (asn : ℕ) (feed : Map) (held : AllStood t cs asn feed) (i n : InstanceId) (prefix : Block) (label : LabelNo) (is_own : IsOwn t cs n prefix label) where
  abbrev Leads : Type 0
  Leads = IsRowOf t cs i prefix label

  of_use : (a b : InstanceId) (ls rs : List Block) (hops : List (ServiceNo × Addr)) → is_hop i ≡ true → IsUseOf t cs (use_of i) a b ls rs (length hops)
      → Member n (cond (nat_le (place_of i) (length hops)) (hop_instance_of (use_of i) (place_of i) ∷ (cond (place_of i == 0) (a ∷ []) [] ++ cond (place_of i == length hops) (b ∷ []) [])) []) → Leads
  of_use a b ls rs hops is u m = elim (member_when (nat_le (place_of i) (length hops)) n (hop_instance_of (use_of i) (place_of i) ∷ (cond (place_of i == 0) (a ∷ []) [] ++ cond (place_of i == length hops) (b ∷ []) [])) m).1 as (λ _. Leads) [
    | inl here ↦ own (subst (λ (n : InstanceId). IsOwn t cs n prefix label) (sym here ∙ place_back i is) is_own)
    | inr there ↦ elim (in_either n (cond (place_of i == 0) (a ∷ []) []) (cond (place_of i == length hops) (b ∷ []) []) there) as (λ _. Leads) [
      | inl l ↦ let w = member_when (place_of i == 0) n (a ∷ []) l in elim w.1 as (λ _. Leads) [ inl e ↦ at_left (eqb-true (place_of i) 0 w.0) (sym (u.left_is ∙ e)) | inr x ↦ absurd x ]
      | inr r ↦ let w = member_when (place_of i == length hops) n (b ∷ []) r in elim w.1 as (λ _. Leads) [ inl e ↦ at_right (eqb-true (place_of i) (length hops) w.0) (sym (u.right_is ∙ e)) | inr x ↦ absurd x ]
    ]
  ]
    where
      instance_at : (j k : ℕ) → place_of i ≡ j → j ≡ k → i ≡ hop_instance_of u.in_effect.number k
      instance_at j k e f = sym (place_back i is) ∙ (λ x. hop_instance_of (sym u.number_is x) ((e ∙ f) x))

      port_at : (m : InstanceId) → is_hop m ≡ false → n ≡ m → IsPortOf t cs m prefix label
      port_at m net e = own_port t cs m prefix label net (subst (λ (n : InstanceId). IsOwn t cs n prefix label) e is_own)

      at_left : place_of i ≡ 0 → n ≡ u.in_effect.left.id → Leads
      at_left first e =
          left_end (record {
            config = u.config;
            so_far = u.so_far;
            in_effect = u.in_effect;
            is_use = u.is_use;
            instance = instance_at 0 0 first refl;
            port = port_at u.in_effect.left.id (network_is_no_hop u.config u.in_effect.left u.so_far.form u.is_use.has_left) e;
          })

      at_right : place_of i ≡ length hops → n ≡ u.in_effect.right.id → Leads
      at_right last e =
          right_end (record {
            config = u.config;
            so_far = u.so_far;
            in_effect = u.in_effect;
            is_use = u.is_use;
            instance = instance_at (length hops) (length u.in_effect.services) last (sym u.services_are);
            port = port_at u.in_effect.right.id (network_is_no_hop u.config u.in_effect.right u.so_far.form u.is_use.has_right) e;
          })

  of_hop : (o : Option Value) → get feed (Low (key.ChainUse (use_of i))) ≡ o → is_hop i ≡ true → Member n (hop_imports (place_of i) (use_from (use_of i) (as_object o))) → Leads
  of_hop None e is m = absurd m
  of_hop (Some (Route r)) e is m = absurd m
  of_hop (Some (Entry r)) e is m = absurd m
  of_hop (Some (Label l)) e is m = absurd m
  of_hop (Some (Object (low.Instance ms))) e is m = absurd m
  of_hop (Some (Object (low.AttachPort p j a b))) e is m = absurd m
  of_hop (Some (Object (low.AttachCircuit p j a))) e is m = absurd m
  of_hop (Some (Object (low.Acl s r))) e is m = absurd m
  of_hop (Some (Object (low.ChainUse a b ls rs hops))) e is m =
      of_use a b ls rs hops is (held (Low (key.ChainUse (use_of i))) (Object (low.ChainUse a b ls rs hops)) e) m

  of_network : (o : Option Value) → get feed (Low (key.Instance i.0)) ≡ o → is_hop i ≡ false → Member n (network_imports (as_object o)) → Leads
  of_network None e is m = absurd m
  of_network (Some (Route r)) e is m = absurd m
  of_network (Some (Entry r)) e is m = absurd m
  of_network (Some (Label l)) e is m = absurd m
  of_network (Some (Object (low.AttachPort p j a b))) e is m = absurd m
  of_network (Some (Object (low.AttachCircuit p j a))) e is m = absurd m
  of_network (Some (Object (low.Acl s r))) e is m = absurd m
  of_network (Some (Object (low.ChainUse a b ls rs hops))) e is m = absurd m
  of_network (Some (Object (low.Instance ms))) e is m =
      near n is (own_port t cs n prefix label (held (Low (key.Instance i.0)) (Object (low.Instance ms)) e n m) is_own)

  pub imports_lead : Member n (imports feed i) → Leads
  imports_lead m =
      elim (is_hop i) as (λ b. is_hop i ≡ b → Member n (cond b (hop_imports (place_of i) (use_from (use_of i) (as_object (get feed (Low (key.ChainUse (use_of i))))))) (network_imports (as_object (get feed (Low (key.Instance i.0)))))) → Leads) [
        | true ↦ λ is m. of_hop (get feed (Low (key.ChainUse (use_of i)))) refl is m
        | false ↦ λ is m. of_network (get feed (Low (key.Instance i.0))) refl is m
      ] refl m
