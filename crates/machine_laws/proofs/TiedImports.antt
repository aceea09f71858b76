-- What an instance imports leads where its rows may lead.
use Rattle.std.specs.FinMap.{get}
use Rattle.std.specs.Prelude.{cond, false, length, nat_le, true, ℕ, [], ◌++◌, ◌==◌, ◌∷◌, ◌≡◌}
use Rattle.std.specs.declared.option.Option.TheVariants.{None, Some}
use Rattle.std.specs.declared.option.Option.{Option}
use Rattle.std.proofs.Common.{ap, inl, inr, refl, subst, sym, ◌∙◌}
use Rattle.ov_types.specs.declared.numbers.InstanceId.{InstanceId}
use Rattle.ov_types.specs.declared.numbers.Label.{Label as LabelNo}
use Rattle.ov_types.specs.declared.objects.LowKey.TheVariants as key
use Rattle.ov_types.specs.declared.objects.LowValue.TheVariants as low
use Rattle.route_targets.specs.Numbers.{hop_instance_of}
use Rattle.node_laws.specs.NodeModel.Keys.{Low}
use Rattle.node_laws.specs.NodeModel.Maps.{Map, as_object}
use Rattle.node_laws.specs.NodeModel.Members.{Member}
use Rattle.node_laws.specs.NodeModel.Uses.{Use, hop_imports, imports, is_hop, network_imports, place_of, use_from, use_of}
use Rattle.node_laws.specs.NodeModel.Values.{Entry, Label, Object, Route, Value}
use Rattle.node_laws.proofs.NodeModel.Members.{in_either, member_when}
use Rattle.schedule_script.specs.Ties.{Ties}
use Rattle.machine_laws.specs.Tied.{AreTied, IsOwnLabel, IsPortLabel, IsRowLabel, IsTiedObject}
use Rattle.machine_laws.proofs.Labels.{own_port, own_use, place_back}

module _ (t : Ties) (asn : ℕ) (feed : Map) (tied : AreTied t asn feed) (i n : InstanceId) (label : LabelNo) (own : IsOwnLabel t n label) where
  of_end : (a b : InstanceId) (j k : ℕ) → is_hop i ≡ true → IsTiedObject t (key.ChainUse (use_of i)) (low.ChainUse a b [] [] []) → Member n (cond (j == 0) (a ∷ []) [] ++ cond (j == k) (b ∷ []) []) → IsRowLabel t i label
  of_end a b j k is u m =
      elim (in_either n (cond (j == 0) (a ∷ []) []) (cond (j == k) (b ∷ []) []) m) as (λ _. IsRowLabel t i label) [
        | inl l ↦ elim (member_when (j == 0) n (a ∷ []) l).1 as (λ _. IsRowLabel t i label) [ inl e ↦ inl (is, inr (a, b, u.2, inl (subst (λ a. IsPortLabel t a label) (sym e) (own_port t n label (ap is_hop (sym e) ∙ u.0) own)))) | inr x ↦ absurd x ]
        | inr l ↦ elim (member_when (j == k) n (b ∷ []) l).1 as (λ _. IsRowLabel t i label) [ inl e ↦ inl (is, inr (a, b, u.2, inr (subst (λ b. IsPortLabel t b label) (sym e) (own_port t n label (ap is_hop (sym e) ∙ u.1) own)))) | inr x ↦ absurd x ]
      ]

  of_use : (u : Use) → is_hop i ≡ true → u.number ≡ use_of i → IsTiedObject t (key.ChainUse (use_of i)) (low.ChainUse u.left u.right [] [] []) → Member n (hop_imports (place_of i) (Some u)) → IsRowLabel t i label
  of_use u is number held m =
      let j = place_of i in
      elim (nat_le j u.services) as (λ c. Member n (cond c (hop_instance_of u.number j ∷ (cond (j == 0) (u.left ∷ []) [] ++ cond (j == u.services) (u.right ∷ []) [])) []) → IsRowLabel t i label) [
        | false ↦ λ m. absurd m
        | true ↦ λ m. elim m as (λ _. IsRowLabel t i label) [
          | inl here ↦ own_use t i label is (subst (λ n. IsOwnLabel t n label) (sym here ∙ ap (λ (u : ℕ). hop_instance_of u j) number ∙ place_back i is) own)
          | inr there ↦ of_end u.left u.right j u.services is held there
        ]
      ] m

  of_hop : (o : Option Value) → get feed (Low (key.ChainUse (use_of i))) ≡ o → is_hop i ≡ true → Member n (hop_imports (place_of i) (use_from (use_of i) (as_object o))) → IsRowLabel t i label
  of_hop None e is m = absurd m
  of_hop (Some (Route r)) e is m = absurd m
  of_hop (Some (Entry r)) e is m = absurd m
  of_hop (Some (Label l)) e is m = absurd m
  of_hop (Some (Object (low.Instance ms))) e is m = absurd m
  of_hop (Some (Object (low.AttachPort p j a b))) e is m = absurd m
  of_hop (Some (Object (low.AttachCircuit p j a))) e is m = absurd m
  of_hop (Some (Object (low.Acl s r))) e is m = absurd m
  of_hop (Some (Object (low.ChainUse a b ls rs hops))) e is m =
      of_use (record { number = use_of i; left = a; right = b; left_subnets = ls; right_subnets = rs; services = length hops }) is refl
      (tied (Low (key.ChainUse (use_of i))) (Object (low.ChainUse a b ls rs hops)) e) m

  of_network : (o : Option Value) → get feed (Low (key.Instance i.0)) ≡ o → is_hop i ≡ false → Member n (network_imports (as_object o)) → IsRowLabel t i label
  of_network None e is m = absurd m
  of_network (Some (Route r)) e is m = absurd m
  of_network (Some (Entry r)) e is m = absurd m
  of_network (Some (Label l)) e is m = absurd m
  of_network (Some (Object (low.AttachPort p j a b))) e is m = absurd m
  of_network (Some (Object (low.AttachCircuit p j a))) e is m = absurd m
  of_network (Some (Object (low.Acl s r))) e is m = absurd m
  of_network (Some (Object (low.ChainUse a b ls rs hops))) e is m = absurd m
  of_network (Some (Object (low.Instance ms))) e is m =
      let q = tied (Low (key.Instance i.0)) (Object (low.Instance ms)) e n m in
      inr (is, (n, q.1, own_port t n label q.0 own))

  pub imports_lead : Member n (imports feed i) → IsRowLabel t i label
  imports_lead m =
      elim (is_hop i) as (λ b. is_hop i ≡ b → Member n (cond b (hop_imports (place_of i) (use_from (use_of i) (as_object (get feed (Low (key.ChainUse (use_of i))))))) (network_imports (as_object (get feed (Low (key.Instance i.0)))))) → IsRowLabel t i label) [
        | true ↦ λ is m. of_hop (get feed (Low (key.ChainUse (use_of i)))) refl is m
        | false ↦ λ is m. of_network (get feed (Low (key.Instance i.0))) refl is m
      ] refl m
