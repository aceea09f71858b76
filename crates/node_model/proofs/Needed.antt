-- An agent needs, and subscribes, the instances of its attachments and those that its access lists enter.
use Rattle.std.specs.Prelude.{◌≡◌, ◌↔◌, true, ◌==◌}
use Rattle.std.specs.declared.option.Option.TheVariants.{Some}
use Rattle.std.proofs.lemmas.Bool.{eqb-true, eq-eqb}
use Rattle.std.proofs.lemmas.Option.{same_Some}
use Rattle.std.proofs.Common.{refl, ap, subst, inl, inr}
use Rattle.ov_types.specs.declared.numbers.InstanceId.{InstanceId}
use Rattle.ov_types.specs.declared.objects.AclAction.{AclAction}
use Rattle.ov_types.specs.declared.objects.AclAction.TheVariants.{Pass, Deny, Enter}
use Rattle.ov_types.specs.declared.objects.AclRule.{AclRule}
use Rattle.ov_types.specs.declared.objects.LowKey.{LowKey}
use Rattle.ov_types.specs.declared.objects.LowValue.{LowValue}
use Rattle.ov_types.specs.declared.objects.LowValue.TheVariants as low
use Rattle.node_model.specs.Members.{Member}
use Rattle.node_model.specs.Agent.{Holdings, slice_in_use, entered_by, needed_for, needed_by, is_needed, IsNeededFor, IsNeeded}
use Rattle.node_model.proofs.Members.{none_some, from_any, any_in, from_flat_map, in_flat_map, from_filter_map, in_filter_map}

entered_is : (a : AclAction) (i : InstanceId) → entered_by a ≡ Some i → a ≡ Enter i
entered_is (Enter j) i e = ap Enter (same_Some j i e)
entered_is Pass i e = absurd (none_some i e)
entered_is Deny i e = absurd (none_some i e)

needed_from : (i : InstanceId) (v : LowValue) → Member i (needed_for v) → IsNeededFor i v
needed_from i (low.AttachPort port instance address node) (inl e) = e
needed_from i (low.AttachPort port instance address node) (inr m) = absurd m
needed_from i (low.AttachCircuit circuit service node) (inl e) = e
needed_from i (low.AttachCircuit circuit service node) (inr m) = absurd m
needed_from i (low.Acl subnets rules) m = let q = from_filter_map (λ (r : AclRule). entered_by r.action) i rules m in (q.0, q.1, entered_is q.0.action i q.2)
needed_from i (low.Instance imports) m = m
needed_from i (low.ChainUse left right ls rs hops) m = m

needed_to : (i : InstanceId) (v : LowValue) → IsNeededFor i v → Member i (needed_for v)
needed_to i (low.AttachPort port instance address node) e = inl e
needed_to i (low.AttachCircuit circuit service node) e = inl e
needed_to i (low.Acl subnets rules) q = in_filter_map (λ (r : AclRule). entered_by r.action) q.0 i rules q.1 (ap entered_by q.2)
needed_to i (low.Instance imports) m = m
needed_to i (low.ChainUse left right ls rs hops) m = m

pub same_instance : (i j : InstanceId) → (i.0 == j.0) ≡ true → i ≡ j
same_instance i j e = λ k. record { 0 = eqb-true i.0 j.0 e k }

pub needed_is : (h : Holdings) (i : InstanceId) → (is_needed h i ≡ true) ↔ IsNeeded (slice_in_use h) i
needed_is h i = (
  (λ e.
      let q = from_any (λ (n : InstanceId). n.0 == i.0) (needed_by (slice_in_use h)) e in
      let o = from_flat_map (λ (e : LowKey × LowValue). needed_for e.1) q.0 (slice_in_use h) q.1 in
      record { name = o.0.0; object = o.0.1; held = o.1; needs = subst (λ (x : InstanceId). IsNeededFor x o.0.1) (same_instance q.0 i q.2) (needed_from q.0 o.0.1 o.2) }),
  (λ n.
      any_in (λ (x : InstanceId). x.0 == i.0) i (needed_by (slice_in_use h))
      (in_flat_map (λ (e : LowKey × LowValue). needed_for e.1) (n.name, n.object) i (slice_in_use h) n.held (needed_to i n.object n.needs)) (eq-eqb i.0 i.0 refl)),
)
