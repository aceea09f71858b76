-- Labels of instances, and where they may lead.
use Rattle.std.specs.FinMap.{empty, get, get-empty}
use Rattle.std.specs.Prelude.{List, false, true, ℕ, [], ◌%◌, ◌*◌, ◌+◌, ◌-◌, ◌/◌, ◌<◌, ◌∷◌, ◌≡◌}
use Rattle.std.specs.declared.option.Option.TheVariants.{None, Some}
use Rattle.std.specs.declared.option.Option.{Option}
use Rattle.std.proofs.Common.{ap, arith, inl, inr, refl, sym, ◌∙◌}
use Rattle.std.proofs.lemmas.Bool.{ltb-true, true≢false}
use Rattle.std.proofs.lemmas.Option.{same_Some}
use Rattle.ov_types.specs.declared.numbers.InstanceId.{InstanceId}
use Rattle.ov_types.specs.declared.numbers.Label.{Label as LabelNo}
use Rattle.ov_types.specs.declared.objects.LowKey.{LowKey}
use Rattle.ov_types.specs.declared.objects.LowValue.{LowValue}
use Rattle.ov_types.specs.declared.prefix.Addr.{Addr}
use Rattle.route_targets.specs.Numbers.{circuit_instance_of, hop_instance_of}
use Rattle.node_laws.specs.NodeModel.Keys.{Low, Publish, key_cmp}
use Rattle.node_laws.specs.NodeModel.Maps.{Map, objects}
use Rattle.node_laws.specs.NodeModel.Members.{Member}
use Rattle.node_laws.specs.NodeModel.Paths.{Told}
use Rattle.node_laws.specs.NodeModel.Reaching.{published_by, published_in}
use Rattle.node_laws.specs.NodeModel.Uses.{is_hop, place_of, use_of}
use Rattle.node_laws.specs.NodeModel.Values.{Label, Object}
use Rattle.node_laws.proofs.NodeModel.Members.{none_some}
use Rattle.node_laws.proofs.NodeModel.Objects.{object_of}
use Rattle.machine_laws.specs.Compiled.{circuit_prefix}
use Rattle.node_laws.proofs.NodeModel.Routes.{label_is, led_by}
use Rattle.schedule_script.specs.Ties.{Ties}
use Rattle.machine_laws.specs.Tied.{AreTied, IsOwnLabel, IsPortLabel, IsRowLabel, IsTiedObject}

pub place_back : (i : InstanceId) → is_hop i ≡ true → hop_instance_of (use_of i) (place_of i) ≡ i
place_back i h = λ k. record { 0 = back i.0 (ltb-true 16383 i.0 h) k }
  where
    back : (n : ℕ) → 16383 < n → 16384 + 16 * ((n - 16384) / 16) + (n - 16384) % 16 ≡ n
    back n h = omega (arith, h)

pub label_of : (l : ℕ) (m : LabelNo) → l ≡ m.0 → ◌≡◌ {A = LabelNo} (record { 0 = l }) m
label_of l m e = λ k. record { 0 = e k }

-- ---- a circuit that is published is published by an agent, under the circuit's instance and address
abbrev or_else : Addr → List Told → ℕ → Option LabelNo → Option (Addr × LabelNo)
or_else address agents circuit o = elim o [ Some l ↦ Some (led_by address l) | None ↦ published_in agents circuit ]

abbrev pub IsPublisher : List Told → ℕ → LabelNo → Type 0
IsPublisher agents circuit label = (a : Told) × Member a agents × (get a.map (Publish (circuit_instance_of circuit) (circuit_prefix circuit)) ≡ Some (Label label))

pub publishes_circuit : (agents : List Told) (circuit : ℕ) (address : Addr) (label : LabelNo) → published_in agents circuit ≡ Some (led_by address label) → IsPublisher agents circuit label
publishes_circuit [] circuit address label e = absurd (none_some (led_by address label) e)
publishes_circuit (a ∷ agents) circuit address label e = by_first (published_by a circuit) refl (publishes_circuit agents circuit address label) e
  where
    by_first : (o : Option LabelNo) → published_by a circuit ≡ o → (published_in agents circuit ≡ Some (led_by address label) → IsPublisher agents circuit label) → or_else a.address agents circuit o ≡ Some (led_by address label) → IsPublisher (a ∷ agents) circuit label
    by_first None is rest e = let q = rest e in (q.0, inr q.1, q.2)
    by_first (Some l) is rest e =
        let s : ◌≡◌ {A = Addr × LabelNo} (led_by a.address l) (led_by address label) = same_Some (led_by a.address l) (led_by address label) e in
        (a, inl refl, label_is (get a.map (Publish (circuit_instance_of circuit) (circuit_prefix circuit))) label (is ∙ ap (λ (x : Addr × LabelNo). Some x.1) s))

module _ (t : Ties) where
  pub own_use : (i : InstanceId) (label : LabelNo) → is_hop i ≡ true → IsOwnLabel t i label → IsRowLabel t i label
  own_use i label is (inl l) = inl (is, inl l.1)
  own_use i label is (inr l) = absurd (true≢false (sym is ∙ l.0))

  pub own_port : (i : InstanceId) (label : LabelNo) → is_hop i ≡ false → IsOwnLabel t i label → IsPortLabel t i label
  own_port i label is (inl l) = absurd (true≢false (sym l.0 ∙ is))
  own_port i label is (inr l) = l.1

  pub own_leads : (i : InstanceId) (label : LabelNo) → IsOwnLabel t i label → IsRowLabel t i label
  own_leads i label (inl l) = inl (l.0, inl l.1)
  own_leads i label (inr l) = inr (l.0, (i, inl refl, l.1))

  pub none_tied : (asn : ℕ) → AreTied t asn empty
  none_tied asn k v e = absurd (none_some v (sym (get-empty key_cmp k) ∙ e))

  pub object_tied : (asn : ℕ) (m : Map) (k : LowKey) (v : LowValue) → AreTied t asn m → Member (k, v) (objects m) → IsTiedObject t k v
  object_tied asn m k v f h = f (Low k) (Object v) (object_of m k v h)
