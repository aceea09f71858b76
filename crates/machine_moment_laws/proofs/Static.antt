-- What is common stands in each configuration at one place: so what is told of it, which stood in some configuration, is it.
use Rattle.std.specs.Prelude.{◌≡◌, ◌==◌, ◌&&◌, ◌⊎◌, ◌-◌, ℕ, suc, Bool, List, ◌∷◌, map, true, false, cond}
use Rattle.std.specs.List.{list_all}
use Rattle.std.specs.declared.option.Option.{Option}
use Rattle.std.specs.declared.option.Option.TheVariants.{None, Some}
use Rattle.std.proofs.Common.{ap, inl, inr, refl, subst, sym, ◌∙◌}
use Rattle.std.proofs.lemmas.Bool.{and_parts, eq-eqb, eqb-true, true≢false}
use Rattle.std.proofs.lemmas.Option.{same_Some}
use Rattle.ov_types.specs.Prefix.{Block}
use Rattle.ov_types.specs.declared.numbers.InstanceId.{InstanceId}
use Rattle.ov_types.specs.declared.numbers.Label.{Label as LabelNo}
use Rattle.ov_types.specs.declared.numbers.ServiceNo.{ServiceNo}
use Rattle.ov_types.specs.declared.objects.LowKey.{LowKey}
use Rattle.ov_types.specs.declared.objects.LowKey.TheVariants as key
use Rattle.ov_types.specs.declared.objects.LowValue.{LowValue}
use Rattle.ov_types.specs.declared.objects.LowValue.TheVariants as low
use Rattle.ov_types.specs.declared.prefix.Addr.{Addr}
use Rattle.config_types.specs.declared.topology.Node.{Node}
use Rattle.schedule_script.specs.ConfigCheck.Checked.{Checked}
use Rattle.schedule_script.specs.ConfigCheck.Finding.{node_named}
use Rattle.schedule_script.proofs.ConfigCheck.Validity.{valid_iff}
use Rattle.node_laws.specs.NodeModel.Maps.{Map, as_object, object, objects}
use Rattle.node_laws.specs.NodeModel.Members.{Member}
use Rattle.node_laws.specs.NodeModel.Uses.{hop_imports, imports, is_hop, network_imports, place_of, use_from, use_of}
use Rattle.node_laws.proofs.NodeModel.Members.{contains_of, from_any, from_filter_map, none_some}
use Rattle.node_laws.proofs.NodeModel.Objects.{is_hop-hop, object_of}
use Rattle.node_laws.proofs.NodeModel.Places.{is_hop-network}
use Rattle.machine_model.specs.Setup.{Name, low_in, opening}
use Rattle.machine_model.proofs.Asking.{names_of_nodes}
use Rattle.machine_model.proofs.Changing.{found_alone}
use Rattle.machine_laws.specs.Compiled.{Attachment, as_attachment, attachments}
use Rattle.machine_laws.specs.Headline.{IsWritten}
use Rattle.machine_laws.specs.Setups.{IsSoundSetup}
use Rattle.machine_laws.proofs.Written.{sound_setup}
use Rattle.transform_model.proofs.Valid.{one_node_at}
use Rattle.machine_moment_laws.specs.Common.{ChangesHands, common, common_object, is_object, standing, stands_at}
use Rattle.machine_moment_laws.proofs.Above.{attachment_above}
use Rattle.machine_moment_laws.proofs.Here.{stands_among, stands_there}
use Rattle.machine_moment_laws.proofs.Parts.{IsAbove, IsPartOf, common_is_part, common_of}
use Rattle.machine_moment_laws.proofs.Stood.{HostStood, LedStood, RowStood, StoodAt}

-- ---- imports of a map that has all of another
uses_part : (j u : ℕ) (n : InstanceId) (w v : LowValue) → IsPartOf w v → Member n (hop_imports j (use_from u (Some w))) → Member n (hop_imports j (use_from u (Some v)))
uses_part j u n (low.ChainUse l r ls rs hops) (low.ChainUse l' r' ls' rs' hops') h m =
    subst (λ (a : InstanceId). Member n (hop_imports j (use_from u (Some (low.ChainUse a r' ls' rs' hops'))))) h.0
    (subst (λ (a : InstanceId). Member n (hop_imports j (use_from u (Some (low.ChainUse l a ls' rs' hops'))))) h.1.0
    (subst (λ (hs : List (ServiceNo × Addr)). Member n (hop_imports j (use_from u (Some (low.ChainUse l r ls' rs' hs))))) h.1.1.0 m))
uses_part j u n (low.ChainUse l r ls rs hops) (low.Instance is) h m = absurd h
uses_part j u n (low.ChainUse l r ls rs hops) (low.AttachPort p i a d) h m = absurd h
uses_part j u n (low.ChainUse l r ls rs hops) (low.AttachCircuit c s d) h m = absurd h
uses_part j u n (low.ChainUse l r ls rs hops) (low.Acl s q) h m = absurd h
uses_part j u n (low.Instance is) v h m = absurd m
uses_part j u n (low.AttachPort p i a d) v h m = absurd m
uses_part j u n (low.AttachCircuit c s d) v h m = absurd m
uses_part j u n (low.Acl s q) v h m = absurd m

networks_part : (n : InstanceId) (w v : LowValue) → IsPartOf w v → Member n (network_imports (Some w)) → Member n (network_imports (Some v))
networks_part n (low.Instance is) (low.Instance js) h m = h n m
networks_part n (low.Instance is) (low.AttachPort p i a d) h m = absurd h
networks_part n (low.Instance is) (low.AttachCircuit c s d) h m = absurd h
networks_part n (low.Instance is) (low.Acl s q) h m = absurd h
networks_part n (low.Instance is) (low.ChainUse l r ls rs hops) h m = absurd h
networks_part n (low.AttachPort p i a d) v h m = absurd m
networks_part n (low.AttachCircuit c s d) v h m = absurd m
networks_part n (low.Acl s q) v h m = absurd m
networks_part n (low.ChainUse l r ls rs hops) v h m = absurd m

module _ (m f : Map) (above : IsAbove m f) where
  pub imports_above : (i n : InstanceId) → Member n (imports m i) → Member n (imports f i)
  imports_above i n h = by (is_hop i) h
    where
      of_hop : (o : Option LowValue) → object m (key.ChainUse (use_of i)) ≡ o → Member n (hop_imports (place_of i) (use_from (use_of i) o)) → Member n (hop_imports (place_of i) (use_from (use_of i) (object f (key.ChainUse (use_of i)))))
      of_hop None e h = absurd h
      of_hop (Some w) e h =
          let q = above (key.ChainUse (use_of i)) w e in
          subst (λ (o : Option LowValue). Member n (hop_imports (place_of i) (use_from (use_of i) o))) (sym q.1) (uses_part (place_of i) (use_of i) n w q.0 q.2 h)

      of_network : (o : Option LowValue) → object m (key.Instance i.0) ≡ o → Member n (network_imports o) → Member n (network_imports (object f (key.Instance i.0)))
      of_network None e h = absurd h
      of_network (Some w) e h =
          let q = above (key.Instance i.0) w e in
          subst (λ (o : Option LowValue). Member n (network_imports o)) (sym q.1) (networks_part n w q.0 q.2 h)

      by : (b : Bool) → Member n (cond b (hop_imports (place_of i) (use_from (use_of i) (object m (key.ChainUse (use_of i))))) (network_imports (object m (key.Instance i.0)))) → Member n (cond b (hop_imports (place_of i) (use_from (use_of i) (object f (key.ChainUse (use_of i))))) (network_imports (object f (key.Instance i.0))))
      by true h = of_hop (object m (key.ChainUse (use_of i))) refl h
      by false h = of_network (object m (key.Instance i.0)) refl h

-- ---- the common part
module _ (b : Checked) (ds : List Checked) (written : (c : Checked) → Member c (b ∷ ds) → IsWritten (opening c)) where
  abbrev cs : List Checked
  cs = b ∷ ds

  abbrev M : Map
  M = common cs

  sound_of : (c : Checked) → Member c cs → IsSoundSetup (opening c)
  sound_of c m = sound_setup (opening c) (written c m)

  -- ---- compute nodes
  pub stood_name : (n : Node) → Member n (standing cs) → (name : Name) → StoodAt cs name n.address → name ≡ n.name
  stood_name n m name q =
      let c = q.0 in let k = q.2.0 in
      let v = (valid_iff c.topology c.config).0 (written c q.1).valid in
      let same : k ≡ n = one_node_at c.topology c.config v k n (contains_of c.topology.nodes k q.2.1) (contains_of c.topology.nodes n (stands_among b ds written n m c q.1)) (ap (λ (a : Addr). a.0) q.2.3) in
      sym q.2.2 ∙ ap (λ (n : Node). n.name) same

  pub stood_address : (n : Node) → Member n (standing cs) → (a : Addr) → StoodAt cs n.name a → a ≡ n.address
  stood_address n m a q =
      let c = q.0 in let k = q.2.0 in
      let found : node_named c.topology k.name ≡ Some k = found_alone k c.topology.nodes (names_of_nodes c.topology (sound_of c q.1).named.apart) q.2.1 in
      let same : k ≡ n = same_Some k n (sym found ∙ ap (node_named c.topology) q.2.2 ∙ stands_there b ds written n m c q.1) in
      sym q.2.3 ∙ ap (λ (n : Node). n.address) same

  -- ---- attachments of the common part
  abbrev IsHomed : LowValue → Attachment → Type 0
  IsHomed v a = (n : Node) × Member n (standing cs) × (n.address ≡ a.node)

  stands_is : (a : Addr) → stands_at (standing cs) a ≡ true → (n : Node) × Member n (standing cs) × (n.address ≡ a)
  stands_is a e = let q = from_any (λ (n : Node). n.address.0 == a.0) (standing cs) e in (q.0, q.1, (λ i. record { 0 = eqb-true q.0.address.0 a.0 q.2 i }))

  when_true : (c : Bool) (v w : LowValue) → cond c (Some v) None ≡ Some w → (c ≡ true) × (v ≡ w)
  when_true true v w e = (refl, same_Some v w e)
  when_true false v w e = absurd (none_some w e)

  homed : (k : LowKey) (v w : LowValue) (a : Attachment) → common_object (standing cs) (map low_in ds) k v ≡ Some w → as_attachment k w ≡ Some a → IsHomed v a
  homed (key.Attach l) (low.AttachPort p i x n) w a e h =
      let v : LowValue = low.AttachPort p i x n in
      let q = when_true (list_all (λ m. is_object v (object m (key.Attach l))) (map low_in ds) && stands_at (standing cs) n) v w e in
      let s = stands_is n (and_parts (list_all (λ m. is_object v (object m (key.Attach l))) (map low_in ds)) (stands_at (standing cs) n) q.0).1 in
      (s.0, s.1, s.2 ∙ ap (λ (a : Attachment). a.node) (same_Some _ a (ap (as_attachment (key.Attach l)) q.1 ∙ h)))
  homed (key.Attach l) (low.AttachCircuit c sv n) w a e h =
      let v : LowValue = low.AttachCircuit c sv n in
      let q = when_true (list_all (λ m. is_object v (object m (key.Attach l))) (map low_in ds) && stands_at (standing cs) n) v w e in
      let s = stands_is n (and_parts (list_all (λ m. is_object v (object m (key.Attach l))) (map low_in ds)) (stands_at (standing cs) n) q.0).1 in
      (s.0, s.1, s.2 ∙ ap (λ (a : Attachment). a.node) (same_Some _ a (ap (as_attachment (key.Attach l)) q.1 ∙ h)))
  homed (key.Attach l) (low.Instance is) w a e h = absurd (no_attachment w (some_value _ _ w e) h)
    where
      some_value : (c : Bool) (v w : LowValue) → cond c (Some v) None ≡ Some w → v ≡ w
      some_value c v w e = (when_true c v w e).1

      no_attachment : (w : LowValue) {is : List InstanceId} → low.Instance is ≡ w → as_attachment (key.Attach l) w ≡ Some a → ⊥
      no_attachment w e h = none_some a (ap (as_attachment (key.Attach l)) e ∙ h)
  homed (key.Attach l) (low.Acl ss rs) w a e h = absurd (none_some a (ap (as_attachment (key.Attach l)) (when_true _ _ w e).1 ∙ h))
  homed (key.Attach l) (low.ChainUse x y c d f) w a e h = absurd (none_some a (ap (as_attachment (key.Attach l)) (when_true _ _ w e).1 ∙ h))
  homed (key.Instance n) v w a e h = absurd (none_some a h)
  homed (key.Acl x y) v w a e h = absurd (none_some a h)
  homed (key.ChainUse u) v w a e h = absurd (none_some a h)

  pub attached_standing : (a : Attachment) → Member a (attachments M) → (n : Node) × Member n (standing cs) × (n.address ≡ a.node)
  attached_standing a m =
      let q = from_filter_map (λ (e : LowKey × LowValue). as_attachment e.0 e.1) a (objects M) m in
      let o = common_of (standing cs) (map low_in ds) (low_in b) q.0.0 q.0.1 (ap as_object (object_of M q.0.0 q.0.1 q.1)) in
      homed q.0.0 o.value q.0.1 a o.is q.2

  pub attached_in : (a : Attachment) → Member a (attachments M) → (c : Checked) → Member c cs → Member a (attachments (low_in c))
  attached_in a m c i = attachment_above M (low_in c) (common_is_part b ds c i) a m

  pub imported_in : (i n : InstanceId) → Member n (imports M i) → (c : Checked) → Member c cs → Member n (imports (low_in c) i)
  imported_in i n m c j = imports_above M (low_in c) (common_is_part b ds c j) i n m

  -- ---- rows of networks
  pub record LeadsTo (a : Attachment) (hop : Addr) (label : LabelNo) : Type 0 where
    pub hop_is : hop ≡ a.node
    pub label_is : label ≡ a.label

  pub host_leads : (a : Attachment) → Member a (attachments M) → (i : InstanceId) → Member a.instance (imports M i) → (name : Name) (hop : Addr) (label : LabelNo) → StoodAt cs name hop → HostStood cs name a.instance a.prefix label → LeadsTo a hop label
  host_leads a m i imported name hop label at q =
      let sound = (sound_of q.config q.among).sound in
      let there = imported_in i a.instance imported q.config q.among in
      let same : q.to ≡ a = sound.one_host i q.to a q.attached (attached_in a m q.config q.among) (subst (λ (n : InstanceId). Member n (imports (low_in q.config) i)) (sym q.instance) there) there q.at in
      let n = attached_standing a m in
      let named : name ≡ n.0.name = stood_name n.0 n.1 name (subst (StoodAt cs name) (ap (λ (a : Attachment). a.node) same ∙ sym n.2) q.stood) in
      record {
        hop_is = stood_address n.0 n.1 hop (subst (λ (k : Name). StoodAt cs k hop) named at) ∙ n.2;
        label_is = sym q.labelled ∙ ap (λ (a : Attachment). a.label) same;
      }

  pub led_hop : (name : Name) (i : InstanceId) (prefix : Block) (label : LabelNo) → LedStood cs name i prefix label → is_hop i ≡ true
  led_hop name i prefix label q = ap is_hop (sym q.instance) ∙ is_hop-hop q.side.chain.number (cond q.side.is_right (q.side.chain.services - suc q.depth) (suc q.depth))

  -- a row of a network that leads to an address which changed no hands leads where the common part has it lead
  pub network_row : (i : InstanceId) → is_hop i ≡ false → (a : Attachment) → Member a (attachments M) → Member a.instance (imports M i) → (ChangesHands cs i a.prefix → ⊥) → (hop : Addr) (label : LabelNo) → RowStood cs i a.prefix hop label → LeadsTo a hop label
  network_row i net a m imported keeps hop label (inr q) = absurd (true≢false (sym (led_hop q.0 i a.prefix label q.2) ∙ net))
  network_row i net a m imported keeps hop label (inl q) = by_path q.2.leads
    where
      n : InstanceId
      n = q.0

      small : is_hop n ≡ false
      small = let c = q.1 in is_hop-network n ((sound_of c.0 c.1).sound.imports_small i n net c.2)

      by_number : (c : Bool) → (n.0 == a.instance.0) ≡ c → HostStood cs q.2.name n a.prefix label → LeadsTo a hop label
      by_number true e h = host_leads a m i imported q.2.name hop label q.2.stood (subst (λ (k : InstanceId). HostStood cs q.2.name k a.prefix label) (λ j. record { 0 = eqb-true n.0 a.instance.0 e j }) h)
      by_number false e h = absurd (keeps (record {
        network = net;
        first = n;
        second = a.instance;
        first_held = record { imported = q.1; attached = (h.config, h.among, (h.to, h.attached, h.instance, h.at)) };
        second_held = record { imported = (b, inl refl, imported_in i a.instance imported b (inl refl)); attached = (b, inl refl, (a, attached_in a m b (inl refl), refl, refl)) };
        apart = λ is. true≢false (sym (eq-eqb n.0 a.instance.0 (ap (λ (k : InstanceId). k.0) is)) ∙ e);
      }))

      by_path : HostStood cs q.2.name n a.prefix label ⊎ LedStood cs q.2.name n a.prefix label → LeadsTo a hop label
      by_path (inl h) = by_number (n.0 == a.instance.0) refl h
      by_path (inr l) = absurd (true≢false (sym (led_hop q.2.name n a.prefix label l) ∙ small))
