-- The list of what is needed has exactly what is.
use Rattle.std.specs.Prelude.{◌≡◌, ◌⊎◌, ◌≤◌, ◌<◌, ℕ, ◌+◌, ◌-◌, ◌*◌, ◌/◌, ◌^◌, ◌==◌, ◌&&◌, nat_le, Bool, true, false, cond, List, [], ◌∷◌, map, is_some, ◌↔◌}
use Rattle.std.specs.declared.option.Option.{Option}
use Rattle.std.specs.declared.option.Option.TheVariants.{Some, None}
use Rattle.std.specs.List.{filter, filter_map, flat_map}
use Rattle.std.specs.List.Sorted.{IsStrictlySortedBy}
use Rattle.std.specs.FinMap.{get, entries}
use Rattle.std.proofs.lemmas.List.Kept.{IsStrictlySortedBy-filter}
use Rattle.std.proofs.lemmas.Bool.{and_parts, and_from, eqb-true, eq-eqb, leb-true}
use Rattle.std.proofs.Common.{refl, sym, ◌∙◌, ap, subst, inl, inr, arith}
use Rattle.ov_types.specs.Prefix.{Block, host_prefix}
use Rattle.ov_types.specs.declared.keys.UpKey.{UpKey}
use Rattle.ov_types.specs.declared.keys.UpKey.TheVariants as Up
use Rattle.ov_types.specs.declared.numbers.InstanceId.{InstanceId}
use Rattle.ov_types.specs.declared.numbers.Label.{Label as LabelNo}
use Rattle.ov_types.specs.declared.prefix.Addr.{Addr}
use Rattle.route_targets.specs.Numbers.{circuit_instance_of, circuit_address_of}
use Rattle.node_model.specs.Keys.{Key, Publish, Subscribe, Low, Vpn, Row}
use Rattle.node_model.specs.Values.{Value, Label, Object, Route, Entry}
use Rattle.node_model.specs.Maps.{Map, as_label}
use Rattle.node_model.specs.Members.{Member}
use Rattle.node_model.specs.Paths.{Holdings, Told}
use Rattle.node_model.specs.Reaching.{published_by, published_in, publisher}
use Rattle.node_model.specs.Uses.{is_known}
use Rattle.node_model.proofs.Members.{in_filter, from_filter, in_filter_map, from_filter_map, in_flat_map, from_flat_map, get_member, member_get, none_some}
use Rattle.node_model.proofs.Orders.{key_total, key_exact}
use Rattle.node_model.proofs.Directions.{up_total, up_exact}
use Rattle.vpn_tables.specs.Gathered.{held_keys, in_order, keys_told, up_key}
use Rattle.vpn_tables.specs.Views.{up_order}
use Rattle.rt_constrain.specs.Needs.{IsAcross, IsNeeded, IsSubscribedHere, instance_across, is_circuit}
use Rattle.rt_constrain.specs.Needed.{circuit_numbered, instance_order, is_of_circuit, needed, reason, up_keys}
use Rattle.rt_constrain.proofs.Ordered.{instance_exact, instance_total, in_order_ascends, into_order, from_order}

-- ---- what an agent told has keys
-- an agent told a key under a value
pub record IsToldAs (h : Holdings) (k : Key) (v : Value) : Type 0 where
  pub agent : Told
  pub told : Member agent h.agents
  pub at : get agent.map k ≡ Some v

key_in : (h : Holdings) (k : Key) (v : Value) (u : UpKey) → IsToldAs h k v → up_key k v ≡ Some u → Member u (up_keys h)
key_in h k v u told is =
    into_order up_order up_total up_exact u (held_keys h)
    (in_flat_map keys_told told.agent u h.agents told.told
    (in_filter_map (λ (e : Key × Value). up_key e.0 e.1) (k, v) u (entries told.agent.map) (member_get key_total key_exact told.agent.map k v told.at) is))

record IsFrom (h : Holdings) (u : UpKey) : Type 0 where
  key : Key
  value : Value
  told : IsToldAs h key value
  is : up_key key value ≡ Some u

key_from : (h : Holdings) (u : UpKey) → Member u (up_keys h) → IsFrom h u
key_from h u m =
    let a = from_flat_map keys_told u h.agents (from_order up_order up_total up_exact u (held_keys h) m) in
    let e = from_filter_map (λ (e : Key × Value). up_key e.0 e.1) u (entries a.0.map) a.2 in
    record {
      key = e.0.0;
      value = e.0.1;
      told = record { agent = a.0; told = a.1; at = get_member key_total a.0.map e.0.0 e.0.1 e.1 };
      is = e.2;
    }

-- ---- circuits
label_some : (o : Option Value) (l : LabelNo) → as_label o ≡ Some l → o ≡ Some (Label l)
label_some (Some (Label m)) l e = ap (λ (o : Option LabelNo). Some (Label (from o))) e
  where
    from : Option LabelNo → LabelNo
    from (Some n) = n
    from None = m
label_some (Some (Object v)) l e = absurd (none_some l e)
label_some (Some (Route v)) l e = absurd (none_some l e)
label_some (Some (Entry v)) l e = absurd (none_some l e)
label_some None l e = absurd (none_some l e)

abbrev circuit_key : ℕ → Key
circuit_key c = Publish (circuit_instance_of c) (host_prefix (circuit_address_of c).0)

-- an agent that publishes a circuit told its key under a label
record Published (agents : List Told) (c : ℕ) : Type 0 where
  agent : Told
  told : Member agent agents
  label : LabelNo
  at : get agent.map (circuit_key c) ≡ Some (Label label)

some_published : (agents : List Told) (c : ℕ) → is_some (published_in agents c) ≡ true → Published agents c
some_published [] c e = absurd cc
some_published (a ∷ agents) c e = by (published_by a c) refl (λ rest. some_published agents c rest) e
  where
    by : (o : Option LabelNo) → published_by a c ≡ o → (is_some (published_in agents c) ≡ true → Published agents c)
        → is_some (elim o [ Some label ↦ Some (a.address, label) | None ↦ published_in agents c ]) ≡ true → Published (a ∷ agents) c
    by (Some l) is later _ = record { agent = a; told = inl refl; label = l; at = label_some (get a.map (circuit_key c)) l is }
    by None _ later e =
        let p = later e in
        record { agent = p.agent; told = inr p.told; label = p.label; at = p.at }

published_some : (agents : List Told) (c : ℕ) → Published agents c → is_some (published_in agents c) ≡ true
published_some [] c p = absurd p.told
published_some (a ∷ agents) c p = by (published_by a c) refl (λ rest. published_some agents c rest)
  where
    by : (o : Option LabelNo) → published_by a c ≡ o → (Published agents c → is_some (published_in agents c) ≡ true)
        → is_some (elim o [ Some label ↦ Some (a.address, label) | None ↦ published_in agents c ]) ≡ true
    by (Some l) is rest = refl
    by None is rest = elim p.told [
      | inl same ↦ absurd (none_some p.label (sym is ∙ ap as_label (ap (λ (b : Told). get b.map (circuit_key c)) same ∙ p.at)))
      | inr later ↦ rest (record { agent = p.agent; told = later; label = p.label; at = p.at })
    ]

-- the prefix of a circuit is its own
circuit_again : (c : ℕ) → circuit_numbered (circuit_address_of c).0 ≡ c
circuit_again c = omega arith

of_its_own : (c : ℕ) → is_circuit c ≡ true → is_of_circuit c (circuit_instance_of c) (host_prefix (circuit_address_of c).0) ≡ true
of_its_own c is = and_from _ _ is (and_from _ _ (eq-eqb (c / 2) (c / 2) refl) refl)

reason_of : (c : ℕ) → is_circuit c ≡ true → reason (Up.Publish (circuit_instance_of c) (host_prefix (circuit_address_of c).0)) ≡ Some (instance_across c)
reason_of c is =
    ap (λ (n : ℕ). cond (is_of_circuit n (circuit_instance_of c) (host_prefix (circuit_address_of c).0)) (Some (instance_across n)) None) (circuit_again c)
    ∙ ap (λ b. cond b (Some (instance_across c)) None) (of_its_own c is)

-- ---- what is needed is listed
because_in : (h : Holdings) (i : InstanceId) → IsSubscribedHere h i ⊎ IsAcross h i → Member i (filter_map reason (up_keys h))
because_in h i (inl s) = by (get s.agent.map (Subscribe i)) refl s.subscribes
  where
    by : (o : Option Value) → get s.agent.map (Subscribe i) ≡ o → is_some o ≡ true → Member i (filter_map reason (up_keys h))
    by (Some v) is _ =
        in_filter_map reason (Up.Subscribe i) i (up_keys h)
        (key_in h (Subscribe i) v (Up.Subscribe i) (record { agent = s.agent; told = s.told; at = is }) refl) refl
    by None is e = absurd cc
because_in h i (inr a) =
    let p = some_published h.agents a.circuit a.published in
    let k : UpKey = Up.Publish (circuit_instance_of a.circuit) (host_prefix (circuit_address_of a.circuit).0) in
    in_filter_map reason k i (up_keys h)
    (key_in h (circuit_key a.circuit) (Label p.label) k (record { agent = p.agent; told = p.told; at = p.at }) refl)
    (reason_of a.circuit a.numbered ∙ ap Some a.across)

-- ---- what is listed is needed
same_key : (k : Key) (v : Value) (i : InstanceId) → up_key k v ≡ Some (Up.Subscribe i) → k ≡ Subscribe i
same_key (Subscribe j) v i e = ap (λ (o : Option UpKey). Subscribe (from o)) e
  where
    from : Option UpKey → InstanceId
    from (Some (Up.Subscribe n)) = n
    from _ = j
same_key (Publish j p) (Label l) i e = absurd cc
same_key (Publish j p) (Object v) i e = absurd (none_some _ e)
same_key (Publish j p) (Route v) i e = absurd (none_some _ e)
same_key (Publish j p) (Entry v) i e = absurd (none_some _ e)
same_key (Low k) v i e = absurd (none_some _ e)
same_key (Vpn k) v i e = absurd (none_some _ e)
same_key (Row j p) v i e = absurd (none_some _ e)

record Labelled (k : Key) (v : Value) (i : InstanceId) (p : Block) : Type 0 where
  label : LabelNo
  key_is : k ≡ Publish i p
  value_is : v ≡ Label label

same_publication : (k : Key) (v : Value) (i : InstanceId) (p : Block) → up_key k v ≡ Some (Up.Publish i p) → Labelled k v i p
same_publication (Publish j q) (Label l) i p e = record { label = l; key_is = ap (λ (o : Option UpKey). from o) e; value_is = refl }
  where
    from : Option UpKey → Key
    from (Some (Up.Publish n m)) = Publish n m
    from _ = Publish j q
same_publication (Subscribe j) v i p e = absurd cc
same_publication (Publish j q) (Object v) i p e = absurd (none_some _ e)
same_publication (Publish j q) (Route v) i p e = absurd (none_some _ e)
same_publication (Publish j q) (Entry v) i p e = absurd (none_some _ e)
same_publication (Low k) v i p e = absurd (none_some _ e)
same_publication (Vpn k) v i p e = absurd (none_some _ e)
same_publication (Row j q) v i p e = absurd (none_some _ e)

-- a prefix that is a circuit's is its host address in its instance
circuit_prefix : (c : ℕ) (i : InstanceId) (p : Block) → c ≡ circuit_numbered p.addr → is_of_circuit c i p ≡ true
    → (circuit_instance_of c ≡ i) × (host_prefix (circuit_address_of c).0 ≡ p)
circuit_prefix c i p n is =
    let whole = and_parts (is_circuit c) (c / 2 == i.0 && p.len == 32) is in
    let parts = and_parts (c / 2 == i.0) (p.len == 32) whole.1 in
    let low : 32769 ≤ c = leb-true 32769 c (and_parts (nat_le 32769 c) (nat_le c 131070) whole.0).0 in
    let address : 250 * 2 ^ 24 + c ≡ p.addr = omega (arith, n, low) in (
      (λ k. record { 0 = eqb-true (c / 2) i.0 parts.0 k }),
      (λ k. record { addr = address k; len = sym (eqb-true p.len 32 parts.1) k }),
    )

why : (h : Holdings) (i : InstanceId) (u : UpKey) → IsFrom h u → reason u ≡ Some i → IsSubscribedHere h i ⊎ IsAcross h i
why h i (Up.Subscribe j) f e =
    inl (record {
      agent = f.told.agent;
      told = f.told.told;
      subscribes = ap is_some (ap (get f.told.agent.map) (sym (same_key f.key f.value i (f.is ∙ ap (λ (o : Option InstanceId). Some (Up.Subscribe (unwrap o))) e))) ∙ f.told.at);
    })
  where
    unwrap : Option InstanceId → InstanceId
    unwrap (Some n) = n
    unwrap None = j
why h i (Up.Publish j p) f e = by (is_of_circuit (circuit_numbered p.addr) j p) refl e
  where
    by : (b : Bool) → is_of_circuit (circuit_numbered p.addr) j p ≡ b → cond b (Some (instance_across (circuit_numbered p.addr))) None ≡ Some i
        → IsSubscribedHere h i ⊎ IsAcross h i
    by true is e =
        let c : ℕ = circuit_numbered p.addr in
        let same = circuit_prefix c j p refl is in
        let l = same_publication f.key f.value j p f.is in
        inr (record {
          circuit = c;
          numbered = (and_parts (is_circuit c) (c / 2 == j.0 && p.len == 32) is).0;
          published = published_some h.agents c (record {
            agent = f.told.agent;
            told = f.told.told;
            label = l.label;
            at = (λ k. get f.told.agent.map (Publish (same.0 k) (same.1 k))) ∙ ap (get f.told.agent.map) (sym l.key_is) ∙ f.told.at ∙ ap Some l.value_is;
          });
          across = ap (λ (o : Option InstanceId). unwrap c o) e;
        })
      where
        unwrap : ℕ → Option InstanceId → InstanceId
        unwrap c (Some n) = n
        unwrap c None = instance_across c
    by false is e = absurd (none_some i e)

pub listed_is_needed : (h : Holdings) (i : InstanceId) → Member i (needed h) → IsNeeded h i
listed_is_needed h i m =
    let known = from_filter (is_known h.feed) i (in_order instance_order (filter_map reason (up_keys h))) m in
    let u = from_filter_map reason i (up_keys h) (from_order instance_order instance_total instance_exact i (filter_map reason (up_keys h)) known.0) in
    record { known = known.1; why = why h i u.0 (key_from h u.0 u.1) u.2 }

pub needed_is_listed : (h : Holdings) (i : InstanceId) → IsNeeded h i → Member i (needed h)
needed_is_listed h i n =
    in_filter (is_known h.feed) i (in_order instance_order (filter_map reason (up_keys h)))
    (into_order instance_order instance_total instance_exact i (filter_map reason (up_keys h)) (because_in h i n.why)) n.known

pub needed_ascends : (h : Holdings) → IsStrictlySortedBy instance_order (needed h)
needed_ascends h = IsStrictlySortedBy-filter instance_order (is_known h.feed) (in_order instance_order (filter_map reason (up_keys h))) (in_order_ascends instance_order instance_total (filter_map reason (up_keys h)))
