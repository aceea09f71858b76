-- What the common part of configurations has: what each of them has, at compute nodes that stand.
use Rattle.std.specs.Prelude.{◌≡◌, ◌+◌, ◌<◌, ◌==◌, ◌&&◌, ℕ, Bool, List, [], ◌∷◌, length, map, is_some, true, false, cond}
use Rattle.std.specs.Cmp.Lexicographic.{pointwise}
use Rattle.std.specs.List.{filter, list_all}
use Rattle.std.specs.declared.option.Option.{Option}
use Rattle.std.specs.declared.option.Option.TheVariants.{None, Some}
use Rattle.std.proofs.Common.{ap, inl, inr, refl, subst, sym, ◌∙◌}
use Rattle.std.proofs.lemmas.Bool.{and_from, eq-eqb}
use Rattle.std.proofs.lemmas.Option.{same_Some}
use Rattle.ov_types.specs.Prefix.{Block}
use Rattle.ov_types.specs.First.{same_name}
use Rattle.ov_types.specs.declared.numbers.InstanceId.{InstanceId}
use Rattle.ov_types.specs.declared.numbers.PortNo.{PortNo}
use Rattle.ov_types.specs.declared.numbers.ServiceNo.{ServiceNo}
use Rattle.ov_types.specs.declared.objects.AclRule.{AclRule}
use Rattle.ov_types.specs.declared.objects.LowKey.{LowKey}
use Rattle.ov_types.specs.declared.objects.LowKey.TheVariants as key
use Rattle.ov_types.specs.declared.objects.LowValue.{LowValue}
use Rattle.ov_types.specs.declared.objects.LowValue.TheVariants as low
use Rattle.ov_types.specs.declared.prefix.Addr.{Addr}
use Rattle.route_targets.specs.Numbers.{circuit_instance_of, circuit_label_of, left_circuit_of, right_circuit_of}
use Rattle.config_types.specs.declared.topology.Node.{Node}
use Rattle.schedule_script.specs.ConfigCheck.Checked.{Checked}
use Rattle.schedule_script.specs.ConfigCheck.Sentences.{IsValid}
use Rattle.schedule_script.proofs.ConfigCheck.Validity.{valid_iff}
use Rattle.transform_model.specs.IsObject.{IsObject}
use Rattle.transform_model.specs.Objects.{LowObject}
use Rattle.node_laws.specs.NodeModel.Agent.{entered_by, needed_for}
use Rattle.node_laws.specs.NodeModel.Maps.{Map, as_object, object}
use Rattle.node_laws.specs.NodeModel.Members.{Member}
use Rattle.node_laws.specs.NodeModel.Reaching.{below}
use Rattle.node_laws.specs.NodeModel.Tables.{same_prefix}
use Rattle.node_laws.specs.NodeModel.Uses.{hop_imports, imports, is_hop, network_imports, place_of, use_from, use_of}
use Rattle.node_laws.specs.NodeModel.Values.{Object}
use Rattle.node_laws.proofs.NodeModel.Alike.{same_value_decides}
use Rattle.node_laws.proofs.NodeModel.Members.{any_in, from_filter_map, from_map, in_filter, in_filter_map}
use Rattle.node_laws.proofs.NodeModel.Objects.{object_of}
use Rattle.node_laws.proofs.NodeModel.Orders.{same_prefix-from}
use Rattle.node_laws.proofs.NodeModel.Routes.{from_below}
use Rattle.machine_model.specs.Setup.{Name, low_in, opening, stands}
use Rattle.machine_model.proofs.Asking.{names_of_nodes}
use Rattle.machine_model.proofs.Changing.{found_alone}
use Rattle.machine_model.proofs.Twins.{itself}
use Rattle.machine_laws.specs.Compiled.{same_instance}
use Rattle.machine_laws.specs.Headline.{IsWritten}
use Rattle.machine_laws.specs.Setups.{IsSoundSetup}
use Rattle.machine_laws.proofs.Numbers.{instance_same}
use Rattle.machine_laws.proofs.Objects.{is_object as in_low}
use Rattle.machine_laws.proofs.Written.{sound_setup}
use Rattle.machine_moment_laws.specs.Common.{common, common_object, entered, entered_of, enters_everywhere, has_circuits, has_instance, has_its_home, has_subnet, is_access_list, is_circuit_object, is_common_circuit, is_common_network, is_common_use, is_network, is_object, is_port_in, is_use_of, lefts_of, placed, rights_of, same_hop, standing, stands_at, stands_in, subnets_of}
use Rattle.machine_moment_laws.proofs.Homes.{in_common, some_of}
use Rattle.machine_moment_laws.proofs.Parts.{common_of, object_is}
use Rattle.machine_moment_laws.proofs.Placed.{has_port, low_entry, port_itself}

-- ---- lists
pub all_are : {X : Type 0} (p : X → Bool) (xs : List X) → ((x : X) → Member x xs → p x ≡ true) → list_all p xs ≡ true
all_are p [] h = refl
all_are p (x ∷ xs) h = and_from (p x) (list_all p xs) (h x (inl refl)) (all_are p xs (λ y m. h y (inr m)))

lists_itself : (ns : List Name) → pointwise same_name ns ns ≡ true
lists_itself [] = refl
lists_itself (n ∷ ns) = ap (λ b. b && pointwise same_name ns ns) (itself n) ∙ lists_itself ns

stands_itself : (n : Node) → stands (Some n) n ≡ true
stands_itself n = ap (λ b. b && pointwise same_name n.controllers n.controllers) (eq-eqb n.address.0 n.address.0 refl) ∙ lists_itself n.controllers

same_itself : (v : LowValue) → is_object v (Some v) ≡ true
same_itself v = (same_value_decides (Object v) (Object v)).1 refl

hop_itself : (h : ServiceNo × Addr) → same_hop h h ≡ true
hop_itself h = and_from (h.0.0 == h.0.0) (h.1.0 == h.1.0) (eq-eqb h.0.0 h.0.0 refl) (eq-eqb h.1.0 h.1.0 refl)

hops_itself : (hops : List (ServiceNo × Addr)) → pointwise same_hop hops hops ≡ true
hops_itself [] = refl
hops_itself (h ∷ hops) = ap (λ b. b && pointwise same_hop hops hops) (hop_itself h) ∙ hops_itself hops

-- ---- one configuration
module _ (c : Checked) (w : IsWritten (opening c)) where
  pub valid : IsValid c.topology c.config
  valid = (valid_iff c.topology c.config).0 w.valid

  pub has_object : (o : LowObject) → IsObject c.topology c.config o → object (low_in c) o.0 ≡ Some o.1
  has_object o h = ap as_object (object_of (low_in c) o.0 o.1 (in_low (opening c) w.config valid o h))

-- what imports something is a network
pub imports_of_some : (j : InstanceId) (o : Option LowValue) → Member j (network_imports o) → (is : List InstanceId) × (o ≡ Some (low.Instance is)) × Member j is
imports_of_some j (Some (low.Instance is)) m = (is, refl, m)
imports_of_some j (Some (low.AttachPort p i a n)) m = absurd m
imports_of_some j (Some (low.AttachCircuit c s n)) m = absurd m
imports_of_some j (Some (low.Acl s r)) m = absurd m
imports_of_some j (Some (low.ChainUse l r ls rs hops)) m = absurd m
imports_of_some j None m = absurd m

module _ (b : Checked) (ds : List Checked) (written : (c : Checked) → Member c (b ∷ ds) → IsWritten (opening c)) where
  abbrev pub cs : List Checked
  cs = b ∷ ds

  abbrev pub M : Map
  M = common cs

  abbrev feeds : List Map
  feeds = map low_in ds

  sound_of : (c : Checked) → Member c cs → IsSoundSetup (opening c)
  sound_of c m = sound_setup (opening c) (written c m)

  all_feeds : (p : Map → Bool) → ((c : Checked) → Member c cs → p (low_in c) ≡ true) → list_all p feeds ≡ true
  all_feeds p h = all_are p feeds (λ m i. let q = from_map low_in m ds i in ap p (sym q.2) ∙ h q.0 (inr q.1))

  -- ---- compute nodes
  pub in_standing : (n : Node) → ((c : Checked) → Member c cs → Member n c.topology.nodes) → Member n (standing cs)
  in_standing n h =
      in_filter (λ (n : Node). list_all (stands_in n) ds) n b.topology.nodes (h b (inl refl))
      (all_are (stands_in n) ds (λ c m.
      ap (λ (o : Option Node). stands o n) (found_alone n c.topology.nodes (names_of_nodes c.topology (sound_of c (inr m)).named.apart) (h c (inr m))) ∙ stands_itself n))

  pub stands_where : (n : Node) → Member n (standing cs) → stands_at (standing cs) n.address ≡ true
  stands_where n m = any_in (λ (k : Node). k.address.0 == n.address.0) n (standing cs) m (eq-eqb n.address.0 n.address.0 refl)

  -- ---- what the first configuration has in common with the others is in the common part
  pub has_common : (k : LowKey) (v w : LowValue) → object (low_in b) k ≡ Some v → common_object (standing cs) feeds k v ≡ Some w → has_its_home (standing cs) feeds (low_in b) k v ≡ true → object M k ≡ Some w
  has_common k v w held is home =
      let there = object_is (low_in b) k v held in
      let q = some_of b ds written (object M k) (in_common b ds written k v w there is home) in
      let o = common_of (standing cs) feeds (low_in b) k q.0 q.1 in
      let same : o.value ≡ v = same_Some o.value v (ap as_object (sym o.held ∙ there)) in
      q.1 ∙ sym o.is ∙ ap (common_object (standing cs) feeds k) same ∙ is

  -- ---- networks
  -- the one imports the other in each configuration
  abbrev pub ImportsInAll : InstanceId → InstanceId → Type 0
  ImportsInAll i j = (c : Checked) → Member c cs → Member j (network_imports (object (low_in c) (key.Instance i.0)))

  all_networks : (i j : InstanceId) → ImportsInAll i j → list_all (λ m. is_network (object m (key.Instance i.0))) feeds ≡ true
  all_networks i j all = all_feeds (λ m. is_network (object m (key.Instance i.0))) (λ c m. ap is_network (imports_of_some j (object (low_in c) (key.Instance i.0)) (all c m)).1)

  pub common_network : (i j : InstanceId) → ImportsInAll i j → is_common_network (standing cs) feeds (key.Instance i.0) (object (low_in b) (key.Instance i.0)) ≡ true
  common_network i j all =
      let q = imports_of_some j (object (low_in b) (key.Instance i.0)) (all b (inl refl)) in
      let w : LowValue = low.Instance (filter (λ x. list_all (λ m. has_instance x (network_imports (object m (key.Instance i.0)))) feeds) q.0) in
      ap (is_common_network (standing cs) feeds (key.Instance i.0)) q.1 ∙ ap (λ c. is_some (cond c (Some w) None)) (all_networks i j all)

  pub imports_common : (i j : InstanceId) → is_hop i ≡ false → ImportsInAll i j → Member j (imports M i)
  imports_common i j net all =
      let k : LowKey = key.Instance i.0 in
      let q = imports_of_some j (object (low_in b) k) (all b (inl refl)) in
      let test : InstanceId → Bool = λ x. list_all (λ m. has_instance x (network_imports (object m k))) feeds in
      let w : LowValue = low.Instance (filter test q.0) in
      let there : object M k ≡ Some w = has_common k (low.Instance q.0) w q.1 (ap (λ c. cond c (Some w) None) (all_networks i j all)) refl in
      let in_all : test j ≡ true =
      all_feeds (λ m. has_instance j (network_imports (object m k))) (λ c m. any_in (same_instance j) j (network_imports (object (low_in c) k)) (all c m) (instance_same j j refl)) in
      subst (λ c. Member j (cond c (hop_imports (place_of i) (use_from (use_of i) (object M (key.ChainUse (use_of i))))) (network_imports (object M k)))) (sym net)
      (subst (λ (o : Option LowValue). Member j (network_imports o)) (sym there) (in_filter test j q.0 q.2 in_all))

  -- ---- attachments
  abbrev IsInAll : LowKey → LowValue → Type 0
  IsInAll k v = (c : Checked) → Member c cs → object (low_in c) k ≡ Some v

  in_all_at : (k : LowKey) (v : LowValue) (n : Node) → Member n (standing cs) → IsInAll k v → (list_all (λ m. is_object v (object m k)) feeds && stands_at (standing cs) n.address) ≡ true
  in_all_at k v n stays each =
      and_from (list_all (λ m. is_object v (object m k)) feeds) (stands_at (standing cs) n.address)
      (all_feeds (λ m. is_object v (object m k)) (λ c i. ap (is_object v) (each c i) ∙ same_itself v)) (stands_where n stays)

  pub port_common : (l : ℕ) (q : PortNo) (i : InstanceId) (a : Addr) (n : Node) → Member n (standing cs) → IsInAll (key.Attach l) (low.AttachPort q i a n.address) → ImportsInAll i i → object M (key.Attach l) ≡ Some (low.AttachPort q i a n.address)
  port_common l q i a n stays each all =
      let v : LowValue = low.AttachPort q i a n.address in
      has_common (key.Attach l) v v (each b (inl refl)) (ap (λ c. cond c (Some v) None) (in_all_at (key.Attach l) v n stays each)) (common_network i i all)

  -- a port that each configuration has at one node, that stands, and in one network, whatever its address
  pub port_placed : (l : ℕ) (q : PortNo) (i : InstanceId) (n : Node) → Member n (standing cs) → ((c : Checked) → Member c cs → (a : Addr) × (object (low_in c) (key.Attach l) ≡ Some (low.AttachPort q i a n.address)))
      → (a : Addr) × (object (placed cs) (key.Attach l) ≡ Some (low.AttachPort q i a n.address))
  port_placed l q i n stays each =
      let k : LowKey = key.Attach l in
      let a : Addr = (each b (inl refl)).0 in
      let v : LowValue = low.AttachPort q i a n.address in
      let test : Map → Bool = λ f. is_port_in q i n.address (object f k) in
      let all : (list_all test feeds && stands_at (standing cs) n.address) ≡ true =
      and_from (list_all test feeds) (stands_at (standing cs) n.address)
      (all_feeds test (λ c m. ap (is_port_in q i n.address) (each c m).1 ∙ port_itself q i (each c m).0 n.address)) (stands_where n stays) in
      (a, has_port b ds k v (each b (inl refl)).1 (ap (λ (c : Bool). cond c (Some (low_entry k v)) None) all))

  -- a circuit that each configuration has at one service, at a node that stands
  pub record CircuitInAll (circuit : ℕ) : Type 0 where
    pub service : ServiceNo
    pub node : Node
    pub stays : Member node (standing cs)
    pub each : (c : Checked) → Member c cs → object (low_in c) (key.Attach (circuit_label_of circuit).0) ≡ Some (low.AttachCircuit circuit service node.address)

  abbrev circuit_value : (circuit : ℕ) → CircuitInAll circuit → LowValue
  circuit_value circuit h = low.AttachCircuit circuit h.service h.node.address

  circuit_is : (circuit : ℕ) (h : CircuitInAll circuit) → common_object (standing cs) feeds (key.Attach (circuit_label_of circuit).0) (circuit_value circuit h) ≡ Some (circuit_value circuit h)
  circuit_is circuit h =
      let v : LowValue = circuit_value circuit h in
      ap (λ c. cond c (Some v) None) (in_all_at (key.Attach (circuit_label_of circuit).0) v h.node h.stays h.each)

  circuit_common : (circuit : ℕ) → CircuitInAll circuit → is_common_circuit (standing cs) feeds (low_in b) circuit ≡ true
  circuit_common circuit h =
      let k : LowKey = key.Attach (circuit_label_of circuit).0 in
      let v : LowValue = circuit_value circuit h in
      ap (is_circuit_object (standing cs) feeds circuit) (h.each b (inl refl))
      ∙ and_from (circuit == circuit) (is_some (common_object (standing cs) feeds k v)) (eq-eqb circuit circuit refl) (ap is_some (circuit_is circuit h))

  -- ---- uses
  -- a use that each configuration has between two networks, through one list of services, at nodes that stand
  pub record UseInAll (u : ℕ) (l r : InstanceId) (hops : List (ServiceNo × Addr)) : Type 0 where
    pub lefts : (c : Checked) → Member c cs → List Block
    pub rights : (c : Checked) → Member c cs → List Block
    pub each : (c : Checked) (m : Member c cs) → object (low_in c) (key.ChainUse u) ≡ Some (low.ChainUse l r (lefts c m) (rights c m) hops)
    pub stand : (h : ServiceNo × Addr) → Member h hops → stands_at (standing cs) h.1 ≡ true
    pub circuits : (j : ℕ) → j < length hops → CircuitInAll (left_circuit_of u (j + 1)) × CircuitInAll (right_circuit_of u (j + 1))

  module _ (u : ℕ) (l r : InstanceId) (hops : List (ServiceNo × Addr)) (h : UseInAll u l r hops) where
    abbrev use_key : LowKey
    use_key = key.ChainUse u

    abbrev left_in_all : Block → Bool
    left_in_all p = list_all (λ m. has_subnet p (lefts_of (object m use_key))) feeds

    abbrev right_in_all : Block → Bool
    right_in_all p = list_all (λ m. has_subnet p (rights_of (object m use_key))) feeds

    abbrev pub lefts_in_all : List Block
    lefts_in_all = filter left_in_all (h.lefts b (inl refl))

    abbrev pub rights_in_all : List Block
    rights_in_all = filter right_in_all (h.rights b (inl refl))

    abbrev pub use_value : LowValue
    use_value = low.ChainUse l r lefts_in_all rights_in_all hops

    abbrev first_value : LowValue
    first_value = low.ChainUse l r (h.lefts b (inl refl)) (h.rights b (inl refl)) hops

    use_is : common_object (standing cs) feeds use_key first_value ≡ Some use_value
    use_is =
        ap (λ c. cond c (Some use_value) None)
        (and_from (list_all (λ m. is_use_of l r hops (object m use_key)) feeds) (list_all (λ h. stands_at (standing cs) h.1) hops)
        (all_feeds (λ m. is_use_of l r hops (object m use_key)) (λ c m.
        ap (is_use_of l r hops) (h.each c m)
        ∙ and_from (same_instance l l) (same_instance r r && pointwise same_hop hops hops) (instance_same l l refl)
        (and_from (same_instance r r) (pointwise same_hop hops hops) (instance_same r r refl) (hops_itself hops))))
        (all_are (λ h. stands_at (standing cs) h.1) hops h.stand))

    circuits_common : has_circuits (standing cs) feeds (low_in b) u (length hops) ≡ true
    circuits_common =
        all_are (λ j. is_common_circuit (standing cs) feeds (low_in b) (left_circuit_of u (j + 1)) && is_common_circuit (standing cs) feeds (low_in b) (right_circuit_of u (j + 1))) (below (length hops))
        (λ j m.
        let q = h.circuits j (from_below (length hops) j m) in
        and_from (is_common_circuit (standing cs) feeds (low_in b) (left_circuit_of u (j + 1))) (is_common_circuit (standing cs) feeds (low_in b) (right_circuit_of u (j + 1)))
        (circuit_common (left_circuit_of u (j + 1)) q.0) (circuit_common (right_circuit_of u (j + 1)) q.1))

    use_home : is_common_use (standing cs) feeds (low_in b) u (Some first_value) ≡ true
    use_home = and_from (is_some (common_object (standing cs) feeds use_key first_value)) (has_circuits (standing cs) feeds (low_in b) u (length hops)) (ap is_some use_is) circuits_common

    pub use_common : object M use_key ≡ Some use_value
    use_common = has_common use_key first_value use_value (h.each b (inl refl)) use_is use_home

    pub left_there : (p : Block) → ((c : Checked) (m : Member c cs) → Member p (h.lefts c m)) → Member p lefts_in_all
    left_there p all =
        in_filter left_in_all p (h.lefts b (inl refl)) (all b (inl refl))
        (all_feeds (λ m. has_subnet p (lefts_of (object m use_key))) (λ c m.
        ap (λ (o : Option LowValue). has_subnet p (lefts_of o)) (h.each c m) ∙ any_in (same_prefix p) p (h.lefts c m) (all c m) (same_prefix-from p p refl)))

    pub right_there : (p : Block) → ((c : Checked) (m : Member c cs) → Member p (h.rights c m)) → Member p rights_in_all
    right_there p all =
        in_filter right_in_all p (h.rights b (inl refl)) (all b (inl refl))
        (all_feeds (λ m. has_subnet p (rights_of (object m use_key))) (λ c m.
        ap (λ (o : Option LowValue). has_subnet p (rights_of o)) (h.each c m) ∙ any_in (same_prefix p) p (h.rights c m) (all c m) (same_prefix-from p p refl)))

    pub circuit_there : (circuit : ℕ) → use_of (circuit_instance_of circuit) ≡ u → (q : CircuitInAll circuit) → object M (key.Attach (circuit_label_of circuit).0) ≡ Some (low.AttachCircuit circuit q.service q.node.address)
    circuit_there circuit of_use q =
        let v : LowValue = circuit_value circuit q in
        let home : is_common_use (standing cs) feeds (low_in b) (use_of (circuit_instance_of circuit)) (object (low_in b) (key.ChainUse (use_of (circuit_instance_of circuit)))) ≡ true =
        subst (λ (n : ℕ). is_common_use (standing cs) feeds (low_in b) n (object (low_in b) (key.ChainUse n)) ≡ true) (sym of_use) (ap (is_common_use (standing cs) feeds (low_in b) u) (h.each b (inl refl)) ∙ use_home) in
        has_common (key.Attach (circuit_label_of circuit).0) v v (q.each b (inl refl)) (circuit_is circuit q) home

  -- ---- access lists
  pub record ListInAll (from to : ℕ) : Type 0 where
    pub subnets : (c : Checked) → Member c cs → List Block
    pub rules : (c : Checked) → Member c cs → List AclRule
    pub each : (c : Checked) (m : Member c cs) → object (low_in c) (key.Acl from to) ≡ Some (low.Acl (subnets c m) (rules c m))

  pub list_common : (from to : ℕ) (h : ListInAll from to) → (list : LowValue) × (object M (key.Acl from to) ≡ Some list) × ((i : InstanceId) → ((c : Checked) (m : Member c cs) → Member i (entered (h.rules c m))) → Member i (needed_for list))
  list_common from to h =
      let k : LowKey = key.Acl from to in
      let rules : List AclRule = h.rules b (inl refl) in
      let enters : AclRule → Bool = enters_everywhere (standing cs) feeds k in
      let w : LowValue = low.Acl (filter (λ p. list_all (λ m. has_subnet p (subnets_of (object m k))) feeds) (h.subnets b (inl refl))) (filter enters rules) in (
        w,
        has_common k (low.Acl (h.subnets b (inl refl)) rules) w (h.each b (inl refl))
            (ap (λ c. cond c (Some w) None) (all_feeds (λ m. is_access_list (object m k)) (λ c m. ap is_access_list (h.each c m)))) refl,
        λ i all.
            let g = from_filter_map (λ (r : AclRule). entered_by r.action) i rules (all b (inl refl)) in
            let everywhere : enters g.0 ≡ true =
            ap (λ (o : Option InstanceId). elim o [ Some i ↦ list_all (λ m. has_instance i (entered_of (object m k))) feeds | None ↦ false ]) g.2
            ∙ all_feeds (λ m. has_instance i (entered_of (object m k))) (λ c m.
            ap (λ (o : Option LowValue). has_instance i (entered_of o)) (h.each c m) ∙ any_in (same_instance i) i (entered (h.rules c m)) (all c m) (instance_same i i refl)) in
            in_filter_map (λ (r : AclRule). entered_by r.action) g.0 i (filter enters rules) (in_filter enters g.0 rules g.1 everywhere) g.2,
      )
