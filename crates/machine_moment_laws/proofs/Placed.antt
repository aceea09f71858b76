-- The common part with the ports whose address may change: each configuration has all of it but for these addresses, and it
-- has all of the common part.
use Rattle.std.specs.Prelude.{◌≡◌, ◌==◌, ◌&&◌, Bool, List, [], ◌∷◌, cond, map, true, false}
use Rattle.std.specs.FinMap.{entries, from_entries, get}
use Rattle.std.specs.List.{filter_map, list_all}
use Rattle.std.specs.declared.option.Option.{Option}
use Rattle.std.specs.declared.option.Option.TheVariants.{Some, None}
use Rattle.std.proofs.Common.{ap, inl, inr, refl, subst, sym, ◌∙◌}
use Rattle.std.proofs.lemmas.Bool.{and_from, and_parts, eq-eqb, eqb-true, true≢false}
use Rattle.std.proofs.lemmas.Option.{same_Some}
use Rattle.ov_types.specs.declared.numbers.InstanceId.{InstanceId}
use Rattle.ov_types.specs.declared.numbers.PortNo.{PortNo}
use Rattle.ov_types.specs.declared.objects.LowKey.{LowKey}
use Rattle.ov_types.specs.declared.objects.LowKey.TheVariants as key
use Rattle.ov_types.specs.declared.objects.LowValue.{LowValue}
use Rattle.ov_types.specs.declared.objects.LowValue.TheVariants as low
use Rattle.ov_types.specs.declared.prefix.Addr.{Addr}
use Rattle.config_types.specs.declared.topology.Node.{Node}
use Rattle.schedule_script.specs.ConfigCheck.Checked.{Checked}
use Rattle.node_laws.specs.NodeModel.Agent.{needed_by, needed_for}
use Rattle.node_laws.specs.NodeModel.Keys.{Key, Low, Publish, Row, Subscribe, Vpn}
use Rattle.node_laws.specs.NodeModel.Maps.{Map, as_object, object, objects}
use Rattle.node_laws.specs.NodeModel.Members.{Member}
use Rattle.node_laws.specs.NodeModel.Values.{Entry, Label, Object, Route, Value}
use Rattle.node_laws.specs.NodeModel.Wants.{BelongsTo, slice}
use Rattle.node_laws.proofs.NodeModel.Members.{entry_in, from_entry, from_filter_map, from_flat_map, get_member, in_filter_map, in_flat_map, in_map, member_get, none_some}
use Rattle.node_laws.proofs.NodeModel.Objects.{in_objects, object_of}
use Rattle.node_laws.proofs.NodeModel.Orders.{key_exact, key_total}
use Rattle.node_laws.proofs.NodeModel.Wanted.{as_low, as_low_value, slice_is}
use Rattle.machine_model.specs.Setup.{low_in}
use Rattle.machine_laws.specs.Compiled.{same_instance}
use Rattle.machine_laws.proofs.Numbers.{instance_same}
use Rattle.machine_moment_laws.specs.Common.{common, common_entry, common_object, has_its_home, is_object, is_port_in, placed, placed_entry, standing, stands_at}
use Rattle.machine_moment_laws.proofs.Parts.{IsPartOf, common_of, entry_parts, from_all, instance_is, object_is, part_of_first, part_of_others, same_object}

-- ---- a value that has all of another, but for the address of a port
abbrev pub IsPlacedAs : LowValue → LowValue → Type 0
IsPlacedAs (low.AttachPort p i a n) (low.AttachPort q j x m) = (p ≡ q) × ((i ≡ j) × (n ≡ m))
IsPlacedAs (low.AttachPort p i a n) (low.AttachCircuit c s m) = ⊥
IsPlacedAs (low.AttachPort p i a n) (low.Instance js) = ⊥
IsPlacedAs (low.AttachPort p i a n) (low.Acl ts qs) = ⊥
IsPlacedAs (low.AttachPort p i a n) (low.ChainUse l r ls rs hops) = ⊥
IsPlacedAs (low.AttachCircuit c s n) v = IsPartOf (low.AttachCircuit c s n) v
IsPlacedAs (low.Instance is) v = IsPartOf (low.Instance is) v
IsPlacedAs (low.Acl ss rs) v = IsPartOf (low.Acl ss rs) v
IsPlacedAs (low.ChainUse l r ls rs hops) v = IsPartOf (low.ChainUse l r ls rs hops) v

pub placed_by_part : (w v : LowValue) → IsPartOf w v → IsPlacedAs w v
placed_by_part (low.AttachPort p i a n) v h = subst (IsPlacedAs (low.AttachPort p i a n)) h (refl, (refl, refl))
placed_by_part (low.AttachCircuit c s n) v h = h
placed_by_part (low.Instance is) v h = h
placed_by_part (low.Acl ss rs) v h = h
placed_by_part (low.ChainUse l r ls rs hops) v h = h

-- a map that has so of each object of the first
abbrev pub IsPlacedIn : Map → Map → Type 0
IsPlacedIn m f = (k : LowKey) (w : LowValue) → object m k ≡ Some w → (v : LowValue) × (object f k ≡ Some v) × IsPlacedAs w v

-- ---- what is made of entries by their keys
module _ (f : Key → Value → Option (Key × Value)) (same_key : (k : Key) (v : Value) (e : Key × Value) → f k v ≡ Some e → k ≡ e.0) (m : Map) where
  abbrev made : List (Key × Value)
  made = filter_map (λ e. f e.0 e.1) (entries m)

  abbrev pub map_made : Map
  map_made = from_entries made

  abbrev pair_of : Key → Value → Key × Value
  pair_of k v = (k, v)

  from_made : (k : Key) (w : Value) → get map_made k ≡ Some w → (v : Value) × (get m k ≡ Some v) × (f k v ≡ Some (pair_of k w))
  from_made k w h =
      let q = from_filter_map (λ (e : Key × Value). f e.0 e.1) (pair_of k w) (entries m) (from_entry key_total key_exact k w made h) in
      let same : q.0.0 ≡ k = same_key q.0.0 q.0.1 (pair_of k w) q.2 in
      (q.0.1, ap (get m) (sym same) ∙ get_member key_total m q.0.0 q.0.1 q.1, ap (λ (k : Key). f k q.0.1) (sym same) ∙ q.2)

  in_made : (k : Key) (v w : Value) → get m k ≡ Some v → f k v ≡ Some (pair_of k w) → get map_made k ≡ Some w
  in_made k v w held is =
      let e = entry_in key_total (pair_of k w) made (in_filter_map (λ (e : Key × Value). f e.0 e.1) (pair_of k v) (pair_of k w) (entries m) (member_get key_total key_exact m k v held) is) in
      let q = from_made k e.0 e.1 in
      let same : q.0 ≡ v = same_Some q.0 v (sym q.1 ∙ held) in
      let both : pair_of k e.0 ≡ pair_of k w = same_Some (pair_of k e.0) (pair_of k w) (sym q.2 ∙ ap (f k) same ∙ is) in
      e.1 ∙ ap (λ (e : Key × Value). Some e.1) both

-- ---- lists
all_too : {X : Type 0} (p q : X → Bool) (xs : List X) → ((x : X) → p x ≡ true → q x ≡ true) → list_all p xs ≡ true → list_all q xs ≡ true
all_too p q [] h e = refl
all_too p q (x ∷ xs) h e = let a = and_parts (p x) (list_all p xs) e in and_from (q x) (list_all q xs) (h x a.0) (all_too p q xs h a.1)

-- ---- ports at a node in a network
pub port_itself : (p : PortNo) (i : InstanceId) (a n : Addr) → is_port_in p i n (Some (low.AttachPort p i a n)) ≡ true
port_itself p i a n =
    and_from (p.0 == p.0) (same_instance i i && (n.0 == n.0)) (eq-eqb p.0 p.0 refl)
    (and_from (same_instance i i) (n.0 == n.0) (instance_same i i refl) (eq-eqb n.0 n.0 refl))

port_is : (p : PortNo) (i : InstanceId) (a n : Addr) (o : Option LowValue) → is_port_in p i n o ≡ true → (u : LowValue) × (o ≡ Some u) × IsPlacedAs (low.AttachPort p i a n) u
port_is p i a n (Some (low.AttachPort q j x m)) e =
    let b = and_parts (q.0 == p.0) (same_instance j i && (m.0 == n.0)) e in
    let c = and_parts (same_instance j i) (m.0 == n.0) b.1 in
    let number : q ≡ p = λ k. record { 0 = eqb-true q.0 p.0 b.0 k } in
    let node : m ≡ n = λ k. record { 0 = eqb-true m.0 n.0 c.1 k } in
    (low.AttachPort q j x m, refl, (sym number, (sym (instance_is j i c.0), sym node)))
port_is p i a n (Some (low.AttachCircuit c s m)) e = absurd (true≢false (sym e))
port_is p i a n (Some (low.Instance js)) e = absurd (true≢false (sym e))
port_is p i a n (Some (low.Acl ts qs)) e = absurd (true≢false (sym e))
port_is p i a n (Some (low.ChainUse l r ls rs hops)) e = absurd (true≢false (sym e))
port_is p i a n None e = absurd (true≢false (sym e))

-- ---- entries
abbrev pub low_entry : LowKey → LowValue → Key × Value
low_entry k v = (Low k, Object v)

module _ (nodes : List Node) (feeds : List Map) (m : Map) where
  abbrev of_common : Key → Value → Option (Key × Value)
  of_common = common_entry nodes feeds m

  abbrev pub of_placed : Key → Value → Option (Key × Value)
  of_placed = placed_entry nodes feeds m

  entry_when : (c : Bool) (d e : Key × Value) → cond c (Some d) None ≡ Some e → (c ≡ true) × (d ≡ e)
  entry_when true d e h = (refl, same_Some d e h)
  entry_when false d e h = absurd (none_some e h)

  common_key : (k : Key) (v : Value) (e : Key × Value) → of_common k v ≡ Some e → k ≡ e.0
  common_key k v e h = let p = entry_parts nodes feeds m k v e h in p.3 ∙ ap (λ (e : Key × Value). e.0) p.5

  pub placed_key : (k : Key) (v : Value) (e : Key × Value) → of_placed k v ≡ Some e → k ≡ e.0
  placed_key (Low k) (Object (low.AttachPort p i a n)) e h = ap (λ (e : Key × Value). e.0) (entry_when (list_all (λ f. is_port_in p i n (object f k)) feeds && stands_at nodes n) (low_entry k (low.AttachPort p i a n)) e h).1
  placed_key (Low k) (Object (low.AttachCircuit c s n)) e h = common_key (Low k) (Object (low.AttachCircuit c s n)) e h
  placed_key (Low k) (Object (low.Instance is)) e h = common_key (Low k) (Object (low.Instance is)) e h
  placed_key (Low k) (Object (low.Acl ss rs)) e h = common_key (Low k) (Object (low.Acl ss rs)) e h
  placed_key (Low k) (Object (low.ChainUse l r ls rs hops)) e h = common_key (Low k) (Object (low.ChainUse l r ls rs hops)) e h
  placed_key (Low k) (Route r) e h = absurd (none_some e h)
  placed_key (Low k) (Entry r) e h = absurd (none_some e h)
  placed_key (Low k) (Label r) e h = absurd (none_some e h)
  placed_key (Vpn k) v e h = absurd (none_some e h)
  placed_key (Row i p) v e h = absurd (none_some e h)
  placed_key (Publish i p) v e h = absurd (none_some e h)
  placed_key (Subscribe i) v e h = absurd (none_some e h)

  common_value : (k : LowKey) (v w : LowValue) → of_common (Low k) (Object v) ≡ Some (low_entry k w) → common_object nodes feeds k v ≡ Some w
  common_value k v w h =
      let p = entry_parts nodes feeds m (Low k) (Object v) (low_entry k w) h in
      let keys : k ≡ p.0 = same_Some k p.0 (ap as_low p.3) in
      let values : v ≡ p.1 = same_Some v p.1 (ap as_low_value p.4) in
      let parts : p.2 ≡ w = same_Some p.2 w (ap (λ (e : Key × Value). as_low_value e.1) p.5) in
      (λ i. common_object nodes feeds (keys i) (values i)) ∙ p.7 ∙ ap Some parts

  -- what the feed and the others have of an entry
  record HasPlaced (k : LowKey) (v w : LowValue) : Type 0 where
    here : IsPlacedAs w v
    others : (f : Map) → Member f feeds → (u : LowValue) × (object f k ≡ Some u) × IsPlacedAs w u

  by_common : (k : LowKey) (v w : LowValue) → of_common (Low k) (Object v) ≡ Some (low_entry k w) → HasPlaced k v w
  by_common k v w h =
      let is = common_value k v w h in
      record {
        here = placed_by_part w v (part_of_first nodes feeds k v w is);
        others = λ f there. let q = part_of_others nodes feeds k v w is f there in (q.0, q.1, placed_by_part w q.0 q.2);
      }

  has_placed : (k : LowKey) (v w : LowValue) → of_placed (Low k) (Object v) ≡ Some (low_entry k w) → HasPlaced k v w
  has_placed k (low.AttachPort p i a n) w h =
      let v : LowValue = low.AttachPort p i a n in
      let test : Map → Bool = λ f. is_port_in p i n (object f k) in
      let q = entry_when (list_all test feeds && stands_at nodes n) (low_entry k v) (low_entry k w) h in
      let same : v ≡ w = same_Some v w (ap (λ (e : Key × Value). as_low_value e.1) q.1) in
      record {
        here = subst (λ (w : LowValue). IsPlacedAs w v) same (refl, (refl, refl));
        others = λ f there.
            let u = port_is p i a n (object f k) (from_all test feeds f (and_parts (list_all test feeds) (stands_at nodes n) q.0).0 there) in
            (u.0, u.1, subst (λ (w : LowValue). IsPlacedAs w u.0) same u.2);
      }
  has_placed k (low.AttachCircuit c s n) w h = by_common k (low.AttachCircuit c s n) w h
  has_placed k (low.Instance is) w h = by_common k (low.Instance is) w h
  has_placed k (low.Acl ss rs) w h = by_common k (low.Acl ss rs) w h
  has_placed k (low.ChainUse l r ls rs hops) w h = by_common k (low.ChainUse l r ls rs hops) w h

  -- an entry of the common part is one of this
  made_common : (k : LowKey) (v w : LowValue) → has_its_home nodes feeds m k v ≡ true → common_object nodes feeds k v ≡ Some w → of_common (Low k) (Object v) ≡ Some (low_entry k w)
  made_common k v w home is =
      ap (λ c. cond c (elim (common_object nodes feeds k v) [ Some y ↦ Some (low_entry k y) | None ↦ None ]) None) home
      ∙ ap (λ (o : Option LowValue). elim o [ Some y ↦ Some (low_entry k y) | None ↦ None ]) is

  made_placed : (k : LowKey) (v w : LowValue) → has_its_home nodes feeds m k v ≡ true → common_object nodes feeds k v ≡ Some w → of_placed (Low k) (Object v) ≡ Some (low_entry k w)
  made_placed k (low.AttachPort p i a n) w home is =
      let v : LowValue = low.AttachPort p i a n in
      let test : Map → Bool = λ f. is_object v (object f k) in
      let placed_test : Map → Bool = λ f. is_port_in p i n (object f k) in
      let q = value_when (list_all test feeds && stands_at nodes n) v w is in
      let b = and_parts (list_all test feeds) (stands_at nodes n) q.0 in
      let all : list_all placed_test feeds ≡ true = all_too test placed_test feeds (λ f e. ap (is_port_in p i n) (same_object v (object f k) e) ∙ port_itself p i a n) b.0 in
      ap (λ c. cond c (Some (low_entry k v)) None) (and_from (list_all placed_test feeds) (stands_at nodes n) all b.1) ∙ ap (λ (w : LowValue). Some (low_entry k w)) q.1
    where
      value_when : (c : Bool) (v w : LowValue) → cond c (Some v) None ≡ Some w → (c ≡ true) × (v ≡ w)
      value_when true v w e = (refl, same_Some v w e)
      value_when false v w e = absurd (none_some w e)
  made_placed k (low.AttachCircuit c s n) w home is = made_common k (low.AttachCircuit c s n) w home is
  made_placed k (low.Instance is') w home is = made_common k (low.Instance is') w home is
  made_placed k (low.Acl ss rs) w home is = made_common k (low.Acl ss rs) w home is
  made_placed k (low.ChainUse l r ls rs hops) w home is = made_common k (low.ChainUse l r ls rs hops) w home is

-- ---- of configurations
module _ (b : Checked) (ds : List Checked) where
  abbrev cs : List Checked
  cs = b ∷ ds

  abbrev nodes : List Node
  nodes = standing cs

  abbrev feeds : List Map
  feeds = map low_in ds

  abbrev first : Map
  first = low_in b

  abbrev placing : Key → Value → Option (Key × Value)
  placing = of_placed nodes feeds first

  among : (c : Checked) → Member c cs → (k : LowKey) (v w : LowValue) → get first (Low k) ≡ Some (Object v) → HasPlaced nodes feeds first k v w → (u : LowValue) × (object (low_in c) k ≡ Some u) × IsPlacedAs w u
  among c (inl e) k v w held h = (v, ap (λ (c : Checked). object (low_in c) k) (sym e) ∙ ap as_object held, h.here)
  among c (inr m) k v w held h = h.others (low_in c) (in_map low_in c ds m)

  pub placed_in : (c : Checked) → Member c cs → IsPlacedIn (placed cs) (low_in c)
  placed_in c m k w h =
      let q = from_made placing (placed_key nodes feeds first) first (Low k) (Object w) (object_is (placed cs) k w h) in
      by q.0 q.1 q.2
    where
      by : (x : Value) → get first (Low k) ≡ Some x → placing (Low k) x ≡ Some (low_entry k w) → (u : LowValue) × (object (low_in c) k ≡ Some u) × IsPlacedAs w u
      by (Object v) held is = among c m k v w held (has_placed nodes feeds first k v w is)
      by (Route r) held is = absurd (none_some (low_entry k w) is)
      by (Entry r) held is = absurd (none_some (low_entry k w) is)
      by (Label r) held is = absurd (none_some (low_entry k w) is)

  -- what the first configuration has, and the others
  pub has_port : (k : LowKey) (v : LowValue) → object first k ≡ Some v → placing (Low k) (Object v) ≡ Some (low_entry k v) → object (placed cs) k ≡ Some v
  has_port k v held is = ap as_object (in_made placing (placed_key nodes feeds first) first (Low k) (Object v) (Object v) (object_is first k v held) is)

  pub in_placed : (k : LowKey) (w : LowValue) → object (common cs) k ≡ Some w → object (placed cs) k ≡ Some w
  in_placed k w h =
      let q = common_of nodes feeds first k w h in
      ap as_object (in_made placing (placed_key nodes feeds first) first (Low k) (Object q.value) (Object w) q.held (made_placed nodes feeds first k q.value w q.at_home q.is))

  -- so its slices have all of those of the common part
  pub objects_too : (k : LowKey) (w : LowValue) → Member (k, w) (objects (common cs)) → Member (k, w) (objects (placed cs))
  objects_too k w m = in_objects (placed cs) k w (object_is (placed cs) k w (in_placed k w (ap as_object (object_of (common cs) k w m))))

  belongs_too : (address : Addr) (k : LowKey) (w : LowValue) → BelongsTo (common cs) address k w → BelongsTo (placed cs) address k w
  belongs_too address (key.Attach l) w h = h
  belongs_too address (key.Acl x y) w h = record { name = h.name; port = h.port; held = objects_too h.name h.port h.held; port_is = h.port_is }
  belongs_too address (key.Instance n) w h = absurd h
  belongs_too address (key.ChainUse u) w h = absurd h

  pub slices_too : (address : Addr) (k : LowKey) (w : LowValue) → Member (k, w) (slice (common cs) address) → Member (k, w) (slice (placed cs) address)
  slices_too address k w h =
      let q = (slice_is (common cs) address k w).0 h in
      (slice_is (placed cs) address k w).1 (objects_too k w q.0, belongs_too address k w q.1)

  pub needed_too : (address : Addr) (i : InstanceId) → Member i (needed_by (slice (common cs) address)) → Member i (needed_by (slice (placed cs) address))
  needed_too address i h =
      let q = from_flat_map (λ (e : LowKey × LowValue). needed_for e.1) i (slice (common cs) address) h in
      in_flat_map (λ (e : LowKey × LowValue). needed_for e.1) q.0 i (slice (placed cs) address) (slices_too address q.0.0 q.0.1 q.1) q.2
