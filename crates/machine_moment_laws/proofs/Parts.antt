-- The common part has less than each configuration: of each of its objects each configuration has one that has all of it.
use Rattle.std.specs.Prelude.{◌≡◌, ◌&&◌, Bool, true, false, cond, List, [], ◌∷◌, map}
use Rattle.std.specs.declared.option.Option.{Option}
use Rattle.std.specs.declared.option.Option.TheVariants.{Some, None}
use Rattle.std.specs.FinMap.{entries, get}
use Rattle.std.specs.List.{filter, filter_map, list_all}
use Rattle.std.specs.Cmp.Lexicographic.{pointwise}
use Rattle.std.specs.Bool.{Decides}
use Rattle.std.proofs.Common.{ap, inl, inr, refl, subst, sym, ◌∙◌}
use Rattle.std.proofs.lemmas.Bool.{and_parts, eqb-true, true≢false}
use Rattle.std.proofs.lemmas.Bool.Decides.{Decides-and, Decides-eqb}
use Rattle.std.proofs.lemmas.Option.{same_Some}
use Rattle.std.proofs.lemmas.Slice.Eq.{slice_eq-Decides}
use Rattle.ov_types.specs.Prefix.{Block}
use Rattle.ov_types.specs.declared.numbers.InstanceId.{InstanceId}
use Rattle.ov_types.specs.declared.numbers.ServiceNo.{ServiceNo}
use Rattle.ov_types.specs.declared.objects.AclRule.{AclRule}
use Rattle.ov_types.specs.declared.objects.LowKey.{LowKey}
use Rattle.ov_types.specs.declared.objects.LowValue.{LowValue}
use Rattle.ov_types.specs.declared.objects.LowValue.TheVariants as low
use Rattle.ov_types.specs.declared.prefix.Addr.{Addr}
use Rattle.config_types.specs.declared.topology.Node.{Node}
use Rattle.schedule_script.specs.ConfigCheck.Checked.{Checked}
use Rattle.node_laws.specs.NodeModel.Agent.{entered_by}
use Rattle.node_laws.specs.NodeModel.Keys.{Key, Low, Publish, Row, Subscribe, Vpn}
use Rattle.node_laws.specs.NodeModel.Maps.{Map, as_object, object}
use Rattle.node_laws.specs.NodeModel.Members.{Member}
use Rattle.node_laws.specs.NodeModel.Tables.{same_prefix}
use Rattle.node_laws.specs.NodeModel.Uses.{network_imports}
use Rattle.node_laws.specs.NodeModel.Values.{Entry, Label, Object, Route, Value}
use Rattle.node_laws.proofs.NodeModel.Alike.{same_value_decides}
use Rattle.node_laws.proofs.NodeModel.Members.{from_any, from_entry, from_filter, from_filter_map, get_member, in_filter_map, in_map, none_some}
use Rattle.node_laws.proofs.NodeModel.Orders.{key_exact, key_total, prefix_same}
use Rattle.node_laws.proofs.NodeModel.Wanted.{as_low, as_low_value}
use Rattle.machine_model.specs.Setup.{low_in}
use Rattle.machine_laws.specs.Compiled.{same_instance}
use Rattle.machine_moment_laws.specs.Common.{common, common_entry, common_object, common_to, entered, entered_of, enters_everywhere, has_instance, has_its_home, has_subnet, is_access_list, is_network, is_object, is_use_of, lefts_of, rights_of, same_hop, standing, stands_at, subnets_of}

-- ---- lists
pub from_all : {X : Type 0} (p : X → Bool) (xs : List X) (x : X) → list_all p xs ≡ true → Member x xs → p x ≡ true
from_all p [] x e m = absurd m
from_all p (y ∷ ys) x e (inl is) = ap p (sym is) ∙ (and_parts (p y) (list_all p ys) e).0
from_all p (y ∷ ys) x e (inr m) = from_all p ys x (and_parts (p y) (list_all p ys) e).1 m

pub instance_is : (i j : InstanceId) → same_instance i j ≡ true → i ≡ j
instance_is i j e = λ k. record { 0 = eqb-true i.0 j.0 e k }

pub has_instance_is : (i : InstanceId) (is : List InstanceId) → has_instance i is ≡ true → Member i is
has_instance_is i is e = let q = from_any (same_instance i) is e in subst (λ (j : InstanceId). Member j is) (sym (instance_is i q.0 q.2)) q.1

pub has_subnet_is : (p : Block) (ps : List Block) → has_subnet p ps ≡ true → Member p ps
has_subnet_is p ps e = let q = from_any (same_prefix p) ps e in subst (λ (x : Block). Member x ps) (sym (prefix_same p q.0 q.2)) q.1

hop_decides : (a b : ServiceNo × Addr) → Decides (same_hop a b) (a ≡ b)
hop_decides a b =
    let d = Decides-and _ _ (Decides-eqb a.0.0 b.0.0) (Decides-eqb a.1.0 b.1.0) in
    (λ e. let h = d.0 e in λ i. (record { 0 = h.0 i }, record { 0 = h.1 i }), λ e. d.1 ((λ i. (e i).0.0), (λ i. (e i).1.0)))

hops_are : (xs ys : List (ServiceNo × Addr)) → pointwise same_hop xs ys ≡ true → xs ≡ ys
hops_are xs ys e = (slice_eq-Decides hop_decides xs ys (pointwise same_hop xs ys) refl).0 e

abbrev pub Within : {X : Type 0} → List X → List X → Type 0
Within {X} xs ys = (x : X) → Member x xs → Member x ys

-- ---- a value that has all of another
abbrev pub IsPartOf : LowValue → LowValue → Type 0
IsPartOf (low.Instance is) (low.Instance js) = Within is js
IsPartOf (low.AttachPort p i a n) v = low.AttachPort p i a n ≡ v
IsPartOf (low.AttachCircuit c s n) v = low.AttachCircuit c s n ≡ v
IsPartOf (low.Acl ss rs) (low.Acl ts qs) = Within ss ts × Within (entered rs) (entered qs)
IsPartOf (low.ChainUse l r ls rs hops) (low.ChainUse l' r' ls' rs' hops') = (l ≡ l') × ((r ≡ r') × ((hops ≡ hops') × (Within ls ls' × Within rs rs')))
IsPartOf _ _ = ⊥

-- a map that has, of each object of the first, one that has all of it
abbrev pub IsAbove : Map → Map → Type 0
IsAbove m f = (k : LowKey) (w : LowValue) → object m k ≡ Some w → (v : LowValue) × (object f k ≡ Some v) × IsPartOf w v

pub object_is : (m : Map) (k : LowKey) (v : LowValue) → object m k ≡ Some v → get m (Low k) ≡ Some (Object v)
object_is m k v e = by (get m (Low k)) refl e
  where
    by : (o : Option Value) → get m (Low k) ≡ o → as_object o ≡ Some v → get m (Low k) ≡ Some (Object v)
    by (Some (Object u)) is e = is ∙ ap (λ (x : LowValue). Some (Object x)) (same_Some u v e)
    by (Some (Route r)) is e = absurd (none_some v e)
    by (Some (Entry r)) is e = absurd (none_some v e)
    by (Some (Label l)) is e = absurd (none_some v e)
    by None is e = absurd (none_some v e)

-- ---- what the tests say
network_is : (o : Option LowValue) (is : List InstanceId) → is_network o ≡ true → ((i : InstanceId) → Member i is → has_instance i (network_imports o) ≡ true) → (v : LowValue) × (o ≡ Some v) × IsPartOf (low.Instance is) v
network_is (Some (low.Instance js)) is e h = (low.Instance js, refl, (λ i m. has_instance_is i js (h i m)))
network_is (Some (low.AttachPort p i a n)) is e h = absurd (true≢false (sym e))
network_is (Some (low.AttachCircuit c s n)) is e h = absurd (true≢false (sym e))
network_is (Some (low.Acl s r)) is e h = absurd (true≢false (sym e))
network_is (Some (low.ChainUse l r ls rs hops)) is e h = absurd (true≢false (sym e))
network_is None is e h = absurd (true≢false (sym e))

list_is : (o : Option LowValue) (ss : List Block) (rs : List AclRule) → is_access_list o ≡ true → ((p : Block) → Member p ss → has_subnet p (subnets_of o) ≡ true) → ((i : InstanceId) → Member i (entered rs) → has_instance i (entered_of o) ≡ true) → (v : LowValue) × (o ≡ Some v) × IsPartOf (low.Acl ss rs) v
list_is (Some (low.Acl ts qs)) ss rs e h g = (low.Acl ts qs, refl, ((λ p m. has_subnet_is p ts (h p m)), (λ i m. has_instance_is i (entered qs) (g i m))))
list_is (Some (low.Instance js)) ss rs e h g = absurd (true≢false (sym e))
list_is (Some (low.AttachPort p i a n)) ss rs e h g = absurd (true≢false (sym e))
list_is (Some (low.AttachCircuit c s n)) ss rs e h g = absurd (true≢false (sym e))
list_is (Some (low.ChainUse l r ls rs' hops)) ss rs e h g = absurd (true≢false (sym e))
list_is None ss rs e h g = absurd (true≢false (sym e))

use_is : (o : Option LowValue) (l r : InstanceId) (ls rs : List Block) (hops : List (ServiceNo × Addr)) → is_use_of l r hops o ≡ true → ((p : Block) → Member p ls → has_subnet p (lefts_of o) ≡ true) → ((p : Block) → Member p rs → has_subnet p (rights_of o) ≡ true) → (v : LowValue) × (o ≡ Some v) × IsPartOf (low.ChainUse l r ls rs hops) v
use_is (Some (low.ChainUse l' r' ls' rs' hops')) l r ls rs hops e h g =
    let a = and_parts (same_instance l' l) (same_instance r' r && pointwise same_hop hops' hops) e in
    let b = and_parts (same_instance r' r) (pointwise same_hop hops' hops) a.1 in
    (low.ChainUse l' r' ls' rs' hops', refl, (sym (instance_is l' l a.0), (sym (instance_is r' r b.0), (sym (hops_are hops' hops b.1), ((λ p m. has_subnet_is p ls' (h p m)), (λ p m. has_subnet_is p rs' (g p m)))))))
use_is (Some (low.Instance js)) l r ls rs hops e h g = absurd (true≢false (sym e))
use_is (Some (low.AttachPort p i a n)) l r ls rs hops e h g = absurd (true≢false (sym e))
use_is (Some (low.AttachCircuit c s n)) l r ls rs hops e h g = absurd (true≢false (sym e))
use_is (Some (low.Acl s q)) l r ls rs hops e h g = absurd (true≢false (sym e))
use_is None l r ls rs hops e h g = absurd (true≢false (sym e))

pub same_object : (v : LowValue) (o : Option LowValue) → is_object v o ≡ true → o ≡ Some v
same_object v (Some w) e = ap Some (same_Some w v (ap as_low_value ((same_value_decides (Object w) (Object v)).0 e)))
same_object v None e = absurd (true≢false (sym e))

-- ---- what is common of an object
module _ (nodes : List Node) (feeds : List Map) where
  some_when : (b : Bool) (v w : LowValue) → cond b (Some v) None ≡ Some w → (b ≡ true) × (v ≡ w)
  some_when true v w e = (refl, same_Some v w e)
  some_when false v w e = absurd (none_some w e)

  enters_there : (k : LowKey) (r : AclRule) (i : InstanceId) → entered_by r.action ≡ Some i → enters_everywhere nodes feeds k r ≡ true → (m : Map) → Member m feeds → has_instance i (entered_of (object m k)) ≡ true
  enters_there k r i is e m there = by (entered_by r.action) is e
    where
      by : (o : Option InstanceId) → o ≡ Some i → elim o [ Some j ↦ list_all (λ m. has_instance j (entered_of (object m k))) feeds | None ↦ false ] ≡ true → has_instance i (entered_of (object m k)) ≡ true
      by (Some j) is e = from_all (λ m. has_instance i (entered_of (object m k))) feeds m (subst (λ (x : InstanceId). list_all (λ m. has_instance x (entered_of (object m k))) feeds ≡ true) (same_Some j i is) e) there
      by None is e = absurd (none_some i is)

  entered_there : (k : LowKey) (rules : List AclRule) (i : InstanceId) → Member i (entered (filter (enters_everywhere nodes feeds k) rules)) → (m : Map) → Member m feeds → has_instance i (entered_of (object m k)) ≡ true
  entered_there k rules i h m there =
      let q = from_filter_map (λ (r : AclRule). entered_by r.action) i (filter (enters_everywhere nodes feeds k) rules) h in
      let f = from_filter (enters_everywhere nodes feeds k) q.0 rules q.1 in
      enters_there k q.0 i q.2 f.1 m there

  entered_here : (k : LowKey) (rules : List AclRule) → Within (entered (filter (enters_everywhere nodes feeds k) rules)) (entered rules)
  entered_here k rules i h =
      let q = from_filter_map (λ (r : AclRule). entered_by r.action) i (filter (enters_everywhere nodes feeds k) rules) h in
      let f = from_filter (enters_everywhere nodes feeds k) q.0 rules q.1 in
      in_filter_map (λ (r : AclRule). entered_by r.action) q.0 i rules f.0 q.2

  filtered : {X : Type 0} (p : Map → X → Bool) (xs : List X) (x : X) → Member x (filter (λ x. list_all (λ m. p m x) feeds) xs) → (m : Map) → Member m feeds → p m x ≡ true
  filtered {X} p xs x h m there = from_all (λ m. p m x) feeds m (from_filter (λ x. list_all (λ m. p m x) feeds) x xs h).1 there

  -- the other feeds have all of it
  pub part_of_others : (k : LowKey) (v w : LowValue) → common_object nodes feeds k v ≡ Some w → (m : Map) → Member m feeds → (u : LowValue) × (object m k ≡ Some u) × IsPartOf w u
  part_of_others k (low.Instance is) w e m there =
      let q = some_when (list_all (λ m. is_network (object m k)) feeds) _ w e in
      subst (λ (w : LowValue). (u : LowValue) × (object m k ≡ Some u) × IsPartOf w u) q.1
      (network_is (object m k) (filter (λ i. list_all (λ m. has_instance i (network_imports (object m k))) feeds) is) (from_all (λ m. is_network (object m k)) feeds m q.0 there)
      (λ i h. filtered (λ m i. has_instance i (network_imports (object m k))) is i h m there))
  part_of_others k (low.AttachPort p i a n) w e m there =
      let v : LowValue = low.AttachPort p i a n in
      let q = some_when (list_all (λ m. is_object v (object m k)) feeds && stands_at nodes n) v w e in
      subst (λ (w : LowValue). (u : LowValue) × (object m k ≡ Some u) × IsPartOf w u) q.1
      (v, same_object v (object m k) (from_all (λ m. is_object v (object m k)) feeds m (and_parts (list_all (λ m. is_object v (object m k)) feeds) (stands_at nodes n) q.0).0 there), refl)
  part_of_others k (low.AttachCircuit c s n) w e m there =
      let v : LowValue = low.AttachCircuit c s n in
      let q = some_when (list_all (λ m. is_object v (object m k)) feeds && stands_at nodes n) v w e in
      subst (λ (w : LowValue). (u : LowValue) × (object m k ≡ Some u) × IsPartOf w u) q.1
      (v, same_object v (object m k) (from_all (λ m. is_object v (object m k)) feeds m (and_parts (list_all (λ m. is_object v (object m k)) feeds) (stands_at nodes n) q.0).0 there), refl)
  part_of_others k (low.Acl ss rs) w e m there =
      let q = some_when (list_all (λ m. is_access_list (object m k)) feeds) _ w e in
      subst (λ (w : LowValue). (u : LowValue) × (object m k ≡ Some u) × IsPartOf w u) q.1
      (list_is (object m k) (filter (λ p. list_all (λ m. has_subnet p (subnets_of (object m k))) feeds) ss) (filter (enters_everywhere nodes feeds k) rs) (from_all (λ m. is_access_list (object m k)) feeds m q.0 there)
      (λ p h. filtered (λ m p. has_subnet p (subnets_of (object m k))) ss p h m there) (λ i h. entered_there k rs i h m there))
  part_of_others k (low.ChainUse l r ls rs hops) w e m there =
      let q = some_when (list_all (λ m. is_use_of l r hops (object m k)) feeds && list_all (λ h. stands_at nodes h.1) hops) _ w e in
      subst (λ (w : LowValue). (u : LowValue) × (object m k ≡ Some u) × IsPartOf w u) q.1
      (use_is (object m k) l r (filter (λ p. list_all (λ m. has_subnet p (lefts_of (object m k))) feeds) ls) (filter (λ p. list_all (λ m. has_subnet p (rights_of (object m k))) feeds) rs) hops
      (from_all (λ m. is_use_of l r hops (object m k)) feeds m (and_parts (list_all (λ m. is_use_of l r hops (object m k)) feeds) (list_all (λ h. stands_at nodes h.1) hops) q.0).0 there)
      (λ p h. filtered (λ m p. has_subnet p (lefts_of (object m k))) ls p h m there) (λ p h. filtered (λ m p. has_subnet p (rights_of (object m k))) rs p h m there))

  -- and so has the first
  pub part_of_first : (k : LowKey) (v w : LowValue) → common_object nodes feeds k v ≡ Some w → IsPartOf w v
  part_of_first k (low.Instance is) w e =
      subst (λ (w : LowValue). IsPartOf w (low.Instance is)) (some_when (list_all (λ m. is_network (object m k)) feeds) _ w e).1
      (λ i h. (from_filter (λ i. list_all (λ m. has_instance i (network_imports (object m k))) feeds) i is h).0)
  part_of_first k (low.AttachPort p i a n) w e = let v : LowValue = low.AttachPort p i a n in subst (λ (w : LowValue). IsPartOf w v) (some_when (list_all (λ m. is_object v (object m k)) feeds && stands_at nodes n) v w e).1 refl
  part_of_first k (low.AttachCircuit c s n) w e = let v : LowValue = low.AttachCircuit c s n in subst (λ (w : LowValue). IsPartOf w v) (some_when (list_all (λ m. is_object v (object m k)) feeds && stands_at nodes n) v w e).1 refl
  part_of_first k (low.Acl ss rs) w e =
      subst (λ (w : LowValue). IsPartOf w (low.Acl ss rs)) (some_when (list_all (λ m. is_access_list (object m k)) feeds) _ w e).1
      ((λ p h. (from_filter (λ p. list_all (λ m. has_subnet p (subnets_of (object m k))) feeds) p ss h).0), entered_here k rs)
  part_of_first k (low.ChainUse l r ls rs hops) w e =
      subst (λ (w : LowValue). IsPartOf w (low.ChainUse l r ls rs hops)) (some_when (list_all (λ m. is_use_of l r hops (object m k)) feeds && list_all (λ h. stands_at nodes h.1) hops) _ w e).1
      (refl, (refl, (refl, ((λ p h. (from_filter (λ p. list_all (λ m. has_subnet p (lefts_of (object m k))) feeds) p ls h).0), (λ p h. (from_filter (λ p. list_all (λ m. has_subnet p (rights_of (object m k))) feeds) p rs h).0)))))

  -- ---- an entry of the common part
  pub record IsCommonOf (m : Map) (k : LowKey) (w : LowValue) : Type 0 where
    pub value : LowValue
    pub held : get m (Low k) ≡ Some (Object value)
    pub at_home : has_its_home nodes feeds m k value ≡ true
    pub is : common_object nodes feeds k value ≡ Some w

  abbrev pub IsCommonEntry : Map → Key → Value → Key × Value → Type 0
  IsCommonEntry m k v e = (a : LowKey) × (x : LowValue) × (y : LowValue) × (k ≡ Low a) × (v ≡ Object x) × ((Low a, Object y) ≡ e) × (has_its_home nodes feeds m a x ≡ true) × (common_object nodes feeds a x ≡ Some y)

  pub entry_parts : (m : Map) (k : Key) (v : Value) (e : Key × Value) → common_entry nodes feeds m k v ≡ Some e → IsCommonEntry m k v e
  entry_parts m (Low a) (Object x) e h = by (has_its_home nodes feeds m a x) refl h
    where
      by_object : (o : Option LowValue) → common_object nodes feeds a x ≡ o → has_its_home nodes feeds m a x ≡ true → elim o [ Some y ↦ Some (Low a, Object y) | None ↦ None ] ≡ Some e → IsCommonEntry m (Low a) (Object x) e
      by_object (Some y) is u h = (a, x, y, refl, refl, same_Some (Low a, Object y) e h, u, is)
      by_object None is u h = absurd (none_some e h)

      by : (b : Bool) → has_its_home nodes feeds m a x ≡ b → cond b (elim (common_object nodes feeds a x) [ Some y ↦ Some (Low a, Object y) | None ↦ None ]) None ≡ Some e → IsCommonEntry m (Low a) (Object x) e
      by true u h = by_object (common_object nodes feeds a x) refl u h
      by false u h = absurd (none_some e h)
  entry_parts m (Low a) (Route r) e h = absurd (none_some e h)
  entry_parts m (Low a) (Entry r) e h = absurd (none_some e h)
  entry_parts m (Low a) (Label r) e h = absurd (none_some e h)
  entry_parts m (Vpn a) v e h = absurd (none_some e h)
  entry_parts m (Row i p) v e h = absurd (none_some e h)
  entry_parts m (Publish i p) v e h = absurd (none_some e h)
  entry_parts m (Subscribe i) v e h = absurd (none_some e h)

  pub common_of : (m : Map) (k : LowKey) (w : LowValue) → object (common_to nodes feeds m) k ≡ Some w → IsCommonOf m k w
  common_of m k w h =
      let es = filter_map (λ (e : Key × Value). common_entry nodes feeds m e.0 e.1) (entries m) in
      let q = from_filter_map (λ (e : Key × Value). common_entry nodes feeds m e.0 e.1) (Low k, Object w) (entries m) (from_entry key_total key_exact (Low k) (Object w) es (object_is (common_to nodes feeds m) k w h)) in
      let p = entry_parts m q.0.0 q.0.1 (Low k, Object w) q.2 in
      let same_key : p.0 ≡ k = same_Some p.0 k (ap (λ (e : Key × Value). as_low e.0) p.5) in
      let same_object : p.2 ≡ w = same_Some p.2 w (ap (λ (e : Key × Value). as_low_value e.1) p.5) in
      record {
        value = p.1;
        held = ap (λ (a : LowKey). get m (Low a)) (sym same_key) ∙ ap (get m) (sym p.3) ∙ get_member key_total m q.0.0 q.0.1 q.1 ∙ ap Some p.4;
        at_home = ap (λ (a : LowKey). has_its_home nodes feeds m a p.1) (sym same_key) ∙ p.6;
        is = ap (λ (a : LowKey). common_object nodes feeds a p.1) (sym same_key) ∙ p.7 ∙ ap Some same_object;
      }

-- ---- each configuration has all of the common part
part_among : (b : Checked) (cs : List Checked) (c : Checked) (k : LowKey) (w : LowValue) → Member c (b ∷ cs) → (v : LowValue) → get (low_in b) (Low k) ≡ Some (Object v) → common_object (standing (b ∷ cs)) (map low_in cs) k v ≡ Some w → (v : LowValue) × (object (low_in c) k ≡ Some v) × IsPartOf w v
part_among b cs c k w (inl e) v held is = (v, ap (λ (c : Checked). object (low_in c) k) (sym e) ∙ ap as_object held, part_of_first (standing (b ∷ cs)) (map low_in cs) k v w is)
part_among b cs c k w (inr m) v held is = part_of_others (standing (b ∷ cs)) (map low_in cs) k v w is (low_in c) (in_map low_in c cs m)

pub common_is_part : (b : Checked) (cs : List Checked) (c : Checked) → Member c (b ∷ cs) → IsAbove (common (b ∷ cs)) (low_in c)
common_is_part b cs c m k w h =
    let q = common_of (standing (b ∷ cs)) (map low_in cs) (low_in b) k w h in
    part_among b cs c k w m q.value q.held q.is
