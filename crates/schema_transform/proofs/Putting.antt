-- Rows, objects and instances put into a map one list after the other.
use Rattle.std.proofs.Common.{◌≡◌, ℕ, ◌+◌, ◌<◌, List, [], ◌∷◌, ◌++◌, ◌==◌, length, map, drop, get_or, refl, sym, ap, ◌∙◌}
use Rattle.std.specs.Prelude.{flat_map}
use Rattle.std.specs.BTreeMap.{insert_entry}
use Rattle.std.specs.BTreeSet.{insert_key}
use Rattle.ov_types.specs.Keys.{low_key_cmp, row_key_cmp}
use Rattle.ov_types.specs.declared.numbers.InstanceId.{InstanceId}
use Rattle.route_targets.specs.Numbers.{circuit_instance_of}
use Rattle.std.specs.Prelude.{option_to_list}
use Rattle.std.proofs.lemmas.List.{append_assoc}
use Rattle.schema_transform.specs.Towards.{rows_if_in}
use Rattle.schema_transform.proofs.Towards.{rows_are}
use Rattle.std.specs.List.{filter_map, cons_option}
use Rattle.config_types.specs.declared.config.Config.{Config}
use Rattle.config_types.specs.declared.topology.Topology.{Topology}
use Rattle.std.proofs.Common.{Option, Some, None}
use Rattle.std.proofs.lemmas.List.Elements.{filter_map-append, filter-append}
use Rattle.transform_model.specs.Objects.{LowObject, acl_objects, circuit_object, circuit_objects, instance_cmp}
use Rattle.transform_model.specs.Objects.{instance_object, low_objects, port_object, use_object, with_instances}
use Rattle.transform_model.specs.Objects.{with_objects}
use Rattle.transform_model.specs.Tables.{Row, circuit_row, circuits_in, end_rows, hop_rows, subnet_rows, with_rows}
use Rattle.transform_model.specs.Uses.{Circuit, ConfiguredUse, first_hop, last_hop, left_circuits, right_circuits, uses}
use Rattle.ov_types.proofs.FirstLemmas.{next_is}

pub rows_append : (xs ys entries : List Row) → with_rows entries (xs ++ ys) ≡ with_rows (with_rows entries xs) ys
rows_append [] ys entries = refl
rows_append (x ∷ xs) ys entries = rows_append xs ys (insert_entry row_key_cmp entries x.0 x.1)

pub objects_append : (xs ys entries : List LowObject)
    → with_objects entries (xs ++ ys) ≡ with_objects (with_objects entries xs) ys
objects_append [] ys entries = refl
objects_append (x ∷ xs) ys entries = objects_append xs ys (insert_entry low_key_cmp entries x.0 x.1)

pub instances_append : (xs ys set : List InstanceId)
    → with_instances set (xs ++ ys) ≡ with_instances (with_instances set xs) ys
instances_append [] ys set = refl
instances_append (x ∷ xs) ys set = instances_append xs ys (insert_key instance_cmp set x)

-- what the item at i makes is put next, by what puts one list after the other
goes_on : {A B S : Type 0} (put : S → List B → S) → ((xs ys : List B) (s : S) → put s (xs ++ ys) ≡ put (put s xs) ys)
    → (one : A → List B) (all : List A → List B) → ((x : A) (xs : List A) → all (x ∷ xs) ≡ one x ++ all xs)
    → (items : List A) (i : ℕ) (item : A) (before after total : S) → i < length items → item ≡ get_or items i item
    → after ≡ put before (one item)
    → put before (all (drop i items)) ≡ total
    → put after (all (drop (i + 1) items)) ≡ total
goes_on {A} {B} {S} put append one all first items i item before after total lt at is so_far =
    let rest : List B = all (drop (i + 1) items) in
    ap (λ (s : S). put s rest) is
    ∙ sym (append (one item) rest before)
    ∙ ap (put before) (sym (first item (drop (i + 1) items)) ∙ ap all (sym (next_is items i item lt at)))
    ∙ so_far

-- one list behind another
joined : (xs ys before : List Row) → before ++ (xs ++ ys) ≡ (before ++ xs) ++ ys
joined xs ys before = sym (append_assoc before xs ys)

-- the rows of the item at i come next
pub rows_go_on : {A B : Type 0} (rows : B → List Row) (seen : A → B) (items : List A) (i : ℕ) (item : A)
    (before after total : List Row) → i < length items → item ≡ get_or items i item
    → after ≡ before ++ rows (seen item)
    → before ++ flat_map rows (map seen (drop i items)) ≡ total
    → after ++ flat_map rows (map seen (drop (i + 1) items)) ≡ total
rows_go_on rows seen = goes_on (λ before rs. before ++ rs) joined (λ x. rows (seen x)) (λ xs. flat_map rows (map seen xs)) (λ x xs. refl)

pub tables_go_on : {A : Type 0} (rows : A → List Row) (items : List A) (i : ℕ) (item : A)
    (before after total : List Row) → i < length items → item ≡ get_or items i item
    → after ≡ with_rows before (rows item)
    → with_rows before (flat_map rows (drop i items)) ≡ total
    → with_rows after (flat_map rows (drop (i + 1) items)) ≡ total
tables_go_on rows = goes_on with_rows rows_append rows (flat_map rows) (λ x xs. refl)

-- the objects of the item at i are put next
pub objects_go_on : {A B : Type 0} (objects : B → List LowObject) (seen : A → B) (items : List A) (i : ℕ) (item : A)
    (before after total : List LowObject) → i < length items → item ≡ get_or items i item
    → after ≡ with_objects before (objects (seen item))
    → with_objects before (flat_map objects (map seen (drop i items))) ≡ total
    → with_objects after (flat_map objects (map seen (drop (i + 1) items))) ≡ total
objects_go_on objects seen = goes_on with_objects objects_append (λ x. objects (seen x)) (λ xs. flat_map objects (map seen xs)) (λ x xs. refl)

pub lists_go_on : {A : Type 0} (objects : A → List LowObject) (items : List A) (i : ℕ) (item : A)
    (before after total : List LowObject) → i < length items → item ≡ get_or items i item
    → after ≡ with_objects before (objects item)
    → with_objects before (flat_map objects (drop i items)) ≡ total
    → with_objects after (flat_map objects (drop (i + 1) items)) ≡ total
lists_go_on objects = goes_on with_objects objects_append objects (flat_map objects) (λ x xs. refl)

-- the instances of the item at i are put next
pub needs_go_on : {A : Type 0} (needs : A → List InstanceId) (items : List A) (i : ℕ) (item : A)
    (before after total : List InstanceId) → i < length items → item ≡ get_or items i item
    → after ≡ with_instances before (needs item)
    → with_instances before (flat_map needs (drop i items)) ≡ total
    → with_instances after (flat_map needs (drop (i + 1) items)) ≡ total
needs_go_on needs = goes_on with_instances instances_append needs (flat_map needs) (λ x xs. refl)

-- ---- several lists
one_first : (o : Option ConfiguredUse) (us : List ConfiguredUse) → option_to_list o ++ us ≡ cons_option o us
one_first None us = refl
one_first (Some u) us = refl

-- the left circuits of a use and then the right ones
pub circuits_put : (t : Topology) (u : ConfiguredUse) (lefts rights : List Circuit) (before : List LowObject)
    → lefts ≡ left_circuits u → rights ≡ right_circuits u
    → with_objects (with_objects before (filter_map (circuit_object t) lefts)) (filter_map (circuit_object t) rights)
    ≡ with_objects before (circuit_objects t u)
circuits_put t u lefts rights before left right =
    sym (objects_append (filter_map (circuit_object t) lefts) (filter_map (circuit_object t) rights) before)
    ∙ ap (with_objects before) (sym (filter_map-append (circuit_object t) lefts rights)
    ∙ ap (λ (ks : List Circuit). filter_map (circuit_object t) (ks ++ rights)) left
    ∙ ap (λ (ks : List Circuit). filter_map (circuit_object t) (left_circuits u ++ ks)) right)

-- the five kinds of objects one after the other
pub all_put : (t : Topology) (c : Config) (us : List ConfiguredUse) (a b d e f : List LowObject) → us ≡ uses c
    → a ≡ with_objects [] (map (instance_object c) c.networks)
    → b ≡ with_objects a (filter_map (port_object t c) c.ports)
    → d ≡ with_objects b (flat_map (circuit_objects t) us)
    → e ≡ with_objects d (flat_map (acl_objects c) c.networks)
    → f ≡ with_objects e (map (use_object t) us)
    → f ≡ low_objects t c
unfolding low_objects
all_put t c us a b d e f same ha hb hd he hf =
    let o1 : List LowObject = map (instance_object c) c.networks in
    let o2 : List LowObject = filter_map (port_object t c) c.ports in
    let o3 : List LowObject = flat_map (circuit_objects t) us in
    let o4 : List LowObject = flat_map (acl_objects c) c.networks in
    let o5 : List LowObject = map (use_object t) us in
    hf ∙ ap (λ (x : List LowObject). with_objects x o5) (he
    ∙ ap (λ (x : List LowObject). with_objects x o4) (hd
    ∙ ap (λ (x : List LowObject). with_objects x o3) (hb
    ∙ ap (λ (x : List LowObject). with_objects x o2) ha)))
    ∙ sym (objects_append o4 o5 (with_objects (with_objects (with_objects [] o1) o2) o3))
    ∙ sym (objects_append o3 (o4 ++ o5) (with_objects (with_objects [] o1) o2))
    ∙ sym (objects_append o2 (o3 ++ (o4 ++ o5)) (with_objects [] o1))
    ∙ sym (objects_append o1 (o2 ++ (o3 ++ (o4 ++ o5))) [])
    ∙ ap (λ (vs : List ConfiguredUse). with_objects [] (o1 ++ (o2 ++ (flat_map (circuit_objects t) vs ++ (o4
    ++ map (use_object t) vs))))) same

-- what a use gives an instance, one kind after the other
pub hop_put : (t : Topology) (c : Config) (i : InstanceId) (u : ConfiguredUse) (lefts rights : List Circuit) (first last : InstanceId)
    (o a b d e f g : List Row) → lefts ≡ left_circuits u → rights ≡ right_circuits u
    → first ≡ first_hop u → last ≡ last_hop u
    → a ≡ o ++ filter_map (circuit_row t i) (circuits_in i lefts)
    → b ≡ a ++ filter_map (circuit_row t i) (circuits_in i rights)
    → d ≡ b ++ flat_map (rows_if_in t c i u.right) lefts
    → e ≡ d ++ flat_map (rows_if_in t c i u.left) rights
    → f ≡ e ++ end_rows t c i first u.left
    → g ≡ f ++ end_rows t c i last u.right
    → g ≡ o ++ hop_rows t c i u
hop_put t c i u lefts rights first last o a b d e f g left right at_first at_last ha hb hd he hf hg =
    let r1 : List Row = filter_map (circuit_row t i) (circuits_in i lefts) in
    let r2 : List Row = filter_map (circuit_row t i) (circuits_in i rights) in
    let r3 : List Row = flat_map (rows_if_in t c i u.right) lefts in
    let r4 : List Row = flat_map (rows_if_in t c i u.left) rights in
    let r5 : List Row = end_rows t c i first u.left in
    let r6 : List Row = end_rows t c i last u.right in
    let s1 : List Row = filter_map (circuit_row t i) (circuits_in i (left_circuits u ++ right_circuits u)) in
    let s3 : List Row = flat_map (subnet_rows t c i u.right) (circuits_in i (left_circuits u)) in
    let s4 : List Row = flat_map (subnet_rows t c i u.left) (circuits_in i (right_circuits u)) in
    let same1 : r1 ++ r2 ≡ s1 =
    sym (filter_map-append (circuit_row t i) (circuits_in i lefts) (circuits_in i rights))
    ∙ ap (filter_map (circuit_row t i)) (sym (filter-append (λ (k : Circuit). (circuit_instance_of k.number).0 == i.0) lefts rights))
    ∙ ap (λ (ks : List Circuit). filter_map (circuit_row t i) (circuits_in i (ks ++ rights))) left
    ∙ ap (λ (ks : List Circuit). filter_map (circuit_row t i) (circuits_in i (left_circuits u ++ ks))) right
    in
    let same3 : r3 ≡ s3 = ap (flat_map (rows_if_in t c i u.right)) left ∙ sym (rows_are t c i u.right (left_circuits u)) in
    let same4 : r4 ≡ s4 = ap (flat_map (rows_if_in t c i u.left)) right ∙ sym (rows_are t c i u.left (right_circuits u)) in
    let same5 : r5 ≡ end_rows t c i (first_hop u) u.left = ap (λ (h : InstanceId). end_rows t c i h u.left) at_first in
    let same6 : r6 ≡ end_rows t c i (last_hop u) u.right = ap (λ (h : InstanceId). end_rows t c i h u.right) at_last in
    hg ∙ ap (λ (x : List Row). x ++ r6) (hf
    ∙ ap (λ (x : List Row). x ++ r5) (he
    ∙ ap (λ (x : List Row). x ++ r4) (hd
    ∙ ap (λ (x : List Row). x ++ r3) (hb
    ∙ ap (λ (x : List Row). x ++ r2) ha
    ∙ sym (joined r1 r2 o)))))
    ∙ sym (joined r5 r6 ((((o ++ (r1 ++ r2)) ++ r3) ++ r4)))
    ∙ sym (joined r4 (r5 ++ r6) ((o ++ (r1 ++ r2)) ++ r3))
    ∙ sym (joined r3 (r4 ++ (r5 ++ r6)) (o ++ (r1 ++ r2)))
    ∙ sym (joined (r1 ++ r2) (r3 ++ (r4 ++ (r5 ++ r6))) o)
    ∙ ap (λ (x : List Row). o ++ x) (ap (λ (x : List Row). x ++ (r3 ++ (r4 ++ (r5 ++ r6)))) same1
    ∙ ap (λ (x : List Row). s1 ++ (x ++ (r4 ++ (r5 ++ r6)))) same3
    ∙ ap (λ (x : List Row). s1 ++ (s3 ++ (x ++ (r5 ++ r6)))) same4
    ∙ ap (λ (x : List Row). s1 ++ (s3 ++ (s4 ++ (x ++ r6)))) same5
    ∙ ap (λ (x : List Row). s1 ++ (s3 ++ (s4 ++ (end_rows t c i (first_hop u) u.left ++ x)))) same6)

-- the uses that the item at i gives come next
pub uses_go_on : {A : Type 0} (give : A → Option ConfiguredUse) (items : List A) (i : ℕ) (item : A) (before after total : List ConfiguredUse)
    → i < length items → item ≡ get_or items i item → after ≡ before ++ option_to_list (give item)
    → before ++ filter_map give (drop i items) ≡ total → after ++ filter_map give (drop (i + 1) items) ≡ total
uses_go_on give = goes_on (λ before us. before ++ us) (λ us vs before. sym (append_assoc before us vs))
    (λ x. option_to_list (give x)) (filter_map give) (λ x xs. sym (one_first (give x) (filter_map give xs)))
