-- What nodes show, and in which order.
use Rattle.std.specs.Prelude.{◌≡◌, ◌↔◌, ℕ, zero, suc, ◌+◌, ◌*◌, ◌<◌, ◌≤◌, List, [], ◌∷◌, ◌++◌, map, Bool, true, false, cond, T}
use Rattle.std.specs.declared.cmp.Ordering.{Ordering}
use Rattle.std.specs.declared.cmp.Ordering.TheVariants.{Less, Equal}
use Rattle.std.specs.Ordering.{nat_cmp, ordering_then}
use Rattle.std.specs.Cmp.{IsTotalOrder, ranked, nat_cmp_is}
use Rattle.std.specs.declared.option.Option.{Option}
use Rattle.std.specs.declared.option.Option.TheVariants.{Some, None}
use Rattle.std.specs.List.{AllByRecursion, filter, filter_map, flat_map, cons_option}
use Rattle.std.specs.List.Sorted.{IsStrictlySortedBy}
use Rattle.std.specs.FinMap.{get, entries, entries_sorted, is_sorted}
use Rattle.std.proofs.lemmas.Option.{same_Some}
use Rattle.std.proofs.Common.{refl, sym, ◌∙◌, ap, subst, inl, inr, arith}
use Rattle.ov_types.specs.Keys.{low_key_cmp, row_key_cmp}
use Rattle.ov_types.specs.Prefix.{Block, block_cmp}
use Rattle.ov_types.specs.declared.numbers.InstanceId.{InstanceId}
use Rattle.ov_types.specs.declared.numbers.Label.{Label as LabelNo}
use Rattle.ov_types.specs.declared.objects.LowKey.{LowKey}
use Rattle.ov_types.specs.declared.objects.LowKey.TheVariants as key
use Rattle.ov_types.specs.declared.objects.LowValue.{LowValue}
use Rattle.ov_types.specs.declared.objects.LowValue.TheVariants as low
use Rattle.ov_types.specs.declared.rows.Attached.{Attached}
use Rattle.ov_types.specs.declared.rows.Attached.TheVariants.{Port, Circuit}
use Rattle.ov_types.specs.declared.rows.Entry.{Entry as RouteEntry}
use Rattle.ov_types.specs.declared.rows.TableRow.{TableRow}
use Rattle.node_model.specs.Members.{Member}
use Rattle.node_model.specs.Keys.{Low, key_cmp}
use Rattle.node_model.specs.Values.{Value}
use Rattle.node_model.specs.Maps.{Map, as_object, object, objects}
use Rattle.node_model.specs.Uses.{Use, as_use, uses, hop}
use Rattle.node_model.specs.Paths.{Holdings, Path}
use Rattle.node_model.specs.Reaching.{AreShort, below}
use Rattle.node_model.specs.Tables.{table, table_row, network_of, known_instances, rows}
use Rattle.node_model.specs.Agent as agent
use Rattle.node_model.specs.Agent.{slice_in_use, attached, acl_entry, is_needed}
use Rattle.node_model.proofs.Members.{none_some, second_of_and, in_either, in_map, from_map, from_filter, in_filter_map, from_filter_map, in_flat_map, from_flat_map, first_below, get_member, member_get}
use Rattle.node_model.proofs.Orders.{prefix_total, prefix_exact}
use Rattle.node_model.proofs.Objects.{object_of}
use Rattle.node_model.proofs.Images.{low_keeps}
use Rattle.node_model.proofs.Published.{IsBefore, Rise, rise_from, rise_slice}
use Rattle.node_model.proofs.Heard.{row_total, first_rows}
use Rattle.node_model.proofs.Wanted.{named, at_path}
use Rattle.node_model.proofs.Local.{less_is}
use Rattle.node_laws.specs.Received.{AreNetworks, IsShown}
use Rattle.node_laws.specs.Labelled.{LeadsTo, to_port, to_circuit, IsAccessList}
use Rattle.node_laws.proofs.Receiving.{known_from, known_in, network_is, networks, hops, places, places_within}
use Rattle.node_model.proofs.Routes.{from_below}

-- ---- lists that rise
module _ {X : Type 0} (R : X → X → Type 0) where
  abbrev pub Rises : List X → Type 0
  Rises [] = Unit {0}
  Rises (x ∷ xs) = ((y : X) → Member y xs → R x y) × Rises xs

  rises_append : (xs ys : List X) → Rises xs → Rises ys → ((x y : X) → Member x xs → Member y ys → R x y) → Rises (xs ++ ys)
  rises_append [] ys a b over = b
  rises_append (x ∷ xs) ys a b over = (
    (λ y m. elim (in_either y xs ys m) as (λ _. R x y) [ inl l ↦ a.0 y l | inr r ↦ over x y (inl refl) r ]),
    rises_append xs ys a.1 b (λ x y m n. over x y (inr m) n),
  )

module _ {X Y : Type 0} (S : X → X → Type 0) (R : Y → Y → Type 0) where
  rises_map : (f : X → Y) (xs : List X) → Rises S xs → ((x y : X) → Member x xs → Member y xs → S x y → R (f x) (f y)) → Rises R (map f xs)
  rises_map f [] r keeps = tt
  rises_map f (x ∷ xs) r keeps = (
    (λ y m. let q = from_map f y xs m in subst (R (f x)) q.2 (keeps x q.0 (inl refl) (inr q.1) (r.0 q.0 q.1))),
    rises_map f xs r.1 (λ x y m n. keeps x y (inr m) (inr n)),
  )

  rises_filter_map : (f : X → Option Y) (xs : List X) → Rises S xs
      → ((x y : X) (v w : Y) → Member x xs → Member y xs → S x y → f x ≡ Some v → f y ≡ Some w → R v w) → Rises R (filter_map f xs)
  rises_filter_map f [] r keeps = tt
  rises_filter_map f (x ∷ xs) r keeps = with_first (f x) refl (rises_filter_map f xs r.1 (λ x y v w m n. keeps x y v w (inr m) (inr n)))
    where
      with_first : (o : Option Y) → f x ≡ o → Rises R (filter_map f xs) → Rises R (cons_option o (filter_map f xs))
      with_first None e rest = rest
      with_first (Some v) e rest = ((λ w m. let q = from_filter_map f w xs m in keeps x q.0 v w (inl refl) (inr q.1) (r.0 q.0 q.1) e q.2), rest)

  rises_flat_map : (f : X → List Y) (xs : List X) → Rises S xs → ((x : X) → Member x xs → Rises R (f x))
      → ((x y : X) (v w : Y) → Member x xs → Member y xs → S x y → Member v (f x) → Member w (f y) → R v w) → Rises R (flat_map f xs)
  rises_flat_map f [] r each keeps = tt
  rises_flat_map f (x ∷ xs) r each keeps =
      rises_append R (f x) (flat_map f xs) (each x (inl refl))
      (rises_flat_map f xs r.1 (λ x m. each x (inr m)) (λ x y v w m n. keeps x y v w (inr m) (inr n)))
      (λ v w m n. let q = from_flat_map f w xs n in keeps x q.0 v w (inl refl) (inr q.1) (r.0 q.0 q.1) m q.2)

rises_filter : {X : Type 0} (R : X → X → Type 0) (p : X → Bool) (xs : List X) → Rises R xs → Rises R (filter p xs)
rises_filter R p [] r = tt
rises_filter R p (x ∷ xs) r = elim (p x) as (λ b. Rises R (cond b (x ∷ filter p xs) (filter p xs))) [
  | true ↦ ((λ y m. r.0 y (from_filter p y xs m).0), rises_filter R p xs r.1)
  | false ↦ rises_filter R p xs r.1
]

-- a list whose keys rise is in order
abbrev by_key : {X K : Type 0} → (X → K) → (K → K → Ordering) → X → X → Type 0
by_key f R x y = R (f x) (f y) ≡ Less

all_above : {X K : Type 0} (f : X → K) (R : K → K → Ordering) (x : X) (xs : List X) → ((y : X) → Member y xs → by_key f R x y) → AllByRecursion (λ k. R (f x) k ≡ Less) (map f xs)
all_above f R x [] h = tt
all_above f R x (y ∷ ys) h = (h y (inl refl), all_above f R x ys (λ z m. h z (inr m)))

in_order : {X K : Type 0} (f : X → K) (R : K → K → Ordering) (xs : List X) → Rises (by_key f R) xs → IsStrictlySortedBy R (map f xs)
unfolding IsStrictlySortedBy
in_order f R [] r = tt
in_order f R (x ∷ xs) r = (all_above f R x xs r.0, in_order f R xs r.1)

-- the entries of a map are in order
entries_rise : {K V : Type 0} {R : K → K → Ordering} (o : IsTotalOrder R) (es : List (K × V)) → T (is_sorted R es) → Rises (by_key (λ (e : K × V). e.0) R) es
entries_rise o [] s = tt
entries_rise {R = R} o (e ∷ es) s = ((λ f m. less_is (R e.0 f.0) (first_below o e f es s m)), entries_rise o es (search (second_of_and, s)))

-- objects are in the order of their keys
abbrev object_before : LowKey × LowValue → LowKey × LowValue → Type 0
object_before e f = IsBefore e.0 f.0

objects_rise : (es : List (LowKey × LowValue)) → Rise es → Rises object_before es
objects_rise [] r = tt
objects_rise (e ∷ es) r = (r.0, objects_rise es r.1)

before_is : (a b : LowKey) → IsBefore a b → low_key_cmp a b ≡ Less
before_is a b h = sym (low_keeps a b) ∙ less_is (key_cmp (Low a) (Low b)) h

nat_less : (m n : ℕ) → m < n → nat_cmp m n ≡ Less
nat_less m n h = sym (nat_cmp_is m n Less h)

nat_same : (m n : ℕ) → m ≡ n → nat_cmp m n ≡ Equal
nat_same m n e = sym (nat_cmp_is m n Equal e)

less_nat : (m n : ℕ) → nat_cmp m n ≡ Less → m < n
less_nat m n e = ranked m n Less (sym e)

-- ---- what a control node shows
abbrev row_of : InstanceId → Block × Path → (InstanceId × Block) × TableRow
row_of i e = ((i, e.0), table_row e.1)

abbrev shown_at : InstanceId → Block → TableRow → (InstanceId × Block) × TableRow
shown_at i prefix row = ((i, prefix), row)

pub shown_is : (h : Holdings) (i : InstanceId) (prefix : Block) (row : TableRow) → Member (shown_at i prefix row) (rows h) ↔ IsShown h i prefix row
shown_is h i prefix row = (
  (λ m.
      let q = from_flat_map (λ (i : InstanceId). map (row_of i) (entries (table h i))) (shown_at i prefix row) (known_instances h.feed) m in
      let t = from_map (row_of q.0) (shown_at i prefix row) (entries (table h q.0)) q.2 in
      let at : q.0 ≡ i = ap (λ (e : (InstanceId × Block) × TableRow). e.0.0) t.2 in
      record {
        known = known_from h.feed i (subst (λ (x : InstanceId). Member x (known_instances h.feed)) at q.1);
        path = t.0.1;
        selected = (λ x. get (table h (sym at x)) ((sym t.2 x).0.1)) ∙ get_member prefix_total (table h q.0) t.0.0 t.0.1 t.1;
        row_is = sym (ap (λ (e : (InstanceId × Block) × TableRow). e.1) t.2);
      }),
  (λ s.
      subst (λ (r : TableRow). Member (shown_at i prefix r) (rows h)) (sym s.row_is)
      (in_flat_map (λ (i : InstanceId). map (row_of i) (entries (table h i))) i (row_of i (at_path prefix s.path)) (known_instances h.feed) (known_in h.feed i s.known)
      (in_map (row_of i) (at_path prefix s.path) (entries (table h i)) (member_get prefix_total prefix_exact (table h i) prefix s.path s.selected)))),
)

-- ---- the order of known instances
abbrev lower : InstanceId → InstanceId → Type 0
lower i j = i.0 < j.0

abbrev lower_use : Use → Use → Type 0
lower_use u w = u.number < w.number

use_key : (k : LowKey) (v : LowValue) (u : Use) → as_use k v ≡ Some u → k ≡ key.ChainUse u.number
use_key (key.ChainUse n) (low.ChainUse left right ls rs hops) u h = ap (λ (u : Use). key.ChainUse u.number) (same_Some _ u h)
use_key (key.ChainUse n) (low.Instance is) u h = absurd (none_some u h)
use_key (key.ChainUse n) (low.AttachPort p i a b) u h = absurd (none_some u h)
use_key (key.ChainUse n) (low.AttachCircuit p i a) u h = absurd (none_some u h)
use_key (key.ChainUse n) (low.Acl s r) u h = absurd (none_some u h)
use_key (key.Instance n) v u h = absurd (none_some u h)
use_key (key.Attach n) v u h = absurd (none_some u h)
use_key (key.Acl n m) v u h = absurd (none_some u h)

feed_rises : (feed : Map) → Rises object_before (objects feed)
feed_rises feed = objects_rise (objects feed) (rise_from (entries feed) (entries_sorted feed))

networks_rise : (feed : Map) → Rises lower (networks feed)
networks_rise feed = rises_filter_map object_before lower (λ (e : LowKey × LowValue). network_of e.0) (objects feed) (feed_rises feed)
    (λ x y i j m n s e f. less_nat i.0 j.0 (before_is (key.Instance i.0) (key.Instance j.0)
    (subst (λ (k : LowKey). IsBefore k (key.Instance j.0)) (network_is x.0 i e) (subst (IsBefore x.0) (network_is y.0 j f) s))))

uses_rise : (feed : Map) → Rises lower_use (uses feed)
uses_rise feed = rises_filter_map object_before lower_use (λ (e : LowKey × LowValue). as_use e.0 e.1) (objects feed) (feed_rises feed)
    (λ x y u w m n s e f. less_nat u.number w.number (before_is (key.ChainUse u.number) (key.ChainUse w.number)
    (subst (λ (k : LowKey). IsBefore k (key.ChainUse w.number)) (use_key x.0 x.1 u e) (subst (IsBefore x.0) (use_key y.0 y.1 w f) s))))

abbrev less_number : ℕ → ℕ → Type 0
less_number m n = m < n

one_rises : {X : Type 0} (R : X → X → Type 0) (x : X) → Rises R (x ∷ [])
one_rises R x = ((λ y m. absurd m), tt)

below_rises : (n : ℕ) → Rises less_number (below n)
below_rises zero = tt
below_rises (suc n) = rises_append less_number (below n) (n ∷ []) (below_rises n) (one_rises less_number n) (λ x y m r. elim r as (λ _. x < y) [ inl e ↦ subst (λ (y : ℕ). x < y) e (from_below n x m) | inr none ↦ absurd none ])

places_rise : (u : Use) → Rises less_number (places u)
places_rise u = below_rises (suc u.services)

hops_rise : (feed : Map) → AreShort feed → Rises lower (hops feed)
hops_rise feed short =
    rises_flat_map lower_use lower (λ (u : Use). map (hop u) (places u)) (uses feed) (uses_rise feed)
    (λ u m. rises_map less_number lower (hop u) (places u) (places_rise u) (λ j k _ _ h. nearer u.number j k h))
    (λ u w i k m n s v t.
    let j = from_map (hop u) i (places u) v in
    let l = from_map (hop w) k (places w) t in
    subst (lower i) l.2 (subst (λ (x : InstanceId). lower x (hop w l.0)) j.2 (apart u.number w.number j.0 l.0 u.services s (places_within u j.0 j.1) (short u m))))
  where
    nearer : (u j k : ℕ) → j < k → 16384 + 16 * u + j < 16384 + 16 * u + k
    nearer u j k h = omega arith

    apart : (u w j l n : ℕ) → u < w → j ≤ n → n ≤ 15 → 16384 + 16 * u + j < 16384 + 16 * w + l
    apart u w j l n h a b = omega arith

known_rises : (feed : Map) → AreNetworks feed → AreShort feed → Rises lower (known_instances feed)
known_rises feed are short =
    rises_append lower (networks feed) (hops feed) (networks_rise feed) (hops_rise feed short)
    (λ i k m n.
    let q = from_filter_map (λ (e : LowKey × LowValue). network_of e.0) i (objects feed) m in
    let r = from_flat_map (λ (u : Use). map (hop u) (places u)) k (uses feed) n in
    let j = from_map (hop r.0) k (places r.0) r.2 in
    subst (lower i) j.2 (over i.0 (r.0).number j.0 (are i.0 q.0.1 (held i q.0 (network_is q.0.0 i q.2) q.1))))
  where
    held : (i : InstanceId) (e : LowKey × LowValue) → e.0 ≡ key.Instance i.0 → Member e (objects feed) → object feed (key.Instance i.0) ≡ Some e.1
    held i e is m = ap (λ (o : Option Value). as_object o) (object_of feed (key.Instance i.0) e.1 (subst (λ (k : LowKey). Member (named k e.1) (objects feed)) is m))

    over : (i u j : ℕ) → i < 16384 → i < 16384 + 16 * u + j
    over i u j h = omega arith

abbrev row_key : (InstanceId × Block) × TableRow → InstanceId × Block
row_key e = e.0

pub shown_in_order : (h : Holdings) → AreNetworks h.feed → AreShort h.feed → IsStrictlySortedBy row_key_cmp (map row_key (rows h))
shown_in_order h are short =
    in_order row_key row_key_cmp (rows h)
    (rises_flat_map lower (by_key row_key row_key_cmp) (λ (i : InstanceId). map (row_of i) (entries (table h i))) (known_instances h.feed) (known_rises h.feed are short)
    (λ i m. rises_map (by_key (λ (e : Block × Path). e.0) block_cmp) (by_key row_key row_key_cmp) (row_of i) (entries (table h i)) (entries_rise prefix_total (entries (table h i)) (entries_sorted (table h i)))
    (λ x y _ _ s. ap (λ r. ordering_then r (block_cmp x.0 y.0)) (nat_same i.0 i.0 refl) ∙ s))
    (λ i j v w m n s a b.
    let p = from_map (row_of i) v (entries (table h i)) a in
    let q = from_map (row_of j) w (entries (table h j)) b in
    subst (by_key row_key row_key_cmp v) q.2 (subst (λ (x : (InstanceId × Block) × TableRow). by_key row_key row_key_cmp x (row_of j q.0)) p.2
    (ap (λ r. ordering_then r (block_cmp (p.0).0 (q.0).0)) (nat_less i.0 j.0 s)))))

-- ---- what an agent shows
abbrev label_at : ℕ → Attached → LabelNo × Attached
label_at label a = (record { 0 = label }, a)

record Leads (slice : List (LowKey × LowValue)) (k : LowKey) (v : LowValue) (x : LabelNo × Attached) : Type 0 where
  key_is : k ≡ key.Attach x.0.0
  leads : LeadsTo slice x.0.0 x.1

module _ (slice : List (LowKey × LowValue)) where
  attached_from : (k : LowKey) (v : LowValue) (x : LabelNo × Attached) → Member (named k v) slice → attached k v ≡ Some x → Leads slice k v x
  attached_from (key.Attach label) (low.AttachPort port instance address node) x m e =
      subst (Leads slice (key.Attach label) (low.AttachPort port instance address node)) (same_Some (label_at label (Port port instance)) x e) (record { key_is = refl; leads = to_port port instance address node m refl })
  attached_from (key.Attach label) (low.AttachCircuit circuit service node) x m e =
      subst (Leads slice (key.Attach label) (low.AttachCircuit circuit service node)) (same_Some (label_at label (Circuit circuit service)) x e) (record { key_is = refl; leads = to_circuit circuit service node m refl })
  attached_from (key.Attach label) (low.Instance is) x m e = absurd (none_some x e)
  attached_from (key.Attach label) (low.Acl s r) x m e = absurd (none_some x e)
  attached_from (key.Attach label) (low.ChainUse left right ls rs hops) x m e = absurd (none_some x e)
  attached_from (key.Instance n) v x m e = absurd (none_some x e)
  attached_from (key.Acl from to) v x m e = absurd (none_some x e)
  attached_from (key.ChainUse n) v x m e = absurd (none_some x e)

  abbrev labels_of : List (LabelNo × Attached)
  labels_of = filter_map (λ e. attached e.0 e.1) slice

  label_in : (label : ℕ) (a : Attached) → LeadsTo slice label a → Member (label_at label a) labels_of
  label_in label a (to_port port instance address node m e) =
      in_filter_map (λ (e : LowKey × LowValue). attached e.0 e.1) (named (key.Attach label) (low.AttachPort port instance address node)) (label_at label a) slice m (ap (λ (x : Attached). Some (label_at label x)) (sym e))
  label_in label a (to_circuit circuit service node m e) =
      in_filter_map (λ (e : LowKey × LowValue). attached e.0 e.1) (named (key.Attach label) (low.AttachCircuit circuit service node)) (label_at label a) slice m (ap (λ (x : Attached). Some (label_at label x)) (sym e))

  pub labels_are : (label : ℕ) (a : Attached) → Member (label_at label a) labels_of ↔ LeadsTo slice label a
  labels_are label a = (
    (λ m. let q = from_filter_map (λ (e : LowKey × LowValue). attached e.0 e.1) (label_at label a) slice m in (attached_from q.0.0 q.0.1 (label_at label a) q.1 q.2).leads),
    label_in label a,
  )

  abbrev label_number : LabelNo × Attached → ℕ
  label_number x = x.0.0

  pub labels_rise : Rises object_before slice → IsStrictlySortedBy nat_cmp (map label_number labels_of)
  labels_rise r = in_order label_number nat_cmp labels_of (rises_filter_map object_before (by_key label_number nat_cmp) (λ (e : LowKey × LowValue). attached e.0 e.1) slice r
      (λ x y v w m n s e f.
      before_is (key.Attach v.0.0) (key.Attach w.0.0)
      (subst (λ (k : LowKey). IsBefore k (key.Attach w.0.0)) (attached_from x.0 x.1 v m e).key_is (subst (IsBefore x.0) (attached_from y.0 y.1 w n f).key_is s))))

  acl_is : (k : LowKey) (v : LowValue) (x : LowKey × LowValue) → acl_entry k v ≡ Some x → (named k v ≡ x) × ((from : ℕ) × (to : ℕ) × (k ≡ key.Acl from to))
  acl_is (key.Acl from to) v x e = (same_Some (named (key.Acl from to) v) x e, (from, to, refl))
  acl_is (key.Instance n) v x e = absurd (none_some x e)
  acl_is (key.Attach n) v x e = absurd (none_some x e)
  acl_is (key.ChainUse n) v x e = absurd (none_some x e)

  abbrev acls_of : List (LowKey × LowValue)
  acls_of = filter_map (λ e. acl_entry e.0 e.1) slice

  pub acls_are : (k : LowKey) (v : LowValue) → Member (named k v) acls_of ↔ IsAccessList slice k v
  acls_are k v = (
    (λ m.
        let q = from_filter_map (λ (e : LowKey × LowValue). acl_entry e.0 e.1) (named k v) slice m in
        let p = acl_is q.0.0 q.0.1 (named k v) q.2 in
        (subst (λ (x : LowKey × LowValue). Member x slice) p.0 q.1, (p.1.0, p.1.1, sym (ap (λ (x : LowKey × LowValue). x.0) p.0) ∙ p.1.2))),
    (λ a. in_filter_map (λ (e : LowKey × LowValue). acl_entry e.0 e.1) (named k v) (named k v) slice a.0
        (ap (λ (x : LowKey). acl_entry x v) a.1.2 ∙ ap (λ (x : LowKey). Some (named x v)) (sym a.1.2))),
  )

  abbrev acl_key : LowKey × LowValue → LowKey
  acl_key e = e.0

  pub acls_rise : Rises object_before slice → IsStrictlySortedBy low_key_cmp (map acl_key acls_of)
  acls_rise r = in_order acl_key low_key_cmp acls_of (rises_filter_map object_before (by_key acl_key low_key_cmp) (λ (e : LowKey × LowValue). acl_entry e.0 e.1) slice r
      (λ x y v w m n s e f.
      before_is v.0 w.0
      (subst (λ (k : LowKey × LowValue). IsBefore k.0 w.0) (acl_is x.0 x.1 v e).0 (subst (λ (k : LowKey × LowValue). IsBefore x.0 k.0) (acl_is y.0 y.1 w f).0 s))))

pub slice_rises : (h : agent.Holdings) → Rises object_before (slice_in_use h)
slice_rises h = objects_rise (slice_in_use h) (rise_slice h)

pub routes_rise : (h : agent.Holdings) → IsStrictlySortedBy row_key_cmp (map (λ (e : (InstanceId × Block) × RouteEntry). e.0) (agent.routes h))
routes_rise h = in_order (λ (e : (InstanceId × Block) × RouteEntry). e.0) row_key_cmp (agent.routes h)
    (rises_filter (by_key (λ (e : (InstanceId × Block) × RouteEntry). e.0) row_key_cmp) (λ (r : (InstanceId × Block) × RouteEntry). is_needed h r.0.0) (entries (first_rows h)) (entries_rise row_total (entries (first_rows h)) (entries_sorted (first_rows h))))
