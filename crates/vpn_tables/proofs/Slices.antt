-- Slices, as an object changes.
use Rattle.std.specs.Prelude.{◌≡◌, ◌≢◌, ◌⊎◌, ℕ, List, [], ◌∷◌, ◌++◌, Bool, true, false, cond, is_some, map, ◌&&◌, ◌||◌, ◌==◌}
use Rattle.std.specs.declared.option.Option.{Option}
use Rattle.std.specs.declared.option.Option.TheVariants.{Some, None}
use Rattle.std.specs.List.{cons_option, filter, filter_map, flat_map, list_any}
use Rattle.std.specs.Ordering.{eq_by_cmp}
use Rattle.std.specs.Cmp.{Equal-is}
use Rattle.std.specs.FinMap.{entries, find, get, get-from_entries}
use Rattle.std.proofs.Common.{refl, sym, ◌∙◌, ap, subst, inl, inr, arith}
use Rattle.std.proofs.lemmas.Bool.Decides.{nat_tests}
use Rattle.ov_types.specs.Prefix.{Block}
use Rattle.ov_types.specs.declared.numbers.InstanceId.{InstanceId}
use Rattle.ov_types.specs.declared.objects.LowKey.{LowKey}
use Rattle.ov_types.specs.declared.objects.LowKey.TheVariants as key
use Rattle.ov_types.specs.declared.objects.LowValue.{LowValue}
use Rattle.ov_types.specs.declared.objects.LowValue.TheVariants as low
use Rattle.ov_types.specs.declared.prefix.Addr.{Addr}
use Rattle.ov_sync.specs.declared.Delta.{Delta}
use Rattle.ov_sync.specs.declared.Delta.TheVariants.{Put, Drop}
use Rattle.ov_sync.specs.Embed.{moved_delta}
use Rattle.ov_sync.specs.Keyed.{changed, key_of}
use Rattle.node_model.specs.Keys.{Key, Low, Vpn, Row, Publish, Subscribe, key_cmp}
use Rattle.node_model.specs.Values.{Value, Object, Route, Entry, Label}
use Rattle.node_model.specs.Maps.{Map, as_object, low_entry, object, objects}
use Rattle.node_model.specs.Paths.{Holdings, Told}
use Rattle.node_model.specs.Tables.{table}
use Rattle.node_model.specs.Wants.{is_in_slice, networks_at, port_at, rows_of, slice, slice_entry, subscriptions, wanted_by_agent}
use Rattle.node_model.proofs.Members.{none_some}
use Rattle.node_model.proofs.Objects.{object_of}
use Rattle.node_model.proofs.Orders.{key_exact, key_total}
use Rattle.node_model.proofs.Wanted.{slice_is, subscription_from, wanted_object}
use Rattle.vpn_holdings.specs.Changes.{with_low}
use Rattle.vpn_tables.proofs.Filtering.{filter_twice, found_among, found_in_each}
use Rattle.vpn_tables.proofs.TablesStay.{object_stays, tables_stay}
use Rattle.vpn_tables.proofs.Wanted.{rows_of_one}
use Rattle.vpn_tables.specs.Here.{IsListOfPort, is_here, port_here, put_by}
use Rattle.vpn_tables.proofs.Ports.{low_in, networks_alike, one_network}
use Rattle.vpn_tables.proofs.Kept.{Unsaid, filter_alike, filter_said, found_both, kept, map_said, said, said_stays, value_put}

-- ---- a change of an object, among all changes
abbrev put_value : Option LowValue → Option Value
put_value None = None
put_value (Some v) = Some (Object v)

key_moved : (d : Delta LowKey LowValue) → key_of (moved_delta Low Object d) ≡ Low (key_of d)
key_moved (Put k v) = refl
key_moved (Drop k) = refl

value_moved : (d : Delta LowKey LowValue) → value_put (moved_delta Low Object d) ≡ put_value (put_by d)
value_moved (Put k v) = refl
value_moved (Drop k) = refl

-- ---- whether one passes is whether any is left of those that do
abbrev some_of : {X : Type 0} → List X → Bool
some_of [] = false
some_of (x ∷ xs) = true

any_some : {X : Type 0} (p : X → Bool) (xs : List X) → list_any p xs ≡ some_of (filter p xs)
any_some p [] = refl
any_some p (x ∷ xs) = elim (p x) as (λ b. (b || list_any p xs) ≡ some_of (cond b (x ∷ filter p xs) (filter p xs))) [ true ↦ refl | false ↦ any_some p xs ]

falls : (b : Bool) → (b && false) ≡ false
falls true = refl
falls false = refl

unlike : (m n : ℕ) → m ≢ n → (m == n) ≡ false
unlike m n apart = grind (arith, nat_tests)

abbrev of_network : ℕ → InstanceId → Bool
of_network from n = n.0 == from

module _ (address : Addr) where
  -- ---- networks
  abbrev network : Key → Value → Option InstanceId
  network (Low k) (Object v) = port_at address v
  network _ _ = None

  network_first : (e : Key × Value) (xs : List (LowKey × LowValue)) → filter_map (λ x. port_at address x.1) (cons_option (low_entry e.0 e.1) xs) ≡ cons_option (network e.0 e.1) (filter_map (λ x. port_at address x.1) xs)
  network_first e xs = by_kind e.0 e.1
    where
      by_kind : (k : Key) (v : Value) → filter_map (λ x. port_at address x.1) (cons_option (low_entry k v) xs) ≡ cons_option (network k v) (filter_map (λ x. port_at address x.1) xs)
      by_kind (Low k) (Object v) = refl
      by_kind (Low k) (Route r) = refl
      by_kind (Low k) (Entry r) = refl
      by_kind (Low k) (Label l) = refl
      by_kind (Vpn k) v = refl
      by_kind (Row i q) v = refl
      by_kind (Publish i q) v = refl
      by_kind (Subscribe i) v = refl

  networks_said : (m : Map) → networks_at m address ≡ said network (entries m)
  networks_said m = map_said (λ x. port_at address x.1) (λ e. low_entry e.0 e.1) (λ e. network e.0 e.1) network_first (entries m)

  -- ---- whether a port of a network is here
  abbrev network_from : ℕ → Key → Value → Option InstanceId
  network_from from k v = kept (of_network from) (network k v)

  any_said : (from : ℕ) (m : Map) → list_any (of_network from) (networks_at m address) ≡ some_of (said (network_from from) (entries m))
  any_said from m =
      any_some (of_network from) (networks_at m address)
      ∙ ap (λ xs. some_of (filter (of_network from) xs)) (networks_said m)
      ∙ ap some_of (filter_said (of_network from) (λ e. network e.0 e.1) (entries m))

  -- an object is no port of this network here
  abbrev IsNoPort : ℕ → Option LowValue → Type 0
  IsNoPort from o = (n : InstanceId) → port_here address o ≡ Some n → n.0 ≢ from

  not_kept : (from : ℕ) (o : Option InstanceId) → ((n : InstanceId) → o ≡ Some n → n.0 ≢ from) → kept (of_network from) o ≡ None
  not_kept from None h = refl
  not_kept from (Some n) h = ap (λ b. cond b (Some n) None) (unlike n.0 from (h n refl))

  unsaid : (from : ℕ) (k : LowKey) (o : Option Value) → IsNoPort from (as_object o) → Unsaid (network_from from) (Low k) o
  unsaid from k None h = tt
  unsaid from k (Some (Object v)) h = not_kept from (port_at address v) h
  unsaid from k (Some (Route r)) h = refl
  unsaid from k (Some (Entry r)) h = refl
  unsaid from k (Some (Label l)) h = refl

  back : (o : Option LowValue) → as_object (put_value o) ≡ o
  back None = refl
  back (Some v) = refl

  module _ (m : Map) (d : Delta LowKey LowValue) where
    abbrev next : Map
    next = changed m (moved_delta Low Object d)

    any_stays : (from : ℕ) → IsNoPort from (object m (key_of d)) → IsNoPort from (put_by d) → list_any (of_network from) (networks_at m address) ≡ list_any (of_network from) (networks_at next address)
    any_stays from before after =
        any_said from m
        ∙ ap some_of
        (said_stays (network_from from) m (moved_delta Low Object d)
        (rw (key_moved d) (unsaid from (key_of d) (get m (Low (key_of d))) before))
        (rw (key_moved d, value_moved d) (unsaid from (key_of d) (put_value (put_by d)) (subst (IsNoPort from) (sym (back (put_by d))) after))))
        ∙ sym (any_said from next)

    -- ---- the slice at another key
    module _ (k : Key) (away : k ≢ Low (key_of d)) (same : (from to : ℕ) → k ≡ Low (key.Acl from to) → list_any (of_network from) (networks_at m address) ≡ list_any (of_network from) (networks_at next address)) where
      abbrev belongs : LowKey × LowValue → Bool
      belongs x = is_in_slice m address x.0 x.1

      abbrev belongs_then : LowKey × LowValue → Bool
      belongs_then x = is_in_slice next address x.0 x.1

      abbrev of_key : LowKey × LowValue → Bool
      of_key x = eq_by_cmp key_cmp k (slice_entry x).0

      abbrev counts : LowKey × LowValue → Bool
      counts x = belongs x && of_key x

      counts_same : (x : LowKey × LowValue) → (belongs_then x && of_key x) ≡ counts x
      counts_same x =
          elim (of_key x) as (λ b. of_key x ≡ b → (belongs_then x && b) ≡ (belongs x && b)) [
            | true ↦ λ e. ap (λ b. b && true) (by_kind x.0 x.1 (key_exact k (Low x.0) ((Equal-is (key_cmp k (Low x.0))).0 e)))
            | false ↦ λ _. falls (belongs_then x) ∙ sym (falls (belongs x))
          ] refl
        where
          by_kind : (j : LowKey) (v : LowValue) → k ≡ Low j → is_in_slice next address j v ≡ is_in_slice m address j v
          by_kind (key.Attach label) v is = refl
          by_kind (key.Acl from to) v is = sym (same from to is)
          by_kind (key.Instance n) v is = refl
          by_kind (key.ChainUse n) v is = refl

      abbrev counted : Key → Value → Option (LowKey × LowValue)
      counted j v = kept counts (low_entry j v)

      not_of_key : eq_by_cmp key_cmp k (Low (key_of d)) ≡ false
      not_of_key =
          elim (eq_by_cmp key_cmp k (Low (key_of d))) as (λ b. eq_by_cmp key_cmp k (Low (key_of d)) ≡ b → b ≡ false) [
            | true ↦ λ e. absurd (away (key_exact k (Low (key_of d)) ((Equal-is (key_cmp k (Low (key_of d)))).0 e)))
            | false ↦ λ _. refl
          ] refl

      uncounted : (o : Option Value) → Unsaid counted (Low (key_of d)) o
      uncounted None = tt
      uncounted (Some (Object v)) =
          ap (λ b. cond (belongs (key_of d, v) && b) (Some (key_of d, v)) None) not_of_key
          ∙ ap (λ b. cond b (Some (key_of d, v)) None) (falls (belongs (key_of d, v)))
      uncounted (Some (Route r)) = refl
      uncounted (Some (Entry r)) = refl
      uncounted (Some (Label l)) = refl

      abbrev found : List (LowKey × LowValue) → Option Value
      found xs = find key_cmp k (map slice_entry xs)

      found_by : (p : LowKey × LowValue → Bool) (n : Map) → found (filter p (objects n)) ≡ found (filter (λ x. p x && of_key x) (objects n))
      found_by p n = found_among key_cmp k slice_entry (filter p (objects n)) ∙ ap found (filter_twice of_key p (objects n))

      found_counted : (n : Map) → found (filter counts (objects n)) ≡ found (said counted (entries n))
      found_counted n = ap found (filter_said counts (λ e. low_entry e.0 e.1) (entries n))

      pub slice_stays : found (slice m address) ≡ found (slice next address)
      slice_stays =
          found_by belongs m
          ∙ found_counted m
          ∙ ap found
          (said_stays counted m (moved_delta Low Object d) (rw (key_moved d) (uncounted (get m (Low (key_of d))))) (rw (key_moved d) (uncounted (value_put (moved_delta Low Object d)))))
          ∙ sym (found_counted next)
          ∙ ap found (sym (filter_alike (λ x. belongs_then x && of_key x) counts counts_same (objects next)))
          ∙ sym (found_by belongs_then next)

-- ---- what an agent is to be told, at another key
-- the row of a key is the same, where the agent subscribed its instance
abbrev SameRow : Holdings → Holdings → Told → Key → Type 0
SameRow h g a k = (i : InstanceId) (q : Block) → k ≡ Row i q → is_some (get a.map (Subscribe i)) ≡ true → get (table h i) q ≡ get (table g i) q

lists_stay : (h : Holdings) (d : Delta LowKey LowValue) (a : Told) (k : Key) → SameRow h (with_low h d) a k → k ≢ Low (key_of d)
    → ((from to : ℕ) → k ≡ Low (key.Acl from to) → list_any (of_network from) (networks_at h.feed a.address) ≡ list_any (of_network from) (networks_at (with_low h d).feed a.address))
    → get (wanted_by_agent h a) k ≡ get (wanted_by_agent (with_low h d) a) k
lists_stay h d a k rows away same =
    let g = with_low h d in
    get-from_entries key_total (map slice_entry (slice h.feed a.address) ++ flat_map (rows_of h) (subscriptions a.map)) k
    ∙ found_both key_cmp k (map slice_entry (slice h.feed a.address)) (flat_map (rows_of h) (subscriptions a.map)) (map slice_entry (slice g.feed a.address)) (flat_map (rows_of g) (subscriptions a.map))
    (slice_stays a.address h.feed d k away same)
    (found_in_each key_cmp k (rows_of h) (rows_of g) (subscriptions a.map) (λ j n. rows_of_one h g k j (λ q is. rows j q is (subscription_from a.map j n))))
    ∙ sym (get-from_entries key_total (map slice_entry (slice g.feed a.address) ++ flat_map (rows_of g) (subscriptions a.map)) k)

-- what is not held is not told
untold : (h : Holdings) (a : Told) (j : LowKey) → object h.feed j ≡ None → get (wanted_by_agent h a) (Low j) ≡ None
untold h a j absent =
    elim (get (wanted_by_agent h a) (Low j)) as (λ o. get (wanted_by_agent h a) (Low j) ≡ o → o ≡ None) [
      | None ↦ λ _. refl
      | Some v ↦ λ e.
          let q = wanted_object h a j v e in
          absurd (none_some q.0 (sym absent ∙ ap as_object (object_of h.feed j q.0 ((slice_is h.feed a.address j q.0).0 q.1).0)))
    ] refl

abbrev Stays : Holdings → Delta LowKey LowValue → Told → Key → Type 0
Stays h d a k = get (wanted_by_agent h a) k ≡ get (wanted_by_agent (with_low h d) a) k

pub any_object : (h : Holdings) (d : Delta LowKey LowValue) (a : Told) (k : Key) → SameRow h (with_low h d) a k → k ≢ Low (key_of d)
    → (port_here a.address (object h.feed (key_of d)) ≢ port_here a.address (put_by d) → IsListOfPort h.feed a.address (object h.feed (key_of d)) k → ⊥)
    → (port_here a.address (object h.feed (key_of d)) ≢ port_here a.address (put_by d) → IsListOfPort h.feed a.address (put_by d) k → ⊥)
    → get (wanted_by_agent h a) k ≡ get (wanted_by_agent (with_low h d) a) k
any_object h d a k rows away before after = by_key k refl
  where
    no_list : ((from to : ℕ) → k ≡ Low (key.Acl from to) → ⊥) → Stays h d a k
    no_list none = lists_stay h d a k rows away (λ from to is. absurd (none from to is))

    held_list : (from to : ℕ) (v : LowValue) → k ≡ Low (key.Acl from to) → object h.feed (key.Acl from to) ≡ Some v → Stays h d a k
    held_list from to v is held =
        lists_stay h d a k rows away (λ x y here. same x y here (one_network (port_here a.address (object h.feed (key_of d))) (port_here a.address (put_by d))))
      where
        listed : (o : Option LowValue) (x y : ℕ) → k ≡ Low (key.Acl x y) → (n : InstanceId) → port_here a.address o ≡ Some n → n.0 ≡ x → IsListOfPort h.feed a.address o k
        listed o x y here n port same =
            let here_is : k ≡ Low (key.Acl n.0 y) = here ∙ ap (λ z. Low (key.Acl z y)) (sym same) in
            let same_key : key.Acl from to ≡ key.Acl n.0 y = ap (λ z. low_in z (key.Acl from to)) (sym is ∙ here_is) in
            record {
              network = n;
              to = y;
              port_is = port;
              held = subst (λ (j : LowKey). is_some (object h.feed j) ≡ true) same_key (ap is_some held);
              key_is = here_is;
            }

        same : (x y : ℕ) → k ≡ Low (key.Acl x y) → (port_here a.address (object h.feed (key_of d)) ≡ port_here a.address (put_by d)) ⊎ (port_here a.address (object h.feed (key_of d)) ≢ port_here a.address (put_by d))
            → list_any (of_network x) (networks_at h.feed a.address) ≡ list_any (of_network x) (networks_at (with_low h d).feed a.address)
        same x y here (inl alike) = networks_alike a.address h.feed d alike (of_network x)
        same x y here (inr differ) =
            any_stays a.address h.feed d x (λ n port is. before differ (listed (object h.feed (key_of d)) x y here n port is)) (λ n port is. after differ (listed (put_by d) x y here n port is))

    no_object : (j : LowKey) → k ≡ Low j → object h.feed j ≡ None → Stays h d a k
    no_object j is absent =
        ap (λ (x : Key). get (wanted_by_agent h a) x) is
        ∙ untold h a j absent
        ∙ sym (untold (with_low h d) a j (sym (object_stays h.feed d j (λ e. away (is ∙ ap Low (sym e)))) ∙ absent))
        ∙ ap (λ (x : Key). get (wanted_by_agent (with_low h d) a) x) (sym is)

    by_object : (from to : ℕ) (o : Option LowValue) → k ≡ Low (key.Acl from to) → object h.feed (key.Acl from to) ≡ o → Stays h d a k
    by_object from to None is e = no_object (key.Acl from to) is e
    by_object from to (Some v) is e = held_list from to v is e

    by_key : (j : Key) → k ≡ j → Stays h d a k
    by_key (Low (key.Acl from to)) is = by_object from to (object h.feed (key.Acl from to)) is refl
    by_key (Low (key.Attach label)) is = no_list (λ from to e. cc)
    by_key (Low (key.Instance n)) is = no_list (λ from to e. cc)
    by_key (Low (key.ChainUse n)) is = no_list (λ from to e. cc)
    by_key (Vpn v) is = no_list (λ from to e. cc)
    by_key (Row i q) is = no_list (λ from to e. cc)
    by_key (Publish i q) is = no_list (λ from to e. cc)
    by_key (Subscribe i) is = no_list (λ from to e. cc)

-- tables stay where an object changes that is no instance and no use
pub attachment : (h : Holdings) (d : Delta LowKey LowValue) (a : Told) (k : Key) → ((n : ℕ) → key_of d ≢ key.Instance n) → ((n : ℕ) → key_of d ≢ key.ChainUse n) → k ≢ Low (key_of d)
    → (port_here a.address (object h.feed (key_of d)) ≢ port_here a.address (put_by d) → IsListOfPort h.feed a.address (object h.feed (key_of d)) k → ⊥)
    → (port_here a.address (object h.feed (key_of d)) ≢ port_here a.address (put_by d) → IsListOfPort h.feed a.address (put_by d) k → ⊥)
    → get (wanted_by_agent h a) k ≡ get (wanted_by_agent (with_low h d) a) k
attachment h d a k instances uses = any_object h d a k (λ i q _ _. ap (λ t. get t q) (tables_stay h d instances uses i))

-- what is not attached here is no port here
no_port : (address : Addr) (o : Option LowValue) → is_here address o ≡ false → port_here address o ≡ None
no_port address None e = refl
no_port address (Some (low.AttachPort port instance host node)) e = ap (λ b. cond b (Some instance) None) e
no_port address (Some (low.AttachCircuit circuit service node)) e = refl
no_port address (Some (low.Acl subnets rules)) e = refl
no_port address (Some (low.Instance imports)) e = refl
no_port address (Some (low.ChainUse left right left_subnets right_subnets hops)) e = refl

pub object_elsewhere : (h : Holdings) (d : Delta LowKey LowValue) (a : Told) (k : Key) → ((n : ℕ) → key_of d ≢ key.Instance n) → ((n : ℕ) → key_of d ≢ key.ChainUse n)
    → is_here a.address (object h.feed (key_of d)) ≡ false → is_here a.address (put_by d) ≡ false → k ≢ Low (key_of d)
    → get (wanted_by_agent h a) k ≡ get (wanted_by_agent (with_low h d) a) k
object_elsewhere h d a k instances uses before after away =
    attachment h d a k instances uses away (λ _ l. none_some l.network (sym (no_port a.address (object h.feed (key_of d)) before) ∙ l.port_is)) (λ _ l. none_some l.network (sym (no_port a.address (put_by d) after) ∙ l.port_is))
