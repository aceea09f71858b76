-- What agents are to be told, as a peer or an agent tells something.
use Rattle.std.specs.Prelude.{◌≡◌, ◌≢◌, ℕ, zero, suc, List, [], ◌∷◌, ◌++◌, Bool, true, false, not, cond, map, is_some, ◌==◌, nat_lt}
use Rattle.std.specs.declared.option.Option.{Option}
use Rattle.std.specs.declared.option.Option.TheVariants.{Some, None}
use Rattle.std.specs.Option.{option_map}
use Rattle.std.specs.List.{cons_option, filter, flat_map}
use Rattle.std.specs.FinMap.{entries, find, from_entries, get, get-entries, get-from_entries}
use Rattle.std.proofs.Common.{refl, sym, ◌∙◌, ap, subst, arith}
use Rattle.std.proofs.lemmas.Bool.{eqb-true}
use Rattle.std.proofs.lemmas.Bool.Decides.{nat_tests}
use Rattle.ov_types.specs.Prefix.{Block}
use Rattle.ov_types.specs.declared.keys.UpKey.{UpKey}
use Rattle.ov_types.specs.declared.keys.UpKey.TheVariants as Up
use Rattle.ov_types.specs.declared.numbers.InstanceId.{InstanceId}
use Rattle.ov_types.specs.declared.numbers.Label.{Label as LabelNo}
use Rattle.ov_types.specs.declared.objects.LowKey.{LowKey}
use Rattle.ov_types.specs.declared.objects.LowValue.{LowValue}
use Rattle.ov_types.specs.declared.prefix.Addr.{Addr}
use Rattle.ov_types.specs.declared.vpn.VpnKey.{VpnKey}
use Rattle.ov_types.specs.declared.vpn.VpnRoute.{VpnRoute}
use Rattle.ov_sync.specs.declared.Delta.{Delta}
use Rattle.ov_sync.specs.declared.Delta.TheVariants.{Put, Drop}
use Rattle.ov_sync.specs.Embed.{moved_delta}
use Rattle.ov_sync.specs.Keyed.{changed, key_of}
use Rattle.ov_sync.proofs.KeyedLaws.{changed_apart}
use Rattle.node_model.specs.Keys.{Key, Publish, Row, Subscribe, key_cmp, of_up}
use Rattle.node_model.specs.Values.{Label, Value}
use Rattle.node_model.specs.Maps.{Map}
use Rattle.node_model.specs.Paths.{Holdings, Path, Told}
use Rattle.node_model.specs.Reaching.{AreShort}
use Rattle.node_model.specs.Tables.{table}
use Rattle.node_model.specs.Wants.{rows_of, slice, slice_entry, subscribed, subscriptions, wanted_by_agent}
use Rattle.node_model.proofs.Members.{none_some}
use Rattle.node_model.proofs.Orders.{key_exact, key_total}
use Rattle.node_model.proofs.Wanted.{subscription_from}
use Rattle.vpn_holdings.specs.Changes.{at_session, with_publication, with_route}
use Rattle.vpn_holdings.specs.Listing.{told_in}
use Rattle.vpn_tables.proofs.Filtering.{found_after, found_in_each}
use Rattle.vpn_tables.proofs.OneKey.{Off, changed_but, changed_none}
use Rattle.vpn_tables.proofs.TouchedByChanges.{subscription_rows}
use Rattle.vpn_tables.proofs.Wanted.{row_elsewhere, row_found, rows_at_key, rows_of_one, told_hop}
use Rattle.vpn_tables.specs.Here.{IsRowOf, wanted_on}
use Rattle.vpn_tables.proofs.Kept.{found_both}

-- ---- rows
pub rows_change : (h g : Holdings) (a b : Told) → g.feed ≡ h.feed → b.address ≡ a.address → subscriptions b.map ≡ subscriptions a.map → (k : Key)
    → ((i : InstanceId) (q : Block) → k ≡ Row i q → is_some (get a.map (Subscribe i)) ≡ true → get (table h i) q ≡ get (table g i) q) → get (wanted_by_agent h a) k ≡ get (wanted_by_agent g b) k
rows_change h g a b feed address subs k same =
    let objects = map slice_entry (slice h.feed a.address) in
    get-from_entries key_total (objects ++ flat_map (rows_of h) (subscriptions a.map)) k
    ∙ found_after key_cmp k objects (flat_map (rows_of h) (subscriptions a.map)) (flat_map (rows_of g) (subscriptions a.map))
    (found_in_each key_cmp k (rows_of h) (rows_of g) (subscriptions a.map) (λ j n. rows_of_one h g k j (λ q is. same j q is (subscription_from a.map j n))))
    ∙ sym (get-from_entries key_total (objects ++ flat_map (rows_of g) (subscriptions a.map)) k)
    ∙ (λ i. get (wanted_from (slice (sym feed i) (sym address i)) (sym subs i)) k)
  where
    wanted_from : List (LowKey × LowValue) → List InstanceId → Map
    wanted_from s is = from_entries (map slice_entry s ++ flat_map (rows_of g) is)

-- ---- agents that tell something
module _ (f : Map → Map) where
  pub same_address : (ts : List Told) (session agent : ℕ) → (told_in (at_session f ts session) agent).address ≡ (told_in ts agent).address
  same_address [] session agent = refl
  same_address (a ∷ ts) session agent =
      elim (nat_lt a.session session) as (λ b. (told_in (cond b (a ∷ at_session f ts session) (cond (a.session == session) (record a { map = f a.map } ∷ ts) (a ∷ ts))) agent).address ≡ (told_in (a ∷ ts) agent).address) [
        | true ↦ elim (a.session == agent) as (λ c. (cond c a (told_in (at_session f ts session) agent)).address ≡ (cond c a (told_in ts agent)).address) [
          | true ↦ refl
          | false ↦ same_address ts session agent
        ]
        | false ↦ elim (a.session == session) as (λ b. (told_in (cond b (record a { map = f a.map } ∷ ts) (a ∷ ts)) agent).address ≡ (told_in (a ∷ ts) agent).address) [
          | true ↦ elim (a.session == agent) as (λ c. (cond c (record a { map = f a.map }) (told_in ts agent)).address ≡ (cond c a (told_in ts agent)).address) [ true ↦ refl | false ↦ refl ]
          | false ↦ refl
        ]
      ]

  -- what the change of an agent's map leaves stays as it is of every agent
  pub same_of : {X : Type 0} (g : Map → X) → ((m : Map) → g (f m) ≡ g m) → (ts : List Told) (session agent : ℕ)
      → g (told_in (at_session f ts session) agent).map ≡ g (told_in ts agent).map
  same_of g keeps [] session agent = refl
  same_of g keeps (a ∷ ts) session agent =
      elim (nat_lt a.session session) as (λ b. g (told_in (cond b (a ∷ at_session f ts session) (cond (a.session == session) (record a { map = f a.map } ∷ ts) (a ∷ ts))) agent).map ≡ g (told_in (a ∷ ts) agent).map) [
        | true ↦ elim (a.session == agent) as (λ c. g (cond c a (told_in (at_session f ts session) agent)).map ≡ g (cond c a (told_in ts agent)).map) [
          | true ↦ refl
          | false ↦ same_of g keeps ts session agent
        ]
        | false ↦ elim (a.session == session) as (λ b. g (told_in (cond b (record a { map = f a.map } ∷ ts) (a ∷ ts)) agent).map ≡ g (told_in (a ∷ ts) agent).map) [
          | true ↦ elim (a.session == agent) as (λ c. g (cond c (record a { map = f a.map }) (told_in ts agent)).map ≡ g (cond c a (told_in ts agent)).map) [ true ↦ keeps a.map | false ↦ refl ]
          | false ↦ refl
        ]
      ]

  -- another agent's session is as it was
  pub same_elsewhere : (ts : List Told) (session agent : ℕ) → agent ≢ session → told_in (at_session f ts session) agent ≡ told_in ts agent
  same_elsewhere [] session agent away = refl
  same_elsewhere (a ∷ ts) session agent away =
      elim (nat_lt a.session session) as (λ b. told_in (cond b (a ∷ at_session f ts session) (cond (a.session == session) (record a { map = f a.map } ∷ ts) (a ∷ ts))) agent ≡ told_in (a ∷ ts) agent) [
        | true ↦ ap (λ (t : Told). cond (a.session == agent) a t) (same_elsewhere ts session agent away)
        | false ↦ elim (a.session == session) as (λ b. (a.session == session) ≡ b → told_in (cond b (record a { map = f a.map } ∷ ts) (a ∷ ts)) agent ≡ told_in (a ∷ ts) agent) [
          | true ↦ λ here. ap (λ c. cond c (record a { map = f a.map }) (told_in ts agent)) (unlike here) ∙ ap (λ c. cond c a (told_in ts agent)) (sym (unlike here))
          | false ↦ λ _. refl
        ] refl
      ]
    where
      unlike : (a.session == session) ≡ true → (a.session == agent) ≡ false
      unlike here = grind (arith, nat_tests)

key_moved : (d : Delta UpKey LabelNo) → key_of (moved_delta of_up Label d) ≡ of_up (key_of d)
key_moved (Put k v) = refl
key_moved (Drop k) = refl

subscriptions_stay : (m : Map) (d : Delta UpKey LabelNo) (j : InstanceId) (prefix : Block) → key_of d ≡ Up.Publish j prefix → subscriptions (changed m (moved_delta of_up Label d)) ≡ subscriptions m
subscriptions_stay m d j prefix is =
    sym (changed_none (λ e. subscribed e.0) m (moved_delta of_up Label d) (λ w. ap subscribed (key_moved d ∙ ap of_up is)))

-- what an agent publishes leaves which instances each agent subscribed
pub publication_subscribes : (h : Holdings) (session : ℕ) (d : Delta UpKey LabelNo) (j : InstanceId) (prefix : Block) → key_of d ≡ Up.Publish j prefix → (agent : ℕ) (i : InstanceId)
    → is_some (get (told_in (with_publication h session d).agents agent).map (Subscribe i)) ≡ is_some (get (told_in h.agents agent).map (Subscribe i))
publication_subscribes h session d j prefix is agent i =
    same_of (λ m. changed m (moved_delta of_up Label d)) (λ m. is_some (get m (Subscribe i)))
    (λ m. ap is_some (changed_apart key_total key_exact m (moved_delta of_up Label d) (Subscribe i) (λ e. apart i j prefix (e ∙ key_moved d ∙ ap of_up is))))
    h.agents session agent
  where
    apart : (i j : InstanceId) (p : Block) → Subscribe i ≡ Publish j p → ⊥
    apart i j p e = cc

pub publication_rows : (h : Holdings) (session : ℕ) (d : Delta UpKey LabelNo) (j : InstanceId) (prefix : Block) → key_of d ≡ Up.Publish j prefix → (agent : ℕ) (k : Key)
    → ((i : InstanceId) (q : Block) → k ≡ Row i q → is_some (get (told_in h.agents agent).map (Subscribe i)) ≡ true → get (table h i) q ≡ get (table (with_publication h session d) i) q)
    → get (wanted_on h agent) k ≡ get (wanted_on (with_publication h session d) agent) k
publication_rows h session d j prefix is agent k same =
    let f = λ (m : Map). changed m (moved_delta of_up Label d) in
    rows_change h (with_publication h session d) (told_in h.agents agent) (told_in (with_publication h session d).agents agent) refl
    (same_address f h.agents session agent) (same_of f subscriptions (λ m. subscriptions_stay m d j prefix is) h.agents session agent) k same

pub with_route_agents : (h : Holdings) (session : ℕ) (d : Delta VpnKey VpnRoute) → (with_route h session d).agents ≡ h.agents
with_route_agents h zero d = refl
with_route_agents h (suc n) d = refl

with_route_feed : (h : Holdings) (session : ℕ) (d : Delta VpnKey VpnRoute) → (with_route h session d).feed ≡ h.feed
with_route_feed h zero d = refl
with_route_feed h (suc n) d = refl

pub route_address : (h : Holdings) (session : ℕ) (d : Delta VpnKey VpnRoute) (agent : ℕ) → (told_in (with_route h session d).agents agent).address ≡ (told_in h.agents agent).address
route_address h session d agent = ap (λ ts. (told_in ts agent).address) (with_route_agents h session d)

pub route_rows : (h : Holdings) (session : ℕ) (d : Delta VpnKey VpnRoute) (agent : ℕ) (k : Key)
    → ((i : InstanceId) (q : Block) → k ≡ Row i q → is_some (get (told_in h.agents agent).map (Subscribe i)) ≡ true → get (table h i) q ≡ get (table (with_route h session d) i) q)
    → get (wanted_on h agent) k ≡ get (wanted_on (with_route h session d) agent) k
route_rows h session d agent k same =
    rows_change h (with_route h session d) (told_in h.agents agent) (told_in (with_route h session d).agents agent) (with_route_feed h session d)
    (route_address h session d agent) (ap (λ ts. subscriptions (told_in ts agent).map) (with_route_agents h session d)) k same

pub subscription_elsewhere : (h : Holdings) (session : ℕ) (d : Delta UpKey LabelNo) (j : InstanceId) → AreShort h.feed → key_of d ≡ Up.Subscribe j → (agent : ℕ) → agent ≢ session → (k : Key)
    → get (wanted_on h agent) k ≡ get (wanted_on (with_publication h session d) agent) k
subscription_elsewhere h session d j short is agent away k =
    let told = same_elsewhere (λ m. changed m (moved_delta of_up Label d)) h.agents session agent away in
    rows_change h (with_publication h session d) (told_in h.agents agent) (told_in (with_publication h session d).agents agent) refl
    (ap (λ (t : Told). t.address) told) (ap (λ (t : Told). subscriptions t.map) told) k (λ i q _ _. subscription_rows h session d j short is i q)

pub publication_address : (h : Holdings) (session : ℕ) (d : Delta UpKey LabelNo) (agent : ℕ) → (told_in (with_publication h session d).agents agent).address ≡ (told_in h.agents agent).address
publication_address h session d agent = same_address (λ m. changed m (moved_delta of_up Label d)) h.agents session agent

-- ---- a subscription
-- all instances but one
abbrev but : InstanceId → InstanceId → Bool
but j i = not (i.0 == j.0)

but_itself : (j : InstanceId) → but j j ≡ false
but_itself j = ap not (same j.0)
  where
    same : (n : ℕ) → (n == n) ≡ true
    same n = grind arith

is_it : (j i : InstanceId) → but j i ≡ false → i ≡ j
is_it j i e = λ k. record { 0 = eqb-true i.0 j.0 (negated (i.0 == j.0) e) k }
  where
    negated : (b : Bool) → not b ≡ false → b ≡ true
    negated true e = refl
    negated false e = absurd (cc)

abbrev subscribed_but : InstanceId → Map → List InstanceId
subscribed_but j m = filter (but j) (subscriptions m)

others_stay : (m : Map) (d : Delta UpKey LabelNo) (j : InstanceId) → key_of d ≡ Up.Subscribe j → subscribed_but j (changed m (moved_delta of_up Label d)) ≡ subscribed_but j m
others_stay m d j is =
    sym (changed_but (λ e. subscribed e.0) (but j) m (moved_delta of_up Label d) (λ w.
    subst (λ (o : Option InstanceId). Off (but j) (cons_option o [])) (sym (ap subscribed (key_moved d ∙ ap of_up is))) (but_itself j, tt)))

-- where an instance has no row of a key, it counts for nothing there
found_but : (h : Holdings) (j : InstanceId) (k : Key) → find key_cmp k (rows_of h j) ≡ None → (is : List InstanceId)
    → find key_cmp k (flat_map (rows_of h) is) ≡ find key_cmp k (flat_map (rows_of h) (filter (but j) is))
found_but h j k none [] = refl
found_but h j k none (i ∷ is) =
    let rest = filter (but j) is in
    elim (but j i) as (λ b. but j i ≡ b → find key_cmp k (rows_of h i ++ flat_map (rows_of h) is) ≡ find key_cmp k (flat_map (rows_of h) (cond b (i ∷ rest) rest))) [
      | true ↦ λ _. found_after key_cmp k (rows_of h i) (flat_map (rows_of h) is) (flat_map (rows_of h) rest) (found_but h j k none is)
      | false ↦ λ e.
          found_both key_cmp k (rows_of h i) (flat_map (rows_of h) is) [] (flat_map (rows_of h) rest)
          (ap (λ x. find key_cmp k (rows_of h x)) (is_it j i e) ∙ none) (found_but h j k none is)
    ] refl

no_row_of : (h : Holdings) (j : InstanceId) (k : Key) → (IsRowOf h j k → ⊥) → find key_cmp k (rows_of h j) ≡ None
no_row_of h j k clean =
    elim (find key_cmp k (rows_of h j)) as (λ o. find key_cmp k (rows_of h j) ≡ o → o ≡ None) [
      | None ↦ λ _. refl
      | Some v ↦ λ e. absurd (found v e)
    ] refl
  where
    at : (q : Block) → k ≡ Row j q → (o : Option Path) → get (table h j) q ≡ o → find key_cmp k (rows_of h j) ≡ None
    at q is (Some p) e = absurd (clean (record { prefix = q; path = p; has = e; key_is = is }))
    at q is None e =
        ap (λ x. find key_cmp x (rows_of h j)) is ∙ row_found j q (entries (table h j))
        ∙ ap (option_map told_hop) (sym (get-entries (table h j) q) ∙ e)

    found : (v : Value) → find key_cmp k (rows_of h j) ≡ Some v → ⊥
    found v e =
        none_some v (sym (row_elsewhere k j (entries (table h j)) (λ q is. none_some v (sym (at q is (get (table h j) q) refl) ∙ e))) ∙ e)

pub subscription_rows_alone : (h : Holdings) (session : ℕ) (d : Delta UpKey LabelNo) (j : InstanceId) → AreShort h.feed → key_of d ≡ Up.Subscribe j → (agent : ℕ) (k : Key) → (IsRowOf h j k → ⊥)
    → get (wanted_on h agent) k ≡ get (wanted_on (with_publication h session d) agent) k
subscription_rows_alone h session d j short is agent k clean =
    let g = with_publication h session d in
    let f = λ (m : Map). changed m (moved_delta of_up Label d) in
    let a = told_in h.agents agent in
    let b = told_in g.agents agent in
    let objects = map slice_entry (slice h.feed a.address) in
    let none = no_row_of h j k clean in
    let same = rows_at_key h g k (λ i q _. subscription_rows h session d j short is i q) in
    get-from_entries key_total (objects ++ flat_map (rows_of h) (subscriptions a.map)) k
    ∙ found_after key_cmp k objects (flat_map (rows_of h) (subscriptions a.map)) (flat_map (rows_of g) (subscriptions b.map))
    (found_but h j k none (subscriptions a.map)
    ∙ ap (λ is. find key_cmp k (flat_map (rows_of h) is)) (sym (same_of f (subscribed_but j) (λ m. others_stay m d j is) h.agents session agent))
    ∙ found_in_each key_cmp k (rows_of h) (rows_of g) (subscribed_but j b.map) (λ i _. same i)
    ∙ sym (found_but g j k (sym (same j) ∙ none) (subscriptions b.map)))
    ∙ ap (λ (x : Addr). find key_cmp k (map slice_entry (slice h.feed x) ++ flat_map (rows_of g) (subscriptions b.map))) (sym (publication_address h session d agent))
    ∙ sym (get-from_entries key_total (map slice_entry (slice g.feed b.address) ++ flat_map (rows_of g) (subscriptions b.map)) k)
