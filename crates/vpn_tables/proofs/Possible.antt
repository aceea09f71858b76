-- Where something follows of an instance, something was told with the prefix, or it is a subnet of the instance's use.
use Rattle.std.specs.Prelude.{◌≡◌, ℕ, suc, ◌<◌, ◌≤◌, ◌+◌, ◌-◌, ◌%◌, List, [], ◌∷◌, ◌++◌, map, Bool, true, false, cond, ◌==◌, is_some, nat_le}
use Rattle.std.specs.declared.option.Option.{Option}
use Rattle.std.specs.declared.option.Option.TheVariants.{Some, None}
use Rattle.std.specs.List.{enumerate_from, filter, filter_map, flat_map, list_any}
use Rattle.std.specs.FinMap.{entries, get, get-insert}
use Rattle.std.specs.Option.{option_map}
use Rattle.std.specs.Ordering.{is_eq}
use Rattle.std.specs.Cmp.{tied_itself}
use Rattle.std.proofs.lemmas.Bool.{true≢false, eqb-true, le-leb}
use Rattle.std.proofs.Common.{refl, sym, ◌∙◌, ap, subst, inl, inr, arith}
use Rattle.ov_sync.specs.declared.Delta.TheVariants.{Put}
use Rattle.ov_types.specs.Prefix.{Block}
use Rattle.ov_types.specs.declared.numbers.InstanceId.{InstanceId}
use Rattle.ov_types.specs.declared.objects.LowKey.{LowKey}
use Rattle.ov_types.specs.declared.objects.LowKey.TheVariants as key
use Rattle.ov_types.specs.declared.objects.LowValue.{LowValue}
use Rattle.route_targets.specs.Numbers.{hop_instance_of, target_of}
use Rattle.node_model.specs.Keys.{Key, Low, Publish, Row, Subscribe, Vpn}
use Rattle.node_model.specs.Values.{Entry as EntryValue, Label, Object, Route, Value}
use Rattle.node_model.specs.Maps.{Map, as_object, object}
use Rattle.node_model.specs.Members.{Member}
use Rattle.node_model.specs.Uses.{Use, held_use, is_hop, is_known, is_place, place_of, use_from, use_of, uses}
use Rattle.node_model.specs.Paths.{Holdings, Path, has_target, own_paths, peer_path, peer_paths, received}
use Rattle.node_model.specs.Reaching.{AreShort, Side, below, hop_at, is_up, reoriginated_paths, subnets}
use Rattle.node_model.specs.Tables.{paths_of, same_prefix, table}
use Rattle.node_model.proofs.Members.{from_any, from_filter, from_filter_map, from_flat_map, in_either, in_filter_map, in_flat_map, in_left, in_map, in_right, member_get, none_some}
use Rattle.node_model.proofs.Objects.{is_hop-hop, side_use, use_held, use_of-hop}
use Rattle.node_model.proofs.Orders.{key_exact, key_total, prefix_same}
use Rattle.node_model.proofs.Places.{use_found}
use Rattle.node_model.proofs.Routes.{in_below, own_route_from, reoriginated_from}
use Rattle.node_model.proofs.Selection.{selected_least}
use Rattle.node_model.proofs.Unknown.{le_trans, no_paths, place_at, place_at-within, target_from}
use Rattle.path_select.specs.Selection.{plain}
use Rattle.vpn_holdings.specs.Answers.{distance, is_up_at, is_up_on, seen_from, side_at}
use Rattle.vpn_holdings.specs.At.{selected_at}
use Rattle.vpn_holdings.specs.Changes.{with_low}
use Rattle.vpn_holdings.specs.Gathered.{UsesAreInRange, held_keys, prefix_in, prefixes_in, prefixes_told}
use Rattle.vpn_tables.proofs.Wanted.{at_row}
use Rattle.vpn_tables.specs.Changing.{instances_of, is_of, own_rows, rows_by_object, rows_published, stays_known, subnets_by, subnets_of}
use Rattle.vpn_tables.specs.Stored.{entry_of, nothing_stored}
use Rattle.vpn_tables.specs.declared.stored.RowKey.{RowKey}
use Rattle.vpn_tables.proofs.AgentMoved.{not_true}
use Rattle.vpn_tables.proofs.ObjectMoved.{known_entry, object_entry}
use Rattle.vpn_tables.proofs.UpStays.{hop_number, side_parts}

-- ---- what was told
enumerated : (x : ℕ × Map) (n : ℕ) (ms : List Map) → Member x (enumerate_from n ms) → Member x.1 ms
enumerated x n [] m = absurd m
enumerated x n (k ∷ ms) (inl e) = inl (ap (λ (y : ℕ × Map). y.1) e)
enumerated x n (k ∷ ms) (inr m) = inr (enumerated x (n + 1) ms m)

peer_prefix : (s : ℕ) (k : Key) (v : Value) (p : Path) → peer_path s k v ≡ Some p → prefix_in k ≡ Some p.prefix
peer_prefix s (Vpn k) (Route r) p e = ap (option_map (λ (p : Path). p.prefix)) e
peer_prefix s (Vpn k) (Object o) p e = absurd (none_some p e)
peer_prefix s (Vpn k) (EntryValue o) p e = absurd (none_some p e)
peer_prefix s (Vpn k) (Label l) p e = absurd (none_some p e)
peer_prefix s (Publish i q) v p e = absurd (none_some p e)
peer_prefix s (Low k) v p e = absurd (none_some p e)
peer_prefix s (Row i q) v p e = absurd (none_some p e)
peer_prefix s (Subscribe i) v p e = absurd (none_some p e)

told_prefix : (h : Holdings) (p : Path) → Member p (own_paths h ++ peer_paths h) → Member p.prefix (prefixes_told h)
told_prefix h p m =
    elim (in_either p (own_paths h) (peer_paths h) m) as (λ _. Member p.prefix (prefixes_told h)) [
      | inl o ↦
          let r = own_route_from h p o in
          in_left p.prefix (flat_map (λ a. prefixes_in a.map) h.agents) (flat_map prefixes_in h.peers)
          (in_flat_map (λ a. prefixes_in a.map) r.agent p.prefix h.agents r.told
          (in_filter_map (λ (e : Key × Value). prefix_in e.0) (Publish r.instance p.prefix, Label p.label) p.prefix (entries r.agent.map)
          (member_get key_total key_exact r.agent.map (Publish r.instance p.prefix) (Label p.label) r.publishes) refl))
      | inr o ↦
          let x = from_flat_map (λ (x : ℕ × Map). filter_map (λ e. peer_path x.0 e.0 e.1) (entries x.1)) p (enumerate_from 1 h.peers) o in
          let e = from_filter_map (λ (e : Key × Value). peer_path x.0.0 e.0 e.1) p (entries x.0.1) x.2 in
          in_right p.prefix (flat_map (λ a. prefixes_in a.map) h.agents) (flat_map prefixes_in h.peers)
          (in_flat_map prefixes_in x.0.1 p.prefix h.peers (enumerated x.0 1 h.peers x.1)
          (in_filter_map (λ (e : Key × Value). prefix_in e.0) e.0 p.prefix (entries x.0.1) e.1 (peer_prefix x.0.0 e.0.0 e.0.1 p e.2)))
    ]

-- ---- the instances of an object
test_of : (b c : Bool) → cond b c false ≡ true → (b ≡ true) × (c ≡ true)
test_of true c e = (refl, e)
test_of false c e = absurd (true≢false (sym e))

test_not : (b c : Bool) → cond b false c ≡ true → (b ≡ false) × (c ≡ true)
test_not true c e = absurd (true≢false (sym e))
test_not false c e = (refl, e)

-- the number of a use is one of them
abbrev IsNumber : LowKey → Type 0
IsNumber (key.ChainUse u) = u ≤ 3071
IsNumber _ = Unit {0}

of_instances : (k : LowKey) (i : InstanceId) → IsNumber k → is_of k i ≡ true → Member i (instances_of k)
of_instances (key.Instance n) i b e = inl (λ x. record { 0 = sym (eqb-true i.0 n (test_not (is_hop i) (i.0 == n) e).1) x })
of_instances (key.ChainUse u) i b e =
    let t = test_of (is_hop i) (use_of i == u) e in
    let at : hop_instance_of u (place_of i) ≡ i = λ x. record { 0 = hop_number i.0 u t.0 (sym (eqb-true (use_of i) u t.1)) x } in
    subst (λ c. Member i (cond c (map (hop_instance_of u) (below 16)) [])) (sym (le-leb u 3071 b))
    (subst (λ (j : InstanceId). Member j (map (hop_instance_of u) (below 16))) at (in_map (hop_instance_of u) (place_of i) (below 16) (in_below 16 (place_of i) (small (i.0 - 16384)))))
  where
    small : (n : ℕ) → n % 16 < 16
    small n = omega arith
of_instances (key.Attach n) i b e = absurd (true≢false (sym e))
of_instances (key.Acl m n) i b e = absurd (true≢false (sym e))

subnets_held : (u : ℕ) (o : Option LowValue) → subnets_of (key.ChainUse u) o ≡ subnets_by (use_from u o)
subnets_held u None = refl
subnets_held u (Some v) = refl

module _ (h : Holdings) (short : AreShort h.feed) (k : LowKey) (i : InstanceId) (q : Block) (own : is_of k i ≡ true) where
  abbrev Here : Type 0
  Here = Member q (prefixes_told h ++ subnets_of k (object h.feed k))

  -- a subnet of a side of its use
  of_side : (s : Side) → Member s.chain (uses h.feed) → is_hop i ≡ true → s.chain.number ≡ use_of i → Member q (subnets s) → Here
  of_side s held is number m = by_key k own
    where
      in_both : (b : Bool) → Member q (cond b s.chain.right_subnets s.chain.left_subnets) → Member q (s.chain.left_subnets ++ s.chain.right_subnets)
      in_both true m = in_right q s.chain.left_subnets s.chain.right_subnets m
      in_both false m = in_left q s.chain.left_subnets s.chain.right_subnets m

      by_key : (j : LowKey) → is_of j i ≡ true → Member q (prefixes_told h ++ subnets_of j (object h.feed j))
      by_key (key.ChainUse u) e =
          let same : s.chain.number ≡ u = number ∙ eqb-true (use_of i) u (test_of (is_hop i) (use_of i == u) e).1 in
          let held_is : use_from u (object h.feed (key.ChainUse u)) ≡ Some s.chain = subst (λ (n : ℕ). use_from n (object h.feed (key.ChainUse n)) ≡ Some s.chain) same (use_held h.feed s.chain held) in
          in_right q (prefixes_told h) (subnets_of (key.ChainUse u) (object h.feed (key.ChainUse u)))
          (subst (Member q) (sym (subnets_held u (object h.feed (key.ChainUse u)) ∙ ap subnets_by held_is)) (in_both s.is_right m))
      by_key (key.Instance n) e = absurd (true≢false (sym is ∙ (test_not (is_hop i) (i.0 == n) e).0))
      by_key (key.Attach n) e = absurd (true≢false (sym e))
      by_key (key.Acl m n) e = absurd (true≢false (sym e))

  path_here : (p : Path) → Member p (paths_of h i) → p.prefix ≡ q → Here
  path_here p m e =
      elim (in_either p (received h i) (filter (has_target (target_of h.asn i ∷ [])) (reoriginated_paths h)) m) as (λ _. Here) [
        | inl r ↦ in_left q (prefixes_told h) (subnets_of k (object h.feed k)) (subst (λ (x : Block). Member x (prefixes_told h)) e
            (told_prefix h p (from_filter _ p (own_paths h ++ peer_paths h) r).0))
        | inr r ↦
            let f = from_filter (has_target (target_of h.asn i ∷ [])) p (reoriginated_paths h) r in
            let l = reoriginated_from h p f.0 in
            let s = l.side in
            let d = suc l.depth in
            let u = side_use h.feed s l.held in
            let w : d ≤ s.chain.services = next l.depth s.chain.services l.within in
            let at : hop_at s d ≡ i = only (hop_at s d) (target_from h.asn (hop_at s d) (i ∷ []) p l.targets f.1) in
            let number : s.chain.number ≡ use_of i = sym (use_of-hop s.chain.number (place_at s d) (le_trans (place_at s d) s.chain.services 15 (place_at-within s d w) (short s.chain u))) ∙ ap use_of at in
            of_side s u (sym (ap is_hop at) ∙ is_hop-hop s.chain.number (place_at s d)) number (subst (λ (x : Block). Member x (subnets s)) e l.subnet)
      ]
    where
      next : (d k : ℕ) → d < k → suc d ≤ k
      next d k h = omega arith

      only : (j : InstanceId) → Member j (i ∷ []) → j ≡ i
      only j (inl e) = sym e
      only j (inr e) = absurd e

  up_here : (b : Bool) → is_up_at h i q b ≡ true → Here
  up_here b e = at_hop (is_hop i) refl e
    where
      at_side : is_hop i ≡ true → (o : Option Side) → side_at h.feed (use_of i) b ≡ o → is_up_on h (place_of i) q o ≡ true → Here
      at_side is None at e = absurd (true≢false (sym e))
      at_side is (Some s) at e = at_place (nat_le (place_of i) s.chain.services) e
        where
          at_subnet : (t : Bool) (c : Bool) → list_any (same_prefix q) (subnets s) ≡ t → cond t c false ≡ true → Here
          at_subnet true c listed e =
              let parts = side_parts h.feed (use_of i) b s at in
              let f = from_any (same_prefix q) (subnets s) listed in
              of_side s parts.0 is parts.1.0 (subst (λ (x : Block). Member x (subnets s)) (sym (prefix_same q f.0 f.2)) f.1)
          at_subnet false c listed e = absurd (true≢false (sym e))

          at_place : (t : Bool) → cond t (cond (list_any (same_prefix q) (subnets s)) (is_up h s q (distance s (place_of i))) false) false ≡ true → Here
          at_place true e = at_subnet (list_any (same_prefix q) (subnets s)) (is_up h s q (distance s (place_of i))) refl e
          at_place false e = absurd (true≢false (sym e))

      at_hop : (t : Bool) → is_hop i ≡ t → cond t (is_up_on h (place_of i) q (side_at h.feed (use_of i) b)) false ≡ true → Here
      at_hop true is e = at_side is (side_at h.feed (use_of i) b) refl e
      at_hop false is e = absurd (true≢false (sym e))

  -- nothing follows elsewhere
  nothing_elsewhere : (Here → ⊥) → nothing_stored ≡ entry_of h (record { instance = i; prefix = q })
  nothing_elsewhere none = λ n. record {
    path = sym (no_path (get (table h i) q) refl) n;
    is_up_right = sym (not_true (is_up_at h i q true) (λ e. none (up_here true e))) n;
    is_up_left = sym (not_true (is_up_at h i q false) (λ e. none (up_here false e))) n;
  }
    where
      no_path : (o : Option Path) → get (table h i) q ≡ o → selected_at h i q ≡ None
      no_path None e = ap (option_map plain) e
      no_path (Some p) e = let l = selected_least (paths_of h i) q p e in absurd (none (path_here p l.member l.prefix_is))

-- ---- an object that is put
own_listed : (h : Holdings) (k : LowKey) (i : InstanceId) (q : Block) (subnets : List Block) → IsNumber k → is_of k i ≡ true → Member q (prefixes_told h ++ subnets) → Member (at_row i q) (own_rows h k subnets)
own_listed h k i q subnets b own m =
    in_flat_map (λ (i : InstanceId). map (λ (p : Block). (i, p)) (prefixes_told h ++ subnets)) i (at_row i q) (instances_of k) (of_instances k i b own)
    (in_map (λ (p : Block). (i, p)) q (prefixes_told h ++ subnets) m)

more : (q : Block) (xs ys zs : List Block) → (Member q ys → Member q zs) → Member q (xs ++ ys) → Member q (xs ++ zs)
more q xs ys zs f m = elim (in_either q xs ys m) as (λ _. Member q (xs ++ zs)) [ inl l ↦ in_left q xs zs l | inr r ↦ in_right q xs zs (f r) ]

put_is : (h : Holdings) (k : LowKey) (v : LowValue) → object (with_low h (Put k v)).feed k ≡ Some v
put_is h k v =
    ap as_object (get-insert key_total h.feed (Low k) (Object v) (Low k))
    ∙ ap (λ b. as_object (cond b (Some (Object v)) (get h.feed (Low k)))) (ap is_eq (tied_itself key_total (Low k)))

-- an instance that is held is known before and after
known_still : (h : Holdings) (k : LowKey) (v : LowValue) → stays_known h k ≡ true → (i : InstanceId) → is_of k i ≡ true → is_known h.feed i ≡ is_known (with_low h (Put k v)).feed i
known_still h (key.Instance n) v stays i own =
    let g = with_low h (Put (key.Instance n) v) in
    network h.feed stays ∙ sym (network g.feed (ap is_some (put_is h (key.Instance n) v)))
  where
    network : (feed : Map) → is_some (object feed (key.Instance n)) ≡ true → is_known feed i ≡ true
    network feed held =
        let t = test_not (is_hop i) (i.0 == n) own in
        ap (λ b. cond b (is_place (place_of i) (held_use feed i)) (is_some (object feed (key.Instance i.0)))) t.0
        ∙ ap (λ (m : ℕ). is_some (object feed (key.Instance m))) (eqb-true i.0 n t.1) ∙ held
known_still h (key.ChainUse n) v stays i own = absurd (true≢false (sym stays))
known_still h (key.Attach n) v stays i own = absurd (true≢false (sym stays))
known_still h (key.Acl m n) v stays i own = absurd (true≢false (sym stays))

-- nothing follows of an instance that is not known
nothing_unknown : (h : Holdings) (r : RowKey) → AreShort h.feed → is_known h.feed r.instance ≡ false → nothing_stored ≡ entry_of h r
nothing_unknown h r short unknown = λ n. record {
  path = sym (no_path (get (table h r.instance) r.prefix) refl) n;
  is_up_right = sym (no_up true) n;
  is_up_left = sym (no_up false) n;
}
  where
    no_path : (o : Option Path) → get (table h r.instance) r.prefix ≡ o → selected_at h r.instance r.prefix ≡ None
    no_path None e = ap (option_map plain) e
    no_path (Some p) e = absurd (subst (Member p) (no_paths h r.instance short unknown) (selected_least (paths_of h r.instance) r.prefix p e).member)

    at_use : (b : Bool) (o : Option Use) → is_place (place_of r.instance) o ≡ false → is_up_on h (place_of r.instance) r.prefix (option_map (seen_from b) o) ≡ false
    at_use b None e = refl
    at_use b (Some u) e = ap (λ c. cond c (cond (list_any (same_prefix r.prefix) (subnets (seen_from b u))) (is_up h (seen_from b u) r.prefix (distance (seen_from b u) (place_of r.instance))) false) false) e

    no_up : (b : Bool) → is_up_at h r.instance r.prefix b ≡ false
    no_up b =
        elim (is_hop r.instance) as (λ t. cond t (is_place (place_of r.instance) (held_use h.feed r.instance)) (is_some (object h.feed (key.Instance r.instance.0))) ≡ false
        → cond t (is_up_on h (place_of r.instance) r.prefix (side_at h.feed (use_of r.instance) b)) false ≡ false) [
          | true ↦ at_use b (held_use h.feed r.instance)
          | false ↦ λ _. refl
        ] unknown

-- a known instance's use has a number
known_number : (h : Holdings) (k : LowKey) (i : InstanceId) → UsesAreInRange h.feed → is_of k i ≡ true → is_known h.feed i ≡ true → IsNumber k
known_number h (key.ChainUse u) i range own known =
    let t = test_of (is_hop i) (use_of i == u) own in
    at_use t.0 (eqb-true (use_of i) u t.1) (held_use h.feed i) refl (sym (ap (λ c. cond c (is_place (place_of i) (held_use h.feed i)) (is_some (object h.feed (key.Instance i.0)))) t.0) ∙ known)
  where
    at_use : is_hop i ≡ true → use_of i ≡ u → (o : Option Use) → held_use h.feed i ≡ o → is_place (place_of i) o ≡ true → u ≤ 3071
    at_use is same None e f = absurd (true≢false (sym f))
    at_use is same (Some w) e f =
        let q = use_found h.feed (use_of i) w e in
        subst (λ (n : ℕ). n ≤ 3071) (q.1 ∙ same) (range w q.0).0
known_number h (key.Instance n) i range own known = tt
known_number h (key.Attach n) i range own known = tt
known_number h (key.Acl m n) i range own known = tt

pub put_entry : (h : Holdings) (k : LowKey) (v : LowValue) → AreShort h.feed → AreShort (with_low h (Put k v)).feed → UsesAreInRange h.feed → UsesAreInRange (with_low h (Put k v)).feed → (r : RowKey)
    → (Member (at_row r.instance r.prefix) (rows_by_object h k v) → ⊥) → entry_of h r ≡ entry_of (with_low h (Put k v)) r
put_entry h k v short_h short_g range_h range_g r none =
    let g = with_low h (Put k v) in
    let before = subnets_of k (object h.feed k) in
    let after = subnets_of k (Some v) in
    let row = at_row r.instance r.prefix in
    let published = flat_map (rows_published h k) (held_keys h) in
    let others = cond (stays_known h k) [] published in
    elim (is_of k r.instance) as (λ t. is_of k r.instance ≡ t → entry_of h r ≡ entry_of g r) [
      | true ↦ λ own.
          let elsewhere : IsNumber k → Member r.prefix (prefixes_told h ++ (before ++ after)) → ⊥ = λ b m. none (in_left row (own_rows h k (before ++ after)) others (own_listed h k r.instance r.prefix (before ++ after) b own m)) in
          sym (elim (is_known h.feed r.instance) as (λ t. is_known h.feed r.instance ≡ t → nothing_stored ≡ entry_of h r) [
            | true ↦ λ known. nothing_elsewhere h short_h k r.instance r.prefix own (λ m. elsewhere (known_number h k r.instance range_h own known) (more r.prefix (prefixes_told h) before (before ++ after) (in_left r.prefix before after) m))
            | false ↦ nothing_unknown h r short_h
          ] refl)
          ∙ elim (is_known g.feed r.instance) as (λ t. is_known g.feed r.instance ≡ t → nothing_stored ≡ entry_of g r) [
            | true ↦ λ known. nothing_elsewhere g short_g k r.instance r.prefix own (λ m. elsewhere (known_number g k r.instance range_g own known) (more r.prefix (prefixes_told h) (subnets_of k (object g.feed k)) (before ++ after)
                (λ m. in_right r.prefix before after (subst (λ (o : Option LowValue). Member r.prefix (subnets_of k o)) (put_is h k v) m)) m))
            | false ↦ nothing_unknown g r short_g
          ] refl
      | false ↦ λ other. elim (stays_known h k) as (λ t. stays_known h k ≡ t → (Member row (cond t [] published) → ⊥) → entry_of h r ≡ entry_of g r) [
        | true ↦ λ stays _. known_entry h (Put k v) short_h short_g (known_still h k v stays) r other
        | false ↦ λ _ away. object_entry h (Put k v) short_h short_g r other away
      ] refl (λ m. none (in_right row (own_rows h k (before ++ after)) others m))
    ] refl
