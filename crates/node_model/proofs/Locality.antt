-- What a control node wants towards its peers at a key of rank r + 1 depends only on what it holds at keys of rank up to r.
use Rattle.std.specs.Prelude.{◌≡◌, ℕ, zero, suc, ◌+◌, ◌<◌, ◌≤◌, List, [], ◌∷◌, ◌++◌, map, Bool, true, false, cond, ◌&&◌, ◌||◌, is_some}
use Rattle.std.specs.declared.option.Option.{Option}
use Rattle.std.specs.declared.option.Option.TheVariants.{Some, None}
use Rattle.std.specs.List.{AllZip, AllByRecursion, filter_map, flat_map, enumerate_from}
use Rattle.std.specs.Ordering.{eq_by_cmp}
use Rattle.std.specs.Cmp.{Equal-is}
use Rattle.std.specs.FinMap.{get, entries, find, get-from_entries}
use Rattle.std.proofs.lemmas.Option.{same_Some}
use Rattle.std.proofs.Common.{refl, sym, ◌∙◌, ap, subst, inl, inr, arith}
use Rattle.ov_types.specs.Prefix.{Block, is_inside}
use Rattle.ov_types.specs.declared.numbers.InstanceId.{InstanceId}
use Rattle.ov_types.specs.declared.numbers.Label.{Label as LabelNo}
use Rattle.ov_types.specs.declared.prefix.Addr.{Addr}
use Rattle.ov_types.specs.declared.vpn.VpnKey.{VpnKey}
use Rattle.ov_types.specs.declared.vpn.VpnRoute.{VpnRoute}
use Rattle.route_targets.specs.Numbers.{target_of, distinguisher_of}
use Rattle.node_model.specs.Members.{Member}
use Rattle.node_model.specs.Keys.{Key, Low, Vpn, Row, Publish, Subscribe, key_cmp}
use Rattle.node_model.specs.Values.{Value, Object, Route, Entry, Label}
use Rattle.node_model.specs.Maps.{Map}
use Rattle.node_model.specs.Uses.{imports}
use Rattle.node_model.specs.Paths.{Holdings, Told, Path, own_paths, peer_path, peer_paths, has_target, received}
use Rattle.node_model.specs.Reaching.{Side, sides, network, subnets, hop_at, circuit_at, below, publisher, has_path_within, towards, is_up, into, reoriginated_paths}
use Rattle.node_model.specs.Wants.{route_entry, wanted_by_peers}
use Rattle.node_model.specs.Ranks.{instance_in, depth, peer_rank, AreOrdered, IsTargeted}
use Rattle.node_model.proofs.Members.{none_some, iff_same, in_left, in_right, in_either, in_filter, from_filter, in_flat_map, from_flat_map, in_filter_map, from_filter_map, any_in, from_any, get_member, member_get}
use Rattle.node_model.proofs.Orders.{key_total, key_exact}
use Rattle.node_model.proofs.Unknown.{target_from}
use Rattle.node_model.proofs.Routes.{from_below}
use Rattle.node_model.proofs.Places.{instance_in-distinguisher, place_small, other_side, other_in, network_small, imported, within_depth, subnet_depth, depth-network}

-- ---- what two peers' maps have in common
zip_member : {X Y : Type 0} (R : X → Y → Type 0) (n : ℕ) (xs : List X) (ys : List Y) (x : ℕ × X) → AllZip R xs ys → Member x (enumerate_from n xs) → (y : Y) × Member (x.0, y) (enumerate_from n ys) × R x.1 y
zip_member R n [] ys x z m = absurd m
zip_member R n (a ∷ xs) [] x z m = absurd z
zip_member R n (a ∷ xs) (b ∷ ys) x z (inl e) = (b, inl (λ i. ((e i).0, b)), subst (λ (a : _). R a b) (ap (λ (x : ℕ × _). x.1) e) z.0)
zip_member R n (a ∷ xs) (b ∷ ys) x z (inr m) = let q = zip_member R (n + 1) xs ys x z.1 m in (q.0, inr q.1, q.2)

zip_turned : {X : Type 0} (R : X → X → Type 0) → ((x y : X) → R x y → R y x) → (xs ys : List X) → AllZip R xs ys → AllZip R ys xs
zip_turned R t [] [] z = z
zip_turned R t [] (y ∷ ys) z = absurd z
zip_turned R t (x ∷ xs) [] z = absurd z
zip_turned R t (x ∷ xs) (y ∷ ys) z = (t x y z.0, zip_turned R t xs ys z.1)

each_member : {X : Type 0} (P : X → Type 0) (n : ℕ) (xs : List X) (x : ℕ × X) → AllByRecursion P xs → Member x (enumerate_from n xs) → P x.1
each_member P n [] x a m = absurd m
each_member P n (y ∷ xs) x a (inl e) = subst P (ap (λ (x : ℕ × _). x.1) e) a.0
each_member P n (y ∷ xs) x a (inr m) = each_member P (n + 1) xs x a.1 m

-- the key of a path between control nodes
abbrev pub vpn_key : Path → VpnKey
vpn_key p = record { rd = p.rd; prefix = p.prefix }

abbrev pub vpn_route : Path → VpnRoute
vpn_route p = record { next_hop = p.next_hop; label = p.label; targets = p.targets }

peer_path_parts : (session : ℕ) (k : Key) (v : Value) (p : Path) → peer_path session k v ≡ Some p → (k ≡ Vpn (vpn_key p)) × (v ≡ Route (vpn_route p))
peer_path_parts session (Vpn k) (Route r) p e =
    let s : ◌≡◌ {A = Path} (record { prefix = k.prefix; rd = k.rd; next_hop = r.next_hop; label = r.label; targets = r.targets; session = session }) p = same_Some _ p e in
    ((λ i. Vpn (record { rd = (s i).rd; prefix = (s i).prefix })), (λ i. Route (record { next_hop = (s i).next_hop; label = (s i).label; targets = (s i).targets })))
peer_path_parts session (Vpn k) (Object o) p e = absurd (none_some p e)
peer_path_parts session (Vpn k) (Entry r) p e = absurd (none_some p e)
peer_path_parts session (Vpn k) (Label l) p e = absurd (none_some p e)
peer_path_parts session (Low k) v p e = absurd (none_some p e)
peer_path_parts session (Row i prefix) v p e = absurd (none_some p e)
peer_path_parts session (Publish i prefix) v p e = absurd (none_some p e)
peer_path_parts session (Subscribe i) v p e = absurd (none_some p e)

abbrev pub towards_of : ℕ → InstanceId → Block → Addr × LabelNo → Path
towards_of asn i subnet by = record { prefix = subnet; rd = distinguisher_of by.0 i; next_hop = by.0; label = by.1; targets = target_of asn i ∷ []; session = 65535 }

-- ---- one control node with two lists of peers' maps
-- at one key, after each rest
abbrev SameAt : Key → List Path → List Path → Type 0
SameAt k ps qs = (rest other : List (Key × Value)) → find key_cmp k rest ≡ find key_cmp k other → find key_cmp k (map route_entry ps ++ rest) ≡ find key_cmp k (map route_entry qs ++ other)

same_append : (k : Key) (ps qs ps' qs' : List Path) → SameAt k ps ps' → SameAt k qs qs' → SameAt k (ps ++ qs) (ps' ++ qs')
same_append k ps qs ps' qs' a b rest other e =
    ap (find key_cmp k) (split ps qs rest) ∙ a (map route_entry qs ++ rest) (map route_entry qs' ++ other) (b rest other e) ∙ ap (find key_cmp k) (sym (split ps' qs' other))
  where
    split : (ps qs : List Path) (rest : List (Key × Value)) → map route_entry (ps ++ qs) ++ rest ≡ map route_entry ps ++ (map route_entry qs ++ rest)
    split [] qs rest = refl
    split (p ∷ ps) qs rest = λ i. route_entry p ∷ split ps qs rest i

same_flat_map : {X : Type 0} (k : Key) (f g : X → List Path) (xs : List X) → ((x : X) → Member x xs → SameAt k (f x) (g x)) → SameAt k (flat_map f xs) (flat_map g xs)
same_flat_map k f g [] h = λ rest other e. e
same_flat_map k f g (x ∷ xs) h = same_append k (f x) (flat_map f xs) (g x) (flat_map g xs) (h x (inl refl)) (same_flat_map k f g xs (λ y m. h y (inr m)))

same_itself : (k : Key) (ps : List Path) → SameAt k ps ps
same_itself k [] rest other e = e
same_itself k (p ∷ ps) rest other e = ap (cond (eq_by_cmp key_cmp k (route_entry p).0) (Some (route_entry p).1)) (same_itself k ps rest other e)

same_tests : (k : Key) (b c : Bool) (ps : List Path) → b ≡ c → SameAt k (cond b ps []) (cond c ps [])
same_tests k b c ps e = subst (λ c. SameAt k (cond b ps []) (cond c ps [])) e (same_itself k (cond b ps []))

nothing_at : (k : Key) (b c : Bool) (p : Path) → eq_by_cmp key_cmp k (route_entry p).0 ≡ false → SameAt k (cond b (p ∷ []) []) (cond c (p ∷ []) [])
nothing_at k true true p n rest other e = ap (cond (eq_by_cmp key_cmp k (route_entry p).0) (Some (route_entry p).1)) e
nothing_at k true false p n rest other e = ap (λ b. cond b (Some (route_entry p).1) (find key_cmp k rest)) n ∙ e
nothing_at k false true p n rest other e = e ∙ sym (ap (λ b. cond b (Some (route_entry p).1) (find key_cmp k other)) n)
nothing_at k false false p n rest other e = e

module _ (asn : ℕ) (feed : Map) (agents : List Told) (ordered : AreOrdered feed) (r : ℕ) where
  abbrev with_peers : List Map → Holdings
  with_peers ps = record { asn = asn; feed = feed; peers = ps; agents = agents }

  abbrev pub AgreeAt : Map → Map → Type 0
  AgreeAt m n = (k : Key) → peer_rank feed k ≤ r → get m k ≡ get n k

  moved : (ps qs : List Map) (p : Path) → AllZip AgreeAt ps qs → peer_rank feed (Vpn (vpn_key p)) ≤ r → Member p (peer_paths (with_peers ps)) → Member p (peer_paths (with_peers qs))
  moved ps qs p z h m =
      let q = from_flat_map (λ (p : ℕ × Map). filter_map (λ e. peer_path p.0 e.0 e.1) (entries p.1)) p (enumerate_from 1 ps) m in
      let e = from_filter_map (λ (e : Key × Value). peer_path q.0.0 e.0 e.1) p (entries q.0.1) q.2 in
      let o = zip_member AgreeAt 1 ps qs q.0 z q.1 in
      let at : e.0.0 ≡ Vpn (vpn_key p) = (peer_path_parts q.0.0 e.0.0 e.0.1 p e.2).0 in
      let there : get o.0 e.0.0 ≡ Some e.0.1 = sym (o.2 e.0.0 (subst (λ k. peer_rank feed k ≤ r) (sym at) h)) ∙ get_member key_total q.0.1 e.0.0 e.0.1 e.1 in
      in_flat_map (λ (p : ℕ × Map). filter_map (λ e. peer_path p.0 e.0 e.1) (entries p.1)) (q.0.0, o.0) p (enumerate_from 1 qs) o.1
      (in_filter_map (λ (e : Key × Value). peer_path q.0.0 e.0 e.1) e.0 p (entries o.0) (member_get key_total key_exact o.0 e.0.0 e.0.1 there) e.2)

  fair_path : (ps : List Map) (p : Path) → AllByRecursion (IsTargeted asn) ps → Member p (peer_paths (with_peers ps)) → p.targets ≡ target_of asn (instance_in p.rd) ∷ []
  fair_path ps p f m =
      let q = from_flat_map (λ (p : ℕ × Map). filter_map (λ e. peer_path p.0 e.0 e.1) (entries p.1)) p (enumerate_from 1 ps) m in
      let e = from_filter_map (λ (e : Key × Value). peer_path q.0.0 e.0 e.1) p (entries q.0.1) q.2 in
      let parts = peer_path_parts q.0.0 e.0.0 e.0.1 p e.2 in
      each_member (IsTargeted asn) 1 ps q.0 f q.1 (vpn_key p) (vpn_route p) (ap (get q.0.1) (sym parts.0) ∙ get_member key_total q.0.1 e.0.0 e.0.1 e.1 ∙ ap Some parts.1)

  module _ (s : Side) (subnet : Block) (of_use : Member s (sides feed)) (of_side : Member subnet (subnets s)) where
    small_rank : (d : ℕ) (p : Path) → d ≤ s.chain.services → 4 + d ≤ r → Member (instance_in p.rd) (imports feed (hop_at s d)) → is_inside p.prefix subnet ≡ true → peer_rank feed (Vpn (vpn_key p)) ≤ r
    small_rank d p h rk im w =
        elim (imported feed s d (instance_in p.rd) ordered of_use h im) as (λ _. peer_rank feed (Vpn (vpn_key p)) ≤ r) [
          | inl e ↦ low (depth feed (instance_in p.rd) p.prefix) d r (subst (λ i. depth feed i p.prefix ≤ d) (sym e) (within_depth feed s d subnet p.prefix ordered of_use of_side h w)) rk
          | inr n ↦ elim n as (λ _. peer_rank feed (Vpn (vpn_key p)) ≤ r) [
            | inl e ↦ none (depth feed (instance_in p.rd) p.prefix) d r (ap (λ i. depth feed i p.prefix) e ∙ depth-network feed (network s) p.prefix (network_small feed s ordered of_use)) rk
            | inr e ↦ none (depth feed (instance_in p.rd) p.prefix) d r (ap (λ i. depth feed i p.prefix) e ∙ depth-network feed (network (other_side s)) p.prefix (network_small feed (other_side s) ordered (other_in feed s of_use))) rk
          ]
        ]
      where
        low : (x d r : ℕ) → x ≤ d → 4 + d ≤ r → 4 + x ≤ r
        low x d r a b = omega arith

        none : (x d r : ℕ) → x ≡ 0 → 4 + d ≤ r → 4 + x ≤ r
        none x d r a b = omega arith

    within_moved : (ps qs : List Map) (d : ℕ) → AllZip AgreeAt ps qs → AllByRecursion (IsTargeted asn) ps → d ≤ s.chain.services → 4 + d ≤ r → has_path_within (with_peers ps) (hop_at s d) subnet ≡ true → has_path_within (with_peers qs) (hop_at s d) subnet ≡ true
    within_moved ps qs d z f h rk e =
        let i = hop_at s d in
        let q = from_any (λ (p : Path). is_inside p.prefix subnet) (received (with_peers ps) i) e in
        let p = from_filter (has_target (map (target_of asn) (imports feed i))) q.0 (own_paths (with_peers ps) ++ peer_paths (with_peers ps)) q.1 in
        let there : Member q.0 (own_paths (with_peers qs) ++ peer_paths (with_peers qs)) =
        elim (in_either q.0 (own_paths (with_peers ps)) (peer_paths (with_peers ps)) p.0) as (λ _. Member q.0 (own_paths (with_peers qs) ++ peer_paths (with_peers qs))) [
          | inl m ↦ in_left q.0 (own_paths (with_peers qs)) (peer_paths (with_peers qs)) m
          | inr m ↦ in_right q.0 (own_paths (with_peers qs)) (peer_paths (with_peers qs)) (moved ps qs q.0 z (small_rank d q.0 h rk (target_from asn (instance_in q.0.rd) (imports feed i) q.0 (fair_path ps q.0 f m) p.1) q.2) m)
        ] in
        any_in (λ (p : Path). is_inside p.prefix subnet) q.0 (received (with_peers qs) i) (in_filter (has_target (map (target_of asn) (imports feed i))) q.0 (own_paths (with_peers qs) ++ peer_paths (with_peers qs)) there p.1) q.2

    module _ (ps qs : List Map) (z : AllZip AgreeAt ps qs) (f : AllByRecursion (IsTargeted asn) ps) (g : AllByRecursion (IsTargeted asn) qs) where
      within_same : (d : ℕ) → d ≤ s.chain.services → 4 + d ≤ r → has_path_within (with_peers ps) (hop_at s d) subnet ≡ has_path_within (with_peers qs) (hop_at s d) subnet
      within_same d h rk =
          iff_same (has_path_within (with_peers ps) (hop_at s d) subnet) (has_path_within (with_peers qs) (hop_at s d) subnet) (within_moved ps qs d z f h rk)
          (within_moved qs ps d (zip_turned AgreeAt (λ m n a k h. sym (a k h)) ps qs z) g h rk)

      -- a subnet at a place of its chain reads keys of rank up to 4 and the place
      up_same : (d : ℕ) → d ≤ s.chain.services → 4 + d ≤ r → is_up (with_peers ps) s subnet d ≡ is_up (with_peers qs) s subnet d
      up_same zero h rk = within_same zero h rk
      up_same (suc d) h rk = λ i. within_same (suc d) h rk i || (is_some (publisher (with_peers ps) (circuit_at s (suc d))) && up_same d (omega (arith, h)) (omega (arith, rk)) i)

  -- LOCALITY towards peers
  module _ (ps qs : List Map) (z : AllZip AgreeAt ps qs) (f : AllByRecursion (IsTargeted asn) ps) (g : AllByRecursion (IsTargeted asn) qs) where
    one_same : (k : Key) (s : Side) (d : ℕ) (subnet : Block) → peer_rank feed k ≤ suc r → Member s (sides feed) → Member subnet (subnets s) → d < s.chain.services
        → (o : Option (Addr × LabelNo)) → SameAt k (cond (is_up (with_peers ps) s subnet d) (towards (with_peers ps) (hop_at s (suc d)) subnet o) []) (cond (is_up (with_peers qs) s subnet d) (towards (with_peers qs) (hop_at s (suc d)) subnet o) [])
    one_same k s d subnet rk m n h None = none (is_up (with_peers ps) s subnet d) (is_up (with_peers qs) s subnet d)
      where
        none : (b c : Bool) → SameAt k (cond b [] []) (cond c [] [])
        none true true rest other e = e
        none true false rest other e = e
        none false true rest other e = e
        none false false rest other e = e
    one_same k s d subnet rk m n h (Some by) =
        let p = towards_of asn (hop_at s (suc d)) subnet by in
        elim (eq_by_cmp key_cmp k (route_entry p).0) as (λ b. eq_by_cmp key_cmp k (route_entry p).0 ≡ b → SameAt k (cond (is_up (with_peers ps) s subnet d) (p ∷ []) []) (cond (is_up (with_peers qs) s subnet d) (p ∷ []) [])) [
          | true ↦ λ e.
              let is : k ≡ Vpn (record { rd = distinguisher_of by.0 (hop_at s (suc d)); prefix = subnet }) = key_exact k (route_entry p).0 ((Equal-is (key_cmp k (route_entry p).0)).0 e) in
              let deep : depth feed (instance_in (distinguisher_of by.0 (hop_at s (suc d)))) subnet ≡ suc d =
              ap (λ i. depth feed i subnet) (instance_in-distinguisher by.0 (hop_at s (suc d)) (place_small feed s (suc d) ordered m h)) ∙ subnet_depth feed s (suc d) subnet ordered m n h in
              same_tests k (is_up (with_peers ps) s subnet d) (is_up (with_peers qs) s subnet d) (p ∷ [])
              (up_same s subnet m n ps qs z f g d (weaker d s.chain.services h) (low (depth feed (instance_in (distinguisher_of by.0 (hop_at s (suc d)))) subnet) d r deep (subst (λ k. peer_rank feed k ≤ suc r) is rk)))
          | false ↦ λ e. nothing_at k (is_up (with_peers ps) s subnet d) (is_up (with_peers qs) s subnet d) p e
        ] refl
      where
        weaker : (d k : ℕ) → d < k → d ≤ k
        weaker d k h = omega arith

        low : (x d r : ℕ) → x ≡ suc d → 4 + x ≤ suc r → 4 + d ≤ r
        low x d r a b = omega arith

    pub local_by_peers : (k : Key) → peer_rank feed k ≤ suc r → get (wanted_by_peers (with_peers ps)) k ≡ get (wanted_by_peers (with_peers qs)) k
    local_by_peers k rk =
        let own = own_paths (with_peers ps) in
        let same : SameAt k (own ++ reoriginated_paths (with_peers ps)) (own ++ reoriginated_paths (with_peers qs)) =
        same_append k own (reoriginated_paths (with_peers ps)) own (reoriginated_paths (with_peers qs)) (same_itself k own)
        (same_flat_map k (λ s. flat_map (into (is_up (with_peers ps)) (with_peers ps) s) (below s.chain.services)) (λ s. flat_map (into (is_up (with_peers qs)) (with_peers qs) s) (below s.chain.services)) (sides feed) (λ s m.
        same_flat_map k (into (is_up (with_peers ps)) (with_peers ps) s) (into (is_up (with_peers qs)) (with_peers qs) s) (below s.chain.services) (λ d b.
        same_flat_map k (λ subnet. cond (is_up (with_peers ps) s subnet d) (towards (with_peers ps) (hop_at s (suc d)) subnet (publisher (with_peers ps) (circuit_at s (suc d)))) [])
        (λ subnet. cond (is_up (with_peers qs) s subnet d) (towards (with_peers qs) (hop_at s (suc d)) subnet (publisher (with_peers qs) (circuit_at s (suc d)))) []) (subnets s) (λ subnet n.
        one_same k s d subnet rk m n (from_below s.chain.services d b) (publisher (with_peers ps) (circuit_at s (suc d))))))) in
        get-from_entries key_total (map route_entry (own ++ reoriginated_paths (with_peers ps))) k
        ∙ ap (find key_cmp k) (sym (append_none (map route_entry (own ++ reoriginated_paths (with_peers ps)))))
        ∙ same [] [] refl
        ∙ ap (find key_cmp k) (append_none (map route_entry (own ++ reoriginated_paths (with_peers qs))))
        ∙ sym (get-from_entries key_total (map route_entry (own ++ reoriginated_paths (with_peers qs))) k)
      where
        append_none : (es : List (Key × Value)) → es ++ [] ≡ es
        append_none [] = refl
        append_none (e ∷ es) = λ i. e ∷ append_none es i
