-- Routes that are of no use change nothing.
use Rattle.std.specs.Prelude.{◌≡◌, ◌⊎◌, ℕ, zero, suc, ◌<◌, ◌≤◌, List, [], ◌∷◌, ◌++◌, map, Bool, true, false, cond, ◌==◌, ◌&&◌, ◌||◌, is_some}
use Rattle.std.specs.declared.option.Option.{Option}
use Rattle.std.specs.declared.option.Option.TheVariants.{Some, None}
use Rattle.std.specs.List.{filter, flat_map, list_any}
use Rattle.std.specs.FinMap.{entries, from_entries, get}
use Rattle.std.proofs.lemmas.Bool.{eqb-true}
use Rattle.std.proofs.Common.{refl, sym, ◌∙◌, ap, subst, inl, inr, arith}
use Rattle.ov_types.specs.Prefix.{Block, is_inside}
use Rattle.ov_types.specs.declared.numbers.InstanceId.{InstanceId}
use Rattle.ov_types.specs.declared.numbers.Label.{Label as LabelNo}
use Rattle.ov_types.specs.declared.prefix.Addr.{Addr}
use Rattle.ov_types.specs.declared.targets.Target.{Target}
use Rattle.ov_types.specs.declared.vpn.VpnRoute.{VpnRoute}
use Rattle.route_targets.specs.Numbers.{target_of}
use Rattle.node_model.specs.Members.{Member}
use Rattle.node_model.specs.Keys.{Key, Low, Vpn, Row, Publish, Subscribe}
use Rattle.node_model.specs.Values.{Value, Entry}
use Rattle.node_model.specs.Uses.{is_known, imports}
use Rattle.node_model.specs.Paths.{Holdings, Told, Path, own_paths, peer_paths, received, has_target}
use Rattle.node_model.specs.Reaching.{Side, sides, subnets, hop_at, circuit_at, publisher, has_path_within, is_up, towards, below, into, reoriginated_paths}
use Rattle.node_model.specs.Tables.{paths_of, selected, table}
use Rattle.node_model.specs.Wants.{route_entry, wanted_by_peers, slice, slice_entry, subscribed, subscriptions, rows_of, wanted_by_agent}
use Rattle.node_model.proofs.Members.{from_any, from_map, from_filter_map, get_member, none_some}
use Rattle.node_model.proofs.Objects.{imports_nothing, side_use}
use Rattle.node_model.proofs.Orders.{key_total}
use Rattle.node_model.proofs.Routes.{from_below}
use Rattle.rt_constrain.specs.Needs.{IsNeeded, UsesFit}
use Rattle.rt_constrain.specs.Cut.{PassesWhatIsOfUse, cut_to}
use Rattle.rt_constrain.proofs.Restricted.{filter_append, passes_path, of_peers}
use Rattle.rt_constrain.proofs.Numbered.{numbered_at, across_at}

-- ---- what passes two tests, of which one follows from the other
fails : (b c : Bool) → (b ≡ true → c ≡ true) → c ≡ false → b ≡ false
fails true c f e = sym (f refl) ∙ e
fails false c f e = refl

filter_weaker : {X : Type 0} (p q : X → Bool) → ((x : X) → p x ≡ true → q x ≡ true) → (xs : List X) → filter p (filter q xs) ≡ filter p xs
filter_weaker p q h [] = refl
filter_weaker p q h (x ∷ xs) =
    elim (q x) as (λ b. q x ≡ b → filter p (cond b (x ∷ filter q xs) (filter q xs)) ≡ cond (p x) (x ∷ filter p xs) (filter p xs)) [
      | true ↦ λ _. ap (λ ys. cond (p x) (x ∷ ys) ys) (filter_weaker p q h xs)
      | false ↦ λ e. filter_weaker p q h xs ∙ ap (λ b. cond b (x ∷ filter p xs) (filter p xs)) (sym (fails (p x) (q x) (h x) e))
    ] refl

flat_map_same : {X Y : Type 0} (f g : X → List Y) (xs : List X) → ((x : X) → Member x xs → f x ≡ g x) → flat_map f xs ≡ flat_map g xs
flat_map_same f g [] h = refl
flat_map_same f g (x ∷ xs) h = λ i. h x (inl refl) i ++ flat_map_same f g xs (λ y m. h y (inr m)) i

filter_all_fail : {X : Type 0} (p : X → Bool) (xs : List X) → ((x : X) → p x ≡ false) → filter p xs ≡ []
filter_all_fail p [] h = refl
filter_all_fail p (x ∷ xs) h = ap (λ b. cond b (x ∷ filter p xs) (filter p xs)) (h x) ∙ filter_all_fail p xs h

untargeted : (p : Path) → has_target [] p ≡ false
untargeted p = each p.targets
  where
    each : (ts : List Target) → list_any (λ (t : Target). list_any (λ (u : Target). t.0 == u.0) []) ts ≡ false
    each [] = refl
    each (t ∷ ts) = each ts

same_target : (t u : Target) → (t.0 == u.0) ≡ true → t ≡ u
same_target t u e = λ i. record { 0 = eqb-true t.0 u.0 e i }

module _ (h : Holdings) (test : VpnRoute → Bool) (fit : UsesFit h.feed) (all : PassesWhatIsOfUse h test) where
  -- an instance is needed, or nothing is imported there
  abbrev pub Served : InstanceId → Type 0
  Served i = IsNeeded h i ⊎ (is_known h.feed i ≡ false)

  -- what is received at a needed instance is of use
  of_use : (i : InstanceId) → IsNeeded h i → (p : Path) → has_target (map (target_of h.asn) (imports h.feed i)) p ≡ true → passes_path test p ≡ true
  of_use i needed p e =
      let t = from_any (λ (t : Target). list_any (λ (u : Target). t.0 == u.0) (map (target_of h.asn) (imports h.feed i))) p.targets e in
      let u = from_any (λ (u : Target). t.0.0 == u.0) (map (target_of h.asn) (imports h.feed i)) t.2 in
      let n = from_map (target_of h.asn) u.0 (imports h.feed i) u.1 in
      all (record { next_hop = p.next_hop; label = p.label; targets = p.targets }) (record {
        instance = i;
        needed = needed;
        import = n.0;
        imported = n.1;
        targeted = subst (λ (t : Target). Member t p.targets) (same_target t.0 u.0 u.2 ∙ sym n.2) t.1;
      })

  pub received_same : (i : InstanceId) → Served i → received (cut_to test h) i ≡ received h i
  received_same i (inl needed) =
      let wanted = has_target (map (target_of h.asn) (imports h.feed i)) in
      ap (λ (ps : List Path). filter wanted (own_paths h ++ ps)) (of_peers test 1 h.peers)
      ∙ filter_append wanted (own_paths h) (filter (passes_path test) (peer_paths h))
      ∙ ap (λ (ps : List Path). filter wanted (own_paths h) ++ ps) (filter_weaker wanted (passes_path test) (of_use i needed) (peer_paths h))
      ∙ sym (filter_append wanted (own_paths h) (peer_paths h))
  received_same i (inr unknown) =
      let nothing = imports_nothing h.feed i unknown in
      (λ k. filter (has_target (map (target_of h.asn) (nothing k))) (own_paths h ++ peer_paths (cut_to test h)))
      ∙ filter_all_fail (has_target []) (own_paths h ++ peer_paths (cut_to test h)) untargeted
      ∙ sym (filter_all_fail (has_target []) (own_paths h ++ peer_paths h) untargeted)
      ∙ sym (λ k. filter (has_target (map (target_of h.asn) (nothing k))) (own_paths h ++ peer_paths h))

  within_same : (i : InstanceId) → Served i → (subnet : Block) → has_path_within (cut_to test h) i subnet ≡ has_path_within h i subnet
  within_same i served subnet = ap (list_any (λ (p : Path). is_inside p.prefix subnet)) (received_same i served)

  served_or : (i : InstanceId) → (is_known h.feed i ≡ true → IsNeeded h i) → Served i
  served_or i f = elim (is_known h.feed i) as (λ b. is_known h.feed i ≡ b → Served i) [ true ↦ λ e. inl (f e) | false ↦ λ e. inr e ] refl

  module _ (s : Side) (held : Member s (sides h.feed)) where
    -- a published circuit leads to a place that is served
    served_across : (d : ℕ) → d < s.chain.services → is_some (publisher h (circuit_at s (suc d))) ≡ true → Served (hop_at s d)
    served_across d w e =
        let u = fit s.chain (side_use h.feed s held) in
        served_or (hop_at s d) (λ known. record {
          known = known;
          why = inr (record {
            circuit = circuit_at s (suc d);
            numbered = numbered_at s d u.0 u.1 w;
            published = e;
            across = across_at s d w;
          });
        })

    up_same : (subnet : Block) (d : ℕ) → d ≤ s.chain.services → Served (hop_at s d) → is_up (cut_to test h) s subnet d ≡ is_up h s subnet d
    up_same subnet zero w served = within_same (hop_at s zero) served subnet
    up_same subnet (suc d) w served =
        (λ k. within_same (hop_at s (suc d)) served subnet k || (is_some (publisher h (circuit_at s (suc d))) && is_up (cut_to test h) s subnet d))
        ∙ ap (λ b. has_path_within h (hop_at s (suc d)) subnet || b)
        (nearer (is_some (publisher h (circuit_at s (suc d)))) (λ e. up_same subnet d (omega (arith, w)) (served_across d w e)))
      where
        nearer : (b : Bool) → (b ≡ true → is_up (cut_to test h) s subnet d ≡ is_up h s subnet d) → (b && is_up (cut_to test h) s subnet d) ≡ (b && is_up h s subnet d)
        nearer true f = f refl
        nearer false f = refl

    into_same : (d : ℕ) → d < s.chain.services → into (is_up (cut_to test h)) (cut_to test h) s d ≡ into (is_up h) h s d
    into_same d w = flat_map_same (λ subnet. cond (is_up (cut_to test h) s subnet d) (towards h (hop_at s (suc d)) subnet (publisher h (circuit_at s (suc d)))) [])
        (λ subnet. cond (is_up h s subnet d) (towards h (hop_at s (suc d)) subnet (publisher h (circuit_at s (suc d)))) []) (subnets s)
        (λ subnet m. led subnet (publisher h (circuit_at s (suc d))) refl)
      where
        nothing : (b c : Bool) → ◌≡◌ {A = List Path} (cond b [] []) (cond c [] [])
        nothing true true = refl
        nothing true false = refl
        nothing false true = refl
        nothing false false = refl

        led : (subnet : Block) (o : Option (Addr × LabelNo)) → publisher h (circuit_at s (suc d)) ≡ o
            → cond (is_up (cut_to test h) s subnet d) (towards h (hop_at s (suc d)) subnet o) [] ≡ cond (is_up h s subnet d) (towards h (hop_at s (suc d)) subnet o) []
        led subnet None e = nothing (is_up (cut_to test h) s subnet d) (is_up h s subnet d)
        led subnet (Some by) e =
            ap (λ b. cond b (towards h (hop_at s (suc d)) subnet (Some by)) [])
            (up_same subnet d (omega (arith, w)) (served_across d w (ap is_some e)))

  pub reoriginated_same : reoriginated_paths (cut_to test h) ≡ reoriginated_paths h
  reoriginated_same =
      flat_map_same (λ s. flat_map (into (is_up (cut_to test h)) (cut_to test h) s) (below s.chain.services)) (λ s. flat_map (into (is_up h) h s) (below s.chain.services)) (sides h.feed)
      (λ s m. flat_map_same (into (is_up (cut_to test h)) (cut_to test h) s) (into (is_up h) h s) (below s.chain.services) (λ d b. into_same s m d (from_below s.chain.services d b)))

  pub paths_same : (i : InstanceId) → Served i → paths_of (cut_to test h) i ≡ paths_of h i
  paths_same i served = λ k. received_same i served k ++ filter (has_target (target_of h.asn i ∷ [])) (reoriginated_same k)

  pub table_same : (i : InstanceId) → IsNeeded h i → table (cut_to test h) i ≡ table h i
  table_same i needed = ap selected (paths_same i (inl needed))

  pub peers_same : wanted_by_peers (cut_to test h) ≡ wanted_by_peers h
  peers_same = ap (λ (ps : List Path). from_entries (map route_entry (own_paths h ++ ps))) reoriginated_same

  -- what an agent subscribed is served
  is_subscription : (k : Key) (i : InstanceId) → subscribed k ≡ Some i → k ≡ Subscribe i
  is_subscription (Subscribe j) i e = ap Subscribe (same_some j i e)
    where
      same_some : (j i : InstanceId) → Some j ≡ Some i → j ≡ i
      same_some j i e = cc
  is_subscription (Low k) i e = absurd (none_some i e)
  is_subscription (Vpn k) i e = absurd (none_some i e)
  is_subscription (Row j prefix) i e = absurd (none_some i e)
  is_subscription (Publish j prefix) i e = absurd (none_some i e)

  served_subscription : (a : Told) → Member a h.agents → (i : InstanceId) → Member i (subscriptions a.map) → Served i
  served_subscription a m i n =
      let e = from_filter_map (λ (e : Key × Value). subscribed e.0) i (entries a.map) n in
      let at = get_member key_total a.map e.0.0 e.0.1 e.1 in
      served_or i (λ known. record {
        known = known;
        why = inl (record {
          agent = a;
          told = m;
          subscribes = ap (λ (k : Key). is_some (get a.map k)) (sym (is_subscription e.0.0 i e.2)) ∙ ap is_some at;
        });
      })

  pub agents_same : (a : Told) → Member a h.agents → wanted_by_agent (cut_to test h) a ≡ wanted_by_agent h a
  agents_same a m =
      ap (λ (es : List (Key × Value)). from_entries (map slice_entry (slice h.feed a.address) ++ es))
      (flat_map_same (rows_of (cut_to test h)) (rows_of h) (subscriptions a.map) (λ i n. rows_same i (served_subscription a m i n)))
    where
      rows_same : (i : InstanceId) → Served i → rows_of (cut_to test h) i ≡ rows_of h i
      rows_same i served = ap (λ (ps : List Path). map (λ e. (Row i e.0, Entry (record { next_hop = e.1.next_hop; label = e.1.label }))) (entries (selected ps))) (paths_same i served)
