-- Tables follow from the instances and uses of the feed alone, besides what peers and agents told.
use Rattle.std.specs.Prelude.{◌≡◌, ◌≢◌, ◌==◌, ◌-◌, ℕ, zero, suc, List, [], ◌∷◌, ◌++◌, map, true, false, cond, if◌then◌else◌, ◌&&◌, ◌||◌, is_some}
use Rattle.std.specs.declared.option.Option.{Option}
use Rattle.std.specs.declared.option.Option.TheVariants.{Some, None}
use Rattle.std.specs.List.{cons_option, filter, filter_map, flat_map, list_any}
use Rattle.std.specs.FinMap.{entries, from_entries}
use Rattle.std.proofs.Common.{refl, sym, ◌∙◌, ap, subst, arith}
use Rattle.std.proofs.lemmas.Bool.{eqb-true}
use Rattle.std.proofs.lemmas.Bool.Decides.{nat_tests}
use Rattle.ov_types.specs.Prefix.{Block, is_inside}
use Rattle.ov_types.specs.declared.numbers.InstanceId.{InstanceId}
use Rattle.ov_types.specs.declared.numbers.Label.{Label as LabelNo}
use Rattle.ov_types.specs.declared.objects.LowKey.{LowKey}
use Rattle.ov_types.specs.declared.objects.LowKey.TheVariants as key
use Rattle.ov_types.specs.declared.objects.LowValue.{LowValue}
use Rattle.ov_types.specs.declared.prefix.Addr.{Addr}
use Rattle.ov_sync.specs.declared.Delta.{Delta}
use Rattle.ov_sync.specs.declared.Delta.TheVariants.{Put, Drop}
use Rattle.ov_sync.specs.Embed.{moved_delta}
use Rattle.ov_sync.specs.Keyed.{changed, key_of}
use Rattle.ov_sync.proofs.KeyedLaws.{changed_apart}
use Rattle.route_targets.specs.Numbers.{distinguisher_of, target_of}
use Rattle.node_model.specs.Keys.{Key, Low, Vpn, Row, Publish, Subscribe}
use Rattle.node_model.specs.Values.{Value, Object, Route, Entry, Label}
use Rattle.node_model.specs.Maps.{Map, as_object, low_entry, object}
use Rattle.node_model.specs.Uses.{Use, as_use, held_use, hop_imports, imports, is_hop, is_known, is_place, network_imports, place_of, use_from, use_of, uses}
use Rattle.node_model.specs.Paths.{Holdings, Path, Told, has_target, own_path, own_paths, peer_paths, received}
use Rattle.node_model.specs.Reaching.{Side, below, circuit_at, hop_at, into, is_up, publisher, reoriginated_paths, sides, sides_of, subnets, towards}
use Rattle.node_model.specs.Tables.{selected, table}
use Rattle.node_model.specs.Wants.{route_entry, wanted_by_peers}
use Rattle.node_model.proofs.Objects.{is_hop-hop}
use Rattle.node_model.proofs.Orders.{key_exact, key_total}
use Rattle.vpn_holdings.specs.Changes.{with_low}
use Rattle.vpn_tables.proofs.OneKey.{changed_none}

module _ (h : Holdings) (feed : Map) where
  abbrev later : Holdings
  later = record h { feed = feed }

  -- ---- own routes
  module _ (known_same : (i : InstanceId) → is_known h.feed i ≡ is_known feed i) where
    abbrev path_from : Told → InstanceId → Block → LabelNo → Path
    path_from a i prefix label = record { prefix = prefix; rd = distinguisher_of a.address i; next_hop = a.address; label = label; targets = target_of h.asn i ∷ []; session = a.session }

    own_same : (a : Told) (k : Key) (v : Value) → own_path h a k v ≡ own_path later a k v
    own_same a (Publish i prefix) (Label label) = ap (λ b. cond b (Some (path_from a i prefix label)) None) (known_same i)
    own_same a (Publish i prefix) (Object o) = refl
    own_same a (Publish i prefix) (Route r) = refl
    own_same a (Publish i prefix) (Entry e) = refl
    own_same a (Low k) v = refl
    own_same a (Vpn k) v = refl
    own_same a (Row i prefix) v = refl
    own_same a (Subscribe i) v = refl

    own_each : (a : Told) (es : List (Key × Value)) → filter_map (λ e. own_path h a e.0 e.1) es ≡ filter_map (λ e. own_path later a e.0 e.1) es
    own_each a [] = refl
    own_each a (e ∷ es) = λ k. cons_option (own_same a e.0 e.1 k) (own_each a es k)

    own_of_all : (agents : List Told) → flat_map (λ a. filter_map (λ e. own_path h a e.0 e.1) (entries a.map)) agents ≡ flat_map (λ a. filter_map (λ e. own_path later a e.0 e.1) (entries a.map)) agents
    own_of_all [] = refl
    own_of_all (a ∷ agents) = λ k. own_each a (entries a.map) k ++ own_of_all agents k

    pub own_paths_same : own_paths h ≡ own_paths later
    own_paths_same = own_of_all h.agents

  -- ---- where these stay, with the uses and what their places import
  module _ (own : own_paths h ≡ own_paths later) (hops : (i : InstanceId) → is_hop i ≡ true → imports h.feed i ≡ imports feed i) (same_uses : uses h.feed ≡ uses feed) where
    received_same : (i : InstanceId) → imports h.feed i ≡ imports feed i → received h i ≡ received later i
    received_same i imported = λ k. filter (has_target (map (target_of h.asn) (imported k))) (own k ++ peer_paths h)

    received_at : (s : Side) (d : ℕ) → received h (hop_at s d) ≡ received later (hop_at s d)
    received_at s d = received_same (hop_at s d) (hops (hop_at s d) (is_hop-hop s.chain.number (if s.is_right then s.chain.services - d else d)))

    up_same : (s : Side) (subnet : Block) (d : ℕ) → is_up h s subnet d ≡ is_up later s subnet d
    up_same s subnet zero = ap (list_any (λ p. is_inside p.prefix subnet)) (received_at s zero)
    up_same s subnet (suc d) = λ k. list_any (λ p. is_inside p.prefix subnet) (received_at s (suc d) k) || (is_some (publisher h (circuit_at s (suc d))) && up_same s subnet d k)

    towards_same : (i : InstanceId) (subnet : Block) (o : Option (Addr × LabelNo)) → towards h i subnet o ≡ towards later i subnet o
    towards_same i subnet None = refl
    towards_same i subnet (Some p) = refl

    each_same : {X Y : Type 0} (f g : X → List Y) → ((x : X) → f x ≡ g x) → (xs : List X) → flat_map f xs ≡ flat_map g xs
    each_same f g e [] = refl
    each_same f g e (x ∷ xs) = λ k. e x k ++ each_same f g e xs k

    leads_same : (s : Side) → flat_map (into (is_up h) h s) (below s.chain.services) ≡ flat_map (into (is_up later) later s) (below s.chain.services)
    leads_same s =
        each_same (into (is_up h) h s) (into (is_up later) later s) (λ d.
        each_same
        (λ subnet. cond (is_up h s subnet d) (towards h (hop_at s (suc d)) subnet (publisher h (circuit_at s (suc d)))) [])
        (λ subnet. cond (is_up later s subnet d) (towards later (hop_at s (suc d)) subnet (publisher later (circuit_at s (suc d)))) []) (λ subnet.
        λ k. cond (up_same s subnet d k) (towards_same (hop_at s (suc d)) subnet (publisher h (circuit_at s (suc d))) k) [])
        (subnets s)) (below s.chain.services)

    led_same : reoriginated_paths h ≡ reoriginated_paths later
    led_same =
        each_same (λ s. flat_map (into (is_up h) h s) (below s.chain.services)) (λ s. flat_map (into (is_up later) later s) (below s.chain.services)) leads_same (sides h.feed)
        ∙ (λ k. flat_map (λ s. flat_map (into (is_up later) later s) (below s.chain.services)) (flat_map sides_of (same_uses k)))

    pub table_same : (i : InstanceId) → imports h.feed i ≡ imports feed i → table h i ≡ table later i
    table_same i imported = λ k. selected (received_same i imported k ++ filter (has_target (target_of h.asn i ∷ [])) (led_same k))

    pub peers_same : wanted_by_peers h ≡ wanted_by_peers later
    peers_same = λ k. from_entries (map route_entry (own k ++ led_same k))

-- ---- a change of another object
abbrev use_at : Key → Value → Option Use
use_at (Low k) (Object v) = as_use k v
use_at _ _ = None

use_first : (k : Key) (v : Value) (es : List (LowKey × LowValue)) → filter_map (λ e. as_use e.0 e.1) (cons_option (low_entry k v) es) ≡ cons_option (use_at k v) (filter_map (λ e. as_use e.0 e.1) es)
use_first (Low k) (Object v) es = refl
use_first (Low k) (Route r) es = refl
use_first (Low k) (Entry r) es = refl
use_first (Low k) (Label l) es = refl
use_first (Vpn k) v es = refl
use_first (Row i q) v es = refl
use_first (Publish i q) v es = refl
use_first (Subscribe i) v es = refl

uses_by_entry : (es : List (Key × Value)) → filter_map (λ e. as_use e.0 e.1) (filter_map (λ e. low_entry e.0 e.1) es) ≡ filter_map (λ e. use_at e.0 e.1) es
uses_by_entry [] = refl
uses_by_entry (e ∷ es) = use_first e.0 e.1 (filter_map (λ e. low_entry e.0 e.1) es) ∙ ap (λ (us : List Use). cons_option (use_at e.0 e.1) us) (uses_by_entry es)

no_use : (k : LowKey) (v : Value) → ((n : ℕ) → k ≢ key.ChainUse n) → use_at (Low k) v ≡ None
no_use (key.ChainUse n) v h = absurd (h n refl)
no_use (key.Instance n) (Object o) h = refl
no_use (key.Attach n) (Object o) h = refl
no_use (key.Acl a b) (Object o) h = refl
no_use k (Route r) h = refl
no_use k (Entry r) h = refl
no_use k (Label l) h = refl

key_moved : (d : Delta LowKey LowValue) → key_of (moved_delta Low Object d) ≡ Low (key_of d)
key_moved (Put k v) = refl
key_moved (Drop k) = refl

abbrev low_in : Key → LowKey → LowKey
low_in (Low k) d = k
low_in (Vpn k) d = d
low_in (Row i q) d = d
low_in (Publish i q) d = d
low_in (Subscribe i) d = d

module _ (feed : Map) (d : Delta LowKey LowValue) where
  abbrev next : Map
  next = changed feed (moved_delta Low Object d)

  pub object_stays : (k : LowKey) → key_of d ≢ k → object feed k ≡ object next k
  object_stays k h = ap as_object (sym (changed_apart key_total key_exact feed (moved_delta Low Object d) (Low k) (λ e. h (sym (ap (λ x. low_in x k) (e ∙ key_moved d))))))

  pub uses_stay : ((n : ℕ) → key_of d ≢ key.ChainUse n) → uses feed ≡ uses next
  uses_stay h =
      uses_by_entry (entries feed)
      ∙ changed_none (λ e. use_at e.0 e.1) feed (moved_delta Low Object d) (λ w. ap (λ k. use_at k w) (key_moved d) ∙ no_use (key_of d) w h)
      ∙ sym (uses_by_entry (entries next))

  -- ---- a change of what is no use
  module _ (no_use_is : (n : ℕ) → key_of d ≢ key.ChainUse n) where
    hops_stay : (i : InstanceId) → is_hop i ≡ true → imports feed i ≡ imports next i
    hops_stay i hop =
        ap (λ b. cond b (hop_imports (place_of i) (held_use feed i)) (network_imports (object feed (key.Instance i.0)))) hop
        ∙ ap (λ (o : Option LowValue). hop_imports (place_of i) (use_from (use_of i) o)) (object_stays (key.ChainUse (use_of i)) (no_use_is (use_of i)))
        ∙ ap (λ b. cond b (hop_imports (place_of i) (held_use next i)) (network_imports (object next (key.Instance i.0)))) (sym hop)

    imports_stay : (i : InstanceId) → object feed (key.Instance i.0) ≡ object next (key.Instance i.0) → imports feed i ≡ imports next i
    imports_stay i instance = λ k. cond (is_hop i) (hop_imports (place_of i) (use_from (use_of i) (object_stays (key.ChainUse (use_of i)) (no_use_is (use_of i)) k))) (network_imports (instance k))

    known_stays : (i : InstanceId) → is_some (object feed (key.Instance i.0)) ≡ is_some (object next (key.Instance i.0)) → is_known feed i ≡ is_known next i
    known_stays i instance = λ k. cond (is_hop i) (is_place (place_of i) (use_from (use_of i) (object_stays (key.ChainUse (use_of i)) (no_use_is (use_of i)) k))) (instance k)

-- what stays where an object changes that is no use and no instance
module _ (h : Holdings) (d : Delta LowKey LowValue) (a : (n : ℕ) → key_of d ≢ key.Instance n) (b : (n : ℕ) → key_of d ≢ key.ChainUse n) where
  stays : (i : InstanceId) → object h.feed (key.Instance i.0) ≡ object (next h.feed d) (key.Instance i.0)
  stays i = object_stays h.feed d (key.Instance i.0) (a i.0)

  own_stays : own_paths h ≡ own_paths (with_low h d)
  own_stays = own_paths_same h (next h.feed d) (λ i. known_stays h.feed d b i (ap is_some (stays i)))

  pub tables_stay : (i : InstanceId) → table h i ≡ table (with_low h d) i
  tables_stay i = table_same h (next h.feed d) own_stays (hops_stay h.feed d b) (uses_stay h.feed d b) i (imports_stay h.feed d b i (stays i))

  pub peers_stay : wanted_by_peers h ≡ wanted_by_peers (with_low h d)
  peers_stay = peers_same h (next h.feed d) own_stays (hops_stay h.feed d b) (uses_stay h.feed d b)

-- what stays where an instance changes that stays known, or stays unknown
module _ (h : Holdings) (d : Delta LowKey LowValue) (n : ℕ) (is : key_of d ≡ key.Instance n) (known : is_some (object h.feed (key.Instance n)) ≡ is_some (object (with_low h d).feed (key.Instance n))) where
  no_use_is : (m : ℕ) → key_of d ≢ key.ChainUse m
  no_use_is m e = apart m (sym is ∙ e)
    where
      apart : (m : ℕ) → key.Instance n ≡ key.ChainUse m → ⊥
      apart m e = cc

  elsewhere : (i : InstanceId) → i.0 ≢ n → object h.feed (key.Instance i.0) ≡ object (next h.feed d) (key.Instance i.0)
  elsewhere i away = object_stays h.feed d (key.Instance i.0) (λ e. away (same_network i.0 (sym e ∙ is)))
    where
      same_network : (m : ℕ) → key.Instance m ≡ key.Instance n → m ≡ n
      same_network m e = cc

  known_still : (i : InstanceId) → is_some (object h.feed (key.Instance i.0)) ≡ is_some (object (next h.feed d) (key.Instance i.0))
  known_still i =
      elim (i.0 == n) as (λ t. (i.0 == n) ≡ t → is_some (object h.feed (key.Instance i.0)) ≡ is_some (object (next h.feed d) (key.Instance i.0))) [
        | true ↦ λ t. subst (λ (m : ℕ). is_some (object h.feed (key.Instance m)) ≡ is_some (object (next h.feed d) (key.Instance m))) (sym (eqb-true i.0 n t)) known
        | false ↦ λ t. ap is_some (elsewhere i (λ e. unlike i.0 e t))
      ] refl
    where
      unlike : (m : ℕ) → m ≡ n → (m == n) ≡ false → ⊥
      unlike m e t = grind (arith, nat_tests)

  own_paths_still : own_paths h ≡ own_paths (with_low h d)
  own_paths_still = own_paths_same h (next h.feed d) (λ i. known_stays h.feed d no_use_is i (known_still i))

  pub instance_tables : (i : InstanceId) → i.0 ≢ n → table h i ≡ table (with_low h d) i
  instance_tables i away = table_same h (next h.feed d) own_paths_still (hops_stay h.feed d no_use_is) (uses_stay h.feed d no_use_is) i (imports_stay h.feed d no_use_is i (elsewhere i away))

  pub instance_peers : wanted_by_peers h ≡ wanted_by_peers (with_low h d)
  instance_peers = peers_same h (next h.feed d) own_paths_still (hops_stay h.feed d no_use_is) (uses_stay h.feed d no_use_is)
