-- What a control node wants its sessions to have been told is fit where what it holds is.
use Rattle.std.specs.FinMap.{entries, get}
use Rattle.std.specs.List.{AllByRecursion, enumerate_from, filter, filter_map, flat_map, list_all}
use Rattle.std.specs.Prelude.{Bool, IsTrue, List, cond, false, length, map, nat_lt, suc, true, ℕ, [], ◌&&◌, ◌++◌, ◌<◌, ◌^◌, ◌∷◌, ◌≡◌, ◌≤◌}
use Rattle.std.specs.declared.option.Option.TheVariants.{Some}
use Rattle.std.proofs.Common.{ap, arith, inl, inr, subst, sym, ◌∙◌}
use Rattle.std.proofs.lemmas.Bool.{and_from, and_parts, le-leb, leb-true, lt-ltb, ltb-true, true≢false}
use Rattle.std.proofs.lemmas.Option.{same_Some}
use Rattle.ov_sync.specs.Keyed.{Values}
use Rattle.ov_sync.specs.declared.Delta.TheVariants.{Put}
use Rattle.ov_types.specs.Prefix.{Block, is_prefix}
use Rattle.ov_types.specs.Targets.{IsAscending}
use Rattle.ov_types.specs.declared.numbers.InstanceId.{InstanceId}
use Rattle.ov_types.specs.declared.numbers.Rd.{Rd}
use Rattle.ov_types.specs.declared.numbers.ServiceNo.{ServiceNo}
use Rattle.ov_types.specs.declared.objects.LowKey.TheVariants as key
use Rattle.ov_types.specs.declared.objects.LowKey.{LowKey}
use Rattle.ov_types.specs.declared.objects.LowValue.TheVariants as low
use Rattle.ov_types.specs.declared.objects.LowValue.{LowValue}
use Rattle.ov_types.specs.declared.prefix.Addr.{Addr}
use Rattle.ov_types.specs.declared.targets.Target.{Target}
use Rattle.ov_types.specs.declared.vpn.VpnKey.{VpnKey}
use Rattle.ov_types.specs.declared.vpn.VpnRoute.{VpnRoute}
use Rattle.route_targets.specs.Numbers.{distinguisher_of, target_of}
use Rattle.bgp_vpn.specs.Written.{FitsItsTypes}
use Rattle.item_wire.specs.Ranges.{is_address, is_block, is_in_range}
use Rattle.item_wire.specs.declared.event.ItemFrom.TheVariants as From
use Rattle.item_wire.specs.declared.item.Item.TheVariants as I
use Rattle.item_wire.specs.declared.item.Item.{Item}
use Rattle.node_core.specs.Told.{AllFit, Fits, IsTyped}
use Rattle.node_model.specs.Keys.{Key, Low, Publish, Vpn, key_cmp}
use Rattle.node_model.specs.Maps.{Map, objects}
use Rattle.node_model.specs.Members.{Member}
use Rattle.node_model.specs.Paths.{Holdings, IsPublishedHere, Path, Told, has_target, own_paths, peer_path, peer_paths, received}
use Rattle.node_model.specs.Reaching.{Side, circuit_at, hop_at, reoriginated_paths, subnets}
use Rattle.node_model.specs.Tables.{paths_of, table}
use Rattle.node_model.specs.Uses.{Use, as_use, imports, uses}
use Rattle.node_model.specs.Values.{Label, Object, Route, Value}
use Rattle.node_model.specs.Wants.{is_in_slice, route_entry, rows_of, slice, slice_entry, subscriptions, wanted_by_agent, wanted_by_peers}
use Rattle.node_model.proofs.Members.{from_entry, from_filter, from_filter_map, from_flat_map, from_map, get_member, in_either, none_some}
use Rattle.node_model.proofs.Objects.{object_of, side_use}
use Rattle.node_model.proofs.Orders.{key_exact, key_total, prefix_total}
use Rattle.node_model.proofs.Routes.{own_route_from, published_here, reoriginated_from}
use Rattle.node_model.proofs.Selection.{selected_least}
use Rattle.node_model.proofs.Wanted.{row_of_path}
use Rattle.running_nodes.specs.NodeRoutes.First.{RouteFitsItsTypes}
use Rattle.running_nodes.specs.NodeRoutes.Told.{IsWritable}
use Rattle.running_nodes.specs.ControlWants.Held.{HoldingsFit, RouteFits}
use Rattle.running_nodes.proofs.ControlWants.Fitting.{agents_fit, peers_fit, hop_small, all_at, numbered, within, instance_small}
use Rattle.running_laws.proofs.Fitness.{FitsItem, FitsPeer, MayTell}

-- ---- what is held
pub record AgentFits (a : Told) : Type 0 where
  pub map : Values {R = key_cmp} (FitsItem From.Agent) a.map
  pub address : a.address.0 < 2 ^ 32

pub record HeldFit (h : Holdings) : Type 0 where
  pub asn : h.asn < 2 ^ 32
  pub feed : AllFit h.feed
  pub peers : AllByRecursion (Values {R = key_cmp} FitsPeer) h.peers
  pub agents : AllByRecursion AgentFits h.agents

all_weaker : {X : Type 0} (P Q : X → Type 0) → ((x : X) → P x → Q x) → (xs : List X) → AllByRecursion P xs → AllByRecursion Q xs
all_weaker P Q h [] a = tt
all_weaker P Q h (x ∷ xs) a = (h x a.0, all_weaker P Q h xs a.1)

pub list_member : {X : Type 0} (p : X → Bool) (x : X) (xs : List X) → list_all p xs ≡ true → Member x xs → p x ≡ true
list_member p x [] e m = absurd m
list_member p x (y ∷ xs) e (inl is) = ap p (sym is) ∙ (and_parts (p y) (list_all p xs) e).0
list_member p x (y ∷ xs) e (inr m) = list_member p x xs (and_parts (p y) (list_all p xs) e).1 m

route_fits : (k : Key) (v : Value) → FitsPeer k v → RouteFits k v
route_fits (Vpn k) (Route r) f = f.0.label
route_fits _ _ f = absurd f

holdings_fit : (h : Holdings) → HeldFit h → HoldingsFit h
holdings_fit h f = record {
  feed = f.feed;
  peers = all_weaker (Values {R = key_cmp} FitsPeer) (Values {R = key_cmp} RouteFits) (λ m e k v is. route_fits k v (e k v is)) h.peers f.peers;
  agents = all_weaker AgentFits (λ (a : Told). AllFit a.map) (λ a e k v is. (e.map k v is).fits) h.agents f.agents;
}

-- ---- numbers within their ranges
distinguisher_small : (a : Addr) (i : InstanceId) → a.0 < 2 ^ 32 → i.0 < 2 ^ 16 → (distinguisher_of a i).0 < 2 ^ 64
distinguisher_small a i h j = omega (arith, h, j)

address_is : (a : Addr) → a.0 < 2 ^ 32 → IsTrue (is_address a)
address_is a h = le-leb a.0 0xffff_ffff (omega (arith, h))

-- ---- uses
record UseFits (u : Use) : Type 0 where
  number : u.number ≤ 3071
  services : u.services ≤ 15
  left : list_all is_block u.left_subnets ≡ true
  right : list_all is_block u.right_subnets ≡ true

four_of_seven : (a b c d e f g : Bool) → (a && b && c && d && e && f && g) ≡ true → ((b ≡ true) × (d ≡ true)) × ((f ≡ true) × (g ≡ true))
four_of_seven a b c d e f g h =
    let seven = and_parts (a && b && c && d && e && f) g h in
    let six = and_parts (a && b && c && d && e) f seven.0 in
    let five = and_parts (a && b && c && d) e six.0 in
    let four = and_parts (a && b && c) d five.0 in
    let three = and_parts (a && b) c four.0 in
    (((and_parts a b three.0).1, four.1), (six.1, seven.1))

of_item : (left right : InstanceId) (ls rs : List Block) (hops : List (ServiceNo × Addr)) (n : ℕ) (item : Item) → I.Use hops left ls right rs n ≡ item → IsTrue (is_in_range item)
    → UseFits (record { number = n; left = left; right = right; left_subnets = ls; right_subnets = rs; services = length hops })
of_item left right ls rs hops n item is range =
    let q = four_of_seven _ _ _ _ _ _ _ (ap is_in_range is ∙ range) in
    record { number = leb-true n 3071 q.1.1; services = within 1 15 (length hops) q.0.0; left = q.0.1; right = q.1.0 }

use_parts : (k : LowKey) (v : LowValue) (u : Use) → as_use k v ≡ Some u → Fits (Low k) (Object v) → UseFits u
use_parts (key.ChainUse n) (low.ChainUse left right ls rs hops) u e f =
    subst UseFits (same_Some _ u e) (of_item left right ls rs hops n f.1.item (same_Some _ f.1.item f.1.is) f.1.writable.in_range)
use_parts (key.ChainUse n) (low.Instance is) u e f = absurd (none_some u e)
use_parts (key.ChainUse n) (low.AttachPort p i a b) u e f = absurd (none_some u e)
use_parts (key.ChainUse n) (low.AttachCircuit p i a) u e f = absurd (none_some u e)
use_parts (key.ChainUse n) (low.Acl s r) u e f = absurd (none_some u e)
use_parts (key.Instance n) v u e f = absurd (none_some u e)
use_parts (key.Attach n) v u e f = absurd (none_some u e)
use_parts (key.Acl n m) v u e f = absurd (none_some u e)

use_fits : (feed : Map) (u : Use) → AllFit feed → Member u (uses feed) → UseFits u
use_fits feed u fit m =
    let q = from_filter_map (λ (e : LowKey × LowValue). as_use e.0 e.1) u (objects feed) m in
    use_parts q.0.0 q.0.1 u q.2 (fit (Low q.0.0) (Object q.0.1) (object_of feed q.0.0 q.0.1 q.1))

side_blocks : (s : Side) → UseFits s.chain → list_all is_block (subnets s) ≡ true
side_blocks s u = elim s.is_right as (λ b. list_all is_block (cond b s.chain.right_subnets s.chain.left_subnets) ≡ true) [ true ↦ u.right | false ↦ u.left ]

-- ---- paths
record IsTypedPath (p : Path) : Type 0 where
  prefix : IsTrue (is_block p.prefix)
  next_hop : p.next_hop.0 < 2 ^ 32

record IsTypedRoute (p : Path) : Type 0 where
  path : IsTypedPath p
  rd : p.rd.0 < 2 ^ 64
  target : Target
  targets : p.targets ≡ target ∷ []

module _ (h : Holdings) (f : HeldFit h) where
  own_typed : (p : Path) → Member p (own_paths h) → IsTypedRoute p
  own_typed p m =
      let o = own_route_from h p m in
      let a = all_at AgentFits o.agent h.agents f.agents o.told in
      let e = a.map (Publish o.instance p.prefix) (Label p.label) o.publishes in
      record {
        path = record { prefix = e.typed; next_hop = subst (λ (x : Addr). x.0 < 2 ^ 32) (sym o.next_hop) a.address };
        rd = subst (λ (x : Rd). x.0 < 2 ^ 64) (sym o.rd) (distinguisher_small o.agent.address o.instance a.address (instance_small o.instance e.fits.0));
        target = target_of h.asn o.instance;
        targets = o.targets;
      }

  led_typed : (p : Path) → Member p (reoriginated_paths h) → IsTypedRoute p
  led_typed p m =
      let o = reoriginated_from h p m in
      let u = use_fits h.feed o.side.chain f.feed (side_use h.feed o.side o.held) in
      let by : IsPublishedHere h p.next_hop p.label = published_here h (circuit_at o.side (suc o.depth)) p.next_hop p.label o.published in
      let a = all_at AgentFits by.agent h.agents f.agents by.told in
      let next_hop : p.next_hop.0 < 2 ^ 32 = subst (λ (x : Addr). x.0 < 2 ^ 32) by.at a.address in
      record {
        path = record { prefix = list_member is_block p.prefix (subnets o.side) (side_blocks o.side u) o.subnet; next_hop = next_hop };
        rd = subst (λ (x : Rd). x.0 < 2 ^ 64) (sym o.rd) (distinguisher_small p.next_hop (hop_at o.side (suc o.depth)) next_hop (hop_small o.side (suc o.depth) u.number u.services (next o.depth o.side.chain.services o.within)));
        target = target_of h.asn (hop_at o.side (suc o.depth));
        targets = o.targets;
      }
    where
      next : (d n : ℕ) → d < n → suc d ≤ n
      next d n h = omega arith

  told_typed : (p : Path) → Member p (own_paths h ++ reoriginated_paths h) → IsTypedRoute p
  told_typed p m = elim (in_either p (own_paths h) (reoriginated_paths h) m) as (λ _. IsTypedRoute p) [ inl l ↦ own_typed p l | inr r ↦ led_typed p r ]

  -- ---- towards peers
  pub peers_want : Values {R = key_cmp} FitsPeer (wanted_by_peers h)
  peers_want k v e =
      let q = from_map route_entry (k, v) (own_paths h ++ reoriginated_paths h) (from_entry key_total key_exact k v (map route_entry (own_paths h ++ reoriginated_paths h)) e) in
      let p = q.0 in
      let held : get (wanted_by_peers h) (route_entry p).0 ≡ Some (route_entry p).1 = subst (λ (e : Key × Value). get (wanted_by_peers h) e.0 ≡ Some e.1) (sym q.2) e in
      let t = told_typed p q.1 in
      let block = and_parts (is_prefix p.prefix.addr p.prefix.len) (nat_lt p.prefix.addr (2 ^ 32)) t.path.prefix in
      let name : VpnKey = record { rd = p.rd; prefix = p.prefix } in
      let route : VpnRoute = record { next_hop = p.next_hop; label = p.label; targets = p.targets } in
      let writable : IsWritable route = peers_fit h f.asn (holdings_fit h f) name route held in
      let numbers : FitsItsTypes name = record { distinguisher = t.rd; address = ltb-true p.prefix.addr (2 ^ 32) block.1; prefix = block.0 } in
      let typed : RouteFitsItsTypes route = record { next_hop = t.path.next_hop; ascending = subst IsAscending (sym t.targets) tt } in
      subst (λ (e : Key × Value). FitsPeer e.0 e.1) q.2 (writable, (numbers, typed))

  -- ---- towards an agent
  peer_typed : (p : Path) → Member p (peer_paths h) → IsTypedPath p
  peer_typed p m =
      let q = from_flat_map (λ (p : ℕ × Map). filter_map (λ e. peer_path p.0 e.0 e.1) (entries p.1)) p (enumerate_from 1 h.peers) m in
      let e = from_filter_map (λ (e : Key × Value). peer_path q.0.0 e.0 e.1) p (entries q.0.1) q.2 in
      of_route q.0.0 e.0.0 e.0.1 p e.2
      (all_at (Values {R = key_cmp} FitsPeer) q.0.1 h.peers f.peers (numbered 1 h.peers q.0 q.1) e.0.0 e.0.1 (get_member key_total q.0.1 e.0.0 e.0.1 e.1))
    where
      of_route : (session : ℕ) (k : Key) (v : Value) (p : Path) → peer_path session k v ≡ Some p → FitsPeer k v → IsTypedPath p
      of_route session (Vpn k) (Route r) p e t = subst IsTypedPath (same_Some _ p e) (record { prefix = and_from _ _ t.1.0.prefix (lt k.prefix.addr t.1.0.address); next_hop = t.1.1.next_hop })
        where
          lt : (n : ℕ) → n < 2 ^ 32 → nat_lt n (2 ^ 32) ≡ true
          lt n h = lt-ltb n (2 ^ 32) h
      of_route session _ _ p e t = absurd t

  path_typed : (i : InstanceId) (p : Path) → Member p (paths_of h i) → IsTypedPath p
  path_typed i p m =
      elim (in_either p (received h i) (filter (has_target (target_of h.asn i ∷ [])) (reoriginated_paths h)) m) as (λ _. IsTypedPath p) [
        | inl l ↦
            let q = from_filter (has_target (map (target_of h.asn) (imports h.feed i))) p (own_paths h ++ peer_paths h) l in
            elim (in_either p (own_paths h) (peer_paths h) q.0) as (λ _. IsTypedPath p) [ inl own ↦ (own_typed p own).path | inr told ↦ peer_typed p told ]
        | inr r ↦ (led_typed p (from_filter (has_target (target_of h.asn i ∷ [])) p (reoriginated_paths h) r).0).path
      ]

  in_slice : (address : Addr) (k : LowKey) (v : LowValue) → is_in_slice h.feed address k v ≡ true → MayTell From.Control (Low k)
  in_slice address (key.Attach label) v e = tt
  in_slice address (key.Acl from to) v e = tt
  in_slice address (key.Instance n) v e = absurd (true≢false (sym e))
  in_slice address (key.ChainUse n) v e = absurd (true≢false (sym e))

  abbrev objects_for : Told → List (Key × Value)
  objects_for a = map slice_entry (slice h.feed a.address)

  abbrev rows_for : Told → List (Key × Value)
  rows_for a = flat_map (rows_of h) (subscriptions a.map)

  pub agent_wants : (a : Told) → AgentFits a → Values {R = key_cmp} (FitsItem From.Control) (wanted_by_agent h a)
  agent_wants a told k v e = record { fits = agents_fit h a (holdings_fit h f) (λ k v is. (told.map k v is).fits) k v e; typed = parts.0; may = parts.1 }
    where
      of_object : Member (k, v) (objects_for a) → IsTyped (Put k v) × MayTell From.Control k
      of_object m =
          let q = from_map slice_entry (k, v) (slice h.feed a.address) m in
          let inner = from_filter (λ (e : LowKey × LowValue). is_in_slice h.feed a.address e.0 e.1) q.0 (objects h.feed) q.1 in
          subst (λ (e : Key × Value). IsTyped (Put e.0 e.1) × MayTell From.Control e.0) q.2 (tt, in_slice a.address q.0.0 q.0.1 inner.1)

      of_row : Member (k, v) (rows_for a) → IsTyped (Put k v) × MayTell From.Control k
      of_row m =
          let q = from_flat_map (rows_of h) (k, v) (subscriptions a.map) m in
          let t = from_map (row_of_path q.0) (k, v) (entries (table h q.0)) q.2 in
          let least = selected_least (paths_of h q.0) t.0.0 t.0.1 (get_member prefix_total (table h q.0) t.0.0 t.0.1 t.1) in
          let p = path_typed q.0 t.0.1 least.member in
          let block : IsTrue (is_block t.0.0) = subst (λ (b : Block). IsTrue (is_block b)) least.prefix_is p.prefix in
          subst (λ (e : Key × Value). IsTyped (Put e.0 e.1) × MayTell From.Control e.0) t.2 ((block, address_is t.0.1.next_hop p.next_hop), tt)

      parts : IsTyped (Put k v) × MayTell From.Control k
      parts = elim (in_either (k, v) (objects_for a) (rows_for a) (from_entry key_total key_exact k v ((objects_for a) ++ (rows_for a)) e)) as (λ _. IsTyped (Put k v) × MayTell From.Control k) [ inl m ↦ of_object m | inr m ↦ of_row m ]
