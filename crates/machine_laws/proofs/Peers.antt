-- The re-originated routes of the compiled holdings, and what peers tell.
use Rattle.std.specs.FinMap.{entries, get}
use Rattle.std.specs.List.{enumerate_from, filter_map, flat_map}
use Rattle.std.specs.Prelude.{Bool, List, cond, is_some, map, suc, true, ℕ, [], ◌+◌, ◌<◌, ◌∷◌, ◌≡◌}
use Rattle.std.specs.declared.option.Option.TheVariants.{None, Some}
use Rattle.std.specs.declared.option.Option.{Option}
use Rattle.std.proofs.Common.{ap, inl, inr, refl, subst, sym, ◌∙◌}
use Rattle.std.proofs.lemmas.Bool.{true≢false}
use Rattle.std.proofs.lemmas.Option.{same_Some}
use Rattle.ov_types.specs.Prefix.{Block}
use Rattle.ov_types.specs.declared.numbers.InstanceId.{InstanceId}
use Rattle.ov_types.specs.declared.numbers.Label.{Label as LabelNo}
use Rattle.ov_types.specs.declared.numbers.Rd.{Rd}
use Rattle.ov_types.specs.declared.prefix.Addr.{Addr}
use Rattle.ov_types.specs.declared.vpn.VpnKey.{VpnKey}
use Rattle.route_targets.specs.Numbers.{distinguisher_of, target_of}
use Rattle.node_laws.specs.NodeModel.Keys.{Key, Low, Publish, Row, Subscribe, Vpn}
use Rattle.node_laws.specs.NodeModel.Maps.{Map}
use Rattle.node_laws.specs.NodeModel.Members.{Member}
use Rattle.node_laws.specs.NodeModel.Paths.{Holdings, Path, own_paths, peer_path, peer_paths}
use Rattle.node_laws.specs.NodeModel.Ranks.{instance_in}
use Rattle.node_laws.specs.NodeModel.Reaching.{Side, below, circuit_at, hop_at, into, network, publisher, reoriginated_by, sides, subnets, towards}
use Rattle.node_laws.specs.NodeModel.Values.{Value}
use Rattle.node_laws.specs.NodeModel.Wants.{route_entry}
use Rattle.node_laws.proofs.NodeModel.Members.{entry_in, from_entry, from_filter_map, from_flat_map, from_map, get_member, in_either, in_filter_map, in_flat_map, in_map, member_get, member_when}
use Rattle.node_laws.proofs.NodeModel.Orders.{key_exact, key_total}
use Rattle.node_laws.proofs.NodeModel.Places.{instance_in-distinguisher}
use Rattle.node_laws.proofs.NodeModel.Routes.{from_below, in_below}
use Rattle.node_laws.proofs.NodeModel.Locality.{vpn_key, towards_of}
use Rattle.machine_laws.specs.Compiled.{Agents, compiled_holdings, compiled_routes, holds, leads_on, local, told_to_peers}
use Rattle.machine_laws.specs.Sound.{IsSound}
use Rattle.node_laws.proofs.NodeModel.Local.{known_small}
use Rattle.machine_laws.proofs.Numbers.{circuit_at-instance}
use Rattle.machine_laws.proofs.Told.{IsAggregate, IsTold, own_is_host, pair, publisher_is}

-- ---- re-originated routes
pub towards_is : (h : Holdings) (i : InstanceId) (subnet : Block) (o : Option (Addr × LabelNo)) (p : Path) → Member p (towards h i subnet o) → (by : Addr × LabelNo) × (o ≡ Some by) × (towards_of h.asn i subnet by ≡ p)
towards_is h i subnet None p m = absurd m
towards_is h i subnet (Some by) p m = elim m as (λ _. (b : Addr × LabelNo) × (Some by ≡ Some b) × (towards_of h.asn i subnet b ≡ p)) [ inl e ↦ (by, refl, e) | inr n ↦ absurd n ]

-- each is of a subnet that holds a port, towards a circuit
pub reoriginated_is : (asn : ℕ) (feed : Map) (agents : Agents) (p : Path) → Member p (reoriginated_by (leads_on feed) (local asn feed agents)) → IsAggregate asn feed p
reoriginated_is asn feed agents p m =
    let h = local asn feed agents in
    let of_side = from_flat_map (λ s. flat_map (into (leads_on feed) h s) (below s.chain.services)) p (sides feed) m in
    let s = of_side.0 in
    let of_place = from_flat_map (into (leads_on feed) h s) p (below s.chain.services) of_side.2 in
    let d = of_place.0 in
    let i = hop_at s (suc d) in
    let of_subnet = from_flat_map (λ subnet. cond (holds feed (network s) subnet) (towards h i subnet (publisher h (circuit_at s (suc d)))) []) p (subnets s) of_place.2 in
    let when = member_when (holds feed (network s) of_subnet.0) p (towards h i of_subnet.0 (publisher h (circuit_at s (suc d)))) of_subnet.2 in
    let t = towards_is h i of_subnet.0 (publisher h (circuit_at s (suc d))) p when.1 in
    let c = publisher_is feed agents (circuit_at s (suc d)) t.0 t.1 in
    let at : c.to.instance ≡ i = c.instance ∙ circuit_at-instance s (suc d) in
    record {
      side = s;
      of_use = of_side.1;
      d = d;
      within = from_below s.chain.services d of_place.1;
      subnet = subst (λ (p : Path). Member p.prefix (subnets s)) t.2 of_subnet.1;
      held = subst (λ (p : Path). holds feed (network s) p.prefix ≡ true) t.2 when.0;
      to = c.to;
      attached = c.attached;
      instance = at;
      circuit = c.prefix;
      rd = ap (λ (p : Path). p.rd) (sym t.2) ∙ (λ k. distinguisher_of (c.node k) (sym at k));
      next_hop = ap (λ (p : Path). p.next_hop) (sym t.2) ∙ c.node;
      label = ap (λ (p : Path). p.label) (sym t.2) ∙ c.label;
      targets = ap (λ (p : Path). p.targets) (sym t.2) ∙ ap (λ (n : InstanceId). target_of asn n ∷ []) (sym at);
    }

towards_found : (h : Holdings) (i : InstanceId) (subnet : Block) (o : Option (Addr × LabelNo)) → is_some o ≡ true → (p : Path) × Member p (towards h i subnet o) × (p.prefix ≡ subnet) × (p.targets ≡ target_of h.asn i ∷ [])
towards_found h i subnet None e = absurd (true≢false (sym e))
towards_found h i subnet (Some by) e = (towards_of h.asn i subnet by, inl refl, refl, refl)

-- and each such route is there where the circuit is published
pub reoriginated_found : (f : Side → Block → ℕ → Bool) (h : Holdings) (s : Side) (d : ℕ) (subnet : Block) → Member s (sides h.feed) → d < s.chain.services → Member subnet (subnets s) → f s subnet d ≡ true
    → is_some (publisher h (circuit_at s (suc d))) ≡ true → (p : Path) × Member p (reoriginated_by f h) × (p.prefix ≡ subnet) × (p.targets ≡ target_of h.asn (hop_at s (suc d)) ∷ [])
reoriginated_found f h s d subnet m below_k m' holds' pub' =
    let i = hop_at s (suc d) in
    let t = towards_found h i subnet (publisher h (circuit_at s (suc d))) pub' in (
      t.0,
      in_flat_map (λ s. flat_map (into f h s) (below s.chain.services)) s t.0 (sides h.feed) m
          (in_flat_map (into f h s) d t.0 (below s.chain.services) (in_below s.chain.services d below_k)
          (in_flat_map (λ subnet. cond (f s subnet d) (towards h i subnet (publisher h (circuit_at s (suc d)))) []) subnet t.0 (subnets s) m'
          (subst (λ b. Member t.0 (cond b (towards h i subnet (publisher h (circuit_at s (suc d)))) [])) (sym holds') t.1))),
      t.2,
      t.3,
    )

pub routes_told : (asn : ℕ) (feed : Map) (agents : Agents) (p : Path) → Member p (compiled_routes asn feed agents) → IsTold asn feed p
routes_told asn feed agents p m =
    elim (in_either p (own_paths (local asn feed agents)) (reoriginated_by (leads_on feed) (local asn feed agents)) m) as (λ _. IsTold asn feed p) [
      | inl l ↦ inl (own_is_host asn feed agents p l)
      | inr r ↦ inr (reoriginated_is asn feed agents p r)
    ]

-- ---- what peers tell
abbrev vpn_at : Path → Key
vpn_at p = Vpn (vpn_key p)

abbrev as_vpn : Key → Option VpnKey
as_vpn (Vpn k) = Some k
as_vpn (Low k) = None
as_vpn (Row i p) = None
as_vpn (Publish i p) = None
as_vpn (Subscribe i) = None

same_vpn : (p q : Path) → vpn_at p ≡ vpn_at q → (p.rd ≡ q.rd) × (p.prefix ≡ q.prefix)
same_vpn p q e =
    let s : ◌≡◌ {A = VpnKey} (vpn_key p) (vpn_key q) = same_Some (vpn_key p) (vpn_key q) (ap as_vpn e) in
    (ap (λ (x : VpnKey). x.rd) s, ap (λ (x : VpnKey). x.prefix) s)

peer_path_is : (session : ℕ) (k : Key) (v : Value) (p : Path) → peer_path session k v ≡ Some p → (q : Path) → route_entry q ≡ pair k v → record q { session = session } ≡ p
peer_path_is session k v p e q f = same_Some (record q { session = session }) p (ap (λ (x : Key × Value). peer_path session x.0 x.1) f ∙ e)

abbrev at_session : ℕ → Path → Path
at_session n q = record q { session = n }

told_again : (asn : ℕ) (feed : Map) (q : Path) (n : ℕ) → IsTold asn feed q → IsTold asn feed (at_session n q)
told_again asn feed q n (inl t) = inl (record { to = t.to; attached = t.attached; prefix = t.prefix; rd = t.rd; next_hop = t.next_hop; label = t.label; targets = t.targets })
told_again asn feed q n (inr t) = inr (record {
  side = t.side;
  of_use = t.of_use;
  d = t.d;
  within = t.within;
  subnet = t.subnet;
  held = t.held;
  to = t.to;
  attached = t.attached;
  instance = t.instance;
  circuit = t.circuit;
  rd = t.rd;
  next_hop = t.next_hop;
  label = t.label;
  targets = t.targets;
})

from_enumerate : {X : Type 0} (n : ℕ) (x : ℕ × X) (xs : List X) → Member x (enumerate_from n xs) → Member x.1 xs
from_enumerate n x [] m = absurd m
from_enumerate n x (y ∷ xs) (inl e) = inl (ap (λ (x : ℕ × _). x.1) e)
from_enumerate n x (y ∷ xs) (inr m) = inr (from_enumerate (n + 1) x xs m)

pub in_enumerate : {X : Type 0} (n : ℕ) (x : X) (xs : List X) → Member x xs → (m : ℕ) × Member (m, x) (enumerate_from n xs)
in_enumerate n x [] m = absurd m
in_enumerate n x (y ∷ xs) (inl e) = (n, inl (λ i. (n, e i)))
in_enumerate n x (y ∷ xs) (inr m) = let q = in_enumerate (n + 1) x xs m in (q.0, inr q.1)

pub peers_told : (asn : ℕ) (feed : Map) (agents : Agents) (peers : List Agents) (p : Path) → Member p (peer_paths (compiled_holdings asn feed agents peers)) → IsTold asn feed p
peers_told asn feed agents peers p m =
    let maps = map (told_to_peers asn feed) peers in
    let q = from_flat_map (λ (p : ℕ × Map). filter_map (λ e. peer_path p.0 e.0 e.1) (entries p.1)) p (enumerate_from 1 maps) m in
    let o = from_map (told_to_peers asn feed) q.0.1 peers (from_enumerate 1 q.0 maps q.1) in
    let e = from_filter_map (λ (e : Key × Value). peer_path q.0.0 e.0 e.1) p (entries q.0.1) q.2 in
    let held : get (told_to_peers asn feed o.0) e.0.0 ≡ Some e.0.1 = ap (λ (m : Map). get m e.0.0) o.2 ∙ get_member key_total q.0.1 e.0.0 e.0.1 e.1 in
    let r = from_map route_entry (pair e.0.0 e.0.1) (compiled_routes asn feed o.0) (from_entry key_total key_exact e.0.0 e.0.1 (map route_entry (compiled_routes asn feed o.0)) held) in
    subst (IsTold asn feed) (peer_path_is q.0.0 e.0.0 e.0.1 p e.2 r.0 r.2) (told_again asn feed r.0 q.0.0 (routes_told asn feed o.0 r.0 r.1))

-- a route that a peer tells is there, though with another value where it has more of that key
pub peers_found : (asn : ℕ) (feed : Map) (agents : Agents) (peers : List Agents) (o : Agents) (q : Path) → Member o peers → Member q (compiled_routes asn feed o)
    → (p : Path) × Member p (peer_paths (compiled_holdings asn feed agents peers)) × (p.prefix ≡ q.prefix) × (p.rd ≡ q.rd)
peers_found asn feed agents peers o q m r =
    let maps = map (told_to_peers asn feed) peers in
    let told = told_to_peers asn feed o in
    let e = entry_in key_total (route_entry q) (map route_entry (compiled_routes asn feed o)) (in_map route_entry q (compiled_routes asn feed o) r) in
    let back = from_map route_entry (pair (vpn_at q) e.0) (compiled_routes asn feed o) (from_entry key_total key_exact (vpn_at q) e.0 (map route_entry (compiled_routes asn feed o)) e.1) in
    let n = in_enumerate 1 told maps (in_map (told_to_peers asn feed) o peers m) in
    let p = at_session n.0 back.0 in
    let keys = same_vpn back.0 q (ap (λ (x : Key × Value). x.0) back.2) in (
      p,
      in_flat_map (λ (p : ℕ × Map). filter_map (λ e. peer_path p.0 e.0 e.1) (entries p.1)) (n.0, told) p (enumerate_from 1 maps) n.1
          (in_filter_map (λ (e : Key × Value). peer_path n.0 e.0 e.1) (pair (vpn_at q) e.0) p (entries told) (member_get key_total key_exact told (vpn_at q) e.0 e.1)
          (ap (λ (x : Key × Value). peer_path n.0 x.0 x.1) (sym back.2))),
      keys.1,
      keys.0,
    )

-- ---- the target goes by the distinguisher
pub host_target : (asn : ℕ) (feed : Map) (p : Path) → IsSound feed → IsTold asn feed p → p.targets ≡ target_of asn (instance_in p.rd) ∷ []
host_target asn feed p sound (inl t) = t.targets ∙ ap (λ (n : InstanceId). target_of asn n ∷ []) (sym (ap instance_in t.rd ∙ instance_in-distinguisher t.to.node t.to.instance (known_small feed t.to.instance sound.ordered (sound.known t.to t.attached))))
host_target asn feed p sound (inr t) = t.targets ∙ ap (λ (n : InstanceId). target_of asn n ∷ []) (sym (ap instance_in t.rd ∙ instance_in-distinguisher t.to.node t.to.instance (known_small feed t.to.instance sound.ordered (sound.known t.to t.attached))))

pub same_target_by_rd : (asn : ℕ) (feed : Map) (p q : Path) → IsSound feed → IsTold asn feed p → IsTold asn feed q → p.rd ≡ q.rd → p.targets ≡ q.targets
same_target_by_rd asn feed p q sound t r e = host_target asn feed p sound t ∙ ap (λ (n : Rd). target_of asn (instance_in n) ∷ []) e ∙ sym (host_target asn feed q sound r)
