-- What is gathered of a prefix's routes and publications are the paths of an instance that it received.
use Rattle.std.specs.Prelude.{◌≡◌, ◌↔◌, ℕ, zero, suc, ◌+◌, List, [], ◌∷◌, ◌++◌, Bool, true, false, cond, ◌==◌, Some, None}
use Rattle.std.specs.declared.option.Option.{Option}
use Rattle.std.specs.Option.{option_map}
use Rattle.std.specs.BTreeMap.{BTreeMap, IsOrdered}
use Rattle.std.specs.List.{enumerate_from, filter, filter_map}
use Rattle.std.specs.FinMap.{entries, get, get-empty}
use Rattle.std.proofs.lemmas.Bool.{eqb-true}
use Rattle.std.proofs.lemmas.Map.Views.{btree_map_get_iff}
use Rattle.std.proofs.lemmas.Option.{same_Some}
use Rattle.std.proofs.Common.{refl, sym, ◌∙◌, ap, subst, inl, inr, arith}
use Rattle.ov_types.specs.Prefix.{Block}
use Rattle.ov_types.specs.declared.numbers.InstanceId.{InstanceId}
use Rattle.ov_types.specs.declared.numbers.Label.{Label as LabelNo}
use Rattle.ov_types.specs.declared.keys.UpKey.TheVariants as Up
use Rattle.ov_types.specs.declared.prefix.Addr.{Addr}
use Rattle.ov_types.specs.declared.targets.Target.{Target}
use Rattle.ov_types.specs.declared.vpn.VpnRoute.{VpnRoute}
use Rattle.route_targets.specs.Numbers.{distinguisher_of, target_of}
use Rattle.path_select.specs.NodeModel.Keys.{Key, Low, Vpn, Row, Publish, Subscribe, key_cmp}
use Rattle.path_select.specs.NodeModel.Maps.{Map, as_label}
use Rattle.path_select.specs.NodeModel.Members.{Member}
use Rattle.path_select.specs.NodeModel.Paths as model
use Rattle.path_select.specs.NodeModel.Paths.{Holdings, Told, has_target, own_path, own_paths, peer_path, peer_paths, received}
use Rattle.path_select.specs.NodeModel.Tables.{of_prefix, same_prefix}
use Rattle.path_select.specs.NodeModel.Uses.{is_known}
use Rattle.path_select.specs.NodeModel.Values.{Value, Object, Route, Entry, Label}
use Rattle.path_select.proofs.NodeModel.Members.{contains_of, from_filter, from_filter_map, from_flat_map, from_map, get_member, in_either, in_filter, in_filter_map, in_flat_map, in_left, in_map, in_right, member_get, member_of, none_some}
use Rattle.path_select.proofs.NodeModel.Orders.{key_exact, key_total}
use Rattle.path_select.specs.declared.selection.Path.{Path}
use Rattle.path_select.specs.Selection.{plain}
use Rattle.vpn_holdings.specs.Listing.{told_in}
use Rattle.vpn_holdings.specs.Moved.{map_at}
use Rattle.vpn_holdings.specs.Indexed.{AreInOrder, AreLabels, AreRoutes, as_route, block_at, has_one, if_told, is_label_to, is_route_to, label_at, label_in, label_order, label_path, path_of_label, path_of_route, published_at, received_at, route_at, route_in, route_of, route_order, route_path, told_by_peer, vpn_key, wanted_by}
use Rattle.vpn_holdings.specs.declared.places.LabelAt.{LabelAt}
use Rattle.vpn_holdings.specs.declared.places.RouteAt.{RouteAt}
use Rattle.vpn_holdings.proofs.AgentsIndexed.{found_by_session}
use Rattle.vpn_holdings.proofs.PrefixOrder.{label_exact, label_total, route_exact, route_total}

-- ---- values
route_from : (o : Option Value) (r : VpnRoute) → as_route o ≡ Some r → o ≡ Some (Route r)
route_from None r e = absurd (none_some r e)
route_from (Some (Route s)) r e = ap (λ s. Some (Route s)) (same_Some s r e)
route_from (Some (Object o)) r e = absurd (none_some r e)
route_from (Some (Entry o)) r e = absurd (none_some r e)
route_from (Some (Label o)) r e = absurd (none_some r e)

label_from : (o : Option Value) (l : LabelNo) → as_label o ≡ Some l → o ≡ Some (Label l)
label_from None l e = absurd (none_some l e)
label_from (Some (Label s)) l e = ap (λ s. Some (Label s)) (same_Some s l e)
label_from (Some (Object o)) l e = absurd (none_some l e)
label_from (Some (Entry o)) l e = absurd (none_some l e)
label_from (Some (Route o)) l e = absurd (none_some l e)

when_some : {X : Type 0} (b : Bool) (o : Option X) (x : X) → cond b o None ≡ Some x → (b ≡ true) × (o ≡ Some x)
when_some true o x e = (refl, e)
when_some false o x e = absurd (none_some x e)

-- ---- places with their prefixes
told_there : {X : Type 0} (b c : Block) (o : Option X) → if_told b o ≡ Some c → b ≡ c
told_there b c None e = absurd (none_some c e)
told_there b c (Some x) e = same_Some b c e

abbrev route_shown : RouteAt → VpnRoute → Path
route_shown k r = record { session = k.session; rd = k.rd; next_hop = r.next_hop; label = r.label }

record OfRoute (w : List Target) (k : RouteAt) (o : Option VpnRoute) (x : Path) : Type 0 where
  route : VpnRoute
  is : o ≡ Some route
  has : has_one w route.targets ≡ true
  shows : route_shown k route ≡ x

of_route : (w : List Target) (k : RouteAt) (o : Option VpnRoute) (x : Path) → path_of_route w k o ≡ Some x → OfRoute w k o x
of_route w k None x e = absurd (none_some x e)
of_route w k (Some r) x e =
    let b = when_some (has_one w r.targets) (Some (route_shown k r)) x e in
    record { route = r; is = refl; has = b.0; shows = same_Some (route_shown k r) x b.1 }

abbrev label_shown : LabelAt → Addr → LabelNo → Path
label_shown k address l = record { session = k.session; rd = distinguisher_of address k.instance; next_hop = address; label = l }

record OfLabel (k : LabelAt) (address : Addr) (o : Option LabelNo) (x : Path) : Type 0 where
  label : LabelNo
  is : o ≡ Some label
  shows : label_shown k address label ≡ x

of_label : (k : LabelAt) (address : Addr) (o : Option LabelNo) (x : Path) → path_of_label k (option_map (λ (l : LabelNo). (address, l)) o) ≡ Some x → OfLabel k address o x
of_label k address None x e = absurd (none_some x e)
of_label k address (Some l) x e = record { label = l; is = refl; shows = same_Some (label_shown k address l) x e }

-- ---- the maps of peers, by session
in_numbered : (s n : ℕ) (maps : List Map) (place : ℕ) (k : Key) (v : Value) → s ≡ n + place → get (map_at maps place) k ≡ Some v → Member (s, map_at maps place) (enumerate_from n maps)
in_numbered s n [] place k v e h = absurd (none_some v (sym (get-empty key_cmp k) ∙ h))
in_numbered s n (m ∷ maps) zero k v e h = inl (λ i. (sym (here n s e) i, m))
  where
    here : (n s : ℕ) → s ≡ n + zero → s ≡ n
    here n s e = omega (arith, e)
in_numbered s n (m ∷ maps) (suc place) k v e h = inr (in_numbered s (n + 1) maps place k v (further n place s e) h)
  where
    further : (n p s : ℕ) → s ≡ n + suc p → s ≡ n + 1 + p
    further n p s e = omega (arith, e)

record Numbered (maps : List Map) (n s : ℕ) (m : Map) : Type 0 where
  place : ℕ
  session : s ≡ n + place
  is : map_at maps place ≡ m

from_numbered : (s n : ℕ) (maps : List Map) (m : Map) → Member (s, m) (enumerate_from n maps) → Numbered maps n s m
from_numbered s n [] m h = absurd h
from_numbered s n (x ∷ maps) m (inl e) = record { place = 0; session = sym (ap (λ (p : ℕ × Map). p.0) e) ∙ none n; is = ap (λ (p : ℕ × Map). p.1) e }
  where
    none : (n : ℕ) → n ≡ n + 0
    none n = omega arith
from_numbered s n (x ∷ maps) m (inr h) = let q = from_numbered s (n + 1) maps m h in record { place = suc q.place; session = q.session ∙ more n q.place; is = q.is }
  where
    more : (n p : ℕ) → n + 1 + p ≡ n + suc p
    more n p = omega arith

-- ---- the agent of a session
told_member : (agents : List Told) (n : ℕ) (k : Key) (v : Value) → get (told_in agents n).map k ≡ Some v → Member (told_in agents n) agents × ((told_in agents n).session ≡ n)
told_member [] n k v h = absurd (none_some v (sym (get-empty key_cmp k) ∙ h))
told_member (a ∷ agents) n k v h =
    elim (a.session == n) as (λ t. (a.session == n) ≡ t → get (cond t a (told_in agents n)).map k ≡ Some v → Member (cond t a (told_in agents n)) (a ∷ agents) × ((cond t a (told_in agents n)).session ≡ n)) [
      | true ↦ λ t _. (inl refl, eqb-true a.session n t)
      | false ↦ λ _ h. let q = told_member agents n k v h in (inr q.0, q.1)
    ] refl h

module _ (h : Holdings) (i : InstanceId) (q : Block) where
  abbrev wanted : List Target
  wanted = wanted_by h i

  abbrev here : model.Path → Bool
  here p = same_prefix p.prefix q

  abbrev is_wanted : model.Path → Bool
  is_wanted = has_target wanted

  -- a path that was told, is wanted and is to the prefix
  told_here : (p : model.Path) → Member p (own_paths h ++ peer_paths h) → is_wanted p ≡ true → here p ≡ true → Member (plain p) (received_at h i q)
  told_here p m w t = in_map plain p (of_prefix q (received h i)) (in_filter here p (received h i) (in_filter is_wanted p (own_paths h ++ peer_paths h) m w) t)

  -- ---- routes of peers
  abbrev route_told_at : RouteAt × VpnRoute → model.Path
  route_told_at e = record { prefix = (vpn_key e.0).prefix; rd = e.0.rd; next_hop = e.1.next_hop; label = e.1.label; targets = e.1.targets; session = e.0.session }

  abbrev of_peer : ℕ × Map → List model.Path
  of_peer p = filter_map (λ e. peer_path p.0 e.0 e.1) (entries p.1)

  peer_member : (e : RouteAt × VpnRoute) (s : ℕ) → e.0.session ≡ s → get (told_by_peer h.peers s) (Vpn (vpn_key e.0)) ≡ Some (Route e.1) → Member (route_told_at e) (peer_paths h)
  peer_member e zero is got = absurd (none_some (Route e.1) (sym (get-empty key_cmp (Vpn (vpn_key e.0))) ∙ got))
  peer_member e (suc place) is got =
      let m = map_at h.peers place in
      in_flat_map of_peer (e.0.session, m) (route_told_at e) (enumerate_from 1 h.peers) (in_numbered e.0.session 1 h.peers place (Vpn (vpn_key e.0)) (Route e.1) (is ∙ first place) got)
      (in_filter_map (λ (x : Key × Value). peer_path e.0.session x.0 x.1) (Vpn (vpn_key e.0), Route e.1) (route_told_at e) (entries m) (member_get key_total key_exact m (Vpn (vpn_key e.0)) (Route e.1) got) refl)
    where
      first : (p : ℕ) → suc p ≡ 1 + p
      first p = omega arith

  module _ (routes : BTreeMap RouteAt Block) (kept : AreRoutes routes h.peers) (ordered : IsOrdered route_order routes) where
    abbrev to_prefix : RouteAt × Block → Bool
    to_prefix e = is_route_to q e.0

    abbrev routes_here : List Path
    routes_here = filter_map (route_path h wanted) (filter to_prefix routes.entries)

    pub route_is_received : (x : Path) → Member x routes_here → Member x (received_at h i q)
    route_is_received x m =
        let f = from_filter_map (route_path h wanted) x (filter to_prefix routes.entries) m in
        let e : RouteAt × Block = f.0 in
        let g = from_filter to_prefix e routes.entries f.1 in
        let got = (btree_map_get_iff route_total route_exact routes ordered e.0 e.1).1 (contains_of routes.entries e g.0) in
        let block : (vpn_key e.0).prefix ≡ e.1 = told_there (vpn_key e.0).prefix e.1 (route_in h.peers e.0) (sym (kept e.0) ∙ got) in
        let r = of_route wanted e.0 (route_of h.peers e.0.session (record { rd = e.0.rd; prefix = e.1 })) x f.2 in
        let d : RouteAt × VpnRoute = (e.0, r.route) in
        let raw = route_from (get (told_by_peer h.peers e.0.session) (Vpn (vpn_key e.0))) r.route (ap (λ (b : Block). route_of h.peers e.0.session (record { rd = e.0.rd; prefix = b })) block ∙ r.is) in
        subst (λ (y : Path). Member y (received_at h i q)) r.shows
        (told_here (route_told_at d) (in_right (route_told_at d) (own_paths h) (peer_paths h) (peer_member d e.0.session refl raw)) r.has g.1)

    peer_kept : (p : model.Path) (s : ℕ) (m : Map) (k : Key) (v : Value) → Member (s, m) (enumerate_from 1 h.peers) → Member (k, v) (entries m) → peer_path s k v ≡ Some p → is_wanted p ≡ true → here p ≡ true
        → Member (plain p) routes_here
    peer_kept p s m (Vpn k) (Route r) at there is w t =
        let n = from_numbered s 1 h.peers m at in
        let d : RouteAt × VpnRoute = (route_at s k, r) in
        let e : RouteAt × Block = (route_at s k, k.prefix) in
        let same : route_told_at d ≡ p = same_Some (route_told_at d) p is in
        let told : route_in h.peers d.0 ≡ Some r =
        ap (λ (s : ℕ). as_route (get (told_by_peer h.peers s) (Vpn k))) (n.session ∙ first n.place) ∙ ap (λ (m : Map). as_route (get m (Vpn k))) n.is ∙ ap as_route (get_member key_total m (Vpn k) (Route r) there) in
        let entry = member_of routes.entries e ((btree_map_get_iff route_total route_exact routes ordered e.0 e.1).0 (kept e.0 ∙ ap (if_told k.prefix) told)) in
        let shows : route_path h wanted e ≡ Some (plain (route_told_at d)) =
        ap (path_of_route wanted e.0) told ∙ ap (λ b. cond b (Some (plain (route_told_at d))) None) (ap is_wanted same ∙ w) in
        subst (λ (p : model.Path). Member (plain p) routes_here) same
        (in_filter_map (route_path h wanted) e (plain (route_told_at d)) (filter to_prefix routes.entries) (in_filter to_prefix e routes.entries entry (ap here same ∙ t)) shows)
      where
        first : (p : ℕ) → 1 + p ≡ suc p
        first p = omega arith
    peer_kept p s m (Vpn k) (Object o) at there is w t = absurd (none_some p is)
    peer_kept p s m (Vpn k) (Entry o) at there is w t = absurd (none_some p is)
    peer_kept p s m (Vpn k) (Label o) at there is w t = absurd (none_some p is)
    peer_kept p s m (Low k) v at there is w t = absurd (none_some p is)
    peer_kept p s m (Row j k) v at there is w t = absurd (none_some p is)
    peer_kept p s m (Publish j k) v at there is w t = absurd (none_some p is)
    peer_kept p s m (Subscribe j) v at there is w t = absurd (none_some p is)

    pub peers_kept : (p : model.Path) → Member p (peer_paths h) → is_wanted p ≡ true → here p ≡ true → Member (plain p) routes_here
    peers_kept p m w t =
        let u = from_flat_map of_peer p (enumerate_from 1 h.peers) m in
        let v = from_filter_map (λ (x : Key × Value). peer_path u.0.0 x.0 x.1) p (entries u.0.1) u.2 in
        peer_kept p u.0.0 u.0.1 v.0.0 v.0.1 u.1 v.1 v.2 w t

  -- ---- publications
  abbrev own_told_at : Told → LabelAt × LabelNo → model.Path
  own_told_at a e = record {
    prefix = block_at e.0;
    rd = distinguisher_of a.address e.0.instance;
    next_hop = a.address;
    label = e.1;
    targets = target_of h.asn e.0.instance ∷ [];
    session = a.session;
  }

  abbrev of_agent : Told → List model.Path
  of_agent a = filter_map (λ e. own_path h a e.0 e.1) (entries a.map)

  module _ (labels : BTreeMap LabelAt Block) (kept : AreLabels labels h.agents) (ordered : IsOrdered label_order labels) (order : AreInOrder h.agents) where
    abbrev label_to : LabelAt × Block → Bool
    label_to e = is_label_to q e.0

    abbrev labels_here : List Path
    labels_here = filter_map (label_path h wanted) (filter label_to labels.entries)

    abbrev has_target_of : InstanceId → Bool
    has_target_of j = has_one wanted (target_of h.asn j ∷ [])

    abbrev found_at : LabelAt × Block → Option Path
    found_at e = path_of_label e.0 (published_at (told_in h.agents e.0.session) (Up.Publish e.0.instance e.1))

    pub label_is_received : (x : Path) → Member x labels_here → Member x (received_at h i q)
    label_is_received x m =
        let f = from_filter_map (label_path h wanted) x (filter label_to labels.entries) m in
        let e : LabelAt × Block = f.0 in
        let a = told_in h.agents e.0.session in
        let k = Publish e.0.instance (block_at e.0) in
        let g = from_filter label_to e labels.entries f.1 in
        let got = (btree_map_get_iff label_total label_exact labels ordered e.0 e.1).1 (contains_of labels.entries e g.0) in
        let block : block_at e.0 ≡ e.1 = told_there (block_at e.0) e.1 (label_in h.agents e.0) (sym (kept e.0) ∙ got) in
        let known = when_some (is_known h.feed e.0.instance) (cond (has_target_of e.0.instance) (found_at e) None) x f.2 in
        let w = when_some (has_target_of e.0.instance) (found_at e) x known.1 in
        let l = of_label e.0 a.address (as_label (get a.map (Publish e.0.instance e.1))) x w.1 in
        let d : LabelAt × LabelNo = (e.0, l.label) in
        let raw = label_from (get a.map k) l.label (ap (λ (b : Block). as_label (get a.map (Publish e.0.instance b))) block ∙ l.is) in
        let there = told_member h.agents e.0.session k (Label l.label) raw in
        let own = in_flat_map of_agent a (own_told_at a d) h.agents there.0
        (in_filter_map (λ (y : Key × Value). own_path h a y.0 y.1) (k, Label l.label) (own_told_at a d) (entries a.map) (member_get key_total key_exact a.map k (Label l.label) raw)
        (ap (λ b. cond b (Some (own_told_at a d)) None) known.0)) in
        subst (λ (y : Path). Member y (received_at h i q)) ((λ n. record { session = there.1 n; rd = distinguisher_of a.address e.0.instance; next_hop = a.address; label = l.label }) ∙ l.shows)
        (told_here (own_told_at a d) (in_left (own_told_at a d) (own_paths h) (peer_paths h) own) w.0 g.1)

    own_kept : (p : model.Path) (a : Told) (k : Key) (v : Value) → Member a h.agents → Member (k, v) (entries a.map) → own_path h a k v ≡ Some p → is_wanted p ≡ true → here p ≡ true
        → Member (plain p) labels_here
    own_kept p a (Publish j b) (Label l) at there is w t =
        let d : LabelAt × LabelNo = (label_at a.session j b, l) in
        let e : LabelAt × Block = (label_at a.session j b, b) in
        let known = when_some (is_known h.feed j) (Some (own_told_at a d)) p is in
        let same : own_told_at a d ≡ p = same_Some (own_told_at a d) p known.1 in
        let found : told_in h.agents a.session ≡ a = found_by_session h.agents a order at in
        let value : as_label (get a.map (Publish j b)) ≡ Some l = ap as_label (get_member key_total a.map (Publish j b) (Label l) there) in
        let told : label_in h.agents e.0 ≡ Some l = ap (λ (x : Told). as_label (get x.map (Publish j b))) found ∙ value in
        let entry = member_of labels.entries e ((btree_map_get_iff label_total label_exact labels ordered e.0 e.1).0 (kept e.0 ∙ ap (if_told b) told)) in
        let shown : found_at e ≡ Some (plain (own_told_at a d)) =
        ap (λ (x : Told). path_of_label e.0 (published_at x (Up.Publish j b))) found ∙ ap (λ (o : Option LabelNo). path_of_label e.0 (option_map (λ (l : LabelNo). (a.address, l)) o)) value in
        let shows : label_path h wanted e ≡ Some (plain (own_told_at a d)) =
        ap (λ c. cond c (cond (has_target_of j) (found_at e) None) None) known.0 ∙ ap (λ c. cond c (found_at e) None) (ap is_wanted same ∙ w) ∙ shown in
        subst (λ (p : model.Path). Member (plain p) labels_here) same
        (in_filter_map (label_path h wanted) e (plain (own_told_at a d)) (filter label_to labels.entries) (in_filter label_to e labels.entries entry (ap here same ∙ t)) shows)
    own_kept p a (Publish j b) (Object o) at there is w t = absurd (none_some p is)
    own_kept p a (Publish j b) (Entry o) at there is w t = absurd (none_some p is)
    own_kept p a (Publish j b) (Route o) at there is w t = absurd (none_some p is)
    own_kept p a (Low k) v at there is w t = absurd (none_some p is)
    own_kept p a (Row j k) v at there is w t = absurd (none_some p is)
    own_kept p a (Vpn k) v at there is w t = absurd (none_some p is)
    own_kept p a (Subscribe j) v at there is w t = absurd (none_some p is)

    pub owns_kept : (p : model.Path) → Member p (own_paths h) → is_wanted p ≡ true → here p ≡ true → Member (plain p) labels_here
    owns_kept p m w t =
        let u = from_flat_map of_agent p h.agents m in
        let v = from_filter_map (λ (y : Key × Value). own_path h u.0 y.0 y.1) p (entries u.0.map) u.2 in
        own_kept p u.0 v.0.0 v.0.1 u.1 v.1 v.2 w t

  -- ---- both
  pub all_gathered : (routes : BTreeMap RouteAt Block) (labels : BTreeMap LabelAt Block) → AreRoutes routes h.peers → AreLabels labels h.agents → AreInOrder h.agents → IsOrdered route_order routes → IsOrdered label_order labels
      → (w : List Target) (none a b : List Path) → w ≡ wanted → none ≡ [] → a ≡ none ++ filter_map (route_path h w) (filter (λ e. is_route_to q e.0) routes.entries)
      → b ≡ a ++ filter_map (label_path h w) (filter (λ e. is_label_to q e.0) labels.entries) → (x : Path) → Member x b ↔ Member x (received_at h i q)
  all_gathered routes labels kept_routes kept_labels order ordered_routes ordered_labels w none a b ew en ea eb x =
      let rs = filter_map (route_path h wanted) (filter (λ (e : RouteAt × Block). is_route_to q e.0) routes.entries) in
      let ls = filter_map (label_path h wanted) (filter (λ (e : LabelAt × Block). is_label_to q e.0) labels.entries) in
      let is : b ≡ rs ++ ls =
      eb ∙ (λ n. (ea ∙ (λ n. en n ++ filter_map (route_path h (ew n)) (filter (λ (e : RouteAt × Block). is_route_to q e.0) routes.entries))) n ++ filter_map (label_path h (ew n)) (filter (λ (e : LabelAt × Block). is_label_to q e.0) labels.entries)) in (
        (λ m. elim (in_either x rs ls (subst (Member x) is m)) as (λ _. Member x (received_at h i q)) [
          | inl l ↦ route_is_received routes kept_routes ordered_routes x l
          | inr l ↦ label_is_received labels kept_labels ordered_labels order x l
        ]),
        (λ m.
            let f = from_map plain x (of_prefix q (received h i)) m in
            let g = from_filter here f.0 (received h i) f.1 in
            let v = from_filter is_wanted f.0 (own_paths h ++ peer_paths h) g.0 in
            subst (Member x) (sym is) (subst (λ (y : Path). Member y (rs ++ ls)) f.2
            (elim (in_either f.0 (own_paths h) (peer_paths h) v.0) as (λ _. Member (plain f.0) (rs ++ ls)) [
              | inl l ↦ in_right (plain f.0) rs ls (owns_kept labels kept_labels ordered_labels order f.0 l v.1 g.1)
              | inr l ↦ in_left (plain f.0) rs ls (peers_kept routes kept_routes ordered_routes f.0 l v.1 g.1)
            ]))),
      )
