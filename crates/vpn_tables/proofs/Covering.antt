-- The keys and rows that are listed cover what a change touches.
use Rattle.std.specs.Prelude.{◌≡◌, ◌≢◌, ℕ, zero, suc, List, [], map, Bool, true, false, cond}
use Rattle.std.specs.declared.option.Option.{Option}
use Rattle.std.specs.declared.option.Option.TheVariants.{Some, None}
use Rattle.std.specs.List.{cons_option, filter}
use Rattle.std.specs.FinMap.{get}
use Rattle.std.proofs.Common.{refl, sym, ◌∙◌, ap, subst, inl, inr}
use Rattle.ov_types.specs.Prefix.{Block}
use Rattle.ov_types.specs.declared.keys.UpKey.{UpKey}
use Rattle.ov_types.specs.declared.keys.UpKey.TheVariants as Up
use Rattle.ov_types.specs.declared.numbers.InstanceId.{InstanceId}
use Rattle.ov_types.specs.declared.numbers.Label.{Label as LabelNo}
use Rattle.ov_types.specs.declared.targets.Target.{Target}
use Rattle.ov_types.specs.declared.vpn.VpnKey.{VpnKey}
use Rattle.ov_types.specs.declared.vpn.VpnRoute.{VpnRoute}
use Rattle.ov_sync.specs.declared.Delta.{Delta}
use Rattle.ov_sync.specs.declared.Delta.TheVariants.{Put, Drop}
use Rattle.ov_sync.specs.Keyed.{key_of}
use Rattle.route_targets.specs.Numbers.{distinguisher_of}
use Rattle.node_model.specs.Keys.{Key, Low, Vpn, Row, Publish, Subscribe, of_up}
use Rattle.node_model.specs.Members.{Member}
use Rattle.node_model.specs.Paths.{Holdings, Path, Told, own_path, peer_path}
use Rattle.node_model.specs.Reaching.{AreShort, Side, below, circuit_at, hop_at, into, is_up, publisher, sides, sides_of, subnets, towards}
use Rattle.node_model.specs.Tables.{table}
use Rattle.node_model.specs.Uses.{is_known, uses}
use Rattle.node_model.specs.Values.{Value, Object, Route, Entry, Label}
use Rattle.node_model.specs.Wants.{wanted_by_peers}
use Rattle.node_model.proofs.Members.{from_flat_map, in_either, in_filter, in_flat_map, in_map, member_when}
use Rattle.node_model.proofs.Objects.{side_use}
use Rattle.vpn_holdings.specs.Changes.{with_publication, with_route}
use Rattle.vpn_holdings.specs.Leading.{leads}
use Rattle.vpn_holdings.specs.Moved.{map_at, moved_by, moved_by_publication, moved_by_route, targets_by_publication, targets_by_route, told_as, told_on}
use Rattle.vpn_holdings.specs.Touched.{is_touched, rows_by_key}
use Rattle.vpn_tables.specs.PeerKeys.{IsTouchedKey}
use Rattle.vpn_holdings.specs.TouchedKeys.{always, key_published, keys_along, keys_led, may_lead, path_key, published_key}
use Rattle.vpn_tables.proofs.TouchedByChanges as touching
use Rattle.vpn_tables.proofs.TouchedByChanges.{publication_rows, subscription_rows}
use Rattle.vpn_tables.proofs.Wanted.{at_row}

-- ---- a route that leads on may lead on
may_follow : (h : Holdings) (s : Side) (p : Path) → Member p (leads h s) → Member p (may_lead h s)
may_follow h s p m =
    let at_d = from_flat_map (into (is_up h) h s) p (below s.chain.services) m in
    let d = at_d.0 in
    let to = towards h (hop_at s (suc d)) in
    let by = publisher h (circuit_at s (suc d)) in
    let of_subnet = from_flat_map (λ subnet. cond (is_up h s subnet d) (towards h (hop_at s (suc d)) subnet (publisher h (circuit_at s (suc d)))) []) p (subnets s) at_d.2 in
    let w = member_when (is_up h s of_subnet.0 d) p (to of_subnet.0 by) of_subnet.2 in
    in_flat_map (into always h s) d p (below s.chain.services) at_d.1
    (in_flat_map (λ subnet. cond (always s subnet d) (towards h (hop_at s (suc d)) subnet (publisher h (circuit_at s (suc d)))) []) of_subnet.0 p (subnets s) of_subnet.1 w.1)

its_side : (s : Side) → Member s (sides_of s.chain)
its_side s = by_side s.is_right refl
  where
    by_side : (b : Bool) → s.is_right ≡ b → Member s (sides_of s.chain)
    by_side true e = inl (λ i. record { chain = s.chain; is_right = sym e i })
    by_side false e = inr (inl (λ i. record { chain = s.chain; is_right = sym e i }))

key_led : (h : Holdings) (targets : List Target) (s : Side) (p : Path) → Member s (sides h.feed) → is_touched h targets s.chain ≡ true → Member p (leads h s) → Member (path_key p) (keys_led h targets)
key_led h targets s p m t l =
    in_flat_map (keys_along h) s.chain (path_key p) (filter (is_touched h targets) (uses h.feed))
    (in_filter (is_touched h targets) s.chain (uses h.feed) (side_use h.feed s m) t)
    (in_flat_map (λ s. map path_key (may_lead h s)) s (path_key p) (sides_of s.chain) (its_side s) (in_map path_key p (may_lead h s) (may_follow h s p l)))

abbrev vpn_in : Key → VpnKey → VpnKey
vpn_in (Vpn k) d = k
vpn_in (Low k) d = d
vpn_in (Row i q) d = d
vpn_in (Publish i q) d = d
vpn_in (Subscribe i) d = d

one_key : (p : Path) (k : VpnKey) → Vpn (path_key p) ≡ Vpn k → path_key p ≡ k
one_key p k e = ap (λ x. vpn_in x k) e

-- ---- the paths that moved
route_key : (s : ℕ) (k : VpnKey) (o : Option Value) (p : Path) → Member p (told_as (peer_path s) (Vpn k) o) → path_key p ≡ k
route_key s k None p m = absurd m
route_key s k (Some (Route r)) p (inl e) = ap path_key (sym e)
route_key s k (Some (Route r)) p (inr m) = absurd m
route_key s k (Some (Object o)) p m = absurd m
route_key s k (Some (Entry e)) p m = absurd m
route_key s k (Some (Label l)) p m = absurd m

moved_route : (h : Holdings) (session : ℕ) (d : Delta VpnKey VpnRoute) (p : Path) → Member p (moved_by_route h session d) → path_key p ≡ key_of d
moved_route h zero d p m = absurd m
moved_route h (suc place) (Put k r) p m =
    elim (in_either p (told_as (peer_path (suc place)) (Vpn k) (get (map_at h.peers place) (Vpn k))) (told_as (peer_path (suc place)) (Vpn k) (Some (Route r))) m) as (λ _. path_key p ≡ k) [
      | inl l ↦ route_key (suc place) k (get (map_at h.peers place) (Vpn k)) p l
      | inr l ↦ route_key (suc place) k (Some (Route r)) p l
    ]
moved_route h (suc place) (Drop k) p m =
    elim (in_either p (told_as (peer_path (suc place)) (Vpn k) (get (map_at h.peers place) (Vpn k))) [] m) as (λ _. path_key p ≡ k) [
      | inl l ↦ route_key (suc place) k (get (map_at h.peers place) (Vpn k)) p l
      | inr l ↦ absurd l
    ]

own_key : (h : Holdings) (a : Told) (k : UpKey) (o : Option Value) (p : Path) → Member p (told_as (own_path h a) (of_up k) o) → published_key (Some a) k ≡ Some (path_key p)
own_key h a k None p m = absurd m
own_key h a (Up.Subscribe i) (Some v) p m = absurd m
own_key h a (Up.Publish i x) (Some (Route r)) p m = absurd m
own_key h a (Up.Publish i x) (Some (Object o)) p m = absurd m
own_key h a (Up.Publish i x) (Some (Entry e)) p m = absurd m
own_key h a (Up.Publish i x) (Some (Label l)) p m = known (is_known h.feed i) _ refl m
  where
    known : (b : Bool) (q : Path) → path_key q ≡ record { rd = distinguisher_of a.address i; prefix = x } → Member p (cons_option (cond b (Some q) None) []) → Some (record { rd = distinguisher_of a.address i; prefix = x }) ≡ Some (path_key p)
    known true q e (inl is) = ap Some (sym e ∙ ap path_key is)
    known true q e (inr n) = absurd n
    known false q e n = absurd n

pub moved_publication : (h : Holdings) (session : ℕ) (d : Delta UpKey LabelNo) (p : Path) → Member p (moved_by_publication h session d) → key_published h session (key_of d) ≡ Some (path_key p)
moved_publication h session d p m = of_agent (told_on h.agents session) d m
  where
    of_agent : (o : Option Told) (d : Delta UpKey LabelNo) → Member p (moved_by h o d) → published_key o (key_of d) ≡ Some (path_key p)
    of_agent None d m = absurd m
    of_agent (Some a) (Put k l) m =
        elim (in_either p (told_as (own_path h a) (of_up k) (get a.map (of_up k))) (told_as (own_path h a) (of_up k) (Some (Label l))) m) as (λ _. published_key (Some a) k ≡ Some (path_key p)) [
          | inl n ↦ own_key h a k (get a.map (of_up k)) p n
          | inr n ↦ own_key h a k (Some (Label l)) p n
        ]
    of_agent (Some a) (Drop k) m =
        elim (in_either p (told_as (own_path h a) (of_up k) (get a.map (of_up k))) [] m) as (λ _. published_key (Some a) k ≡ Some (path_key p)) [
          | inl n ↦ own_key h a k (get a.map (of_up k)) p n
          | inr n ↦ absurd n
        ]

-- ---- what is listed covers what is touched
pub route_keys : (h : Holdings) (session : ℕ) (d : Delta VpnKey VpnRoute) → AreShort h.feed → (k : VpnKey) → k ≢ key_of d
    → (Member k (keys_led h (targets_by_route h session d)) → ⊥) → (Member k (keys_led (with_route h session d) (targets_by_route h session d)) → ⊥)
    → get (wanted_by_peers h) (Vpn k) ≡ get (wanted_by_peers (with_route h session d)) (Vpn k)
route_keys h zero d short k apart before after = refl
route_keys h (suc place) d short k apart before after =
    touching.route_keys h (suc place) d short (Vpn k) none
  where
    none : IsTouchedKey (moved_by_route h (suc place) d) (targets_by_route h (suc place) d) h (with_route h (suc place) d) (Vpn k) → ⊥
    none t =
        let is = one_key t.path k t.key_is in
        elim t.stands as (λ _. ⊥) [
          | inl m ↦ apart (sym is ∙ moved_route h (suc place) d t.path m)
          | inr l ↦
              elim l.3 as (λ _. ⊥) [
                | inl m ↦ before (subst (λ (x : VpnKey). Member x (keys_led h (targets_by_route h (suc place) d))) is (key_led h (targets_by_route h (suc place) d) l.0 t.path l.1 l.2 m))
                | inr m ↦ after (subst (λ (x : VpnKey). Member x (keys_led (with_route h (suc place) d) (targets_by_route h (suc place) d))) is (key_led (with_route h (suc place) d) (targets_by_route h (suc place) d) l.0 t.path l.1 l.2 m))
              ]
        ]

pub publication_keys : (h : Holdings) (session : ℕ) (d : Delta UpKey LabelNo) → AreShort h.feed → (k : VpnKey) → key_published h session (key_of d) ≢ Some k
    → (Member k (keys_led h (targets_by_publication h session d)) → ⊥) → (Member k (keys_led (with_publication h session d) (targets_by_publication h session d)) → ⊥)
    → get (wanted_by_peers h) (Vpn k) ≡ get (wanted_by_peers (with_publication h session d)) (Vpn k)
publication_keys h session d short k apart before after =
    touching.publication_keys h session d short (Vpn k) none
  where
    none : IsTouchedKey (moved_by_publication h session d) (targets_by_publication h session d) h (with_publication h session d) (Vpn k) → ⊥
    none t =
        let is = one_key t.path k t.key_is in
        elim t.stands as (λ _. ⊥) [
          | inl m ↦ apart (moved_publication h session d t.path m ∙ ap Some is)
          | inr l ↦
              elim l.3 as (λ _. ⊥) [
                | inl m ↦ before (subst (λ (x : VpnKey). Member x (keys_led h (targets_by_publication h session d))) is (key_led h (targets_by_publication h session d) l.0 t.path l.1 l.2 m))
                | inr m ↦ after (subst (λ (x : VpnKey). Member x (keys_led (with_publication h session d) (targets_by_publication h session d))) is (key_led (with_publication h session d) (targets_by_publication h session d) l.0 t.path l.1 l.2 m))
              ]
        ]

pub publication_rows_by_key : (h : Holdings) (session : ℕ) (d : Delta UpKey LabelNo) → AreShort h.feed → (i : InstanceId) (q : Block)
    → (Member (at_row i q) (rows_by_key h (targets_by_publication h session d) (key_of d)) → ⊥) → get (table h i) q ≡ get (table (with_publication h session d) i) q
publication_rows_by_key h session d short i q clean = by_key (key_of d) refl clean
  where
    by_key : (k : UpKey) → key_of d ≡ k → (Member (at_row i q) (rows_by_key h (targets_by_publication h session d) k) → ⊥) → get (table h i) q ≡ get (table (with_publication h session d) i) q
    by_key (Up.Publish j prefix) e clean = publication_rows h session d j prefix short e i q clean
    by_key (Up.Subscribe j) e clean = subscription_rows h session d j short e i q
