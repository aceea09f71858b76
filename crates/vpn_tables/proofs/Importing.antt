-- What is touched, from above: only rows that import, and only targets that stand before a change or after it.
use Rattle.std.specs.Prelude.{◌≡◌, ◌⊎◌, ◌↔◌, ℕ, suc, List, [], ◌++◌, map, length, true, cond, ◌==◌, is_some}
use Rattle.std.specs.declared.option.Option.{Option}
use Rattle.std.specs.declared.option.Option.TheVariants.{Some, None}
use Rattle.std.specs.List.{filter, flat_map, list_any}
use Rattle.std.specs.FinMap.{get}
use Rattle.std.proofs.lemmas.Bool.{eq-eqb, eqb-true}
use Rattle.std.proofs.Common.{refl, sym, ◌∙◌, ap, subst, inl, inr}
use Rattle.ov_types.specs.Prefix.{Block}
use Rattle.ov_types.specs.declared.keys.UpKey.{UpKey}
use Rattle.ov_types.specs.declared.keys.UpKey.TheVariants as Up
use Rattle.ov_types.specs.declared.numbers.InstanceId.{InstanceId}
use Rattle.ov_types.specs.declared.numbers.Label.{Label as LabelNo}
use Rattle.ov_types.specs.declared.targets.Target.{Target}
use Rattle.ov_types.specs.declared.vpn.VpnKey.{VpnKey}
use Rattle.ov_types.specs.declared.vpn.VpnRoute.{VpnRoute}
use Rattle.ov_sync.specs.declared.Delta.{Delta}
use Rattle.ov_sync.specs.declared.Delta.TheVariants.{Put, Drop}
use Rattle.ov_sync.specs.Keyed.{key_of}
use Rattle.route_targets.specs.Numbers.{target_of}
use Rattle.node_model.proofs.Members.{any_in, from_any, from_filter, from_flat_map, from_map, in_either, in_filter, in_flat_map, in_left, in_map, in_right}
use Rattle.node_model.specs.Keys.{Vpn, Publish}
use Rattle.node_model.specs.Values.{Value, Object, Route, Entry, Label}
use Rattle.node_model.specs.Maps.{Map}
use Rattle.node_model.specs.Members.{Member}
use Rattle.node_model.specs.Uses.{Use, imports, uses}
use Rattle.node_model.specs.Paths.{Holdings, Path, Told, peer_path}
use Rattle.node_model.specs.Tables.{known_instances}
use Rattle.vpn_holdings.specs.Listing.{hops}
use Rattle.vpn_holdings.specs.Moved.{place_by, place_in, target_at, targets_by_publication, targets_by_route, told_as, told_on}
use Rattle.vpn_holdings.specs.Touched.{imports_one, is_touched, rows_at_use, touched, touched_rows}
use Rattle.vpn_tables.specs.Importing.{ImportsOneOf, IsAlongUse, IsAtPrefix, IsOfPublication, IsOfRoute, PutsOrDrops, held_of, route_put}
use Rattle.vpn_tables.proofs.RowsCounted.{counted}
use Rattle.vpn_tables.proofs.TouchedByChanges.{no_rows}

-- ---- instances that import
same_target : (t u : Target) → (t.0 == u.0) ≡ true → t ≡ u
same_target t u e = ap (λ n. record { 0 = n }) (eqb-true t.0 u.0 e)

import_found : (h : Holdings) (targets : List Target) (i : InstanceId) → imports_one h targets i ≡ true → ImportsOneOf h targets i
import_found h targets i e =
    let own = map (target_of h.asn) (imports h.feed i) in
    let found = from_any (λ (t : Target). list_any (λ u. t.0 == u.0) own) targets e in
    let meets = from_any (λ (u : Target). found.0.0 == u.0) own found.2 in
    let origin = from_map (target_of h.asn) meets.0 (imports h.feed i) meets.1 in
    let same : found.0 ≡ target_of h.asn origin.0 = same_target found.0 meets.0 meets.2 ∙ sym origin.2 in
    record { import = origin.0; imported = origin.1; targeted = subst (λ t. Member t targets) same found.1 }

import_is : (h : Holdings) (targets : List Target) (i : InstanceId) → ImportsOneOf h targets i → imports_one h targets i ≡ true
import_is h targets i p =
    let own = map (target_of h.asn) (imports h.feed i) in
    let t = target_of h.asn p.import in
    any_in (λ (t : Target). list_any (λ u. t.0 == u.0) own) t targets p.targeted
    (any_in (λ (u : Target). t.0 == u.0) t own (in_map (target_of h.asn) p.import (imports h.feed i) p.imported) (eq-eqb t.0 t.0 refl))

-- ---- rows
module _ (h : Holdings) (targets : List Target) (prefix : Block) (i : InstanceId) (q : Block) where
  abbrev at_prefix : InstanceId → InstanceId × Block
  at_prefix i = (i, prefix)

  abbrev importing : List InstanceId
  importing = filter (imports_one h targets) (known_instances h.feed)

  abbrev along : List Use
  along = filter (is_touched h targets) (uses h.feed)

  subnet_of : (u : Use) → Member q (u.left_subnets ++ u.right_subnets) → Member q u.left_subnets ⊎ Member q u.right_subnets
  subnet_of u m = in_either q u.left_subnets u.right_subnets m

  of_subnets : (u : Use) → Member q u.left_subnets ⊎ Member q u.right_subnets → Member q (u.left_subnets ++ u.right_subnets)
  of_subnets u (inl m) = in_left q u.left_subnets u.right_subnets m
  of_subnets u (inr m) = in_right q u.left_subnets u.right_subnets m

  row_of_prefix : Member (i, q) (map at_prefix importing) → IsAtPrefix h targets prefix i q
  row_of_prefix m =
      let o = from_map at_prefix (i, q) importing m in
      let is : o.0 ≡ i = ap (λ (r : InstanceId × Block). r.0) o.2 in
      let f = from_filter (imports_one h targets) o.0 (known_instances h.feed) o.1 in
      record {
        known = subst (λ j. Member j (known_instances h.feed)) is f.0;
        importing = subst (ImportsOneOf h targets) is (import_found h targets o.0 f.1);
        prefix_is = ap (λ (r : InstanceId × Block). r.1) o.2;
      }

  row_of_use : Member (i, q) (flat_map rows_at_use along) → IsAlongUse h targets i q
  row_of_use m =
      let o = from_flat_map rows_at_use (i, q) along m in
      let u = o.0 in
      let f = from_filter (is_touched h targets) u (uses h.feed) o.1 in
      let touches = from_any (imports_one h targets) (hops u) f.1 in
      let at = from_flat_map (λ (j : InstanceId). map (λ (subnet : Block). (j, subnet)) (u.left_subnets ++ u.right_subnets)) (i, q) (hops u) o.2 in
      let of = from_map (λ (subnet : Block). (at.0, subnet)) (i, q) (u.left_subnets ++ u.right_subnets) at.2 in
      record {
        chain = u;
        held = f.0;
        hop = touches.0;
        has_hop = touches.1;
        importing = import_found h targets touches.0 touches.2;
        place = subst (λ j. Member j (hops u)) (ap (λ (r : InstanceId × Block). r.0) of.2) at.1;
        subnet = subnet_of u (subst (λ p. Member p (u.left_subnets ++ u.right_subnets)) (ap (λ (r : InstanceId × Block). r.1) of.2) of.1);
      }

  is_row : IsAtPrefix h targets prefix i q ⊎ IsAlongUse h targets i q → Member (i, q) (touched_rows h targets prefix)
  is_row (inl p) =
      in_left (i, q) (map at_prefix importing) (flat_map rows_at_use along)
      (subst (λ b. Member (i, b) (map at_prefix importing)) p.prefix_is
      (in_map at_prefix i importing (in_filter (imports_one h targets) i (known_instances h.feed) p.known (import_is h targets i p.importing))))
  is_row (inr p) =
      in_right (i, q) (map at_prefix importing) (flat_map rows_at_use along)
      (in_flat_map rows_at_use p.chain (i, q) along
      (in_filter (is_touched h targets) p.chain (uses h.feed) p.held (any_in (imports_one h targets) p.hop (hops p.chain) p.has_hop (import_is h targets p.hop p.importing)))
      (in_flat_map (λ (j : InstanceId). map (λ (subnet : Block). (j, subnet)) (p.chain.left_subnets ++ p.chain.right_subnets)) i (i, q) (hops p.chain) p.place
      (in_map (λ (subnet : Block). (i, subnet)) q (p.chain.left_subnets ++ p.chain.right_subnets) (of_subnets p.chain p.subnet))))

  row_is : Member (i, q) (touched_rows h targets prefix) → IsAtPrefix h targets prefix i q ⊎ IsAlongUse h targets i q
  row_is m = elim (in_either (i, q) (map at_prefix importing) (flat_map rows_at_use along) m) as (λ _. IsAtPrefix h targets prefix i q ⊎ IsAlongUse h targets i q) [
    | inl l ↦ inl (row_of_prefix l)
    | inr r ↦ inr (row_of_use r)
  ]

pub rows_that_import : (h : Holdings) (targets : List Target) (prefix : Block) (i : InstanceId) (q : Block) → Member (i, q) (touched_rows h targets prefix) ↔ (IsAtPrefix h targets prefix i q ⊎ IsAlongUse h targets i q)
rows_that_import h targets prefix i q = (row_is h targets prefix i q, is_row h targets prefix i q)

-- ---- targets of a route
abbrev of_paths : List Path → List Target
of_paths ps = flat_map (λ (p : Path). p.targets) ps

from_route : (s : ℕ) (k : VpnKey) (o : Option Value) (t : Target) → Member t (of_paths (told_as (peer_path s) (Vpn k) o)) → IsOfRoute o t
from_route s k None t m = absurd m
from_route s k (Some (Object o)) t m = absurd m
from_route s k (Some (Entry e)) t m = absurd m
from_route s k (Some (Label l)) t m = absurd m
from_route s k (Some (Route r)) t m = record {
  route = r;
  stands = refl;
  has = elim (in_either t r.targets [] m) as (λ _. Member t r.targets) [ inl h ↦ h | inr n ↦ absurd n ];
}

to_route : (s : ℕ) (k : VpnKey) (o : Option Value) (t : Target) → IsOfRoute o t → Member t (of_paths (told_as (peer_path s) (Vpn k) o))
to_route s k o t p = subst (λ (o : Option Value). Member t (of_paths (told_as (peer_path s) (Vpn k) o))) (sym p.stands) (in_left t p.route.targets [] p.has)

split : (t : Target) (ps qs : List Path) → Member t (of_paths (ps ++ qs)) → Member t (of_paths ps) ⊎ Member t (of_paths qs)
split t ps qs m =
    let f = from_flat_map (λ (p : Path). p.targets) t (ps ++ qs) m in
    elim (in_either f.0 ps qs f.1) as (λ _. Member t (of_paths ps) ⊎ Member t (of_paths qs)) [
      | inl l ↦ inl (in_flat_map (λ (p : Path). p.targets) f.0 t ps l f.2)
      | inr r ↦ inr (in_flat_map (λ (p : Path). p.targets) f.0 t qs r f.2)
    ]

join : (t : Target) (ps qs : List Path) → Member t (of_paths ps) ⊎ Member t (of_paths qs) → Member t (of_paths (ps ++ qs))
join t ps qs (inl m) = let f = from_flat_map (λ (p : Path). p.targets) t ps m in in_flat_map (λ (p : Path). p.targets) f.0 t (ps ++ qs) (in_left f.0 ps qs f.1) f.2
join t ps qs (inr m) = let f = from_flat_map (λ (p : Path). p.targets) t qs m in in_flat_map (λ (p : Path). p.targets) f.0 t (ps ++ qs) (in_right f.0 ps qs f.1) f.2

module _ (h : Holdings) (place : ℕ) (t : Target) where
  abbrev told_of : VpnKey → Option Value → List Path
  told_of k o = told_as (peer_path (suc place)) (Vpn k) o

  route_has : (d : Delta VpnKey VpnRoute) → Member t (targets_by_route h (suc place) d) → IsOfRoute (held_of h place (key_of d)) t ⊎ IsOfRoute (route_put d) t
  route_has (Put k r) m = elim (split t (told_of k (held_of h place k)) (told_of k (Some (Route r))) m) as (λ _. IsOfRoute (held_of h place k) t ⊎ IsOfRoute (Some (Route r)) t) [
    | inl l ↦ inl (from_route (suc place) k (held_of h place k) t l)
    | inr n ↦ inr (from_route (suc place) k (Some (Route r)) t n)
  ]
  route_has (Drop k) m = elim (split t (told_of k (held_of h place k)) [] m) as (λ _. IsOfRoute (held_of h place k) t ⊎ IsOfRoute None t) [
    | inl l ↦ inl (from_route (suc place) k (held_of h place k) t l)
    | inr n ↦ absurd n
  ]

  has_route : (d : Delta VpnKey VpnRoute) → IsOfRoute (held_of h place (key_of d)) t ⊎ IsOfRoute (route_put d) t → Member t (targets_by_route h (suc place) d)
  has_route (Put k r) (inl p) = join t (told_of k (held_of h place k)) (told_of k (Some (Route r))) (inl (to_route (suc place) k (held_of h place k) t p))
  has_route (Put k r) (inr p) = join t (told_of k (held_of h place k)) (told_of k (Some (Route r))) (inr (to_route (suc place) k (Some (Route r)) t p))
  has_route (Drop k) (inl p) = join t (told_of k (held_of h place k)) [] (inl (to_route (suc place) k (held_of h place k) t p))
  has_route (Drop k) (inr p) = none p.stands
    where
      none : None ≡ Some (Route p.route) → Member t (targets_by_route h (suc place) (Drop k))
      none e = cc

pub targets_of_route : (h : Holdings) (place : ℕ) (d : Delta VpnKey VpnRoute) (t : Target) → Member t (targets_by_route h (suc place) d) ↔ (IsOfRoute (held_of h place (key_of d)) t ⊎ IsOfRoute (route_put d) t)
targets_of_route h place d t = (route_has h place t d, has_route h place t d)

-- ---- targets of a publication
module _ (asn : ℕ) (t : Target) where
  -- by what one agent told
  record OfAgent (m : Map) (d : Delta UpKey LabelNo) : Type 0 where
    instance : InstanceId
    prefix : Block
    key_is : key_of d ≡ Up.Publish instance prefix
    changes : PutsOrDrops m d instance prefix
    target : target_of asn instance ≡ t

  one_target : (i : InstanceId) → Member t (target_at asn (Some i)) → target_of asn i ≡ t
  one_target i (inl e) = e
  one_target i (inr n) = absurd n

  of_drop : (m : Map) (i : InstanceId) (p : Block) (o : Option Value) → get m (Publish i p) ≡ o → Member t (target_at asn (cond (is_some o) (Some i) None)) → OfAgent m (Drop (Up.Publish i p))
  of_drop m i p None e n = absurd n
  of_drop m i p (Some v) e n = record { instance = i; prefix = p; key_is = refl; changes = (v, e); target = one_target i n }

  from_agent : (m : Map) (d : Delta UpKey LabelNo) → Member t (target_at asn (place_in m d)) → OfAgent m d
  from_agent m (Put (Up.Publish i p) l) n = record { instance = i; prefix = p; key_is = refl; changes = tt; target = one_target i n }
  from_agent m (Put (Up.Subscribe i) l) n = absurd n
  from_agent m (Drop (Up.Publish i p)) n = of_drop m i p (get m (Publish i p)) refl n
  from_agent m (Drop (Up.Subscribe i)) n = absurd n

  unlike : (i : InstanceId) (p : Block) (j : InstanceId) → Up.Subscribe j ≡ Up.Publish i p → ⊥
  unlike i p j e = cc

  same_instance : (i j : InstanceId) (p q : Block) → Up.Publish i p ≡ Up.Publish j q → i ≡ j
  same_instance i j p q e = cc

  same_block : (i j : InstanceId) (p q : Block) → Up.Publish i p ≡ Up.Publish j q → p ≡ q
  same_block i j p q e = cc

  to_agent : (m : Map) (d : Delta UpKey LabelNo) → OfAgent m d → Member t (target_at asn (place_in m d))
  to_agent m (Put (Up.Publish i p) l) a = inl (ap (target_of asn) (same_instance i a.instance p a.prefix a.key_is) ∙ a.target)
  to_agent m (Put (Up.Subscribe i) l) a = absurd (unlike a.instance a.prefix i a.key_is)
  to_agent m (Drop (Up.Publish i p)) a =
      let is = same_instance i a.instance p a.prefix a.key_is in
      let held : get m (Publish i p) ≡ Some a.changes.0 = (λ k. get m (Publish (is k) (same_block i a.instance p a.prefix a.key_is k))) ∙ a.changes.1 in
      subst (λ (o : Option Value). Member t (target_at asn (cond (is_some o) (Some i) None))) (sym held) (inl (ap (target_of asn) is ∙ a.target))
  to_agent m (Drop (Up.Subscribe i)) a = absurd (unlike a.instance a.prefix i a.key_is)

module _ (h : Holdings) (session : ℕ) (d : Delta UpKey LabelNo) (t : Target) where
  publication_has : (o : Option Told) → told_on h.agents session ≡ o → Member t (target_at h.asn (place_by o d)) → IsOfPublication h session d t
  publication_has None e m = absurd m
  publication_has (Some a) e m =
      let o = from_agent h.asn t a.map d m in
      record { agent = a; instance = o.instance; prefix = o.prefix; told = e; key_is = o.key_is; changes = o.changes; target = o.target }

  has_publication : IsOfPublication h session d t → Member t (targets_by_publication h session d)
  has_publication p =
      subst (λ (o : Option Told). Member t (target_at h.asn (place_by o d))) (sym p.told)
      (to_agent h.asn t p.agent.map d (record { instance = p.instance; prefix = p.prefix; key_is = p.key_is; changes = p.changes; target = p.target }))

pub targets_of_publication : (h : Holdings) (session : ℕ) (d : Delta UpKey LabelNo) (t : Target) → Member t (targets_by_publication h session d) ↔ IsOfPublication h session d t
targets_of_publication h session d t = (publication_has h session d t (told_on h.agents session) refl, has_publication h session d t)

-- ---- a drop of what is not there
untouched : (h : Holdings) → touched h [] ≡ 0
untouched h = sym (counted h [] any_block) ∙ ap (λ rows. length rows) (no_rows h any_block)
  where
    any_block : Block
    any_block = record { addr = 0; len = 0 }

pub no_route_dropped : (h : Holdings) (place : ℕ) (k : VpnKey) → held_of h place k ≡ None → touched h (targets_by_route h (suc place) (Drop k)) ≡ 0
no_route_dropped h place k e = ap (λ (o : Option Value). touched h (of_paths (told_as (peer_path (suc place)) (Vpn k) o ++ []))) e ∙ untouched h

pub no_publication_dropped : (h : Holdings) (session : ℕ) (i : InstanceId) (prefix : Block) (a : Told) → told_on h.agents session ≡ Some a → get a.map (Publish i prefix) ≡ None → touched h (targets_by_publication h session (Drop (Up.Publish i prefix))) ≡ 0
no_publication_dropped h session i prefix a e g =
    ap (λ (o : Option Told). touched h (target_at h.asn (place_by o (Drop (Up.Publish i prefix))))) e
    ∙ ap (λ (o : Option Value). touched h (target_at h.asn (cond (is_some o) (Some i) None))) g ∙ untouched h
