-- UPDATEs, written and read again.
use Rattle.std.proofs.Common.{inl, ◌≡◌, ◌≤◌, ◌<◌, ◌^◌, ◌%◌, ℕ, ◌+◌, Bool, true, false, List, [], ◌∷◌, length, replicate, refl, sym, ap, ◌∙◌, arith, None}
use Rattle.std.specs.List.{flat_map, AllByRecursion}
use Rattle.std.proofs.lemmas.Bool.{le-ltb, le-leb}
use Rattle.std.proofs.lemmas.List.{append-nil, length-append}
use Rattle.ov_types.specs.declared.prefix.Addr.{Addr}
use Rattle.ov_types.specs.declared.numbers.Label.{Label}
use Rattle.ov_types.specs.declared.targets.Target.{Target}
use Rattle.ov_types.specs.declared.vpn.VpnKey.{VpnKey}
use Rattle.ov_types.specs.declared.vpn.VpnRoute.{VpnRoute}
use Rattle.ov_types.specs.Targets.{IsAscending}
use Rattle.ov_sync.specs.declared.Delta.{Delta}
use Rattle.ov_sync.specs.declared.Delta.TheVariants.{Put, Drop}
use Rattle.bgp_wire.specs.Attributes.{AttributeFields, attribute_octets, FitsItsLength}
use Rattle.bgp_vpn.specs.declared.reading.Reading.{Reading}
use Rattle.bgp_vpn.specs.Checks.{own_fault, update_fault}
use Rattle.bgp_vpn.specs.Routes.{route_octets, label_of}
use Rattle.bgp_vpn.specs.Values.{are_routes, next_hop_in, targets_in, withdrawn_octets}
use Rattle.bgp_vpn.specs.Updates.{Changes}
use Rattle.bgp_vpn.specs.Written.{FitsItsTypes, prefix_octets, route_of, label_field, withdrawn_field, attribute, origin, as_path, local_preference, written_reach, written_unreach, target_octets, communities_of, attributes_of, written_parts, MakesIt}
use Rattle.bgp_vpn.proofs.GrammarLemmas.{prefixes_test}
use Rattle.bgp_vpn.proofs.SpellingLemmas.{label_read, hop_read}
use Rattle.bgp_vpn.proofs.WrittenKeys.{key_read, route_alone, route_length}
use Rattle.bgp_vpn.proofs.WrittenTargets.{AreTargets, targets_read, targets_length}

abbrev plain : Bool → Reading
plain wide = record { wide = wide; routes_follow = false }

-- the attributes of a written UPDATE pass their checks
route_passes : (key : VpnKey) (field : ℕ) → FitsItsTypes key → are_routes (route_octets (route_of key field)) ≡ true
route_passes key field fits = prefixes_test 88 120 (route_octets (route_of key field)) (route_of key field ∷ []) (route_alone key field fits)

reach_length : (key : VpnKey) (route : VpnRoute) → FitsItsTypes key → length (written_reach key route) ≤ 33
reach_length key route fits = let short = route_length key (label_field route.label) fits in omega (arith, short)

reach_passes : (wide : Bool) (key : VpnKey) (route : VpnRoute) → FitsItsTypes key → own_fault (plain wide) (attribute 0x80 14 (written_reach key route)) ≡ None
reach_passes wide key route fits =
    let n : ℕ = length (written_reach key route) in
    let routes = route_passes key (label_field route.label) fits in
    let short = reach_length key route fits in
    rw (le-ltb n 5 (omega arith), le-ltb 65535 n (omega (arith, short)), le-leb 17 n (omega arith), routes) refl

unreach_length : (key : VpnKey) → FitsItsTypes key → length (written_unreach key) ≤ 19
unreach_length key fits = let short = route_length key withdrawn_field fits in omega (arith, short)

unreach_passes : (wide : Bool) (key : VpnKey) → FitsItsTypes key → own_fault (plain wide) (attribute 0x80 15 (written_unreach key)) ≡ None
unreach_passes wide key fits =
    let n : ℕ = length (written_unreach key) in
    let routes = route_passes key withdrawn_field fits in
    let short = unreach_length key fits in
    rw (le-ltb n 3 (omega arith), le-ltb 65535 n (omega (arith, short)), routes) refl

communities_pass : (wide : Bool) (ts : List Target) → length ts ≤ 31 → own_fault (plain wide) (attribute 0xC0 16 (flat_map target_octets ts)) ≡ None
communities_pass wide ts few =
    let n : ℕ = length (flat_map target_octets ts) in
    let len = targets_length ts in
    let eights : n % 8 ≡ 0 = omega (arith, len) in
    rw (le-ltb n 0 (omega arith), le-ltb 65535 n (omega (arith, len, few)), eights) refl

-- a change is what its UPDATE says
abbrev made : Delta VpnKey VpnRoute → Delta VpnKey VpnRoute
made d = d

abbrev route_to : Addr → Label → List Target → VpnRoute
route_to next_hop label targets = record { next_hop = next_hop; label = label; targets = targets }

pub drop_changes : (wide : Bool) (key : VpnKey) → FitsItsTypes key → Changes wide (written_parts (Drop key)) (Drop key ∷ [])
drop_changes wide key fits = record {
  attributes = attributes_of (Drop key);
  withdrawn = route_of key withdrawn_field ∷ [];
  reached = [];
  are = record { spelled = sym (append-nil _); fit = (omega (arith, unreach_length key fits), tt); ends = inl refl };
  passes = rw (unreach_passes wide key fits) refl;
  withdrawn_are = route_alone key withdrawn_field fits;
  reached_are = record { spelled = refl; each = tt };
  made = ap (λ (k : VpnKey). made (Drop k) ∷ []) (sym (key_read key withdrawn_field fits));
}

abbrev put_attributes : VpnKey → VpnRoute → List AttributeFields → List AttributeFields
put_attributes key route communities = origin ∷ as_path ∷ local_preference ∷ attribute 0x80 14 (written_reach key route) ∷ communities

put_passes : (wide : Bool) (key : VpnKey) (route : VpnRoute) (ts : List Target) → FitsItsTypes key → length ts ≤ 31
    → update_fault wide (written_parts (Put key route)) (put_attributes key route (communities_of ts)) [] ≡ None
put_passes wide key route [] fits few = rw (reach_passes wide key route fits) refl
put_passes wide key route (t ∷ ts) fits few = rw (reach_passes wide key route fits, communities_pass wide (t ∷ ts) few) refl

put_fit : (key : VpnKey) (route : VpnRoute) (ts : List Target) → FitsItsTypes key → length ts ≤ 31
    → AllByRecursion FitsItsLength (put_attributes key route (communities_of ts))
put_fit key route [] fits few = (omega arith, (omega arith, (omega arith, (omega (arith, reach_length key route fits), tt))))
put_fit key route (t ∷ ts) fits few =
    (omega arith, (omega arith, (omega arith, (omega (arith, reach_length key route fits), (omega (arith, targets_length (t ∷ ts), few), tt)))))

put_withdraws : (key : VpnKey) (route : VpnRoute) (ts : List Target) → withdrawn_octets (put_attributes key route (communities_of ts)) ≡ []
put_withdraws key route [] = refl
put_withdraws key route (t ∷ ts) = refl

put_targets : (key : VpnKey) (route : VpnRoute) (ts : List Target) → AreTargets ts → IsAscending ts
    → targets_in (put_attributes key route (communities_of ts)) ≡ ts
put_targets key route [] are ascending = refl
put_targets key route (t ∷ ts) are ascending = targets_read (t ∷ ts) are ascending

pub put_changes : (wide : Bool) (key : VpnKey) (route : VpnRoute) → FitsItsTypes key → route.next_hop.0 < 2 ^ 32 → route.label.0 < 2 ^ 20
    → IsAscending route.targets → length route.targets ≤ 31 → AreTargets route.targets
    → Changes wide (written_parts (Put key route)) (Put key route ∷ [])
put_changes wide key route fits hop label ascending few are =
    let field : ℕ = label_field route.label in
    let attributes = attributes_of (Put key route) in
    let keys = key_read key field fits in
    let labels = label_read (88 + key.prefix.len) route.label.0 1 key.rd.0 (prefix_octets key.prefix) label (omega arith) in
    let hops = hop_read (replicate 8 0) route.next_hop.0 0 (route_octets (route_of key field)) refl hop in
    let targets = put_targets key route route.targets are ascending in
    record {
      attributes = attributes_of (Put key route);
      withdrawn = [];
      reached = route_of key field ∷ [];
      are = record { spelled = sym (append-nil _); fit = put_fit key route route.targets fits few; ends = inl refl };
      passes = put_passes wide key route route.targets fits few;
      withdrawn_are = record { spelled = put_withdraws key route route.targets; each = tt };
      reached_are = route_alone key field fits;
      made = sym (
          ap (λ (k : VpnKey). made (Put k (route_to (next_hop_in (attributes_of (Put key route))) (label_of (route_of key field)) (targets_in (attributes_of (Put key route))))) ∷ []) keys
          ∙ ap (λ (h : Addr). made (Put key (route_to h (label_of (route_of key field)) (targets_in (attributes_of (Put key route))))) ∷ []) hops
          ∙ ap (λ (l : Label). made (Put key (route_to route.next_hop l (targets_in (attributes_of (Put key route))))) ∷ []) labels
          ∙ ap (λ (ts : List Target). made (Put key (route_to route.next_hop route.label ts)) ∷ []) targets
          );
    }

pub drop_makes : (key : VpnKey) → FitsItsTypes key → MakesIt (Drop key)
drop_makes key fits = record { change = λ wide. drop_changes wide key fits }

pub put_makes : (key : VpnKey) (route : VpnRoute) → FitsItsTypes key → route.next_hop.0 < 2 ^ 32 → route.label.0 < 2 ^ 20
    → IsAscending route.targets → length route.targets ≤ 31 → AreTargets route.targets → MakesIt (Put key route)
put_makes key route fits hop label ascending few are =
    record { change = λ wide. put_changes wide key route fits hop label ascending few are }

-- and is short
pub drop_length : (key : VpnKey) → FitsItsTypes key → length (flat_map attribute_octets (attributes_of (Drop key))) ≤ 512
drop_length key fits =
    let short = unreach_length key fits in
    let all = append-nil (written_unreach key) in
    omega (arith, short, ap length all)

communities_length : (ts : List Target) → length ts ≤ 31 → length (flat_map attribute_octets (communities_of ts)) ≤ 251
communities_length [] few = omega arith
communities_length (t ∷ ts) few =
    let len = targets_length (t ∷ ts) in
    let all = append-nil (flat_map target_octets (t ∷ ts)) in
    omega (arith, len, few, ap length all)

pub put_length : (key : VpnKey) (route : VpnRoute) → FitsItsTypes key → length route.targets ≤ 31
    → length (flat_map attribute_octets (attributes_of (Put key route))) ≤ 512
put_length key route fits few =
    let short = reach_length key route fits in
    let more = communities_length route.targets few in
    let all = length-append (written_reach key route) (flat_map attribute_octets (communities_of route.targets)) in
    omega (arith, short, more, all)
