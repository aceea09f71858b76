-- The routes that octets hold, as a list, and the changes that they make.
use Rattle.std.proofs.Common.{◌≡◌, ◌≤◌, ℕ, zero, suc, List, [], ◌∷◌, ◌++◌, length, take, drop, map, refl, ap, sym, ◌∙◌, arith, Bool, true, false, cond, Option}
use Rattle.std.proofs.lemmas.List.{append_assoc, append-nil, length-append, length-drop, length-take-le, take-append-drop, take_at, drop_at}
use Rattle.std.proofs.lemmas.Bool.{and_parts, leb-true, le-leb}
use Rattle.std.specs.Prelude.{option_copied}
use Rattle.std.specs.List.{flat_map, AllByRecursion}
use Rattle.ov_types.specs.declared.prefix.Addr.{Addr}
use Rattle.ov_types.specs.declared.targets.Target.{Target}
use Rattle.ov_types.specs.declared.vpn.VpnKey.{VpnKey}
use Rattle.ov_types.specs.declared.vpn.VpnRoute.{VpnRoute}
use Rattle.ov_sync.specs.declared.Delta.{Delta}
use Rattle.bgp_wire.specs.Attributes.{AttributeFields}
use Rattle.bgp_vpn.specs.declared.routes.Labeled.{Labeled}
use Rattle.bgp_vpn.specs.declared.found.Found.{Found}
use Rattle.bgp_vpn.specs.Pieces.{octets_for}
use Rattle.bgp_vpn.specs.Routes.{RouteFields, route_octets, IsRoute, AreRoutes, BeginsWithRoute, is_whole_route, routes_below, routes_in, drop_of, put_of}
use Rattle.bgp_vpn.specs.Values.{withdrawn_octets, reached_octets, next_hop_in, targets_in, value_at}
use Rattle.bgp_vpn.specs.Found.{IsFound}
use Rattle.bgp_vpn.specs.Said.{labeled_of, labeled_in, said_in, dropped, put_to, changes_said}
use Rattle.bgp_vpn.specs.Updates.{changes_of}
use Rattle.bgp_vpn.proofs.PieceLemmas.{both}

abbrev route : ℕ → List ℕ → RouteFields
route bits octets = record { bits = bits; octets = octets }

-- more steps than octets find nothing more
enough : (n m : ℕ) (xs : List ℕ) → length xs ≤ n → length xs ≤ m → routes_below n xs ≡ routes_below m xs
enough zero zero xs hn hm = refl
enough zero (suc m) [] hn hm = refl
enough zero (suc m) (x ∷ xs) hn hm = absurd (omega arith)
enough (suc n) zero [] hn hm = refl
enough (suc n) zero (x ∷ xs) hn hm = absurd (omega arith)
enough (suc n) (suc m) [] hn hm = refl
enough (suc n) (suc m) (bits ∷ rest) hn hm =
    let sizes = length-drop (octets_for bits) rest in
    ap (λ (rs : List RouteFields). cond (is_whole_route bits rest) (route bits (take (octets_for bits) rest) ∷ rs) [])
    (enough n m (drop (octets_for bits) rest) (omega arith) (omega arith))

whole : (r : RouteFields) (after : List ℕ) → IsRoute r → is_whole_route r.bits (r.octets ++ after) ≡ true
whole r after is =
    let fits : octets_for r.bits ≤ length (r.octets ++ after) = omega (arith, length-append r.octets after, is.whole) in
    both _ _ (le-leb _ _ is.low) (both _ _ (le-leb _ _ is.high) (le-leb _ _ fits))

-- a whole route is the first
pub routes_in_front : (r : RouteFields) (after : List ℕ) → IsRoute r → routes_in (route_octets r ++ after) ≡ r ∷ routes_in after
unfolding routes_in
routes_in_front r after is =
    let all = r.octets ++ after in
    let sizes = length-append r.octets after in
    let value : take (octets_for r.bits) all ≡ r.octets = take_at r.octets after (octets_for r.bits) is.whole in
    let left : drop (octets_for r.bits) all ≡ after = drop_at r.octets after (octets_for r.bits) is.whole in
    let n = length all in
    ap (λ (b : Bool). cond b (route r.bits (take (octets_for r.bits) all) ∷ routes_below n (drop (octets_for r.bits) all)) []) (whole r after is)
    ∙ ap (λ (v : List ℕ). route r.bits v ∷ routes_below n (drop (octets_for r.bits) all)) value
    ∙ ap (λ (s : List ℕ). r ∷ routes_below n s) left
    ∙ ap (λ (rs : List RouteFields). r ∷ rs) (enough n (length after) after (omega arith) (omega arith))

pub routes_in_nil : routes_in [] ≡ []
unfolding routes_in
routes_in_nil = refl

begins : (bits : ℕ) (rest : List ℕ) → is_whole_route bits rest ≡ true
    → BeginsWithRoute (bits ∷ rest) (route bits (take (octets_for bits) rest)) (drop (octets_for bits) rest)
begins bits rest test =
    let first = and_parts _ _ test in
    let second = and_parts _ _ first.1 in
    record {
      spelled = ap (λ (r : List ℕ). bits ∷ r) (sym (take-append-drop (octets_for bits) rest));
      is = record {
        low = leb-true 88 bits first.0;
        high = leb-true bits 120 second.0;
        whole = length-take-le (octets_for bits) rest (leb-true _ _ second.1);
      };
    }

none_by : (bits : ℕ) (rest : List ℕ) (b : Bool) → is_whole_route bits rest ≡ b → (more : List RouteFields)
    → ((r : RouteFields) (after : List ℕ) → BeginsWithRoute (bits ∷ rest) r after → ⊥) → cond b more [] ≡ []
none_by bits rest true is more none = absurd (none _ _ (begins bits rest is))
none_by bits rest false is more none = refl

-- octets that begin with no route hold none
no_routes : (octets : List ℕ) → ((r : RouteFields) (after : List ℕ) → BeginsWithRoute octets r after → ⊥) → routes_in octets ≡ []
unfolding routes_in
no_routes [] none = refl
no_routes (bits ∷ rest) none = none_by bits rest (is_whole_route bits rest) refl _ none

pub none_labeled : (octets : List ℕ) → ((r : RouteFields) (after : List ℕ) → BeginsWithRoute octets r after → ⊥) → labeled_in octets ≡ []
none_labeled octets none = ap (map labeled_of) (no_routes octets none)

pub first_labeled : (octets after : List ℕ) (r : RouteFields) (x : Labeled) → BeginsWithRoute octets r after
    → x ≡ labeled_of r → labeled_in octets ≡ x ∷ labeled_in after
first_labeled octets after r x begins is =
    ap labeled_in begins.spelled ∙ ap (map labeled_of) (routes_in_front r after begins.is)
    ∙ ap (λ (y : Labeled). y ∷ labeled_in after) (sym is)

-- octets that are routes hold these
flat_routes : (routes : List RouteFields) → AllByRecursion IsRoute routes → routes_in (flat_map route_octets routes) ≡ routes
flat_routes [] each = routes_in_nil
flat_routes (r ∷ routes) each =
    routes_in_front r (flat_map route_octets routes) each.0 ∙ ap (λ (rs : List RouteFields). r ∷ rs) (flat_routes routes each.1)

pub routes_are : (octets : List ℕ) (routes : List RouteFields) → AreRoutes octets routes → routes_in octets ≡ routes
routes_are octets routes are = ap routes_in are.spelled ∙ flat_routes routes are.each

drops : (routes : List RouteFields) → map dropped (map labeled_of routes) ≡ map drop_of routes
drops [] = refl
drops (r ∷ routes) = ap (λ (ds : List (Delta VpnKey VpnRoute)). drop_of r ∷ ds) (drops routes)

puts : (next_hop : Addr) (targets : List Target) (routes : List RouteFields)
    → map (put_to next_hop targets) (map labeled_of routes) ≡ map (put_of next_hop targets) routes
puts next_hop targets [] = refl
puts next_hop targets (r ∷ routes) =
    ap (λ (ds : List (Delta VpnKey VpnRoute)). put_of next_hop targets r ∷ ds) (puts next_hop targets routes)

-- what an UPDATE says makes the changes of its attributes
says_changes : (all : List AttributeFields) (withdrawn reached : List RouteFields)
    → AreRoutes (withdrawn_octets all) withdrawn → AreRoutes (reached_octets all) reached
    → changes_said (said_in (value_at 15 all) (value_at 14 all) (value_at 16 all)) ≡ changes_of all withdrawn reached
says_changes all withdrawn reached gone found =
    ap (λ (ws : List RouteFields). map dropped (map labeled_of ws) ++ map (put_to (next_hop_in all) (targets_in all)) (labeled_in (reached_octets all)))
    (routes_are (withdrawn_octets all) withdrawn gone)
    ∙ ap (λ (rs : List RouteFields). map dropped (map labeled_of withdrawn) ++ map (put_to (next_hop_in all) (targets_in all)) (map labeled_of rs))
    (routes_are (reached_octets all) reached found)
    ∙ ap (λ (ds : List (Delta VpnKey VpnRoute)). ds ++ map (put_to (next_hop_in all) (targets_in all)) (map labeled_of reached)) (drops withdrawn)
    ∙ ap (λ (ds : List (Delta VpnKey VpnRoute)). map drop_of withdrawn ++ ds) (puts (next_hop_in all) (targets_in all) reached)

pub found_changes : (found : Found) (all : List AttributeFields) (withdrawn reached : List RouteFields) → IsFound found all
    → AreRoutes (withdrawn_octets all) withdrawn → AreRoutes (reached_octets all) reached
    → changes_said (said_in (option_copied found.unreach) (option_copied found.reach) (option_copied found.communities)) ≡ changes_of all withdrawn reached
found_changes found all withdrawn reached is gone announced =
    ap (λ (o : Option (List ℕ)). changes_said (said_in o (option_copied found.reach) (option_copied found.communities))) is.unreach
    ∙ ap (λ (o : Option (List ℕ)). changes_said (said_in (value_at 15 all) o (option_copied found.communities))) is.reach
    ∙ ap (λ (o : Option (List ℕ)). changes_said (said_in (value_at 15 all) (value_at 14 all) o)) is.communities
    ∙ says_changes all withdrawn reached gone announced

-- one change more of those that are left
pub one_more : (f : Labeled → Delta VpnKey VpnRoute) (old done new : List (Delta VpnKey VpnRoute)) (all rest after : List Labeled)
    (r : Labeled) (d : Delta VpnKey VpnRoute) → done ++ map f rest ≡ old ++ map f all → rest ≡ r ∷ after → d ≡ f r → new ≡ done ++ d ∷ []
    → new ++ map f after ≡ old ++ map f all
one_more f old done new all rest after r d so_far is made more =
    ap (λ (ds : List (Delta VpnKey VpnRoute)). ds ++ map f after) (more ∙ ap (λ (e : Delta VpnKey VpnRoute). done ++ e ∷ []) made)
    ∙ append_assoc done (f r ∷ []) (map f after)
    ∙ ap (λ (rs : List Labeled). done ++ map f rs) (sym is) ∙ so_far

-- and none is left
pub all_done : (f : Labeled → Delta VpnKey VpnRoute) (old done : List (Delta VpnKey VpnRoute)) (all rest : List Labeled)
    → done ++ map f rest ≡ old ++ map f all → rest ≡ [] → done ≡ old ++ map f all
all_done f old done all rest so_far none =
    sym (append-nil done) ∙ ap (λ (rs : List Labeled). done ++ map f rs) (sym none) ∙ so_far
