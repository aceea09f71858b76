-- Octets that are routes, taken one after the other.
use Rattle.std.proofs.Common.{◌≡◌, ℕ, List, [], ◌∷◌, ◌++◌, length, refl, ap, sym, ◌∙◌}
use Rattle.std.specs.List.{flat_map}
use Rattle.bgp_wire.proofs.Splitting.{same_front}
use Rattle.bgp_vpn.specs.Pieces.{octets_for}
use Rattle.bgp_vpn.specs.Routes.{RouteFields, route_octets, IsRoute, AreRoutes, BeginsWithRoute}

abbrev route : ℕ → List ℕ → RouteFields
route bits octets = record { bits = bits; octets = octets }

-- a route says where it ends
same_route : (a b : RouteFields) (x y : List ℕ) → IsRoute a → IsRoute b → route_octets a ++ x ≡ route_octets b ++ y → (a ≡ b) × (x ≡ y)
same_route a b x y ha hb h =
    let bits : a.bits ≡ b.bits = cc in
    let tails : a.octets ++ x ≡ b.octets ++ y = cc in
    let lengths : length a.octets ≡ length b.octets = ha.whole ∙ ap octets_for bits ∙ sym hb.whole in
    let same = same_front a.octets b.octets x y lengths tails in
    (ap (λ (n : ℕ). route n a.octets) bits ∙ ap (route b.bits) same.0, same.1)

-- one route less
pub record Behind (after : List ℕ) (routes : List RouteFields) (r : RouteFields) : Type 0 where
  pub others : List RouteFields
  pub is : routes ≡ r ∷ others
  pub are : AreRoutes after others

pub behind : (octets after : List ℕ) (routes : List RouteFields) (r : RouteFields) → AreRoutes octets routes → BeginsWithRoute octets r after → Behind after routes r
behind octets after [] r are begins = let e : [] ≡ route_octets r ++ after = sym are.spelled ∙ begins.spelled in absurd cc
behind octets after (s ∷ routes) r are begins =
    let flat : route_octets s ++ flat_map route_octets routes ≡ route_octets r ++ after = sym are.spelled ∙ begins.spelled in
    let same = same_route s r (flat_map route_octets routes) after are.each.0 begins.is flat in
    record { others = routes; is = ap (λ (t : RouteFields). t ∷ routes) same.0; are = record { spelled = sym same.1; each = are.each.1 } }

-- octets are routes in one way
pub one_routes : (octets : List ℕ) (a b : List RouteFields) → AreRoutes octets a → AreRoutes octets b → a ≡ b
one_routes octets [] [] x y = refl
one_routes octets [] (r ∷ b) x y = let e = sym x.spelled ∙ y.spelled in absurd cc
one_routes octets (r ∷ a) b x y =
    let begins : BeginsWithRoute octets r (flat_map route_octets a) = record { spelled = x.spelled; is = x.each.0 } in
    let less = behind octets (flat_map route_octets a) b r y begins in
    let left : AreRoutes (flat_map route_octets a) a = record { spelled = refl; each = x.each.1 } in
    ap (λ (rs : List RouteFields). r ∷ rs) (one_routes (flat_map route_octets a) a less.others left less.are) ∙ sym less.is
