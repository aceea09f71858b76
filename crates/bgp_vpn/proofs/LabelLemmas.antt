-- The labels of routes that are put have 20 bits where octets are below 256.
use Rattle.std.proofs.Common.{◌<◌, ◌+◌, ◌^◌, ◌==◌, ℕ, suc, List, [], ◌∷◌, ◌++◌, length, drop, map, cond, Bool, true, false, Option, Some, None, sym, subst, arith}
use Rattle.std.proofs.Common.{IfSome, find}
use Rattle.std.proofs.lemmas.List.{append-nil}
use Rattle.std.proofs.Math.Seq.{take-append_seam, drop-append_seam}
use Rattle.std.specs.List.{flat_map, AllByRecursion}
use Rattle.std.specs.Option.{option_map}
use Rattle.ov_types.specs.declared.prefix.Addr.{Addr}
use Rattle.ov_types.specs.declared.targets.Target.{Target}
use Rattle.ov_types.specs.declared.vpn.VpnKey.{VpnKey}
use Rattle.ov_types.specs.declared.vpn.VpnRoute.{VpnRoute}
use Rattle.ov_sync.specs.declared.Delta.{Delta}
use Rattle.byteorder.specs.Endian.{big_bytes}
use Rattle.bgp_wire.specs.Attributes.{AttributeFields, attribute_octets, length_size}
use Rattle.bgp_wire.specs.Content.{UpdateFields, Updates}
use Rattle.bgp_wire.specs.Frames.{head}
use Rattle.bgp_wire.specs.Messages.{AreOctets, IsMessage}
use Rattle.bgp_wire.proofs.Octets.{AreOctets-take, AreOctets-drop}
use Rattle.bgp_vpn.specs.Routes.{RouteFields, route_octets, label_of, drop_of, put_of}
use Rattle.bgp_vpn.specs.Updates.{Changes}
use Rattle.bgp_vpn.specs.Values.{is_vpn, value_at, routes_behind, next_hop_in, targets_in}
use Rattle.bgp_vpn.specs.Written.{IfPut}

pub AreOctets-front : (xs ys : List ℕ) → AreOctets (xs ++ ys) → AreOctets xs
AreOctets-front xs ys h = subst AreOctets (take-append_seam xs ys) (AreOctets-take (length xs) (xs ++ ys) h)

pub AreOctets-back : (xs ys : List ℕ) → AreOctets (xs ++ ys) → AreOctets ys
AreOctets-back xs ys h = subst AreOctets (drop-append_seam xs ys) (AreOctets-drop (length xs) (xs ++ ys) h)

-- the attributes of an UPDATE are octets of the message
pub attributes_octets : (octets : List ℕ) (parts : UpdateFields) → AreOctets octets → IsMessage octets (Updates parts) → AreOctets parts.attributes
attributes_octets octets parts h m =
    let body = AreOctets-back (head (19 + length m.body) m.kind) m.body (subst AreOctets m.frame.spelled h) in
    let behind_withdrawn : List ℕ = big_bytes 2 (length parts.attributes) ++ parts.attributes ++ parts.routes in
    let a = AreOctets-back (big_bytes 2 (length parts.withdrawn)) (parts.withdrawn ++ behind_withdrawn) (subst AreOctets m.says.1.spelled body) in
    let b = AreOctets-back parts.withdrawn behind_withdrawn a in
    let c = AreOctets-back (big_bytes 2 (length parts.attributes)) (parts.attributes ++ parts.routes) b in
    AreOctets-front parts.attributes parts.routes c

no_octets : AreOctets []
no_octets k = omega arith

-- the value of each attribute
values : (attributes : List AttributeFields) (tail : List ℕ) → AreOctets (flat_map attribute_octets attributes ++ tail)
    → AllByRecursion (λ a. AreOctets a.value) attributes
values [] tail h = tt
values (a ∷ attributes) tail h =
    let all : AreOctets (attribute_octets a ++ flat_map attribute_octets attributes) =
    AreOctets-front (attribute_octets a ++ flat_map attribute_octets attributes) tail h in
    let first = AreOctets-front (attribute_octets a) (flat_map attribute_octets attributes) all in
    let others = AreOctets-back (attribute_octets a) (flat_map attribute_octets attributes) all in
    (AreOctets-back (big_bytes (length_size a.flags) (length a.value)) a.value (λ k. first (suc (suc k))), values attributes [] (subst AreOctets (sym (append-nil _)) others))

first_or : (test : Bool) (a : AttributeFields) (o : Option AttributeFields) → AreOctets a.value → IfSome (option_map (λ b. b.value) o) AreOctets
    → IfSome (option_map (λ b. b.value) (cond test (Some a) o)) AreOctets
first_or true a o here there = here
first_or false a o here there = there

value_octets : (kind : ℕ) (attributes : List AttributeFields) → AllByRecursion (λ a. AreOctets a.value) attributes
    → IfSome (value_at kind attributes) AreOctets
value_octets kind [] all = tt
value_octets kind (a ∷ attributes) all =
    first_or (a.kind == kind) a (find (λ b. b.kind == kind) attributes) all.0 (value_octets kind attributes all.1)

if_vpn : (test : Bool) (octets : List ℕ) → AreOctets octets → AreOctets (cond test octets [])
if_vpn true octets h = h
if_vpn false octets h = no_octets

behind_octets : (n : ℕ) (value : Option (List ℕ)) → IfSome value AreOctets → AreOctets (routes_behind n value)
behind_octets n None h = no_octets
behind_octets n (Some value) h = if_vpn (is_vpn value) (drop n value) (AreOctets-drop n value h)

-- the octets of each route
routes : (reached : List RouteFields) → AreOctets (flat_map route_octets reached) → AllByRecursion (λ r. AreOctets r.octets) reached
routes [] h = tt
routes (r ∷ reached) h = (
  AreOctets-front r.octets (flat_map route_octets reached) (λ k. h (suc k)),
  routes reached (AreOctets-back (route_octets r) (flat_map route_octets reached) h),
)

label_fits : (r : RouteFields) → AreOctets r.octets → (label_of r).0 < 2 ^ 20
label_fits r h = let a = h 0 in let b = h 1 in let c = h 2 in omega arith

abbrev pub LabelsFit : List (Delta VpnKey VpnRoute) → Type 0
LabelsFit deltas = AllByRecursion (λ d. IfPut d (λ route. route.label.0 < 2 ^ 20)) deltas

pub labels_fit_both : (a b : List (Delta VpnKey VpnRoute)) → LabelsFit a → LabelsFit b → LabelsFit (a ++ b)
labels_fit_both [] b x y = y
labels_fit_both (d ∷ a) b x y = (x.0, labels_fit_both a b x.1 y)

dropped_fit : (withdrawn : List RouteFields) → LabelsFit (map drop_of withdrawn)
dropped_fit [] = tt
dropped_fit (r ∷ withdrawn) = (tt, dropped_fit withdrawn)

put_fit : (next_hop : Addr) (targets : List Target) (reached : List RouteFields) → AllByRecursion (λ r. AreOctets r.octets) reached
    → LabelsFit (map (put_of next_hop targets) reached)
put_fit next_hop targets [] all = tt
put_fit next_hop targets (r ∷ reached) all = (label_fits r all.0, put_fit next_hop targets reached all.1)

pub labels_fit : (wide : Bool) (parts : UpdateFields) (deltas : List (Delta VpnKey VpnRoute)) → AreOctets parts.attributes → Changes wide parts deltas
    → LabelsFit deltas
labels_fit wide parts deltas octets c =
    let each = values c.attributes [] (subst AreOctets c.are.spelled octets) in
    let reached = behind_octets 17 (value_at 14 c.attributes) (value_octets 14 c.attributes each) in
    let all = routes c.reached (subst AreOctets c.reached_are.spelled reached) in
    subst LabelsFit (sym c.made)
    (labels_fit_both (map drop_of c.withdrawn) (map (put_of (next_hop_in c.attributes) (targets_in c.attributes)) c.reached)
    (dropped_fit c.withdrawn) (put_fit (next_hop_in c.attributes) (targets_in c.attributes) c.reached all))
