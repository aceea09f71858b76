-- The reply to a packet visits the same members in reverse.
use Rattle.std.proofs.Common.{◌≡◌, ℕ, ◌+◌, List, [], ◌∷◌, ◌++◌, map, reverse, Option, Some, None, refl, sym, ap, ◌∙◌, subst, arith}
use Rattle.std.specs.Option.{option_map_or}
use Rattle.std.proofs.lemmas.List.{map-append, reverse-append}
use Rattle.ov_types.specs.declared.numbers.PortNo.{PortNo}
use Rattle.ov_types.specs.declared.numbers.ServiceNo.{ServiceNo}
use Rattle.ov_types.specs.declared.packet.Outcome.{Outcome}
use Rattle.ov_types.specs.declared.packet.Outcome.TheVariants as Outcomes
use Rattle.ov_types.specs.declared.packet.Packet.{Packet}
use Rattle.ov_types.specs.declared.prefix.Addr.{Addr}
use Rattle.config_types.specs.declared.config.Config.{Config}
use Rattle.config_types.specs.declared.config.Port.{Port}
use Rattle.config_types.specs.declared.topology.Topology.{Topology}
use Rattle.config_check.specs.Finding.{port_numbered}
use Rattle.config_check.specs.Rules.{first_broken}
use Rattle.config_check.proofs.Finders.{finds_port_numbered}
use Rattle.reach_plain.specs.Outcomes.{IsDelivered, Becomes}
use Rattle.reach_plain.specs.Reachability.{reachability}
use Rattle.reach_plain.proofs.Becoming.{becomes}
use Rattle.reach_plain.proofs.Kept.{valid}
use Rattle.scale_out.specs.declared.groups.Group.{Group}
use Rattle.scale_out.specs.declared.visits.Spread.TheVariants.{Delivered}
use Rattle.scale_out.specs.declared.visits.Visit.{Visit}
use Rattle.scale_out.specs.Spread.{source_address, key, visit_by, visiting, spread, reply}
use Rattle.scale_out.proofs.Visiting.{services_again}

-- the port that a packet is delivered to has the packet's destination as its address
pub arrives : (t : Topology) (c : Config) (p : Packet) (port : PortNo) (services : List ServiceNo) → first_broken t c ≡ None → reachability c p ≡ Outcomes.Delivered port services
    → option_map_or (λ (q : Port). q.address.0) (port_numbered c port.0) 0 ≡ p.destination.0
arrives t c p port services h e =
    let P : Outcome → Type 0 = λ o. Becomes c p o in
    let d : IsDelivered c p port services = subst P e (becomes t c (valid t c h) p) in
    let number : d.arrival.id.0 ≡ port.0 = ap (λ (n : PortNo). n.0) d.arrival_number in
    let found : port_numbered c port.0 ≡ Some d.arrival = ((finds_port_numbered t c port.0 (valid t c h)).some d.arrival).1 (d.arrival_stands, number) in
    ap (λ (o : Option Port). option_map_or (λ q. q.address.0) o 0) found ∙ ap (λ (a : Addr). a.0) d.arrival_address

same_sum : (a b x y z : ℕ) → (b + a + y + x + z) ≡ (a + b + x + y + z)
same_sum a b x y z = omega arith

-- a packet and its reply have one key
pub one_key : (t : Topology) (c : Config) (p : Packet) (port : PortNo) (services : List ServiceNo) → first_broken t c ≡ None → reachability c p ≡ Outcomes.Delivered port services
    → key c (reply c p port) ≡ key c p
one_key t c p port services h e =
    ap (λ (n : ℕ). n + source_address c p + p.tuple.dport + p.tuple.sport + p.tuple.proto) (arrives t c p port services h e)
    ∙ same_sum (source_address c p) p.destination.0 p.tuple.sport p.tuple.dport p.tuple.proto

turned : {A : Type 0} (x : A) (xs : List A) → reverse (x ∷ xs) ≡ reverse xs ++ x ∷ []
turned x xs = reverse-append (x ∷ []) xs

map_reverse : (f : ServiceNo → Visit) (xs : List ServiceNo) → map f (reverse xs) ≡ reverse (map f xs)
map_reverse f [] = refl
map_reverse f (x ∷ xs) =
    ap (λ (ys : List ServiceNo). map f ys) (turned x xs)
    ∙ map-append f (reverse xs) (x ∷ [])
    ∙ ap (λ (ys : List Visit). ys ++ f x ∷ []) (map_reverse f xs)
    ∙ sym (turned (f x) (map f xs))

-- what a packet was delivered through, from its spread
delivered_by : (c : Config) (groups : List Group) (k : ℕ) (o : Outcome) (port : PortNo) (visits : List Visit) → visiting (visit_by c groups k) o ≡ Delivered port visits
    → (o ≡ Outcomes.Delivered port (map (λ v. v.service) visits)) × (map (visit_by c groups k) (map (λ v. v.service) visits) ≡ visits)
delivered_by c groups k (Outcomes.Delivered number services) port visits e =
    let same_port : number ≡ port = cc in
    let same_visits : map (visit_by c groups k) services ≡ visits = cc in
    let again : map (λ v. v.service) visits ≡ services = ap (λ (vs : List Visit). map (λ v. v.service) vs) (sym same_visits) ∙ services_again c groups k services in (
      ap (λ (n : PortNo). Outcomes.Delivered n services) same_port ∙ ap (λ (xs : List ServiceNo). Outcomes.Delivered port xs) (sym again),
      ap (λ (xs : List ServiceNo). map (visit_by c groups k) xs) again ∙ same_visits,
    )
delivered_by c groups k (Outcomes.Dropped why) port visits e = cc

pub visited_back : (t : Topology) (c : Config) (groups : List Group) (p : Packet) (port back : PortNo) (visits : List Visit) → first_broken t c ≡ None → spread c groups p ≡ Delivered port visits
    → reachability c (reply c p port) ≡ Outcomes.Delivered back (reverse (map (λ v. v.service) visits))
    → spread c groups (reply c p port) ≡ Delivered back (reverse visits)
unfolding spread
visited_back t c groups p port back visits h there returned =
    let parts = delivered_by c groups (key c p) (reachability c p) port visits there in
    let services : List ServiceNo = map (λ v. v.service) visits in
    let keys : key c (reply c p port) ≡ key c p = one_key t c p port services h parts.0 in
    ap (λ (k : ℕ). visiting (visit_by c groups k) (reachability c (reply c p port))) keys
    ∙ ap (visiting (visit_by c groups (key c p))) returned
    ∙ ap (λ (vs : List Visit). Delivered back vs) (map_reverse (visit_by c groups (key c p)) services ∙ ap (λ (vs : List Visit). reverse vs) parts.1)
