-- The two names of each session, in the order of a round.
use Rattle.std.specs.List.{AllByRecursion, filter}
use Rattle.std.specs.Prelude.{List, map, [], ◌++◌, ◌∷◌, ◌≡◌}
use Rattle.std.proofs.Common.{ap, refl, subst, sym, ◌∙◌}
use Rattle.std.proofs.lemmas.List.{map-append}
use Rattle.ov_types.specs.declared.rows.NodeId.{NodeId}
use Rattle.config_types.specs.declared.topology.Node.{Node}
use Rattle.config_types.specs.declared.topology.Topology.{Topology}
use Rattle.node_model.proofs.Members.{from_map}
use Rattle.machine_laws.specs.MachineModel.Moments.{HasNumbers, HasSessions, NodePair, nodes}
use Rattle.machine_laws.specs.MachineModel.Network.{MachineState, accesses, asked, feeds, lists, peerings}
use Rattle.machine_laws.specs.MachineModel.Setup.{Setup}
use Rattle.machine_laws.specs.Setups.{IsNamed}
use Rattle.machine_laws.proofs.MachineModel.Apart.{access_session, feed_session, peer_session}
use Rattle.running_nodes.specs.Seats.{Seat}
use Rattle.running_laws.specs.Wired.{HasPlace, NamePair, access_pairs, names_of, pairs, peer_pairs}
use Rattle.running_laws.specs.Wiring.{AreSeats}
use Rattle.running_laws.proofs.Links.{links, tied_of}
use Rattle.running_laws.proofs.FirstPlaces.{all_of, map_twice}
use Rattle.running_laws.proofs.Seating.{ListsApart, place_is_of, tied_at}

peerings_named : (cs : List NodeId) → map names_of (peerings cs) ≡ peer_pairs cs
peerings_named [] = refl
peerings_named (c ∷ cs) =
    map-append names_of (map (peer_session c) cs) (peerings cs)
    ∙ (λ i. map_twice names_of (peer_session c) cs i ++ peerings_named cs i)

accesses_named : (cs : List NodeId) (ns : List Node) → map names_of (accesses cs ns) ≡ access_pairs cs ns
accesses_named cs [] = refl
accesses_named cs (n ∷ ns) =
    map-append names_of (map (λ c. access_session c n) (filter (lists n) cs)) (accesses cs ns)
    ∙ (λ i. map_twice names_of (λ c. access_session c n) (filter (lists n) cs) i ++ accesses_named cs ns i)

pub asked_named : (t : Topology) → map names_of (asked t) ≡ pairs t
asked_named t =
    let cs = t.controllers in
    let ns = t.nodes in
    map-append names_of (feeds cs ++ peerings cs) (accesses cs ns)
    ∙ ap (λ (ps : List NamePair). ps ++ map names_of (accesses cs ns)) (map-append names_of (feeds cs) (peerings cs))
    ∙ (λ i. (map_twice names_of feed_session cs i ++ peerings_named cs i) ++ accesses_named cs ns i)

abbrev names : NodePair → NamePair
names p = (p.0.0, p.1.0)

-- at every moment
pub sessions_named : (w : MachineState) → HasSessions w → map names_of w.sessions ≡ pairs w.setup.topology
sessions_named w has = sym (map_twice names nodes w.sessions) ∙ ap (map names) has ∙ map_twice names nodes (asked w.setup.topology) ∙ asked_named w.setup.topology

-- ---- their places
pub pairs_placed : (x : Setup) → IsNamed x.topology → HasNumbers x → ListsApart x → (seats : List Seat) → AreSeats x seats → AllByRecursion (HasPlace seats) (pairs x.topology)
pairs_placed x named numbers listed seats are =
    let all : map names (links x) ≡ pairs x.topology = map_twice names nodes (asked x.topology) ∙ asked_named x.topology in
    subst (AllByRecursion (HasPlace seats)) all
    (all_of (HasPlace seats) (map names (links x)) (λ q m.
    let r = from_map names q (links x) m in
    let p = r.0 in
    let h = tied_at x named numbers listed seats are p.0 p.1 (tied_of x named p r.1) in
    subst (HasPlace seats) r.2 (h.place, place_is_of x named numbers listed seats are p.0.0 p.1.0 h.place h.is_of)))
