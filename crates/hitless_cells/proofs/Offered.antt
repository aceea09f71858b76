-- What a configuration leads a packet by, it offers.
use Rattle.std.proofs.Common.{◌≡◌, ℕ, Bool, true, false, IsTrue, List, [], ◌∷◌, Some, None, refl, subst}
use Rattle.std.specs.List.{AllZip, Any, Contains}
use Rattle.std.proofs.lemmas.List.Elements.{All-contains}
use Rattle.ov_types.specs.Prefix.{contains}
use Rattle.ov_types.specs.declared.numbers.PortNo.{PortNo}
use Rattle.ov_types.specs.declared.numbers.ServiceNo.{ServiceNo}
use Rattle.ov_types.specs.declared.packet.Packet.{Packet}
use Rattle.ov_types.specs.declared.packet.Tuple.{Tuple}
use Rattle.ov_types.proofs.FirstLemmas.{contains_at, contains_here, contains_later}
use Rattle.config_types.specs.declared.config.Config.{Config}
use Rattle.config_types.specs.declared.config.Network.{Network}
use Rattle.config_types.specs.declared.config.Port.{Port}
use Rattle.config_types.specs.declared.config.Rule.{Rule}
use Rattle.config_types.specs.declared.config.Service.{Service}
use Rattle.config_types.specs.declared.topology.Node.{Node}
use Rattle.config_types.specs.declared.topology.Topology.{Topology}
use Rattle.chain_expand.specs.Expansion.{expansion}
use Rattle.policy_rules.specs.Related.{rules_between}
use Rattle.policy_rules.specs.Standing.{IsBetween}
use Rattle.policy_rules.specs.Taking.{IsDeciding, IsTaken}
use Rattle.policy_rules.specs.declared.matching.Match.{Match}
use Rattle.policy_rules.proofs.Lists.{mapped_is}
use Rattle.policy_rules.proofs.Standing.{between_iff}
use Rattle.config_check.specs.Checked.{Checked}
use Rattle.config_check.specs.Rules.{network_names, node_names}
use Rattle.config_check.specs.Sentences.{IsValid}
use Rattle.hitless_cells.specs.Ways.{GoesBy, IsNodeNamed, IsStop, LeadsTo, Offers, Opens, SpeaksOf, Track, Way}
use Rattle.hitless_cells.specs.Ways.Way.{inside, passing, through}
use Rattle.hitless_cells.proofs.Expanding.{stand}

node_of : (t : Topology) (name : List ℕ) → Contains (node_names t) name → (n : Node) × IsNodeNamed t name n
node_of t name h = let n = mapped_is (λ (n : Node). n.name) t.nodes name h in (n.0, record { stands = n.1; named = n.2 })

port_node : (t : Topology) (c : Config) → IsValid t c → (q : Port) → Contains c.ports q → (n : Node) × IsNodeNamed t q.node n
port_node t c v q at =
    node_of t q.node (All-contains (λ (p : Port). Contains (network_names c) p.network × Contains (node_names t) p.node) c.ports q v.references.ports at).1

-- each of these services has its compute node
stops_of : (t : Topology) (c : Config) → IsValid t c → (ss : List Service) → ((s : Service) → Contains ss s → Contains c.services s)
    → (stops : List (ServiceNo × Node)) × AllZip (IsStop t) ss stops
stops_of t c v [] inside_c = ([], tt)
stops_of t c v (s ∷ ss) inside_c =
    let n = node_of t s.node (All-contains (λ (u : Service). Contains (node_names t) u.node) c.services s v.references.services (inside_c s (contains_here s ss))) in
    let more = stops_of t c v ss (λ u at. inside_c u (contains_later u s ss at)) in
    ((s.id, n.0) ∷ more.0, (record { number = refl; node = n.1 }, more.1))

-- the rule that decides stands between the networks, and speaks of the packet
pub decider_stands : (c : Config) (a b : Network) (t : Tuple) (m : Match) → IsDeciding c a b t m → IsBetween c a b m.rule
decider_stands c a b t m h = (between_iff c a b m.rule).0 (contains_at (rules_between c a b) h.place m.rule h.stands)

pub speaks : (a b : Network) (t : Tuple) (r : Rule) (mirrored : Bool) → IsTaken a b t r mirrored → SpeaksOf a b r mirrored
speaks a b t r false h = (h.source, h.destination)
speaks a b t r true h = (h.0.both_ways, (h.0.source, h.0.destination))

-- what a track has besides the nodes and numbers of its ends
record Led (x : Checked) (p : Packet) (own target : Network) (way : Way) : Type 0 where
  track : Track
  from : own.id ≡ track.from
  to : target.id ≡ track.to
  source : Node
  source_is : source ≡ track.source_node
  arrival : Node
  arrival_is : arrival ≡ track.arrival_node
  opens : Opens x p own target way track

module _ (x : Checked) (v : IsValid x.topology x.config) (p : Packet) (number : PortNo) where
  opens_by : (own target : Network) (n m : Node) (way : Way) → GoesBy x.config own target p.tuple way → Any (λ s. IsTrue (contains s p.destination.0)) target.subnets
      → (track : Track) × (own.id ≡ track.from) × (target.id ≡ track.to) × (n ≡ track.source_node) × (m ≡ track.arrival_node) × Opens x p own target way track
  opens_by own target n m inside h holds = (
    record { from = own.id; to = target.id; source_node = n; arrival_node = m; stops = []; subnet = None },
    refl,
    refl,
    refl,
    refl,
    (h, record { no_stops = refl; no_subnet = refl }),
  )
  opens_by own target n m passing h holds = (
    record { from = own.id; to = target.id; source_node = n; arrival_node = m; stops = []; subnet = None },
    refl,
    refl,
    refl,
    refl,
    (
      h.0,
      record { rule = h.1.decider.rule; stands = decider_stands x.config own target p.tuple h.1.decider h.1.decides; pass = h.1.passes },
      record { no_stops = refl; no_subnet = refl },
    ),
  )
  opens_by own target n m (through use_no mirrored) h holds =
      let stops = stops_of x.topology x.config v (expansion x.config h.1.chain) (stand x.topology x.config v h.1.chain) in
      let taken : IsTaken own target p.tuple h.1.decider.rule.rule mirrored = subst (IsTaken own target p.tuple h.1.decider.rule.rule) h.1.matched h.1.decides.taken in (
        record { from = own.id; to = target.id; source_node = n; arrival_node = m; stops = stops.0; subnet = Some holds.1 },
        refl,
        refl,
        refl,
        refl,
        (
          h.0,
          record {
            rule = h.1.decider.rule;
            stands = decider_stands x.config own target p.tuple h.1.decider h.1.decides;
            chain = h.1.chain;
            leads = h.1.leads;
            speaks = speaks own target p.tuple h.1.decider.rule.rule mirrored taken;
            stops = stops.1;
            subnet = holds.1;
            subnet_stands = (holds.0, holds.2, holds.3);
            holds = holds.4;
            subnet_is = refl;
          },
        ),
      )

  pub offered : (way : Way) → LeadsTo x.config p number way → (track : Track) × Offers x p number way track
  offered way h =
      let n = port_node x.topology x.config v h.goes.leaves.source h.goes.leaves.source_stands in
      let m = port_node x.topology x.config v h.arrives.arrival h.arrives.arrival_stands in
      let o = opens_by h.own h.target n.0 m.0 way h.by_way h.goes.towards.holds in (
        o.0,
        record {
          own = h.own;
          own_is = o.1;
          leaves = h.goes.leaves;
          source_node = subst (IsNodeNamed x.topology h.goes.leaves.source.node) o.3 n.1;
          target = h.target;
          target_is = o.2;
          target_stands = h.goes.towards.stands;
          arrives = h.arrives;
          arrival_node = subst (IsNodeNamed x.topology h.arrives.arrival.node) o.4 m.1;
          opens = o.5;
        },
      )
