-- What a configuration leads, delivers and offers, one that has more does alike.
use Rattle.std.proofs.Common.{◌≡◌, inl, inr, ℕ, Bool, true, false, List, [], ◌∷◌, map, reverse, ap, ◌∙◌, subst}
use Rattle.std.specs.List.{AllZip, Contains}
use Rattle.std.proofs.lemmas.List.Elements.{All-contains}
use Rattle.ov_types.specs.declared.numbers.PortNo.{PortNo}
use Rattle.ov_types.specs.declared.numbers.ServiceNo.{ServiceNo}
use Rattle.ov_types.specs.declared.packet.Packet.{Packet}
use Rattle.ov_types.specs.declared.packet.Tuple.{Tuple}
use Rattle.config_types.specs.declared.config.Action.{Action}
use Rattle.config_types.specs.declared.config.Action.TheVariants.{Deny, Pass, Through}
use Rattle.config_types.specs.declared.config.Network.{Network}
use Rattle.config_types.specs.declared.config.Service.{Service}
use Rattle.config_types.specs.declared.topology.Node.{Node}
use Rattle.chain_expand.specs.Expansion.{expansion}
use Rattle.policy_rules.specs.Related.{rules_between}
use Rattle.policy_rules.specs.Standing.{AreRelated, IsBetween}
use Rattle.policy_rules.specs.Taking.{IsDeciding}
use Rattle.policy_rules.specs.declared.matching.Match.{Match}
use Rattle.policy_rules.specs.declared.numbered.NumberedRule.{NumberedRule}
use Rattle.policy_rules.proofs.Deciders.{all_between}
use Rattle.policy_rules.proofs.Standing.{between_iff}
use Rattle.ov_types.proofs.FirstLemmas.{contains_at}
use Rattle.config_check.specs.Checked.{Checked}
use Rattle.config_check.specs.Rules.{chain_names, network_names}
use Rattle.config_check.specs.Sentences.{ChainExists, EndExists, IsValid}
use Rattle.reach_plain.specs.Outcomes.{Goes, IsDelivered, LeadsThrough, Leaves, MayEnter}
use Rattle.hitless_cells.specs.Ways.{Arrives, GoesBy, IsNodeNamed, IsStop, LeadsTo, Offers, OffersUse, Opens, Track, Way}
use Rattle.hitless_cells.specs.Ways.Way.{inside, passing, through}
use Rattle.hitless_cells.proofs.Expanding.{expansion_on}
use Rattle.hitless_cells.proofs.Grown.{Grows, between_on, deciding_on}

module _ (x y : Checked) (v : IsValid x.topology x.config) (w : IsValid y.topology y.config) (g : Grows x y) where
  -- a chain that a rule leads through expands alike
  chain_exists : (a b : Network) (r : NumberedRule) → IsBetween x.config a b r → ChainExists (chain_names x.config) r.rule.action
  chain_exists a b r h =
      let P : NumberedRule → Type 0 = λ r. EndExists (network_names x.config) r.rule.source × EndExists (network_names x.config) r.rule.destination
      × ChainExists (chain_names x.config) r.rule.action in
      (All-contains P (rules_between x.config a b) r (all_between P x.config a b v.references.rules) ((between_iff x.config a b r).1 h)).2

  expands_alike : (chain : List ℕ) → Contains (chain_names x.config) chain → expansion x.config chain ≡ expansion y.config chain
  expands_alike = expansion_on x.topology y.topology x.config y.config v w g.services g.chains

  decider_between : (a b : Network) (t : Tuple) (m : Match) → IsDeciding x.config a b t m → IsBetween x.config a b m.rule
  decider_between a b t m h = (between_iff x.config a b m.rule).0 (contains_at (rules_between x.config a b) h.place m.rule h.stands)

  -- a packet leaves, goes and arrives
  leaves_on : (p : Packet) (own : Network) → Leaves x.config p own → Leaves y.config p own
  leaves_on p own h =
      record { source = h.source; source_stands = g.ports h.source h.source_stands; source_number = h.source_number; own_stands = g.networks own h.own_stands; own_name = h.own_name }

  related_on : (a b : Network) → AreRelated x.config a b → AreRelated y.config a b
  related_on a b h = record { differ = h.differ; rule = h.rule; stands = between_on x y g a b h.rule h.stands; lets = h.lets }

  goes_on : (p : Packet) (own target : Network) → Goes x.config p own target → Goes y.config p own target
  goes_on p own target h =
      record {
        leaves = leaves_on p own h.leaves;
        towards = record {
          stands = g.networks target h.towards.stands;
          near = elim h.towards.near [ inl same ↦ inl same | inr related ↦ inr (related_on own target related) ];
          holds = h.towards.holds;
        };
      }

  arrives_on : (p : Packet) (number : PortNo) (target : Network) → Arrives x.config p number target → Arrives y.config p number target
  arrives_on p number target h =
      record {
        arrival = h.arrival;
        arrival_stands = g.ports h.arrival h.arrival_stands;
        arrival_network = h.arrival_network;
        arrival_address = h.arrival_address;
        arrival_number = h.arrival_number;
      }

  -- by the same way
  by_on : (own target : Network) (t : Tuple) (way : Way) → Contains x.config.networks own → Contains x.config.networks target
      → GoesBy x.config own target t way → GoesBy y.config own target t way
  by_on own target t inside has_own has_target h = h
  by_on own target t passing has_own has_target h =
      (h.0, record { decider = h.1.decider; decides = deciding_on x y g own target t h.1.decider has_own has_target h.1.decides; passes = h.1.passes })
  by_on own target t (through use_no mirrored) has_own has_target h = (
    h.0,
    record {
      decider = h.1.decider;
      decides = deciding_on x y g own target t h.1.decider has_own has_target h.1.decides;
      chain = h.1.chain;
      leads = h.1.leads;
      matched = h.1.matched;
    },
  )

  pub leads_on : (p : Packet) (number : PortNo) (way : Way) → LeadsTo x.config p number way → LeadsTo y.config p number way
  leads_on p number way h =
      record {
        own = h.own;
        target = h.target;
        goes = goes_on p h.own h.target h.goes;
        by_way = by_on h.own h.target p.tuple way h.goes.leaves.own_stands h.goes.towards.stands h.by_way;
        arrives = arrives_on p number h.target h.arrives;
      }

  -- through the same services
  through_on : (mirrored : Bool) (a : Action) (services : List ServiceNo) → ChainExists (chain_names x.config) a
      → LeadsThrough x.config mirrored a services → LeadsThrough y.config mirrored a services
  through_on mirrored Pass services exists h = h
  through_on mirrored Deny services exists h = h
  through_on false (Through chain use_no) services exists h = h ∙ ap (λ (ss : List Service). map (λ s. s.id) ss) (expands_alike chain exists)
  through_on true (Through chain use_no) services exists h = h ∙ ap (λ (ss : List Service). reverse (map (λ s. s.id) ss)) (expands_alike chain exists)

  enters_on : (own target : Network) (t : Tuple) (services : List ServiceNo) → Contains x.config.networks own → Contains x.config.networks target
      → MayEnter x.config own target t services → MayEnter y.config own target t services
  enters_on own target t services has_own has_target (inl near) = inl near
  enters_on own target t services has_own has_target (inr far) =
      let m : Match = far.1.decider in
      inr (
        far.0,
        record {
          decider = m;
          decides = deciding_on x y g own target t m has_own has_target far.1.decides;
          leads = through_on m.mirrored m.rule.rule.action services (chain_exists own target m.rule (decider_between own target t m far.1.decides)) far.1.leads;
        },
      )

  pub delivered_on : (p : Packet) (number : PortNo) (services : List ServiceNo) → IsDelivered x.config p number services → IsDelivered y.config p number services
  delivered_on p number services h =
      record {
        own = h.own;
        target = h.target;
        goes = goes_on p h.own h.target h.goes;
        enters = enters_on h.own h.target p.tuple services h.goes.leaves.own_stands h.goes.towards.stands h.enters;
        arrival = h.arrival;
        arrival_stands = g.ports h.arrival h.arrival_stands;
        arrival_network = h.arrival_network;
        arrival_address = h.arrival_address;
        arrival_number = h.arrival_number;
      }

  -- and what is offered
  node_on : (name : List ℕ) (n : Node) → IsNodeNamed x.topology name n → IsNodeNamed y.topology name n
  node_on name n h = record { stands = g.nodes n h.stands; named = h.named }

  stops_on : (ss : List Service) (stops : List (ServiceNo × Node)) → AllZip (IsStop x.topology) ss stops → AllZip (IsStop y.topology) ss stops
  stops_on [] [] h = tt
  stops_on [] (k ∷ ks) h = absurd h
  stops_on (s ∷ ss) [] h = absurd h
  stops_on (s ∷ ss) (k ∷ ks) h = (record { number = h.0.number; node = node_on s.node k.1 h.0.node }, stops_on ss ks h.1)

  use_on : (p : Packet) (own target : Network) (use_no : ℕ) (mirrored : Bool) (track : Track) → OffersUse x p own target use_no mirrored track
      → OffersUse y p own target use_no mirrored track
  use_on p own target use_no mirrored track h =
      let exists : Contains (chain_names x.config) h.chain = subst (ChainExists (chain_names x.config)) h.leads (chain_exists own target h.rule h.stands) in
      record {
        rule = h.rule;
        stands = between_on x y g own target h.rule h.stands;
        chain = h.chain;
        leads = h.leads;
        speaks = h.speaks;
        stops = subst (λ (ss : List Service). AllZip (IsStop y.topology) ss track.stops) (expands_alike h.chain exists) (stops_on (expansion x.config h.chain) track.stops h.stops);
        subnet = h.subnet;
        subnet_stands = h.subnet_stands;
        holds = h.holds;
        subnet_is = h.subnet_is;
      }

  opens_on : (p : Packet) (own target : Network) (way : Way) (track : Track) → Opens x p own target way track → Opens y p own target way track
  opens_on p own target inside track h = h
  opens_on p own target passing track h =
      (h.0, record { rule = h.1.rule; stands = between_on x y g own target h.1.rule h.1.stands; pass = h.1.pass }, h.2)
  opens_on p own target (through use_no mirrored) track h = (h.0, use_on p own target use_no mirrored track h.1)

  pub offers_on : (p : Packet) (number : PortNo) (way : Way) (track : Track) → Offers x p number way track → Offers y p number way track
  unfolding leaves_on arrives_on
  offers_on p number way track h =
      record {
        own = h.own;
        own_is = h.own_is;
        leaves = leaves_on p h.own h.leaves;
        source_node = node_on h.leaves.source.node track.source_node h.source_node;
        target = h.target;
        target_is = h.target_is;
        target_stands = g.networks h.target h.target_stands;
        arrives = arrives_on p number h.target h.arrives;
        arrival_node = node_on h.arrives.arrival.node track.arrival_node h.arrival_node;
        opens = opens_on p h.own h.target way track h.opens;
      }
