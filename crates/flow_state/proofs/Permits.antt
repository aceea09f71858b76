-- Each use is of a flow that is permitted one way.
use Rattle.std.proofs.Common.{◌≡◌, ◌≢◌, ℕ, Bool, true, false, not, cond, List, [], ◌∷◌, Option, Some, None, option_map, refl, sym, ap, ◌∙◌, subst}
use Rattle.std.specs.List.{All}
use Rattle.std.proofs.lemmas.Bool.{and_parts}
use Rattle.std.proofs.lemmas.List.Elements.{All-contains, All-filter, All-take}
use Rattle.ov_types.specs.First.{same_name}
use Rattle.ov_types.proofs.FirstLemmas.{same_name_iff, found_is, all_head, all_tail, all_cons}
use Rattle.ov_types.specs.declared.numbers.PortNo.{PortNo}
use Rattle.ov_types.specs.declared.numbers.ServiceNo.{ServiceNo}
use Rattle.ov_types.specs.declared.packet.Outcome.{Outcome}
use Rattle.ov_types.specs.declared.packet.Outcome.TheVariants.{Delivered, Dropped}
use Rattle.ov_types.specs.declared.packet.Packet.{Packet}
use Rattle.ov_types.specs.declared.packet.Tuple.{Tuple}
use Rattle.ov_types.specs.declared.packet.Why.TheVariants.{NoSourcePort, NoDestination, NoRoute, Denied, NoLabel, TtlExpired}
use Rattle.ov_types.specs.declared.prefix.Addr.{Addr}
use Rattle.config_types.specs.declared.config.Config.{Config}
use Rattle.config_types.specs.declared.config.Direction.{Direction}
use Rattle.config_types.specs.declared.config.Direction.TheVariants.{OneWay, BothWays}
use Rattle.config_types.specs.declared.config.Network.{Network}
use Rattle.config_types.specs.declared.config.Port.{Port}
use Rattle.config_types.specs.declared.topology.Topology.{Topology}
use Rattle.policy_rules.specs.declared.matching.Match.{Match}
use Rattle.policy_rules.specs.Matching.{deciding, speaks_both_ways}
use Rattle.config_check.specs.Finding.{port_numbered}
use Rattle.config_check.specs.Rules.{first_broken}
use Rattle.config_check.proofs.Finders.{finds_port_numbered}
use Rattle.reach_plain.specs.Outcomes.{IsDelivered, Becomes}
use Rattle.reach_plain.specs.Reachability.{reachability}
use Rattle.reach_plain.proofs.Becoming.{becomes}
use Rattle.reach_plain.proofs.Kept.{valid}
use Rattle.flow_state.specs.declared.flow.Flow.{Flow}
use Rattle.flow_state.specs.Recent.{same_flow, without, each_once, after_use}
use Rattle.flow_state.specs.Flows.{PermitsOneWay, flow_to, flow_use, forward_packet, forward_use, is_one_way, let_back, network_of, one_way_between, replies, speaks_one_way, use_beside}

-- what the test of a flow says

one_direction : (d : Direction) → not (speaks_both_ways d) ≡ true → d ≡ OneWay
one_direction OneWay h = refl
one_direction BothWays h = cc

record Speaks (o : Option Match) : Type 0 where
  decider : Match
  is : o ≡ Some decider
  one_way : decider.rule.rule.direction ≡ OneWay

speaks_of : (o : Option Match) → speaks_one_way o ≡ true → Speaks o
speaks_of None h = cc
speaks_of (Some m) h = record { decider = m; is = refl; one_way = one_direction m.rule.rule.direction h }

record Between (c : Config) (t : Tuple) (oa ob : Option Network) : Type 0 where
  a : Network
  b : Network
  a_is : oa ≡ Some a
  b_is : ob ≡ Some b
  apart : b.name ≢ a.name
  speaks : Speaks (deciding c a b t)

other_names : (a b : List ℕ) → not (same_name a b) ≡ true → a ≢ b
other_names a b h = λ same. let is : same_name a b ≡ true = (same_name_iff a b).1 same in let never : not true ≡ true = ap (λ (x : Bool). not x) (sym is) ∙ h in absurd cc

between_of : (c : Config) (t : Tuple) (oa ob : Option Network) → one_way_between c t oa ob ≡ true → Between c t oa ob
between_of c t None ob h = cc
between_of c t (Some a) None h = cc
between_of c t (Some a) (Some b) h =
    let parts = and_parts (not (same_name b.name a.name)) (speaks_one_way (deciding c a b t)) h in
    record { a = a; b = b; a_is = refl; b_is = refl; apart = other_names b.name a.name parts.0; speaks = speaks_of (deciding c a b t) parts.1 }

pub all_once : (P : Flow → Type 0) (fs : List Flow) → All P fs → All P (each_once fs)
unfolding each_once
all_once P [] h = h
all_once P (f ∷ fs) h = all_cons P f (without f (each_once fs)) (all_head P f fs h) (All-filter (λ g. not (same_flow f g)) P (each_once fs) (all_once P fs (all_tail P f fs h)))

module _ (t : Topology) (c : Config) (kept : first_broken t c ≡ None) (p : Packet) where
  -- a delivered packet is the forward packet of its flow

  pub forward_is : (q : PortNo) (services : List ServiceNo) → reachability c p ≡ Delivered q services → forward_packet c (flow_to p q) ≡ Some p
  forward_is q services e =
      let v = valid t c kept in
      let P : Outcome → Type 0 = λ o. Becomes c p o in
      let d : IsDelivered c p q services = subst P e (becomes t c v p) in
      let number : port_numbered c q.0 ≡ Some d.arrival = ((finds_port_numbered t c q.0 v).some d.arrival).1 (d.arrival_stands, ap (λ (n : PortNo). n.0) d.arrival_number) in
      ap (option_map (λ (x : Port). record { source = p.source; destination = x.address; tuple = p.tuple })) number
      ∙ ap (λ (a : Addr). Some (record { source = p.source; destination = a; tuple = p.tuple })) d.arrival_address

  permitted : (q : PortNo) (services : List ServiceNo) → reachability c p ≡ Delivered q services → is_one_way c (flow_to p q) ≡ true → PermitsOneWay c (flow_to p q)
  permitted q services e h =
      let b = between_of c p.tuple (network_of c p.source) (network_of c q) h in
      record {
        packet = p;
        forward = forward_is q services e;
        services = services;
        delivered = e;
        own = b.a;
        own_is = b.a_is;
        target = b.b;
        target_is = b.b_is;
        apart = b.apart;
        decider = b.speaks.decider;
        decides = b.speaks.is;
        one_way = b.speaks.one_way;
      }

  pub forward_permitted : (q : PortNo) (services : List ServiceNo) (f : Flow) → reachability c p ≡ Delivered q services → forward_use c p q ≡ Some f → PermitsOneWay c f
  forward_permitted q services f e h = (elim (is_one_way c (flow_to p q)) as (λ b. is_one_way c (flow_to p q) ≡ b → cond b (Some (flow_to p q)) None ≡ Some f → PermitsOneWay c f) [
    | true ↦ λ k is. let same : flow_to p q ≡ f = cc in subst (λ (g : Flow). PermitsOneWay c g) same (permitted q services e k)
    | false ↦ λ k is. cc
  ]) refl h

  pub use_permitted : (flows : List Flow) (o : Outcome) (f : Flow) → All (PermitsOneWay c) flows → reachability c p ≡ o → use_beside c p o (let_back c flows p o) ≡ Some f → PermitsOneWay c f
  use_permitted flows (Delivered q services) f all e h = forward_permitted q services f e h
  use_permitted flows (Dropped (Denied rule)) f all e h = All-contains (PermitsOneWay c) flows f all (found_is (λ f. replies c p f) flows f h).1
  use_permitted flows (Dropped NoSourcePort) f all e h = cc
  use_permitted flows (Dropped NoDestination) f all e h = cc
  use_permitted flows (Dropped NoRoute) f all e h = cc
  use_permitted flows (Dropped NoLabel) f all e h = cc
  use_permitted flows (Dropped TtlExpired) f all e h = cc

  after_permitted : (capacity : ℕ) (flows : List Flow) (o : Option Flow) → All (PermitsOneWay c) flows → flow_use c flows p ≡ o → All (PermitsOneWay c) (after_use capacity o flows)
  unfolding flow_use
  after_permitted capacity flows None all e = all
  after_permitted capacity flows (Some f) all e =
      let one : PermitsOneWay c f = use_permitted flows (reachability c p) f all refl e in
      All-take (PermitsOneWay c) capacity (each_once (f ∷ flows)) (all_once (PermitsOneWay c) (f ∷ flows) (all_cons (PermitsOneWay c) f flows one all))

  pub flows_permitted : (capacity : ℕ) (flows : List Flow) → All (PermitsOneWay c) flows → All (PermitsOneWay c) (after_use capacity (flow_use c flows p) flows)
  flows_permitted capacity flows all = after_permitted capacity flows (flow_use c flows p) all refl
