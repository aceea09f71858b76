-- The flow that a packet answers is the one that its destination and its source tell.
use Rattle.std.proofs.Common.{◌≡◌, ◌⊎◌, inl, inr, ℕ, ◌&&◌, ◌==◌, Bool, true, false, cond, IsTrue, List, find, Option, Some, None, option_map, refl, sym, ap, ◌∙◌, subst, arith}
use Rattle.std.specs.List.{All, Any, Contains, list_any}
use Rattle.std.specs.Option.{IfSome, option_map_or}
use Rattle.std.proofs.lemmas.Bool.{and_parts}
use Rattle.std.proofs.lemmas.Bool.Decides.{nat_tests}
use Rattle.std.proofs.lemmas.List.Elements.{All-contains}
use Rattle.std.proofs.lemmas.List.Folds.{Any-from_list_any, list_any-from_Any}
use Rattle.ov_types.specs.Prefix.{contains}
use Rattle.ov_types.proofs.FirstLemmas.{found_is, find_none, any_of}
use Rattle.ov_types.specs.declared.numbers.PortNo.{PortNo}
use Rattle.ov_types.specs.declared.packet.Outcome.{Outcome}
use Rattle.ov_types.specs.declared.packet.Packet.{Packet}
use Rattle.config_types.specs.Form.{has_config_form}
use Rattle.config_types.specs.declared.config.Config.{Config}
use Rattle.config_types.specs.declared.config.Network.{Network}
use Rattle.config_types.specs.declared.config.Port.{Port}
use Rattle.config_types.specs.declared.topology.Topology.{Topology}
use Rattle.policy_rules.specs.Answering.{answering}
use Rattle.policy_rules.specs.Standing.{IsBetween, AreRelated}
use Rattle.config_check.specs.Finding.{network_named, port_at, port_numbered}
use Rattle.config_check.specs.Rules.{first_broken}
use Rattle.config_check.proofs.Finders.{finds_port_numbered, finds_network_named, finds_port_at}
use Rattle.reach_plain.specs.Outcomes.{Leaves, IsTowards, IsDelivered, Becomes}
use Rattle.reach_plain.specs.Reachability.{network_towards}
use Rattle.reach_plain.proofs.Becoming.{becomes}
use Rattle.reach_plain.proofs.Found.{target_is}
use Rattle.reach_plain.proofs.Kept.{valid}
use Rattle.flow_state.specs.declared.flow.Flow.{Flow}
use Rattle.flow_state.specs.Recent.{same_flow}
use Rattle.flow_state.specs.Flows.{PermitsOneWay, answered, answered_from, answered_in, candidate, flow_from, network_of, network_at, replies, reply_packet, same_packet, standing}
use Rattle.flow_state.proofs.Recent.{same_flow_is}

-- two networks are related alike both ways

between_back : (c : Config) (a b : Network) (r : _) → IsBetween c a b r → IsBetween c b a r
between_back c a b r h = record {
  policy = h.policy;
  place = h.place;
  configured = h.configured;
  first_attaches = h.second_attaches;
  second_attaches = h.first_attaches;
  stands = h.stands;
  sequence = h.sequence;
  position = h.position;
  fits = elim h.fits [ inl one ↦ inr one | inr two ↦ inl two ];
}

related_back : (c : Config) (a b : Network) → AreRelated c a b → AreRelated c b a
related_back c a b h = record {
  differ = λ same. h.differ (sym same);
  rule = h.rule;
  stands = between_back c a b h.rule h.stands;
  lets = h.lets;
}

near_back : (c : Config) (a b : Network) → (b.name ≡ a.name) ⊎ AreRelated c a b → (a.name ≡ b.name) ⊎ AreRelated c b a
near_back c a b h = elim h [ inl same ↦ inl (sym same) | inr related ↦ inr (related_back c a b related) ]

abbrev packet_by : ℕ → ℕ → ℕ → ℕ → ℕ → Packet
packet_by a b x y z = record { source = record { 0 = a }; destination = record { 0 = b }; tuple = record { proto = x; sport = y; dport = z } }

equal : (m n : ℕ) → (m == n) ≡ true → m ≡ n
equal m n h = grind (arith, nat_tests)

self : (n : ℕ) → (n == n) ≡ true
self n = grind (arith, nat_tests)

same_packet_is : (p q : Packet) → same_packet p q ≡ true → p ≡ q
same_packet_is p q h =
    let d = and_parts ((p.source.0 == q.source.0) && (p.destination.0 == q.destination.0) && (p.tuple.proto == q.tuple.proto) && (p.tuple.sport == q.tuple.sport)) (p.tuple.dport == q.tuple.dport) h in
    let e = and_parts ((p.source.0 == q.source.0) && (p.destination.0 == q.destination.0) && (p.tuple.proto == q.tuple.proto)) (p.tuple.sport == q.tuple.sport) d.0 in
    let u = and_parts ((p.source.0 == q.source.0) && (p.destination.0 == q.destination.0)) (p.tuple.proto == q.tuple.proto) e.0 in
    let w = and_parts (p.source.0 == q.source.0) (p.destination.0 == q.destination.0) u.0 in
    ap (λ n. packet_by n p.destination.0 p.tuple.proto p.tuple.sport p.tuple.dport) (equal p.source.0 q.source.0 w.0)
    ∙ ap (λ n. packet_by q.source.0 n p.tuple.proto p.tuple.sport p.tuple.dport) (equal p.destination.0 q.destination.0 w.1)
    ∙ ap (λ n. packet_by q.source.0 q.destination.0 n p.tuple.sport p.tuple.dport) (equal p.tuple.proto q.tuple.proto u.1)
    ∙ ap (λ n. packet_by q.source.0 q.destination.0 q.tuple.proto n p.tuple.dport) (equal p.tuple.sport q.tuple.sport e.1)
    ∙ ap (λ n. packet_by q.source.0 q.destination.0 q.tuple.proto q.tuple.sport n) (equal p.tuple.dport q.tuple.dport d.1)

same_packet_self : (p : Packet) → same_packet p p ≡ true
same_packet_self p = rw (self p.source.0, self p.destination.0, self p.tuple.proto, self p.tuple.sport, self p.tuple.dport) refl

pub same_flow_self : (f : Flow) → same_flow f f ≡ true
same_flow_self f = rw (self f.source.0, self f.target.0, self f.tuple.proto, self f.tuple.sport, self f.tuple.dport) refl

-- a packet is a flow's reply exactly where the test says so

reply_by : (o : Option Packet) (p : Packet) → option_map_or (λ r. same_packet r p) o false ≡ true → o ≡ Some p
reply_by None p h = cc
reply_by (Some r) p h = ap Some (same_packet_is r p h)

pub reply_is : (c : Config) (p : Packet) (f : Flow) → replies c p f ≡ true → reply_packet c f ≡ Some p
reply_is c p f h = reply_by (reply_packet c f) p h

pub reply_of : (c : Config) (p : Packet) (f : Flow) → reply_packet c f ≡ Some p → replies c p f ≡ true
reply_of c p f h = ap (λ (o : Option Packet). option_map_or (λ r. same_packet r p) o false) h ∙ same_packet_self p

-- what a port that was looked up gives a packet
pub ported : {A : Type 0} (g : Port → A) (o : Option Port) (y : A) → option_map g o ≡ Some y → (q : Port) × (o ≡ Some q) × (g q ≡ y)
ported g None y h = cc
ported g (Some q) y h = let same : g q ≡ y = cc in (q, refl, same)

abbrev numbered : ℕ → PortNo
numbered n = record { 0 = n }

module _ (t : Topology) (c : Config) (form : IsTrue (has_config_form c)) (kept : first_broken t c ≡ None) where
  -- a packet whose candidate is a flow is that flow's reply

  from_port : (p : Packet) (a : Network) (o : Option Port) (f : Flow) → port_at c a p.destination.0 ≡ o → flow_from p o ≡ Some f → reply_packet c f ≡ Some p
  from_port p a None f e h = cc
  from_port p a (Some q) f e h =
      let v = valid t c kept in
      let at = ((finds_port_at t c a p.destination.0 v).some q).0 e in
      let number : port_numbered c q.id.0 ≡ Some q = ((finds_port_numbered t c q.id.0 v).some q).1 (at.0, refl) in
      let is : record { source = q.id; target = p.source; tuple = answering p.tuple } ≡ f = cc in
      let back : reply_packet c (record { source = q.id; target = p.source; tuple = answering p.tuple }) ≡ Some (record { source = p.source; destination = q.address; tuple = p.tuple }) =
      ap (option_map (λ (x : Port). record { source = p.source; destination = x.address; tuple = p.tuple })) number in
      let there : q.address.0 ≡ p.destination.0 = at.1.1 in
      subst (λ (g : Flow). reply_packet c g ≡ Some p) is (back ∙ ap (λ n. Some (record { source = p.source; destination = record { 0 = n }; tuple = p.tuple })) there)

  from_network : (p : Packet) (o : Option Network) (f : Flow) → answered_in c p o ≡ Some f → reply_packet c f ≡ Some p
  from_network p None f h = cc
  from_network p (Some a) f h = from_port p a (port_at c a p.destination.0) f refl h

  from_own : (p : Packet) (o : Option Network) (f : Flow) → answered_from c p o ≡ Some f → reply_packet c f ≡ Some p
  from_own p None f h = cc
  from_own p (Some b) f h = from_network p (network_towards c b p.destination.0) f h

  pub candidate_replies : (p : Packet) (f : Flow) → candidate c p ≡ Some f → reply_packet c f ≡ Some p
  unfolding candidate
  candidate_replies p f h = from_own p (network_of c p.source) f h

  -- the reply of a flow that is permitted one way has that flow as its candidate

  inside_own : (q : Port) (a : Network) → Contains c.ports q → network_named c q.network ≡ Some a → Any (λ s. IsTrue (contains s q.address.0)) a.subnets
  inside_own q a stands e =
      let held = All-contains (λ (p : Port). IfSome (network_named c p.network) (λ n. Any (λ s. contains s p.address.0 ≡ true) n.subnets)) c.ports q (valid t c kept).inside stands in
      subst (λ (o : Option Network). IfSome o (λ n. Any (λ s. contains s q.address.0 ≡ true) n.subnets)) e held

  one_number : (n : ℕ) (q r : Port) → port_numbered c n ≡ Some q → Contains c.ports r → r.id.0 ≡ n → r ≡ q
  one_number n q r e stands is =
      let there : port_numbered c n ≡ Some r = ((finds_port_numbered t c n (valid t c kept)).some r).1 (stands, is) in
      let same : Some r ≡ Some q = sym there ∙ e in
      cc

  pub reply_has_candidate : (p : Packet) (f : Flow) → PermitsOneWay c f → reply_packet c f ≡ Some p → candidate c p ≡ Some f
  unfolding candidate
  reply_has_candidate p f h e =
      let v = valid t c kept in
      let s = ported (λ (q : Port). record { source = f.target; destination = q.address; tuple = answering f.tuple }) (port_numbered c f.source.0) p e in
      let sp : Port = s.0 in
      let w = ported (λ (q : Port). record { source = f.source; destination = q.address; tuple = f.tuple }) (port_numbered c f.target.0) h.packet h.forward in
      let tp : Port = w.0 in
      let P : Outcome → Type 0 = λ o. Becomes c h.packet o in
      let d : IsDelivered c h.packet f.target h.services = subst P h.delivered (becomes t c v h.packet) in
      let leaves : Leaves c h.packet d.own = d.goes.leaves in
      let source_of : leaves.source.id.0 ≡ f.source.0 = ap (λ (n : PortNo). n.0) leaves.source_number ∙ sym (ap (λ (x : Packet). x.source.0) w.2) in
      let source_is : leaves.source ≡ sp = one_number f.source.0 sp leaves.source s.1 leaves.source_stands source_of in
      let target_is_tp : d.arrival ≡ tp = one_number f.target.0 tp d.arrival w.1 d.arrival_stands (ap (λ (n : PortNo). n.0) d.arrival_number) in
      let sp_stands : Contains c.ports sp = (((finds_port_numbered t c f.source.0 v).some sp).0 s.1).0 in
      let sp_number : sp.id.0 ≡ f.source.0 = (((finds_port_numbered t c f.source.0 v).some sp).0 s.1).1 in
      let own_name : d.own.name ≡ sp.network = leaves.own_name ∙ ap (λ (q : Port). q.network) source_is in
      let own_named : network_named c sp.network ≡ Some d.own = ((finds_network_named t c sp.network v).some d.own).1 (leaves.own_stands, own_name) in
      let target_name : d.target.name ≡ tp.network = sym d.arrival_network ∙ ap (λ (q : Port). q.network) target_is_tp in
      let target_named : network_named c tp.network ≡ Some d.target = ((finds_network_named t c tp.network v).some d.target).1 (d.goes.towards.stands, target_name) in
      let back : IsTowards c d.target d.own sp.address.0 = record {
        stands = leaves.own_stands;
        near = near_back c d.own d.target d.goes.towards.near;
        holds = inside_own sp d.own sp_stands own_named;
      } in
      let towards : network_towards c d.target sp.address.0 ≡ Some d.own = target_is t c d.target d.own sp.address.0 form v d.goes.towards.stands back in
      let at : port_at c d.own sp.address.0 ≡ Some sp = ((finds_port_at t c d.own sp.address.0 v).some sp).1 (sp_stands, (sym own_name, refl)) in
      let r : Packet = record { source = f.target; destination = sp.address; tuple = answering f.tuple } in
      let reply : answered_from c r (network_of c f.target) ≡ Some f =
      ap (λ (o : Option Port). answered_from c r (network_at c o)) w.1
      ∙ ap (answered_from c r) target_named
      ∙ ap (answered_in c r) towards
      ∙ ap (flow_from r) at
      ∙ ap (λ n. Some (record { source = record { 0 = n }; target = f.target; tuple = f.tuple })) sp_number in
      subst (λ (x : Packet). answered_from c x (network_of c x.source) ≡ Some f) s.2 reply

  -- so a look at one flow finds what a search through all would

  pub held : (f : Flow) (fs : List Flow) → Contains fs f → list_any (same_flow f) fs ≡ true
  held f fs h = list_any-from_Any (same_flow f) fs (any_of (λ x. same_flow f x ≡ true) fs f h (same_flow_self f))

  looked : (fs : List Flow) (p : Packet) (o : Option Flow) → All (PermitsOneWay c) fs → find (λ f. replies c p f) fs ≡ o → standing (candidate c p) fs ≡ o
  looked fs p (Some g) permits e =
      let found = found_is (λ f. replies c p f) fs g e in
      let is : candidate c p ≡ Some g = reply_has_candidate p g (All-contains (PermitsOneWay c) fs g permits found.1) (reply_is c p g found.0) in
      ap (λ (o : Option Flow). standing o fs) is ∙ ap (λ (b : Bool). cond b (Some g) None) (held g fs found.1)
  looked fs p None permits e = (elim (candidate c p) as (λ o. candidate c p ≡ o → standing o fs ≡ None) [
    | None ↦ λ h. refl
    | Some f ↦ λ h. (elim (list_any (same_flow f) fs) as (λ b. list_any (same_flow f) fs ≡ b → cond b (Some f) None ≡ None) [
      | false ↦ λ k. refl
      | true ↦ λ k.
          let among = Any-from_list_any (same_flow f) fs k in
          let fails : replies c p among.1 ≡ false = All-contains (λ g. replies c p g ≡ false) fs among.1 ((find_none (λ f. replies c p f) fs).0 e) (among.0, among.2, among.3) in
          let never : replies c p f ≡ false = subst (λ (g : Flow). replies c p g ≡ false) (sym (same_flow_is f among.1 among.4)) fails in
          let yes : replies c p f ≡ true = reply_of c p f (candidate_replies p f h) in
          let clash : true ≡ false = sym yes ∙ never in
          absurd cc
    ]) refl
  ]) refl

  pub answered_is : (fs : List Flow) (p : Packet) → All (PermitsOneWay c) fs → standing (candidate c p) fs ≡ answered c fs p
  answered_is fs p permits = looked fs p (answered c fs p) permits refl
