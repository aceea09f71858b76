-- Delivered packets: their services, their lookups, and the ports that they reach.
use Rattle.std.proofs.Common.{◌≡◌, ◌==◌, ℕ, zero, suc, ◌+◌, ◌≤◌, ◌++◌, Bool, List, [], ◌∷◌, Option, Some, None, option_map, length, find, refl, sym, ap, ◌∙◌, append_assoc, append-nil, length-append, arith}
use Rattle.std.proofs.lemmas.List.{length-map}
use Rattle.std.specs.List.{Any, Contains, filter_map}
use Rattle.ov_types.specs.Access.{verdict}
use Rattle.ov_types.specs.First.{first_of}
use Rattle.ov_types.specs.declared.numbers.InstanceId.{InstanceId}
use Rattle.ov_types.specs.declared.numbers.Label.{Label}
use Rattle.ov_types.specs.declared.numbers.PortNo.{PortNo}
use Rattle.ov_types.specs.declared.numbers.ServiceNo.{ServiceNo}
use Rattle.ov_types.specs.declared.packet.Outcome.TheVariants.{Delivered}
use Rattle.ov_types.specs.declared.packet.Packet.{Packet}
use Rattle.ov_types.specs.declared.prefix.Addr.{Addr}
use Rattle.ov_types.specs.declared.rows.AgentRows.{AgentRows}
use Rattle.ov_types.specs.declared.rows.Attached.{Attached}
use Rattle.ov_types.specs.declared.rows.Attached.TheVariants.{Port, Circuit}
use Rattle.ov_types.specs.declared.rows.Entry.{Entry}
use Rattle.ov_types.specs.declared.verdict.Verdict.{Verdict}
use Rattle.ov_types.specs.declared.verdict.Verdict.TheVariants as Says
use Rattle.ov_types.proofs.FirstLemmas.{any_of, found_is}
use Rattle.route_targets.specs.Forwarding.{Forwarder, admitted, agent_at, attached, departed, forwarding, looked_up, source_at, walk}
use Rattle.packet_trace.specs.Lookups.{Arrives, Leading, Lookup, Passes, Stops, hop_of, hops_of, leading, leading_at, leading_by, leading_to, lookups, lookups_at, lookups_by, lookups_from, on_from, service_of}
use Rattle.packet_trace.specs.Ports.{HasPort}
use Rattle.packet_trace.proofs.Walks.{by_route, outcome_by}

-- a port that a lookup leads to is among the labels of an agent

port_at : (g : Forwarder) (port : PortNo) (o : Option Attached) → leading_at g o ≡ Arrives port → (i : InstanceId) × (o ≡ Some (Port port i))
port_at g port None h = cc
port_at g port (Some (Port q i)) h = let same : q ≡ port = cc in (i, ap (λ (r : PortNo). Some (Port r i)) same)
port_at g port (Some (Circuit n s)) h = cc

labelled : (rows : AgentRows) (label : Label) (t : Attached) → attached rows label ≡ Some t → (e : Label × Attached) × (Contains rows.labels e × (e.1 ≡ t))
labelled rows label t h =
    let p : Label × Attached → Bool = λ e. e.0.0 == label.0 in
    elim (find p rows.labels) as (λ o. find p rows.labels ≡ o → option_map (λ (e : Label × Attached). e.1) o ≡ Some t → (e : Label × Attached) × (Contains rows.labels e × (e.1 ≡ t))) [
      | None ↦ λ q is. cc
      | Some e ↦ λ q is. let same : e.1 ≡ t = cc in (e, ((found_is p rows.labels e q).1, same))
    ] refl h

port_of : (g : Forwarder) (label : Label) (port : PortNo) → leading_at g (attached g.rows label) ≡ Arrives port → HasPort port g
port_of g label port h =
    let at = port_at g port (attached g.rows label) h in
    let e = labelled g.rows label (Port port at.0) at.1 in
    record { entry = e.0; instance = at.0; listed = e.1.0; leads = e.1.1 }

module _ (agents : List Forwarder) where
  port_by_label : (label : Label) (a : Addr) (o : Option Forwarder) (port : PortNo) → agent_at agents a ≡ o → leading_to label o ≡ Arrives port → Any (HasPort port) agents
  port_by_label label a None port at h = cc
  port_by_label label a (Some g) port at h =
      any_of (HasPort port) agents g ((found_is (λ f. f.address.0 == a.0) agents g at).1) (port_of g label port h)

  port_by : (o : Option Entry) (port : PortNo) → leading_by agents o ≡ Arrives port → Any (HasPort port) agents
  port_by None port h = cc
  port_by (Some e) port h = port_by_label e.label e.next_hop (agent_at agents e.next_hop) port refl h

  -- a walk that delivers

  module _ (address : ℕ) where
    abbrev served : Lookup → Option ServiceNo
    served l = service_of (leading agents address l)

    pub record Delivers (left : ℕ) (l : Lookup) (before : List ServiceNo) (port : PortNo) (all : List ServiceNo) : Type 0 where
      pub services : all ≡ before ++ filter_map served (lookups_from agents address left l)
      pub one_more : length before + length (lookups_from agents address left l) ≡ length all + 1
      pub somewhere : Any (HasPort port) agents

    pub few_lookups : (left : ℕ) (l : Lookup) → length (lookups_from agents address left l) ≤ left
    few_lookups zero l = omega arith
    few_lookups (suc left) l =
        elim (leading agents address l) as (λ d. length (l ∷ on_from (lookups_from agents address left) d) ≤ suc left) [
          | Arrives port ↦ omega arith
          | Stops why ↦ omega arith
          | Passes s m ↦ let rest = few_lookups left m in omega (arith, rest)
        ]

    arrives : (left : ℕ) (l : Lookup) (before : List ServiceNo) (port q : PortNo) (all : List ServiceNo) → leading agents address l ≡ Arrives q
        → Delivered q before ≡ Delivered port all → Delivers (suc left) l before port all
    arrives left l before port q all at h =
        let same : q ≡ port = cc in
        let whole : before ≡ all = cc in
        let alone : lookups_from agents address (suc left) l ≡ l ∷ [] = ap (λ (d : Leading). l ∷ on_from (lookups_from agents address left) d) at in
        let none : filter_map served (l ∷ []) ≡ [] = rw at refl in
        record {
          services = sym whole ∙ sym (append-nil before) ∙ ap (λ (x : List ServiceNo). before ++ x) (sym none) ∙ ap (λ (ls : List Lookup). before ++ filter_map served ls) (sym alone);
          one_more = ap (λ (ls : List Lookup). length before + length ls) alone ∙ ap (λ (x : List ServiceNo). length x + 1) whole;
          somewhere = port_by (looked_up l.agent.rows l.instance address) port (at ∙ ap Arrives same);
        }

    passes : (left : ℕ) (l m : Lookup) (before : List ServiceNo) (s : ServiceNo) (port : PortNo) (all : List ServiceNo) → leading agents address l ≡ Passes s m
        → Delivers left m (before ++ s ∷ []) port all → Delivers (suc left) l before port all
    passes left l m before s port all at d =
        let rest : List Lookup = lookups_from agents address left m in
        let on : lookups_from agents address (suc left) l ≡ l ∷ rest = ap (λ (x : Leading). l ∷ on_from (lookups_from agents address left) x) at in
        let kept : filter_map served (l ∷ rest) ≡ s ∷ filter_map served rest = rw at refl in
        let long : length (before ++ s ∷ []) ≡ length before + 1 = length-append before (s ∷ []) in
        let more = d.one_more in
        record {
          services = d.services ∙ append_assoc before (s ∷ []) (filter_map served rest) ∙ ap (λ (x : List ServiceNo). before ++ x) (sym kept) ∙ ap (λ (ls : List Lookup). before ++ filter_map served ls) (sym on);
          one_more = ap (λ (ls : List Lookup). length before + length ls) on ∙ omega (arith, long, more);
          somewhere = d.somewhere;
        }

    pub delivers : (left : ℕ) (l : Lookup) (before : List ServiceNo) (port : PortNo) (all : List ServiceNo)
        → walk agents address left l.agent before l.instance ≡ Delivered port all → Delivers left l before port all
    delivers zero l before port all h = cc
    delivers (suc left) l before port all h =
        elim (leading agents address l) as (λ d. leading agents address l ≡ d → outcome_by (walk agents address left) before d ≡ Delivered port all → Delivers (suc left) l before port all) [
          | Arrives q ↦ λ at is. arrives left l before port q all at is
          | Stops why ↦ λ at is. cc
          | Passes s m ↦ λ at is. passes left l m before s port all at (delivers left m (before ++ s ∷ []) port all is)
        ] refl (sym (by_route (walk agents address left) before agents (looked_up l.agent.rows l.instance address)) ∙ h)

-- a packet that is delivered

module _ (agents : List Forwarder) (p : Packet) (port : PortNo) (all : List ServiceNo) where
  pub record Ends (ls : List Lookup) : Type 0 where
    pub services : all ≡ filter_map (served agents p.destination.0) ls
    pub one_more : length ls ≡ length all + 1
    pub somewhere : Any (HasPort port) agents

  walked : (l : Lookup) → walk agents p.destination.0 64 l.agent [] l.instance ≡ Delivered port all → Ends (lookups_from agents p.destination.0 64 l)
  walked l h =
      let d = delivers agents p.destination.0 64 l [] port all h in
      let more = d.one_more in
      record { services = d.services; one_more = omega (arith, more); somewhere = d.somewhere }

  by_verdict : (f : Forwarder) (network : InstanceId) (v : Verdict) → admitted agents p.destination.0 f network v ≡ Delivered port all → Ends (lookups_by agents p.destination.0 f network v)
  by_verdict f network Says.Pass h = walked (record { agent = f; instance = network }) h
  by_verdict f network (Says.Enter i) h = walked (record { agent = f; instance = i }) h
  by_verdict f network (Says.Denied rule) h = cc
  by_verdict f network Says.NoDestination h = cc

  by_source : (o : Option (Forwarder × InstanceId)) → departed agents p o ≡ Delivered port all → Ends (lookups_at agents p o)
  by_source None h = cc
  by_source (Some s) h = by_verdict s.0 s.1 (verdict s.0.rows.acls s.1.0 p) h

  pub ends : forwarding agents p ≡ Delivered port all → Ends (lookups agents p)
  unfolding forwarding lookups
  ends h = by_source (first_of (source_at p) agents) h

module _ (agents : List Forwarder) (p : Packet) where
  few_by : (f : Forwarder) (network : InstanceId) (v : Verdict) → length (lookups_by agents p.destination.0 f network v) ≤ 64
  few_by f network Says.Pass = few_lookups agents p.destination.0 64 (record { agent = f; instance = network })
  few_by f network (Says.Enter i) = few_lookups agents p.destination.0 64 (record { agent = f; instance = i })
  few_by f network (Says.Denied rule) = omega arith
  few_by f network Says.NoDestination = omega arith

  few_at : (o : Option (Forwarder × InstanceId)) → length (lookups_at agents p o) ≤ 64
  few_at None = omega arith
  few_at (Some s) = few_by s.0 s.1 (verdict s.0.rows.acls s.1.0 p)

  few : length (lookups agents p) ≤ 64
  unfolding lookups
  few = few_at (first_of (source_at p) agents)

  pub few_hops : length (hops_of agents p) ≤ 64
  few_hops = let same : length (hops_of agents p) ≡ length (lookups agents p) = length-map (lookups agents p) hop_of in let h = few in omega (arith, same, h)

  pub one_hop_more : (port : PortNo) (all : List ServiceNo) → forwarding agents p ≡ Delivered port all → length (hops_of agents p) ≡ length all + 1
  one_hop_more port all h = length-map (lookups agents p) hop_of ∙ (ends agents p port all h).one_more
