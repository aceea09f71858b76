-- Each lookup of a walk stays with the network that the packet comes from, those near to it, and uses that end there.
use Rattle.std.specs.Prelude.{List, Option, None, Some, false, option_map, suc, true, zero, ℕ, [], ◌++◌, ◌∷◌, ◌≡◌, ◌≤◌, ◌⊎◌}
use Rattle.std.proofs.Common.{ap, inl, inr, refl, subst, sym, ◌∙◌}
use Rattle.std.proofs.lemmas.Bool.{true≢false}
use Rattle.std.proofs.lemmas.Option.{same_Some}
use Rattle.ov_types.specs.Access.{verdict}
use Rattle.ov_types.specs.First.{first_of, ◌<|>◌}
use Rattle.ov_types.specs.declared.numbers.InstanceId.{InstanceId}
use Rattle.ov_types.specs.declared.numbers.Label.{Label as LabelNo}
use Rattle.ov_types.specs.declared.numbers.PortNo.{PortNo}
use Rattle.ov_types.specs.declared.numbers.ServiceNo.{ServiceNo}
use Rattle.ov_types.specs.declared.objects.LowKey.TheVariants as key
use Rattle.ov_types.specs.declared.objects.LowValue.TheVariants as low
use Rattle.ov_types.specs.declared.packet.Outcome.TheVariants.{Delivered}
use Rattle.ov_types.specs.declared.packet.Outcome.{Outcome}
use Rattle.ov_types.specs.declared.packet.Packet.{Packet}
use Rattle.ov_types.specs.declared.packet.Why.TheVariants as Why
use Rattle.ov_types.specs.declared.prefix.Addr.{Addr}
use Rattle.ov_types.specs.declared.rows.Attached.TheVariants.{Circuit, Port}
use Rattle.ov_types.specs.declared.rows.Attached.{Attached}
use Rattle.ov_types.specs.declared.rows.Entry.{Entry as RouteEntry}
use Rattle.ov_types.specs.declared.verdict.Verdict.TheVariants as Says
use Rattle.ov_types.specs.declared.verdict.Verdict.{Verdict}
use Rattle.route_targets.specs.Forwarding.{Forwarder, admitted, agent_at, as_port, attached, departed, followed, forwarding, handed, looked_up, source_at, visited, walk}
use Rattle.route_targets.specs.Numbers.{circuit_instance_of, other_side_of, port_label_of}
use Rattle.node_laws.specs.NodeModel.Members.{Member}
use Rattle.node_laws.specs.NodeModel.Uses.{is_hop, use_of}
use Rattle.node_laws.proofs.NodeModel.Members.{none_some}
use Rattle.machine_model.specs.Events.{forwarders}
use Rattle.schedule_script.specs.Ties.{AreNear, Ties}
use Rattle.machine_laws.specs.Tied.{IsPortLabel, IsRowLabel, IsTiedObject, StandsBetween}
use Rattle.machine_laws.specs.TiedMoments.{AreJoined, AtTiedMoments, DeliversToJoined}
use Rattle.machine_laws.proofs.Found.{agent_in, attached_in, delivered_to, dropped, never_both, route_found, same_circuit, same_port}
use Rattle.machine_laws.proofs.Verdicts.{verdict_enters}
use Rattle.machine_laws.proofs.Agents.{IsTiedForwarder, IsTiedLabel}
use Rattle.machine_laws.proofs.Moments.{all_forward, now}

module _ (t : Ties) where
  -- ---- instances that a packet of a network may be looked up in, and ports where it may end
  abbrev IsWithin : InstanceId → InstanceId → Type 0
  IsWithin a i = ((is_hop i ≡ false) × (i ≡ a)) ⊎ ((is_hop i ≡ true) × ((b : InstanceId) × AreNear t a b × StandsBetween t (use_of i) a b))

  abbrev EndsAt : InstanceId → PortNo → Type 0
  EndsAt a q = (b : InstanceId) × (t.port q ≡ Some b) × AreNear t a b

  ends_at : (a b : InstanceId) (q : PortNo) (label : LabelNo) → IsPortLabel t b label → label ≡ port_label_of q → AreNear t a b → EndsAt a q
  ends_at a b q label l e near = (b, subst (λ p. t.port p ≡ Some b) (same_port l.0 q (sym l.1 ∙ e)) l.3, near)

  -- both networks of a use that stands between two near networks are near to the first
  abbrev Both : InstanceId → InstanceId → InstanceId → Type 0
  Both a c d = AreNear t a c × AreNear t a d

  both_near : (number : ℕ) (a b c d : InstanceId) → AreNear t a b → StandsBetween t number a b → t.chain_use number ≡ Some (c, d) → Both a c d
  both_near number a b c d near (inl s) u =
      let same = same_Some (two a b) (two c d) (sym s ∙ u) in
      (inl (ap (λ (p : InstanceId × InstanceId). p.0) same), subst (AreNear t a) (ap (λ (p : InstanceId × InstanceId). p.1) same) near)
    where
      two : InstanceId → InstanceId → InstanceId × InstanceId
      two a b = (a, b)
  both_near number a b c d near (inr s) u =
      let same = same_Some (two b a) (two c d) (sym s ∙ u) in
      (subst (AreNear t a) (ap (λ (p : InstanceId × InstanceId). p.0) same) near, inl (ap (λ (p : InstanceId × InstanceId). p.1) same))
    where
      two : InstanceId → InstanceId → InstanceId × InstanceId
      two a b = (a, b)

  row_port : (a i : InstanceId) (q : PortNo) (label : LabelNo) → IsRowLabel t i label → IsWithin a i → label ≡ port_label_of q → q.0 ≤ 524271 → EndsAt a q
  row_port a i q label (inl (is, inl l)) within e h = absurd (never_both q l.0 h (sym e ∙ l.1))
  row_port a i q label (inl (is, inr u)) (inl net) e h = absurd (true≢false (sym is ∙ net.0))
  row_port a i q label (inl (is, inr u)) (inr hop) e h =
      let near = both_near (use_of i) a hop.1.0 u.0 u.1 hop.1.1 hop.1.2 u.2 in
      elim u.3 as (λ _. EndsAt a q) [ inl l ↦ ends_at a u.0 q label l e near.0 | inr l ↦ ends_at a u.1 q label l e near.1 ]
  row_port a i q label (inr (is, near)) (inl net) e h = ends_at a near.0 q label near.2 e (subst (λ n. AreNear t n near.0) net.1 near.1)
  row_port a i q label (inr (is, near)) (inr hop) e h = absurd (true≢false (sym hop.0 ∙ is))

  -- through a service the packet stays within its use
  row_circuit : (a i : InstanceId) (c : ℕ) (s : ServiceNo) (label : LabelNo) → IsRowLabel t i label → IsWithin a i → IsTiedLabel t label (Circuit c s) → IsWithin a (circuit_instance_of (other_side_of c))
  row_circuit a i c s label (inl (is, inl l)) (inl net) x = absurd (true≢false (sym is ∙ net.0))
  row_circuit a i c s label (inl (is, inl l)) (inr hop) x =
      let same : c ≡ l.0 = same_circuit c l.0 (sym x.0 ∙ l.1) in
      let still : use_of i ≡ use_of (circuit_instance_of (other_side_of c)) = sym (x.2.1 ∙ ap (λ (c : ℕ). use_of (circuit_instance_of c)) same ∙ l.2.1) in
      inr (x.2.0, (hop.1.0, hop.1.1, subst (λ u. StandsBetween t u a hop.1.0) still hop.1.2))
  row_circuit a i c s label (inl (is, inr u)) within x = elim u.3 as (λ _. IsWithin a (circuit_instance_of (other_side_of c))) [ inl l ↦ absurd (never_both l.0 c l.2 (sym l.1 ∙ x.0)) | inr l ↦ absurd (never_both l.0 c l.2 (sym l.1 ∙ x.0)) ]
  row_circuit a i c s label (inr (is, near)) within x = absurd (never_both near.2.0 c near.2.2 (sym near.2.1 ∙ x.0))

  module _ (agents : List Forwarder) (all : (f : Forwarder) → Member f agents → IsTiedForwarder t f) (address : ℕ) (a : InstanceId) (q : PortNo) (to : List ServiceNo) where
    -- what follows a lookup, where the rest of the walk ends well
    abbrev GoesOn : (Forwarder → List ServiceNo → InstanceId → Outcome) → Type 0
    GoesOn again = (g : Forwarder) (ss : List ServiceNo) (j : InstanceId) → Member g agents → IsWithin a j → again g ss j ≡ Delivered q to → EndsAt a q

    module _ (i : InstanceId) (within : IsWithin a i) (again : Forwarder → List ServiceNo → InstanceId → Outcome) (goes : GoesOn again) (ss : List ServiceNo) (label : LabelNo) (row : IsRowLabel t i label) where
      visited_ends : (g : Forwarder) → Member g agents → (o : Option Attached) → attached g.rows label ≡ o → visited (again g) ss o ≡ Delivered q to → EndsAt a q
      visited_ends g m None is e = absurd (dropped Why.NoLabel q to e)
      visited_ends g m (Some (Port p j)) is e =
          let x = (all g m).labels label (Port p j) (attached_in g.rows label (Port p j) is) in
          subst (EndsAt a) (delivered_to p q ss to e) (row_port a i p label row within x.0 x.1)
      visited_ends g m (Some (Circuit c s)) is e =
          let x = (all g m).labels label (Circuit c s) (attached_in g.rows label (Circuit c s) is) in
          goes g (ss ++ s ∷ []) (circuit_instance_of (other_side_of c)) m (row_circuit a i c s label row within x) e

      handed_ends : (next_hop : Addr) (o : Option Forwarder) → agent_at agents next_hop ≡ o → handed again ss label o ≡ Delivered q to → EndsAt a q
      handed_ends next_hop None is e = absurd (dropped Why.NoLabel q to e)
      handed_ends next_hop (Some g) is e = visited_ends g (agent_in agents next_hop g is) (attached g.rows label) refl e

    followed_ends : (i : InstanceId) → IsWithin a i → (again : Forwarder → List ServiceNo → InstanceId → Outcome) → GoesOn again → (ss : List ServiceNo)
        → (f : Forwarder) → Member f agents → (o : Option RouteEntry) → looked_up f.rows i address ≡ o → followed again agents ss o ≡ Delivered q to → EndsAt a q
    followed_ends i within again goes ss f m None is e = absurd (dropped Why.NoRoute q to e)
    followed_ends i within again goes ss f m (Some hop) is e =
        let r = route_found f.rows i address hop is in
        let row : IsRowLabel t i hop.label = subst (λ (n : InstanceId). IsRowLabel t n hop.label) r.2 (subst (λ (h : RouteEntry). IsRowLabel t r.0.0.0 h.label) r.3 ((all f m).routes r.0 r.1)) in
        handed_ends i within again goes ss hop.label row hop.next_hop (agent_at agents hop.next_hop) refl e

    walk_ends : (left : ℕ) (f : Forwarder) (ss : List ServiceNo) (i : InstanceId) → Member f agents → IsWithin a i → walk agents address left f ss i ≡ Delivered q to → EndsAt a q
    walk_ends zero f ss i m within e = absurd (dropped Why.TtlExpired q to e)
    walk_ends (suc left) f ss i m within e =
        followed_ends i within (walk agents address left) (λ g rest j n w x. walk_ends left g rest j n w x) ss f m (looked_up f.rows i address) refl e

  -- ---- where a packet starts
  module _ (agents : List Forwarder) (all : (f : Forwarder) → Member f agents → IsTiedForwarder t f) (p : Packet) (q : PortNo) (to : List ServiceNo) where
    admitted_ends : (f : Forwarder) → Member f agents → (a : InstanceId) → is_hop a ≡ false → (v : Verdict) → verdict f.rows.acls a.0 p ≡ v → admitted agents p.destination.0 f a v ≡ Delivered q to → EndsAt a q
    admitted_ends f m a net Says.Pass is e = walk_ends agents all p.destination.0 a q to 64 f [] a m (inl (net, refl)) e
    admitted_ends f m a net (Says.Enter i) is e =
        let n = verdict_enters f.rows.acls a.0 p i is in
        let o : IsTiedObject t (key.Acl a.0 n.to) (low.Acl n.subnets n.rules) = (all f m).acls (key.Acl a.0 n.to) (low.Acl n.subnets n.rules) n.held in
        let s = o.1 n.rule i n.of n.enters in
        walk_ends agents all p.destination.0 a q to 64 f [] i m (inr (s.0, (record { 0 = n.to }, o.0, s.1))) e
    admitted_ends f m a net (Says.Denied r) is e = absurd (dropped (Why.Denied r) q to e)
    admitted_ends f m a net Says.NoDestination is e = absurd (dropped Why.NoDestination q to e)

    -- a source port is tied to the instance of its attachment
    abbrev StartsIn : InstanceId → Type 0
    StartsIn a = (is_hop a ≡ false) × (t.port p.source ≡ Some a)

    port_starts : (f : Forwarder) → Member f agents → (o : Option Attached) → attached f.rows (port_label_of p.source) ≡ o → (a : InstanceId) → as_port o ≡ Some a → StartsIn a
    port_starts f m None is a e = absurd (none_some a e)
    port_starts f m (Some (Circuit c s)) is a e = absurd (none_some a e)
    port_starts f m (Some (Port port i)) is a e =
        let x = (all f m).labels (port_label_of p.source) (Port port i) (attached_in f.rows (port_label_of p.source) (Port port i) is) in
        let same : port ≡ p.source = sym (same_port p.source port x.0) in
        subst StartsIn (same_Some i a e) (x.2, subst (λ (n : PortNo). t.port n ≡ Some i) same x.3)

    abbrev Source : Type 0
    Source = Forwarder × InstanceId

    source_in : (fs : List Forwarder) (s : Source) → first_of (source_at p) fs ≡ Some s → Member s.0 fs × (as_port (attached s.0.rows (port_label_of p.source)) ≡ Some s.1)
    source_in [] s e = absurd (none_some s e)
    source_in (f ∷ fs) s e = by_first (source_in fs s) (as_port (attached f.rows (port_label_of p.source))) refl e
      where
        Found : List Forwarder → Type 0
        Found fs = Member s.0 fs × (as_port (attached s.0.rows (port_label_of p.source)) ≡ Some s.1)

        by_first : (first_of (source_at p) fs ≡ Some s → Found fs) → (o : Option InstanceId) → as_port (attached f.rows (port_label_of p.source)) ≡ o → (option_map (λ network. (f, network)) o <|> first_of (source_at p) fs) ≡ Some s → Found (f ∷ fs)
        by_first rest None is e = let r = rest e in (inr r.0, r.1)
        by_first rest (Some i) is e = subst (λ (s : Source). Member s.0 (f ∷ fs) × (as_port (attached s.0.rows (port_label_of p.source)) ≡ Some s.1)) (same_Some _ s e) (inl refl, is)

    departed_ends : (o : Option Source) → first_of (source_at p) agents ≡ o → departed agents p o ≡ Delivered q to → AreJoined t p.source q
    departed_ends None is e = absurd (dropped Why.NoSourcePort q to e)
    departed_ends (Some s) is e =
        let f = source_in agents s is in
        let starts = port_starts s.0 f.0 (attached s.0.rows (port_label_of p.source)) refl s.1 f.1 in
        let ends = admitted_ends s.0 f.0 s.1 starts.0 (verdict s.0.rows.acls s.1.0 p) refl e in
        record { from = s.1; to = ends.0; source = starts.1; destination = ends.1; near = ends.2 }

    delivered_joined : forwarding agents p ≡ Delivered q to → AreJoined t p.source q
    unfolding forwarding
    delivered_joined e = departed_ends (first_of (source_at p) agents) refl e

pub isolates : AtTiedMoments (λ t asn w. DeliversToJoined t w)
isolates size positive t x written as_tied es asked p q services e =
    delivered_joined t (forwarders (now size positive t x written as_tied es asked)) (all_forward size positive t x written as_tied es asked) p q services e
