-- What the lookups of a packet find stands in the rows.
use Rattle.std.specs.List.{filter_map}
use Rattle.std.specs.Prelude.{List, Option, None, Some, cond, false, find, nat_le, true, ℕ, [], ◌+◌, ◌==◌, ◌∷◌, ◌≡◌, ◌≤◌}
use Rattle.std.proofs.Common.{ap, arith, inl, inr, refl, subst, ◌∙◌}
use Rattle.std.proofs.lemmas.Bool.{eqb-true}
use Rattle.std.proofs.lemmas.Option.{same_Some}
use Rattle.ov_types.specs.Prefix.{Block, contains}
use Rattle.ov_types.specs.Routing.{longer, longest}
use Rattle.ov_types.specs.declared.numbers.InstanceId.{InstanceId}
use Rattle.ov_types.specs.declared.numbers.Label.{Label as LabelNo}
use Rattle.ov_types.specs.declared.numbers.PortNo.{PortNo}
use Rattle.ov_types.specs.declared.numbers.ServiceNo.{ServiceNo}
use Rattle.ov_types.specs.declared.packet.Outcome.TheVariants.{Delivered, Dropped}
use Rattle.ov_types.specs.declared.packet.Why.{Why as Reason}
use Rattle.ov_types.specs.declared.prefix.Addr.{Addr}
use Rattle.ov_types.specs.declared.rows.AgentRows.{AgentRows}
use Rattle.ov_types.specs.declared.rows.Attached.{Attached}
use Rattle.ov_types.specs.declared.rows.Entry.{Entry as RouteEntry}
use Rattle.ov_types.proofs.FirstLemmas.{found_is}
use Rattle.route_targets.specs.Forwarding.{Forwarder, agent_at, attached, looked_up, route_in}
use Rattle.route_targets.specs.Numbers.{circuit_label_of, port_label_of}
use Rattle.transform_model.proofs.Lists.{mapped_some}
use Rattle.node_laws.specs.NodeModel.Members.{Member}
use Rattle.node_laws.proofs.NodeModel.Members.{from_filter_map, none_some}
use Rattle.node_laws.proofs.NodeModel.Members.{member_of}

-- ---- numbers
same_label : (l m : LabelNo) → (l.0 == m.0) ≡ true → l ≡ m
same_label l m e = λ k. record { 0 = eqb-true l.0 m.0 e k }

same_instance : (i j : InstanceId) → (i.0 == j.0) ≡ true → i ≡ j
same_instance i j e = λ k. record { 0 = eqb-true i.0 j.0 e k }

pub same_port : (p q : PortNo) → port_label_of p ≡ port_label_of q → p ≡ q
same_port p q e = λ k. record { 0 = number p.0 q.0 (ap (λ (l : LabelNo). l.0) e) k }
  where
    number : (m n : ℕ) → 16 + m ≡ 16 + n → m ≡ n
    number m n e = omega (arith, e)

pub same_circuit : (c d : ℕ) → circuit_label_of c ≡ circuit_label_of d → c ≡ d
same_circuit c d e = number c d (ap (λ (l : LabelNo). l.0) e)
  where
    number : (m n : ℕ) → 524288 + m ≡ 524288 + n → m ≡ n
    number m n e = omega (arith, e)

pub never_both : (p : PortNo) (c : ℕ) → p.0 ≤ 524271 → port_label_of p ≡ circuit_label_of c → ⊥
never_both p c h e = number p.0 c h (ap (λ (l : LabelNo). l.0) e)
  where
    number : (m n : ℕ) → m ≤ 524271 → 16 + m ≡ 524288 + n → ⊥
    number m n h e = omega (arith, h, e)

-- ---- what is found in rows
pub attached_in : (rows : AgentRows) (label : LabelNo) (a : Attached) → attached rows label ≡ Some a → Member (label, a) rows.labels
attached_in rows label a e =
    let m = mapped_some (λ (e : LabelNo × Attached). e.1) (find (λ (e : LabelNo × Attached). e.0.0 == label.0) rows.labels) a e in
    let f = found_is (λ (e : LabelNo × Attached). e.0.0 == label.0) rows.labels m.0 m.1 in
    subst (λ (e : LabelNo × Attached). Member e rows.labels) (λ k. (same_label m.0.0 label f.0 k, m.2 k)) (member_of rows.labels m.0 f.1)

longest_in : {A : Type 0} (a : ℕ) (rs : List (Block × A)) (r : Block × A) → longest a rs ≡ Some r → Member r rs
longest_in a [] r e = absurd (none_some r e)
longest_in {A} a (s ∷ rs) r e =
    elim (contains s.0 a) as (λ b. cond b (longer s (longest a rs)) (longest a rs) ≡ Some r → Member r (s ∷ rs)) [
      | true ↦ λ e. by_rest (longest_in a rs r) (longest a rs) refl e
      | false ↦ λ e. inr (longest_in a rs r e)
    ] e
  where
    by_rest : (longest a rs ≡ Some r → Member r rs) → (o : Option (Block × A)) → longest a rs ≡ o → longer s o ≡ Some r → Member r (s ∷ rs)
    by_rest rest None is e = inl (same_Some s r e)
    by_rest rest (Some u) is e =
        elim (nat_le u.0.len s.0.len) as (λ b. cond b (Some s) (Some u) ≡ Some r → Member r (s ∷ rs)) [
          | true ↦ λ e. inl (same_Some s r e)
          | false ↦ λ e. inr (rest (is ∙ e))
        ] e

abbrev pub Routed : Type 0
Routed = (InstanceId × Block) × RouteEntry

route_is_in : (i : InstanceId) (r : Routed) (s : Block × RouteEntry) → route_in i r ≡ Some s → (r.0.0 ≡ i) × (r.1 ≡ s.1)
route_is_in i r s e =
    elim (r.0.0.0 == i.0) as (λ b. (r.0.0.0 == i.0) ≡ b → cond b (Some (r.0.1, r.1)) None ≡ Some s → (r.0.0 ≡ i) × (r.1 ≡ s.1)) [
      | true ↦ λ is e. (same_instance r.0.0 i is, ap (λ (s : Block × RouteEntry). s.1) (same_Some _ s e))
      | false ↦ λ is e. absurd (none_some s e)
    ] refl e

pub route_found : (rows : AgentRows) (i : InstanceId) (address : ℕ) (hop : RouteEntry) → looked_up rows i address ≡ Some hop → (r : Routed) × Member r rows.routes × (r.0.0 ≡ i) × (r.1 ≡ hop)
route_found rows i address hop e =
    let m = mapped_some (λ (r : Block × RouteEntry). r.1) (longest address (filter_map (route_in i) rows.routes)) hop e in
    let q = from_filter_map (route_in i) m.0 rows.routes (longest_in address (filter_map (route_in i) rows.routes) m.0 m.1) in
    let s = route_is_in i q.0 m.0 q.2 in
    (q.0, q.1, s.0, s.1 ∙ m.2)

pub agent_in : (agents : List Forwarder) (address : Addr) (g : Forwarder) → agent_at agents address ≡ Some g → Member g agents
agent_in agents address g e = member_of agents g (found_is (λ (g : Forwarder). g.address.0 == address.0) agents g e).1

pub dropped : (w : Reason) (q : PortNo) (services : List ServiceNo) → Dropped w ≡ Delivered q services → ⊥
dropped w q services e = cc

pub delivered_to : (p q : PortNo) (s r : List ServiceNo) → Delivered p s ≡ Delivered q r → p ≡ q
delivered_to p q s r e = cc
