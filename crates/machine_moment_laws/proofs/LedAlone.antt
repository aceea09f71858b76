-- Where the common part leads an address, an agent leads it nowhere else.
use Rattle.std.specs.Prelude.{◌≡◌, ◌≤◌, ℕ, Bool, List, ◌∷◌, map, true, false}
use Rattle.std.proofs.Common.{arith, inl, inr, refl, subst, sym, ◌∙◌}
use Rattle.ov_types.specs.Prefix.{Block, contains}
use Rattle.ov_types.specs.declared.numbers.InstanceId.{InstanceId}
use Rattle.ov_types.specs.declared.rows.Entry.{Entry as RouteEntry}
use Rattle.config_types.specs.declared.topology.Node.{Node}
use Rattle.schedule_script.specs.ConfigCheck.Checked.{Checked}
use Rattle.node_laws.specs.NodeModel.Agent as agent
use Rattle.node_laws.specs.NodeModel.Members.{Member}
use Rattle.node_laws.specs.NodeModel.Uses.{is_hop}
use Rattle.machine_model.specs.Events.{after}
use Rattle.machine_model.specs.Moments.{Each, nodes}
use Rattle.machine_model.specs.Network.{agent_holdings, sessions_of, start}
use Rattle.machine_model.specs.Session.{Session}
use Rattle.machine_model.specs.Setup.{Setup, opening}
use Rattle.machine_laws.specs.Headline.{IsWritten}
use Rattle.machine_laws.proofs.Views.{views}
use Rattle.machine_moment_laws.specs.Common.{ChangesHands, IsLedAlone, NothingElseLeads, rows_in_common, standing}
use Rattle.machine_moment_laws.specs.Windows.{AtMomentsOfWindows}
use Rattle.machine_moment_laws.proofs.Alone.{alone_in_network, held_route}
use Rattle.machine_moment_laws.proofs.Here.{Here}
use Rattle.machine_moment_laws.proofs.HopRows.{hop_host_row, subnet_row}
use Rattle.machine_moment_laws.proofs.InUses.{one_prefix}
use Rattle.machine_moment_laws.proofs.CommonLasting.{holds_kept, some_kept, stood_kept}
use Rattle.machine_moment_laws.proofs.CommonMoments.{all_are_written, every_moment, first_one, others}
use Rattle.machine_moment_laws.proofs.OfSome.{AreSomeTo}
use Rattle.machine_moment_laws.proofs.Routes.{IsCompiled, compiled_is, host_hop, route_at}
use Rattle.machine_moment_laws.proofs.Says.{HoldsTo}
use Rattle.machine_moment_laws.proofs.Stood.{HoldStood, RowStood}

module _ (b : Checked) (ds : List Checked) (written : (c : Checked) → Member c (b ∷ ds) → IsWritten (opening c)) where
  abbrev cs : List Checked
  cs = b ∷ ds

  module _ (r : ℕ) (x : Setup) (ss : List Session) (here : Here b ds written x (map nodes ss)) (lasting_stays : Each (HoldsTo b ds written r) ss) (some : Each (AreSomeTo cs r) ss) (st : Each (HoldStood cs b.topology.asn r) ss) (n : Node) (stays : Member n (standing cs)) where
    abbrev held : agent.Holdings
    held = agent_holdings x n.name (views (sessions_of n.name ss))

    alone_in_use : 5 ≤ r → (i : InstanceId) (p q : Block) (hop other : RouteEntry) (d : ℕ) → is_hop i ≡ true → Member (route_at i p hop) (rows_in_common cs n.address).routes → Member (route_at i q other) (agent.routes held) → contains p d ≡ true → contains q d ≡ true → route_at i q other ≡ route_at i p hop
    alone_in_use rank i p q hop other d is m there in_p in_q = λ k. route_at i (at k) (same k)
      where
        c : IsCompiled cs n.address i p hop
        c = compiled_is cs n.address i p hop m

        told : RowStood cs i q other.next_hop other.label
        told = held_route b ds written r x ss here lasting_stays some st n stays rank i q other there

        at : q ≡ p
        at = one_prefix b ds written i is p c.row c.kind q other.next_hop other.label told d in_p in_q

        told_at : RowStood cs i p other.next_hop other.label
        told_at = subst (λ (q : Block). RowStood cs i q other.next_hop other.label) at told

        same : other ≡ hop
        same = elim c.kind as (λ _. other ≡ hop) [
          | inl h ↦ host_hop b ds written r x ss here lasting_stays some st n stays h.to c.row hop other h.row c.hop_is (hop_host_row b ds written i is h.to h.attached h.imported other.next_hop other.label (subst (λ (y : Block). RowStood cs i y other.next_hop other.label) (sym h.prefix) told_at))
          | inr t ↦ host_hop b ds written r x ss here lasting_stays some st n stays t.to c.row hop other t.row c.hop_is (subnet_row b ds written i p c.row t is other.next_hop other.label told_at)
        ]

    pub leads_alone : 5 ≤ r → (i : InstanceId) (p q : Block) (hop other : RouteEntry) (d : ℕ) → Member (route_at i p hop) (rows_in_common cs n.address).routes → (ChangesHands cs i p → ⊥) → Member (route_at i q other) (agent.routes held) → contains p d ≡ true → contains q d ≡ true → route_at i q other ≡ route_at i p hop
    leads_alone rank i p q hop other d m keeps there in_p in_q = by (is_hop i) refl
      where
        by : (a : Bool) → is_hop i ≡ a → route_at i q other ≡ route_at i p hop
        by true is = alone_in_use rank i p q hop other d is m there in_p in_q
        by false net = alone_in_network b ds written r x ss here lasting_stays some st n stays rank i p q hop other d net m keeps there in_p in_q

    pub led_alone : 5 ≤ r → IsLedAlone cs n.address (agent.rows held)
    led_alone rank = record {
      alone = λ r s d m keeps there same in_r in_s.
          (λ i. ((same i, s.0.1), s.1)) ∙ leads_alone rank r.0.0 r.0.1 s.0.1 r.1 s.1 d m keeps (subst (λ (i : InstanceId). Member (route_at i s.0.1 s.1) (agent.routes held)) same there) in_r in_s;
    }

five : 5 ≤ 5
five = omega arith

pub nothing_else_leads : AtMomentsOfWindows NothingElseLeads
nothing_else_leads size positive x written before asked begins es window form n stays =
    let all = every_moment size positive x written before asked begins es window form in
    let w = after size (after size (start x) before) es in
    let b = first_one size positive x written before asked begins es window form in
    let ds = others size positive x written before asked begins es window form in
    let valid = all_are_written size positive x written before asked begins es window form in
    led_alone b ds valid 5 w.setup w.sessions all.0 (holds_kept b ds valid 5 w.sessions all.1) (some_kept b ds valid 5 w.sessions all.1) (stood_kept b ds valid 5 w.sessions all.1) n stays five
