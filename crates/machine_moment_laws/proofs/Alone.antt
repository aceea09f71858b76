-- Where the common part leads an address in the instance of a network, an agent leads it nowhere else.
use Rattle.std.specs.Prelude.{◌≡◌, ◌≤◌, ◌⊎◌, ℕ, List, [], ◌∷◌, map, true, false, cond}
use Rattle.std.specs.FinMap.{empty, get}
use Rattle.std.specs.List.{AllByRecursion}
use Rattle.std.specs.declared.option.Option.{Option}
use Rattle.std.specs.declared.option.Option.TheVariants.{None, Some}
use Rattle.std.proofs.Common.{ap, inl, inr, subst, sym, ◌∙◌}
use Rattle.std.proofs.lemmas.Bool.{true≢false}
use Rattle.std.proofs.lemmas.Option.{same_Some}
use Rattle.ov_types.specs.Prefix.{Block, contains, host_prefix}
use Rattle.ov_types.specs.declared.numbers.InstanceId.{InstanceId}
use Rattle.ov_types.specs.declared.objects.LowKey.{LowKey}
use Rattle.ov_types.specs.declared.objects.LowKey.TheVariants as key
use Rattle.ov_types.specs.declared.objects.LowValue.{LowValue}
use Rattle.ov_types.specs.declared.objects.LowValue.TheVariants as low
use Rattle.ov_types.specs.declared.rows.Entry.{Entry as RouteEntry}
use Rattle.route_targets.specs.Numbers.{circuit_address_of}
use Rattle.config_types.specs.declared.topology.Node.{Node}
use Rattle.schedule_script.specs.ConfigCheck.Checked.{Checked}
use Rattle.transform_model.proofs.Blocks.{host_is}
use Rattle.node_laws.specs.NodeModel.Agent as agent
use Rattle.node_laws.specs.NodeModel.Agent.{as_hop, first_some}
use Rattle.node_laws.specs.NodeModel.Keys.{key_cmp, Row}
use Rattle.node_laws.specs.NodeModel.Maps.{Map, objects}
use Rattle.node_laws.specs.NodeModel.Members.{Member}
use Rattle.node_laws.specs.NodeModel.Uses.{is_hop}
use Rattle.node_laws.specs.NodeModel.Values.{Entry, Label, Object, Route, Value}
use Rattle.node_laws.proofs.NodeModel.Heard.{route_is}
use Rattle.node_laws.proofs.NodeModel.Members.{from_filter_map, none_some}
use Rattle.node_laws.proofs.NodeModel.Objects.{is_hop-hop}
use Rattle.node_laws.proofs.NodeModel.Places.{is_hop-network}
use Rattle.machine_model.specs.Moments.{Each, nodes}
use Rattle.machine_model.specs.Network.{agent_holdings, sessions_of}
use Rattle.machine_model.specs.Session.{Session}
use Rattle.machine_model.specs.Setup.{Setup, low_in, opening}
use Rattle.machine_model.proofs.OvSync.KeyedLaws.{empty_values}
use Rattle.machine_model.proofs.Twins.{each_weaker}
use Rattle.machine_laws.specs.Compiled.{Attachment, as_attachment, attachments}
use Rattle.machine_laws.specs.Headline.{IsWritten}
use Rattle.machine_laws.proofs.Views.{views}
use Rattle.machine_laws.proofs.Wants.{agent_holds}
use Rattle.machine_laws.proofs.Written.{sound_setup}
use Rattle.machine_moment_laws.specs.Common.{ChangesHands, common, rows_in_common, standing}
use Rattle.machine_moment_laws.proofs.Here.{Here}
use Rattle.machine_moment_laws.proofs.CommonInUse.{mine_own}
use Rattle.machine_moment_laws.proofs.OfSome.{AreSomeTo}
use Rattle.machine_moment_laws.proofs.Routes.{IsCompiled, compiled_is, host_hop, route_at}
use Rattle.machine_moment_laws.proofs.Says.{HoldsTo, Mine}
use Rattle.machine_moment_laws.proofs.Static.{led_hop, network_row}
use Rattle.machine_moment_laws.proofs.Stood.{HoldStood, HostStood, LedStood, RowStood}

-- what is attached has a host's prefix
abbrev pub IsHost : Block → Type 0
IsHost prefix = (m : ℕ) × (prefix ≡ host_prefix m)

attached_host : (k : LowKey) (v : LowValue) (a : Attachment) → as_attachment k v ≡ Some a → IsHost a.prefix
attached_host (key.Attach l) (low.AttachPort p i x n) a h = (x.0, ap (λ (a : Attachment). a.prefix) (sym (same_Some _ a h)))
attached_host (key.Attach l) (low.AttachCircuit c s n) a h = ((circuit_address_of c).0, ap (λ (a : Attachment). a.prefix) (sym (same_Some _ a h)))
attached_host (key.Attach l) (low.Instance is) a h = absurd (none_some a h)
attached_host (key.Attach l) (low.Acl s r) a h = absurd (none_some a h)
attached_host (key.Attach l) (low.ChainUse x b c d f) a h = absurd (none_some a h)
attached_host (key.Instance n) v a h = absurd (none_some a h)
attached_host (key.Acl x b) v a h = absurd (none_some a h)
attached_host (key.ChainUse u) v a h = absurd (none_some a h)

pub host_of : (m : Map) (a : Attachment) → Member a (attachments m) → IsHost a.prefix
host_of m a h =
    let q = from_filter_map (λ (e : LowKey × LowValue). as_attachment e.0 e.1) a (objects m) h in
    attached_host q.0.0 q.0.1 a q.2

pub one_host : (p q : Block) (d : ℕ) → IsHost p → IsHost q → contains p d ≡ true → contains q d ≡ true → p ≡ q
one_host p q d (m, e) (n, f) c g =
    let a : m ≡ d = host_is m d (ap (λ (x : Block). contains x d) (sym e) ∙ c) in
    let b : n ≡ d = host_is n d (ap (λ (x : Block). contains x d) (sym f) ∙ g) in
    e ∙ ap host_prefix (a ∙ sym b) ∙ sym f

module _ (cs : List Checked) where
  -- ---- a row that is heard stood
  abbrev RowsStood : Map → Type 0
  RowsStood m = (i : InstanceId) (p : Block) (h : RouteEntry) → get m (Row i p) ≡ Some (Entry h) → RowStood cs i p h.next_hop h.label

  no_rows : RowsStood empty
  no_rows i p h e = absurd (empty_values key_cmp (λ k v. ⊥) (Row i p) (Entry h) e)

  hop_entry : (o : Option Value) (h : RouteEntry) → as_hop o ≡ Some h → o ≡ Some (Entry h)
  hop_entry (Some (Entry r)) h e = ap (λ (x : RouteEntry). Some (Entry x)) (same_Some r h e)
  hop_entry (Some (Object v)) h e = absurd (none_some h e)
  hop_entry (Some (Route v)) h e = absurd (none_some h e)
  hop_entry (Some (Label v)) h e = absurd (none_some h e)
  hop_entry None h e = absurd (none_some h e)

  either : (a b : Option RouteEntry) (h : RouteEntry) → first_some a b ≡ Some h → (a ≡ Some h) ⊎ (b ≡ Some h)
  either (Some a) b h e = inl e
  either None b h e = inr e

  routed : (hs : agent.Holdings) → AllByRecursion (λ h. RowsStood h.map) hs → (i : InstanceId) (p : Block) (hop : RouteEntry) → agent.route_from hs i p ≡ Some hop → RowStood cs i p hop.next_hop hop.label
  routed [] a i p hop e = absurd (none_some hop e)
  routed (s ∷ hs) a i p hop e =
      elim s.is_up as (λ b. cond b (first_some (as_hop (get s.map (Row i p))) (agent.route_from hs i p)) (agent.route_from hs i p) ≡ Some hop → RowStood cs i p hop.next_hop hop.label) [
        | true ↦ λ e. elim (either (as_hop (get s.map (Row i p))) (agent.route_from hs i p) hop e) as (λ _. RowStood cs i p hop.next_hop hop.label) [
          | inl l ↦ a.0 i p hop (hop_entry (get s.map (Row i p)) hop l)
          | inr r ↦ routed hs a.1 i p hop r
        ]
        | false ↦ λ e. routed hs a.1 i p hop e
      ] e

module _ (b : Checked) (ds : List Checked) (written : (c : Checked) → Member c (b ∷ ds) → IsWritten (opening c)) where
  abbrev cs : List Checked
  cs = b ∷ ds

  abbrev M : Map
  M = common cs

  -- a row of a network stood for a host
  row_host : (i : InstanceId) (p : Block) (hop : RouteEntry) → is_hop i ≡ false → RowStood cs i p hop.next_hop hop.label → IsHost p
  row_host i p hop net (inr q) = absurd (true≢false (sym (led_hop b ds written q.0 i p hop.label q.2) ∙ net))
  row_host i p hop net (inl q) = by q.2.leads
    where
      small : is_hop q.0 ≡ false
      small = let c = q.1 in is_hop-network q.0 ((sound_setup (opening c.0) (written c.0 c.1)).sound.imports_small i q.0 net c.2)

      by : HostStood cs q.2.name q.0 p hop.label ⊎ LedStood cs q.2.name q.0 p hop.label → IsHost p
      by (inl h) = subst IsHost h.at (host_of (low_in h.config) h.to h.attached)
      by (inr l) = absurd (true≢false (sym (led_hop b ds written q.2.name q.0 p hop.label l) ∙ small))

  module _ (r : ℕ) (x : Setup) (ss : List Session) (here : Here b ds written x (map nodes ss)) (lasting_stays : Each (HoldsTo b ds written r) ss) (some : Each (AreSomeTo cs r) ss) (st : Each (HoldStood cs b.topology.asn r) ss) (n : Node) (stays : Member n (standing cs)) where
    abbrev held : agent.Holdings
    held = agent_holdings x n.name (views (sessions_of n.name ss))

    pub held_route : 5 ≤ r → (i : InstanceId) (p : Block) (hop : RouteEntry) → Member (route_at i p hop) (agent.routes held) → RowStood cs i p hop.next_hop hop.label
    held_route rank i p hop m =
        routed cs held
        (agent_holds (RowsStood cs) (no_rows cs) x n.name (sessions_of n.name ss)
        (each_weaker (Mine b ds written r x n.name) (λ s. RowsStood cs s.near.held) (λ s q i p h e. q.told (Row i p) (Entry h) e rank) (sessions_of n.name ss) (mine_own b ds written r x ss here lasting_stays some st n stays)))
        i p hop ((route_is held i p hop).0 m).1

    pub alone_in_network : 5 ≤ r → (i : InstanceId) (p q : Block) (hop other : RouteEntry) (d : ℕ) → is_hop i ≡ false → Member (route_at i p hop) (rows_in_common cs n.address).routes → (ChangesHands cs i p → ⊥) → Member (route_at i q other) (agent.routes held) → contains p d ≡ true → contains q d ≡ true → route_at i q other ≡ route_at i p hop
    alone_in_network rank i p q hop other d net m keeps there in_p in_q = by (compiled_is cs n.address i p hop m)
      where
        told : RowStood cs i q other.next_hop other.label
        told = held_route rank i q other there

        by : IsCompiled cs n.address i p hop → route_at i q other ≡ route_at i p hop
        by c = elim c.kind as (λ _. route_at i q other ≡ route_at i p hop) [
          | inl h ↦
              let at : q ≡ p = one_host q p d (row_host i q other net told) (subst IsHost h.prefix (host_of M h.to h.attached)) in_q in_p in
              let leads = network_row b ds written i net h.to h.attached h.imported (subst (λ (p : Block). ChangesHands cs i p → ⊥) (sym h.prefix) keeps) other.next_hop other.label (subst (λ (y : Block). RowStood cs i y other.next_hop other.label) (at ∙ sym h.prefix) told) in
              λ k. route_at i (at k) (host_hop b ds written r x ss here lasting_stays some st n stays h.to c.row hop other h.row c.hop_is leads k)
          | inr h ↦ absurd (true≢false (sym (ap is_hop (sym h.at) ∙ is_hop-hop h.side.chain.number _) ∙ net))
        ]
