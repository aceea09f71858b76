-- What the machine's node wants, may send and tells on a session is what the node at its seat does.
use Rattle.std.specs.List.{filter}
use Rattle.std.specs.Prelude.{Bool, List, cond, drop, false, length, map, not, slice_index_or, suc, true, ℕ, [], ◌++◌, ◌+◌, ◌<◌, ◌∷◌, ◌≡◌}
use Rattle.std.specs.FinMap.{empty}
use Rattle.std.specs.declared.option.Option.TheVariants.{None, Some}
use Rattle.std.specs.declared.option.Option.{Option}
use Rattle.std.proofs.Common.{ap, arith, inl, inr, refl, subst, sym, ◌∙◌}
use Rattle.std.proofs.lemmas.Option.{same_Some}
use Rattle.ov_types.specs.First.{same_name}
use Rattle.ov_types.specs.declared.rows.NodeId.{NodeId}
use Rattle.config_types.specs.declared.topology.Node.{Node}
use Rattle.node_core.specs.Told as items
use Rattle.node_model.specs.Agent.{Heard}
use Rattle.node_model.specs.Maps.{Change}
use Rattle.node_model.specs.Members.{Member}
use Rattle.node_model.specs.Paths.{Holdings}
use Rattle.node_model.specs.Step.{Confirmed, Idle, Opened, Phase, Post, Up, post}
use Rattle.node_model.specs.Wants.{wanted_by_agent, wanted_by_peers}
use Rattle.node_model.proofs.Members.{in_map, none_some}
use Rattle.running_nodes.specs.NodeRoutes.Told as routes
use Rattle.machine_laws.specs.MachineModel.Moments.{AreOnce, Each, HasNumbers, HasSessions, NodePair, NumbersFit}
use Rattle.machine_laws.specs.MachineModel.Network.{MachineState, View, address_in, config, control_holdings, heard_from, holdings_of, lists, sessions_of, view, views_of, wanted, wanted_from, wanted_from_control}
use Rattle.machine_laws.specs.MachineModel.Session.{Agent, Carries, Configuration, Controller, Role, Session, are_peers, is_peering, may_send, may_send_at}
use Rattle.machine_laws.specs.MachineModel.Setup.{Name, Setup, agents_of, checked}
use Rattle.machine_laws.proofs.MachineModel.Twins.{Found, itself}
use Rattle.machine_laws.specs.Goal.{Party, others}
use Rattle.machine_laws.specs.Setups.{IsNamed}
use Rattle.machine_laws.proofs.MachineModel.Apart.{NamesApart}
use Rattle.machine_laws.proofs.MachineModel.Distinct.{same_false}
use Rattle.machine_laws.proofs.KindNames.{apart_names}
use Rattle.machine_laws.proofs.Views.{far, fars_are}
use Rattle.running_nodes.specs.ConfigNode.Core as configuration
use Rattle.running_nodes.specs.ControlNode.Core.{is_peer}
use Rattle.running_nodes.specs.ControlNode.Wanting as control
use Rattle.running_nodes.specs.ControlWants.Held.{told_in}
use Rattle.running_nodes.specs.AgentNode.Core as agent
use Rattle.running_nodes.specs.Controls as controls
use Rattle.running_nodes.specs.Controls.{Controls, holdings, plan_of}
use Rattle.running_nodes.specs.Seats.{Configuring, Controlling, Who, control_plan, kind_of, name_of, name_there, names_of, no_node, role_of}
use Rattle.running_nodes.specs.Stands.{octets_of}
use Rattle.running_laws.proofs.PostEnds.{Ends, IsAt, end_at, end_is, own_seen}
use Rattle.running_laws.proofs.Hearing.{heard_of}
use Rattle.running_laws.proofs.Holdings.{Fits, Same, control_holds, fits_of}
use Rattle.running_laws.proofs.Order.{site_sees}
use Rattle.running_laws.proofs.Parties.{computer, parties_of, root, site}
use Rattle.running_laws.proofs.Positions.{AtAgent, AtFeed, AtPeer, Position, agent_at, agent_is, agent_told, both_long, not_feed, peer_at, peer_is, position}
use Rattle.running_laws.proofs.VacantNames.{named_at, some_member, there_at}

pub record Goes (w : MachineState) (v : Who) (posts : List Post) (i : ℕ) (s : Session) : Type 0 where
  pub wanted : wanted w.setup (views_of (name_of v) w.sessions) (view s) ≡ (kind_of v).wanted posts i
  pub may_send : may_send s ≡ (kind_of v).may_send i (post posts i).phase
  pub told : (c : Change) → octets_of v (is_peering s) (Carries c) ≡ (kind_of v).spelled i c

abbrev pub GoesWell : MachineState → Who → Type 0
GoesWell w v = (posts : List Post) → Ends w v posts → (i : ℕ) (s : Session) → IsAt w v i s → Goes w v posts i s

wanted_is : (x : Setup) (vs : List View) (v : View) → wanted x vs v ≡ wanted_from x vs v v.role
unfolding wanted
wanted_is x vs v = refl

-- ---- when changes may be sent
root_sends : (p : Phase) → may_send_at false p ≡ not (configuration.is_idle p)
root_sends Idle = refl
root_sends Opened = refl
root_sends Confirmed = refl
root_sends Up = refl

pub agent_sends : (p : Phase) → may_send_at false p ≡ not (agent.is_idle p)
agent_sends Idle = refl
agent_sends Opened = refl
agent_sends Confirmed = refl
agent_sends Up = refl

control_sends : (b : Bool) (p : Phase) → may_send_at b p ≡ cond b (control.is_up p) (not (control.is_idle p))
control_sends true Idle = refl
control_sends true Opened = refl
control_sends true Confirmed = refl
control_sends true Up = refl
control_sends false Idle = refl
control_sends false Opened = refl
control_sends false Confirmed = refl
control_sends false Up = refl

control_tells : (v : Who) (b : Bool) (c : Change) → octets_of v b (Carries c) ≡ cond b (routes.spelled c) (items.spelled c)
control_tells v true c = refl
control_tells v false c = refl

-- ---- the roles of a session's two ends
module _ (w : MachineState) (v : Who) (posts : List Post) (h : Ends w v posts) (i : ℕ) (s : Session) (at : IsAt w v i s) where
  pub same : Same s (post posts i)
  same = end_is w v posts h i at.far.0 at.there s at.found

  near_name : s.near.name ≡ name_of v
  near_name = ap (λ (n : NodePair). n.0.0) at.nodes_are

  pub near_role : s.near.role ≡ role_of v
  near_role = ap (λ (n : NodePair). n.0.1) at.nodes_are

  far_role : s.far.role ≡ at.far.1
  far_role = ap (λ (n : NodePair). n.1.1) at.nodes_are

  far_name : s.far.name ≡ at.far.0
  far_name = ap (λ (n : NodePair). n.1.0) at.nodes_are

  pub wanted_near : wanted w.setup (views_of (name_of v) w.sessions) (view s) ≡ wanted_from w.setup (views_of (name_of v) w.sessions) (view s) (role_of v)
  wanted_near = wanted_is w.setup (views_of (name_of v) w.sessions) (view s) ∙ ap (wanted_from w.setup (views_of (name_of v) w.sessions) (view s)) near_role

  pub sends : (b : Bool) → is_peering s ≡ b → may_send s ≡ may_send_at b (post posts i).phase
  sends b e = (λ k. may_send_at (e k) (same.0 k))

-- ---- the configuration node
pub root_goes : (w : MachineState) → GoesWell w (Configuring (checked w.setup))
root_goes w posts h i s at =
    let v = Configuring (checked w.setup) in
    let apart : is_peering s ≡ false = ap (λ r. are_peers r s.far.role) (near_role w v posts h i s at) in
    record {
      wanted = wanted_near w v posts h i s at;
      may_send = sends w v posts h i s at false apart ∙ root_sends (post posts i).phase;
      told = λ c. ap (λ b. octets_of v b (Carries c)) apart;
    }

-- ---- a control node
address_found : (a : NodeId) (agents : List (Option NodeId)) → AreOnce agents → Member (Some a) agents → address_in agents a.name ≡ a.address
address_found a [] h m = absurd m
address_found a (None ∷ agents) h (inl e) = absurd (none_some a e)
address_found a (None ∷ agents) h (inr m) = address_found a agents h m
address_found a (Some b ∷ agents) h (inl e) =
    let f : b ≡ a = same_Some b a e in
    ap (λ c. cond c b.address (address_in agents a.name)) (subst (λ (k : NodeId). same_name b.name k.name ≡ true) f (itself b.name)) ∙ ap (λ (k : NodeId). k.address) f
address_found a (Some b ∷ agents) h (inr m) =
    ap (λ c. cond c b.address (address_in agents a.name)) (same_false b.name a.name (h.0 a m)) ∙ address_found a agents h.1 m

module _ (w : MachineState) (named : IsNamed w.setup.topology) (numbers : HasNumbers w.setup) (has : HasSessions w) (found : Each (Found w.sessions) w.sessions) where
  names : NamesApart w.setup.topology
  names = apart_names w.setup.topology named.apart

  abbrev plan_for : NodeId → Controls
  plan_for c = control_plan w.setup c

  module _ (c : NodeId) (m : Member c w.setup.topology.controllers) where
    fit : NumbersFit w.setup.topology c (agents_of w.setup c.name)
    fit = numbers c m

    no_agent : (a : NodeId) → Member (Some a) (agents_of w.setup c.name) → c.name ≡ a.name → ⊥
    no_agent a k e =
        let n = fit.only a k in
        names.kinds_apart c.name n.0.name (in_map (λ (c : NodeId). c.name) c w.setup.topology.controllers m) (in_map (λ (n : Node). n.name) n.0 w.setup.topology.nodes n.1)
        (e ∙ sym (ap (λ (d : NodeId). d.name) n.2))

    -- what is heard of an agent is what its end holds
    agent_heard : (posts : List Post) → Ends w (Controlling (plan_for c)) posts → (j : ℕ) (a : NodeId) → slice_index_or (plan_for c).agents j None ≡ Some a
        → (heard_from (views_of c.name w.sessions) a.name).map ≡ (post posts ((1 + length (plan_for c).peers) + j)).held
    agent_heard posts h j a e =
        let plan = plan_for c in
        let q = end_at w (Controlling plan) posts h (suc (length plan.peers + j)) a.name (there_at plan.peers plan.agents j a e) in
        let on : suc (length plan.peers + j) ≡ (1 + length plan.peers) + j = omega arith in
        ap (λ (heard : Heard). heard.map) (heard_of c.name a.name (no_agent a (some_member plan.agents j a e)) w.sessions q.0 q.1)
        ∙ q.2.1 ∙ ap (λ k. (post posts k).held) on

    peers_fit : (posts : List Post) → Ends w (Controlling (plan_for c)) posts → Fits w c.name (plan_for c).peers (drop 1 posts)
    peers_fit [] h =
        let plan = plan_for c in
        let long : 0 ≡ suc (length (names_of plan.peers ++ map name_there plan.agents)) = h.long in
        absurd (omega (arith, long))
    peers_fit (p ∷ posts) h =
        let plan = plan_for c in
        let long : suc (length posts) ≡ suc (length (names_of plan.peers ++ map name_there plan.agents)) = h.long in
        let both = both_long plan.peers plan.agents in
        fits_of w c.name plan.peers posts (omega (arith, long, both))
        (λ j less s e. end_is w (Controlling plan) (p ∷ posts) h (suc j) (slice_index_or plan.peers j no_node).name (named_at plan.peers (map name_there plan.agents) j less) s e)

    pub site_holds : (posts : List Post) → Ends w (Controlling (plan_for c)) posts → control_holdings w.setup c.name (views_of c.name w.sessions) ≡ holdings (plan_for c) posts
    site_holds posts h =
        let plan = plan_for c in
        let agents = filter (λ n. lists n c) w.setup.topology.nodes in
        let own = sessions_of c.name w.sessions in
        let fars : map far own ≡ root ∷ (map site plan.peers ++ map computer agents) = fars_are c.name w.sessions ∙ ap (others c.name) has ∙ site_sees w.setup named c m in
        control_holds w c.name plan agents own posts fars (own_seen w found c.name)
        (λ s e. end_is w (Controlling plan) posts h 0 config refl s e) (peers_fit posts h) (agent_heard posts h)

  module _ (c : NodeId) (m : Member c w.setup.topology.controllers) (posts : List Post) (h : Ends w (Controlling (plan_for c)) posts) (i : ℕ) (s : Session) (at : IsAt w (Controlling (plan_for c)) i s) where
    abbrev plan : Controls
    plan = plan_for c

    abbrev own : List View
    own = views_of c.name w.sessions

    abbrev held_by : Holdings
    held_by = holdings plan posts

    held : holdings_of plan.asn plan.agents own ≡ held_by
    held = site_holds c m posts h

    -- what it wants, by the role of the other end
    abbrev Wants : Role → Type 0
    Wants r = wanted_from_control plan.asn plan.agents own (view s) r ≡ controls.wanted plan posts i

    feed_wants : i ≡ 0 → Wants Configuration
    feed_wants e = ap (controls.wanted plan posts) (sym e)

    peer_wants : (j : ℕ) → i ≡ suc j → j < length plan.peers → Wants Controller
    peer_wants j e less =
        ap wanted_by_peers held
        ∙ ap (λ b. cond b (wanted_by_peers held_by) (wanted_by_agent held_by (told_in held_by.agents (suc j)))) (sym (peer_is plan j less))
        ∙ ap (λ b. cond b empty (cond (is_peer (plan_of plan) (suc j)) (wanted_by_peers held_by) (wanted_by_agent held_by (told_in held_by.agents (suc j))))) (sym (not_feed j))
        ∙ ap (controls.wanted plan posts) (sym e)

    party_is : (j : ℕ) → i ≡ j → slice_index_or (parties_of (Controlling plan)) j None ≡ Some at.far
    party_is j e = ap (λ i. slice_index_or (parties_of (Controlling plan)) i None) (sym e) ∙ at.party

    agent_wants : (j : ℕ) → i ≡ suc (length plan.peers + j) → Wants Agent
    agent_wants j e =
        let k = suc (length plan.peers + j) in
        let g = agent_at plan j at.far (party_is k e) in
        let a = g.0 in
        let name : s.far.name ≡ a.name = far_name w (Controlling plan) posts h i s at ∙ ap (λ (o : Party). o.0) (sym g.2) in
        let address : address_in plan.agents s.far.name ≡ a.address = ap (address_in plan.agents) name ∙ address_found a plan.agents (fit c m).once (some_member plan.agents j a g.1) in
        let map : s.near.held ≡ (post posts k).held = (same w (Controlling plan) posts h i s at).1 ∙ ap (λ i. (post posts i).held) e in
        let on : k ≡ (1 + length plan.peers) + j = omega arith in
        (λ t. wanted_by_agent (held t) (record { session = 0; address = address t; map = map t }))
        ∙ ap (wanted_by_agent held_by) (sym (agent_told posts plan.agents (1 + length plan.peers) j k a on g.1))
        ∙ ap (λ b. cond b (wanted_by_peers held_by) (wanted_by_agent held_by (told_in held_by.agents k))) (sym (agent_is plan j))
        ∙ ap (λ b. cond b empty (cond (is_peer (plan_of plan) k) (wanted_by_peers held_by) (wanted_by_agent held_by (told_in held_by.agents k)))) (sym (not_feed (length plan.peers + j)))
        ∙ ap (controls.wanted plan posts) (sym e)

    abbrev Kind : Role → Type 0
    Kind r = Wants r × (are_peers Controller r ≡ is_peer (plan_of plan) i)

    site_kind : Position plan i → Kind s.far.role
    site_kind (AtFeed e) =
        let role : s.far.role ≡ Configuration = far_role w (Controlling plan) posts h i s at ∙ ap (λ (o : Party). o.1) (sym (same_Some root at.far (party_is 0 e))) in
        subst Kind (sym role) (feed_wants e, ap (is_peer (plan_of plan)) (sym e))
    site_kind (AtPeer j e less) =
        let role : s.far.role ≡ Controller = far_role w (Controlling plan) posts h i s at ∙ peer_at plan j at.far less (party_is (suc j) e) in
        subst Kind (sym role) (peer_wants j e less, sym (peer_is plan j less) ∙ ap (is_peer (plan_of plan)) (sym e))
    site_kind (AtAgent j e) =
        let role : s.far.role ≡ Agent = far_role w (Controlling plan) posts h i s at ∙ ap (λ (o : Party). o.1) (sym (agent_at plan j at.far (party_is (suc (length plan.peers + j)) e)).2) in
        subst Kind (sym role) (agent_wants j e, sym (agent_is plan j) ∙ ap (is_peer (plan_of plan)) (sym e))

    site_goes_at : Goes w (Controlling plan) posts i s
    site_goes_at =
        let v = Controlling plan in
        let k = site_kind (position plan i) in
        let b = is_peer (plan_of plan) i in
        let peering : is_peering s ≡ b = ap (λ r. are_peers r s.far.role) (near_role w v posts h i s at) ∙ k.1 in
        record {
          wanted = wanted_near w v posts h i s at
              ∙ ap (λ (n : Name). wanted_from_control plan.asn (agents_of w.setup n) own (view s) s.far.role) (near_name w v posts h i s at)
              ∙ k.0;
          may_send = sends w v posts h i s at b peering ∙ control_sends b (post posts i).phase;
          told = λ c. ap (λ b. octets_of v b (Carries c)) peering ∙ control_tells v b c;
        }

  pub site_goes : (c : NodeId) → Member c w.setup.topology.controllers → GoesWell w (Controlling (plan_for c))
  site_goes c m posts h i s at = site_goes_at c m posts h i s at
