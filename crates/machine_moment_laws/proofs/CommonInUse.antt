-- The slice that the agent of a node that stands has in use has all of the common part.
use Rattle.std.specs.Prelude.{◌≡◌, ◌≤◌, ℕ, List, [], ◌∷◌, map, true, cond}
use Rattle.std.specs.FinMap.{get}
use Rattle.std.specs.Option.{option_map, unwrap_or}
use Rattle.std.specs.declared.option.Option.{Option}
use Rattle.std.specs.declared.option.Option.TheVariants.{Some}
use Rattle.std.proofs.Common.{ap, inl, refl, subst, sym, ◌∙◌}
use Rattle.ov_types.specs.declared.objects.LowKey.{LowKey}
use Rattle.ov_types.specs.declared.objects.LowValue.{LowValue}
use Rattle.config_types.specs.declared.topology.Node.{Node}
use Rattle.schedule_script.specs.ConfigCheck.Checked.{Checked}
use Rattle.schedule_script.specs.ConfigCheck.Finding.{node_named}
use Rattle.node_laws.specs.NodeModel.Agent as agent
use Rattle.node_laws.specs.NodeModel.Agent.{slice_in_use}
use Rattle.node_laws.specs.NodeModel.Keys.{Low}
use Rattle.node_laws.specs.NodeModel.Maps.{Map, as_object, objects}
use Rattle.node_laws.specs.NodeModel.Members.{Member}
use Rattle.node_laws.specs.NodeModel.Wants.{slice}
use Rattle.node_laws.specs.NodeModel.Step.{Phase}
use Rattle.node_laws.proofs.NodeModel.Objects.{in_objects, object_of}
use Rattle.node_laws.proofs.NodeModel.Wanted.{slice_is}
use Rattle.machine_model.specs.Moments.{Each, nodes}
use Rattle.machine_model.specs.Network.{agent_holdings, heard_from, sessions_of}
use Rattle.machine_model.specs.Session.{Agent, Controller, Role, Session, is_up_phase}
use Rattle.machine_model.specs.Setup.{Name, Setup, checked, opening}
use Rattle.machine_laws.specs.Goal.{IsLaid, role_of}
use Rattle.machine_laws.specs.Headline.{IsWritten}
use Rattle.machine_laws.proofs.Placing.{agent_named}
use Rattle.machine_laws.proofs.Views.{far, fars_are, heard, views}
use Rattle.machine_moment_laws.specs.Common.{placed, standing}
use Rattle.machine_moment_laws.proofs.Above.{ListPlaced, stood_placed, value_of_some}
use Rattle.machine_moment_laws.proofs.Here.{Here, here_laid, here_sound, lasts, site_lasts, standing_lasts, stands_there}
use Rattle.machine_moment_laws.proofs.Says.{HoldsTo, Mine, Says, SaysBy, both_last, lasting, mine}
use Rattle.machine_moment_laws.proofs.OfSome.{AreSomeTo, ObjectOfSome, all_some}
use Rattle.machine_moment_laws.proofs.Parts.{object_is}
use Rattle.machine_moment_laws.proofs.Stood.{HoldStood}

module _ (b : Checked) (ds : List Checked) (written : (c : Checked) → Member c (b ∷ ds) → IsWritten (opening c)) where
  abbrev cs : List Checked
  cs = b ∷ ds

  abbrev W : Map
  W = placed cs

  module _ (r : ℕ) (x : Setup) (ss : List Session) (here : Here b ds written x (map nodes ss)) (lasting_stays : Each (HoldsTo b ds written r) ss) (some : Each (AreSomeTo cs r) ss) (st : Each (HoldStood cs b.topology.asn r) ss) (n : Node) (stays : Member n (standing cs)) where
    abbrev own : List Session
    own = sessions_of n.name ss

    pub laid : IsLaid x (map nodes ss)
    laid = here_laid b ds written x (map nodes ss) here

    pub found : node_named x.topology n.name ≡ Some n
    found = stands_there b ds written n stays (checked x) here.among

    pub is_agent : role_of x n.name ≡ Agent
    is_agent = agent_named x (here_sound b ds written x (map nodes ss) here) here.fit.fit n.name n found

    pub mine_own : Each (Mine b ds written r x n.name) own
    mine_own = mine b ds written r x ss here lasting_stays some st n.name

    -- a session with a control node that it lists
    pub lasts_with : (s : Session) → Mine b ds written r x n.name s → role_of x s.far.name ≡ Controller → lasting b ds written s ≡ true
    lasts_with s m e =
        both_last (lasts b ds written s.near.name) (lasts b ds written s.far.name) (ap (lasts b ds written) m.name ∙ standing_lasts b ds written n stays)
        (site_lasts b ds written x (map nodes ss) here s.far.name (m.far_site (m.far_role ∙ e)))

    -- the session whose slice is in use
    pub record InUse : Type 0 where
      pub session : Session
      pub to : Mine b ds written r x n.name session
      pub lasts_on : lasting b ds written session ≡ true
      pub control : session.far.role ≡ Controller
      pub slice_is : slice_in_use (agent_holdings x n.name (views own)) ≡ objects session.near.held
      pub rest : agent.Holdings
      pub holdings_are : agent_holdings x n.name (views own) ≡ record { is_up = true; map = session.near.held } ∷ rest

    pub in_use : 2 ≤ r → InUse
    in_use rank =
        let f = laid.first n.name n found is_agent in
        let lists_it : Member f.0 n.controllers = subst (Member f.0) (sym f.2) (inl refl) in
        let control : role_of x f.0 ≡ Controller = laid.listed n.name n found f.0 lists_it in
        let in_own : Member (f.0, Controller) (map far own) = subst (Member (f.0, Controller)) (sym (fars_are n.name ss)) f.3 in
        let q = heard (Mine b ds written r x n.name) own f.0 Controller mine_own in_own in
        let s = q.0 in
        let far_is : role_of x s.far.name ≡ Controller = ap (role_of x) q.2 ∙ control in
        let l = lasts_with s q.1 far_is in
        record {
          session = s;
          to = q.1;
          lasts_on = l;
          control = q.1.far_role ∙ far_is;
          slice_is =
              ap (λ (o : Option Node). slice_in_use (map (heard_from (views own)) (unwrap_or (option_map (λ (c : Node). c.controllers) o) []))) found
              ∙ ap (λ (ns : List Name). slice_in_use (map (heard_from (views own)) ns)) f.2
              ∙ ap (λ (h : agent.Heard). cond h.is_up (objects h.map) (slice_in_use (map (heard_from (views own)) f.1))) q.3
              ∙ ap (λ (p : Phase). cond (is_up_phase p) (objects s.near.held) (slice_in_use (map (heard_from (views own)) f.1))) (q.1.up l rank);
          rest = map (heard_from (views own)) f.1;
          holdings_are =
              ap (λ (o : Option Node). map (heard_from (views own)) (unwrap_or (option_map (λ (c : Node). c.controllers) o) [])) found
              ∙ ap (λ (ns : List Name). map (heard_from (views own)) ns) f.2
              ∙ ap (λ (h : agent.Heard). h ∷ map (heard_from (views own)) f.1) q.3
              ∙ ap (λ (p : Phase). record { is_up = is_up_phase p; map = s.near.held } ∷ map (heard_from (views own)) f.1) (q.1.up l rank);
        }

    -- it has each object that is placed there, as some configuration has it
    pub slice_some : 2 ≤ r → (k : LowKey) (w : LowValue) → Member (k, w) (slice W n.address) → (v : LowValue) × Member (k, v) (slice_in_use (agent_holdings x n.name (views own))) × ObjectOfSome cs k v
    slice_some rank k w h =
        let u = in_use rank in
        let m = u.to in
        let says : Says b ds written r (u.session.far.name, u.session.far.role) (u.session.near.name, u.session.near.role) (Low k) =
        subst (λ (q : Role). SaysBy b ds written r q u.session.near.role u.session.far.name u.session.near.name (Low k)) (sym u.control)
        (subst (λ (q : Role). SaysBy b ds written r Controller q u.session.far.name u.session.near.name (Low k)) (sym (m.near_role ∙ ap (role_of x) m.name ∙ is_agent))
        (rank, (n, stays, sym m.name, w, h))) in
        let v = value_of_some b ds u.session.near.held k (get u.session.near.held (Low k)) refl (m.held u.lasts_on (Low k) says) (λ y e. all_some cs r rank (u.session.far.name, u.session.far.role) (u.session.near.name, u.session.near.role) u.session.near.held m.some (Low k) y e) in
        (v.0, subst (λ (os : List (LowKey × LowValue)). Member (k, v.0) os) (sym u.slice_is) (in_objects u.session.near.held k v.0 (object_is u.session.near.held k v.0 v.1)), v.2)

    -- so it has all that is placed there, but for the addresses of ports
    pub slice_had : 2 ≤ r → ListPlaced (slice W n.address) (slice_in_use (agent_holdings x n.name (views own)))
    slice_had rank k w h =
        let v = slice_some rank k w h in
        (v.0, v.1, stood_placed b ds k w v.0 (ap as_object (object_of W k w ((slice_is W n.address k w).0 h).0)) v.2)
