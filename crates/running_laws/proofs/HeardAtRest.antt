-- At rest a control node holds of its peers what they want.
use Rattle.std.specs.Cmp.Lexicographic.{bytes_decides}
use Rattle.std.specs.List.{AllByRecursion, filter}
use Rattle.std.specs.Prelude.{List, cond, false, map, true, [], ◌++◌, ◌∷◌, ◌≡◌}
use Rattle.std.proofs.Common.{ap, refl, subst, sym, ◌∙◌}
use Rattle.ov_types.specs.First.{same_name}
use Rattle.ov_types.specs.declared.rows.NodeId.{NodeId}
use Rattle.config_types.specs.declared.topology.Node.{Node}
use Rattle.node_model.specs.Members.{Member}
use Rattle.node_model.specs.Wants.{wanted_by_peers}
use Rattle.node_model.proofs.Members.{any_in}
use Rattle.machine_laws.specs.MachineModel.Moments.{Each, HasNumbers, HasSessions, IsAtRest, IsAtRestWith, nodes}
use Rattle.machine_laws.specs.MachineModel.Network.{MachineState, View, control_holdings, lists, same_role, sessions_of, view, views_of, wanted, wanted_from, wanted_from_control, with_role}
use Rattle.machine_laws.specs.MachineModel.Session.{Agent, Configuration, Controller, Role, Session, turned}
use Rattle.machine_laws.specs.MachineModel.Setup.{Name, Setup, agents_of, checked}
use Rattle.machine_laws.specs.MachineModel.Steps.{is_settled}
use Rattle.machine_laws.proofs.MachineModel.Apart.{no_twins}
use Rattle.machine_laws.proofs.MachineModel.AtRest.{at_rest}
use Rattle.machine_laws.proofs.MachineModel.Twins.{NoTwins, all_to_own, each_and, each_weaker, own_to_all}
use Rattle.machine_laws.specs.Goal.{HasRoles, Party, role_of}
use Rattle.machine_laws.specs.Setups.{IsNamed}
use Rattle.machine_laws.proofs.Placing.{control_named, is_laid}
use Rattle.machine_laws.proofs.Views.{far, fars_are, own_named, views}
use Rattle.machine_laws.specs.Goal.{others}
use Rattle.machine_laws.proofs.Written.{sound_setup}
use Rattle.running_nodes.specs.Controls.{Controls}
use Rattle.running_nodes.specs.Seats.{control_plan}
use Rattle.running_nodes.specs.Stands.{message_size}
use Rattle.running_laws.proofs.FirstPlaces.{first_is, rest_is, some_nothing}
use Rattle.running_laws.proofs.Order.{site_sees}
use Rattle.running_laws.proofs.Parties.{computer, root, site}
use Rattle.running_laws.proofs.Written.{written_named}
use Rattle.running_laws.specs.Moments.{IsMoment}
use Rattle.running_laws.proofs.Moments.{moment_numbers, moment_sessions, moment_sound, moment_told, moment_written}
use Rattle.running_laws.specs.Peering.{HearsItsPeers, AllHearTheirPeers, told_by}

-- ---- sessions of one role among others
passed_by : (q r : Role) (s : Session) (own : List Session) → s.far.role ≡ r → same_role q r ≡ false → with_role q (views (s ∷ own)) ≡ with_role q (views own)
passed_by q r s own e h = ap (λ b. cond b (view s ∷ with_role q (views own)) (with_role q (views own))) (ap (same_role q) e ∙ h)

taken_in : (q r : Role) (s : Session) (own : List Session) → s.far.role ≡ r → same_role q r ≡ true → with_role q (views (s ∷ own)) ≡ view s ∷ with_role q (views own)
taken_in q r s own e h = ap (λ b. cond b (view s ∷ with_role q (views own)) (with_role q (views own))) (ap (same_role q) e ∙ h)

role_is : (s : Session) (own : List Session) (o : Party) (os : List Party) → map far (s ∷ own) ≡ o ∷ os → s.far.role ≡ o.1
role_is s own o os e = ap (λ (p : Party). p.1) (first_is (far s) o (map far own) os e)

name_is : (s : Session) (own : List Session) (o : Party) (os : List Party) → map far (s ∷ own) ≡ o ∷ os → s.far.name ≡ o.0
name_is s own o os e = ap (λ (p : Party). p.0) (first_is (far s) o (map far own) os e)

agents_no_peers : (agents : List Node) (own : List Session) → map far own ≡ map computer agents → with_role Controller (views own) ≡ []
agents_no_peers [] [] e = refl
agents_no_peers [] (s ∷ own) e = absurd (some_nothing (far s) (map far own) e)
agents_no_peers (a ∷ agents) [] e = absurd (some_nothing (computer a) (map computer agents) (sym e))
agents_no_peers (a ∷ agents) (s ∷ own) e =
    passed_by Controller Agent s own (role_is s own (computer a) (map computer agents) e) refl
    ∙ agents_no_peers agents own (rest_is (far s) (computer a) (map far own) (map computer agents) e)

-- ---- what a control node wants towards another
wanted_is : (x : Setup) (vs : List View) (v : View) → v.role ≡ Controller → v.other_role ≡ Controller → wanted x vs v ≡ wanted_by_peers (control_holdings x v.name vs)
unfolding wanted
wanted_is x vs v e f = ap (wanted_from x vs v) e ∙ ap (wanted_from_control x.topology.asn (agents_of x v.name) vs v) f

roles_apart : (x : Setup) (ss : List Session) → AllByRecursion (HasRoles x) (map nodes ss) → Each (λ s. HasRoles x (nodes s)) ss
roles_apart x [] h = tt
roles_apart x (s ∷ ss) h = (h.0, roles_apart x ss h.1)

module _ (w : MachineState) (m : IsMoment w) (rest : IsAtRest w) (twins : NoTwins (map nodes w.sessions)) where
  abbrev x : Setup
  x = w.setup

  named : IsNamed x.topology
  named = written_named x (moment_written w m)

  numbers : HasNumbers x
  numbers = moment_numbers w m

  has : HasSessions w
  has = moment_sessions w m

  -- ---- what the far end of each session holds
  abbrev Told : Session → Type 0
  Told s = s.far.held ≡ wanted x (views_of s.near.name w.sessions) (view s)

  told_own : (n : Name) → Each Told (sessions_of n w.sessions)
  told_own n =
      each_weaker (λ s. (s.near.name ≡ n) × IsAtRestWith x (views_of n w.sessions) s) Told
      (λ s h. h.1.held ∙ h.1.wanted ∙ ap (λ k. wanted x (views_of k w.sessions) (view s)) (sym h.0)) (sessions_of n w.sessions)
      (each_and (λ s. s.near.name ≡ n) (IsAtRestWith x (views_of n w.sessions)) (sessions_of n w.sessions) (own_named n w.sessions) (rest n))

  -- and the near one
  abbrev Heard : Session → Type 0
  Heard s = s.near.held ≡ wanted x (views_of s.far.name w.sessions) (view (turned s))

  heard_own : (n : Name) → Each Heard (sessions_of n w.sessions)
  heard_own n =
      all_to_own Heard n w.sessions
      (each_weaker (λ s. Told s × Told (turned s)) (λ s. Heard s × Heard (turned s)) (λ s h. (h.1, h.0)) w.sessions
      (own_to_all Told w.sessions twins told_own))

  abbrev Placed : Session → Type 0
  Placed s = HasRoles x (nodes s)

  placed_own : (n : Name) → Each Placed (sessions_of n w.sessions)
  placed_own n =
      all_to_own Placed n w.sessions
      (each_weaker Placed (λ s. Placed s × Placed (turned s)) (λ s h. (h, (h.1, h.0))) w.sessions
      (roles_apart x w.sessions (subst (AllByRecursion (HasRoles x)) (sym has) (is_laid x (sound_setup x (moment_written w m)) numbers).roles)))

  -- ---- the sessions of a control node
  module _ (c : NodeId) (i : Member c x.topology.controllers) where
    abbrev plan : Controls
    plan = control_plan x c

    abbrev computers : List Node
    computers = filter (λ n. lists n c) x.topology.nodes

    is_control : role_of x c.name ≡ Controller
    is_control =
        (control_named x (sound_setup x (moment_written w m)) numbers c.name
        (any_in (λ (d : NodeId). same_name d.name c.name) c x.topology.controllers i ((bytes_decides c.name c.name).1 refl))).0

    abbrev HeardOf : Session → Type 0
    HeardOf s = s.far.role ≡ Controller → s.near.held ≡ wanted_by_peers (control_holdings x s.far.name (views_of s.far.name w.sessions))

    heard_of : Each HeardOf (sessions_of c.name w.sessions)
    heard_of =
        each_weaker (λ s. (s.near.name ≡ c.name) × (Heard s × Placed s)) HeardOf
        (λ s h far_role. h.1.0 ∙ wanted_is x (views_of s.far.name w.sessions) (view (turned s)) far_role (h.1.1.0 ∙ ap (role_of x) h.0 ∙ is_control))
        (sessions_of c.name w.sessions)
        (each_and (λ s. s.near.name ≡ c.name) (λ s. Heard s × Placed s) (sessions_of c.name w.sessions) (own_named c.name w.sessions)
        (each_and Heard Placed (sessions_of c.name w.sessions) (heard_own c.name) (placed_own c.name)))

    peers_heard : (peers : List NodeId) (agents : List Node) (own : List Session) → map far own ≡ map site peers ++ map computer agents → Each HeardOf own
        → map (λ v. v.held) (with_role Controller (views own)) ≡ map (told_by w) peers
    peers_heard [] agents own e h = ap (map (λ v. v.held)) (agents_no_peers agents own e)
    peers_heard (d ∷ peers) agents [] e h = absurd (some_nothing (site d) (map site peers ++ map computer agents) (sym e))
    peers_heard (d ∷ peers) agents (s ∷ own) e h =
        let later = map site peers ++ map computer agents in
        let role = role_is s own (site d) later e in
        let first : s.near.held ≡ told_by w d = h.0 role ∙ ap (λ n. wanted_by_peers (control_holdings x n (views_of n w.sessions))) (name_is s own (site d) later e) in
        ap (map (λ v. v.held)) (taken_in Controller Controller s own role refl)
        ∙ (λ k. first k ∷ peers_heard peers agents own (rest_is (far s) (site d) (map far own) later e) h.1 k)

    all_heard : (own : List Session) → map far own ≡ root ∷ (map site plan.peers ++ map computer computers) → Each HeardOf own
        → map (λ v. v.held) (with_role Controller (views own)) ≡ map (told_by w) plan.peers
    all_heard [] e h = absurd (some_nothing root (map site plan.peers ++ map computer computers) (sym e))
    all_heard (s ∷ own) e h =
        let later = map site plan.peers ++ map computer computers in
        ap (map (λ v. v.held)) (passed_by Controller Configuration s own (role_is s own root later e) refl)
        ∙ peers_heard plan.peers computers own (rest_is (far s) root (map far own) later e) h.1

    pub hears : HearsItsPeers w c
    hears = all_heard (sessions_of c.name w.sessions) (fars_are c.name w.sessions ∙ ap (others c.name) has ∙ site_sees x named c i) heard_of

-- ---- at a settled moment
without_twins : (w : MachineState) → IsMoment w → NoTwins (map nodes w.sessions)
without_twins w m =
    subst NoTwins (sym (moment_sessions w m)) (no_twins (checked w.setup) (written_named w.setup (moment_written w m)).apart)

pub all_hear : (w : MachineState) → IsMoment w → is_settled w ≡ true → AllHearTheirPeers w
all_hear w m settled c i =
    hears w m (at_rest message_size w (moment_sound w m) (moment_told w m) settled) (without_twins w m) c i
