-- What the machine takes of a control node's sessions is what the node takes of its ends.
use Rattle.std.specs.List.{enumerate_from, filter_map}
use Rattle.std.specs.Prelude.{List, cond, drop, false, length, map, slice_index_or, suc, take, true, ℕ, [], ◌++◌, ◌+◌, ◌<◌, ◌≤◌, ◌∷◌, ◌≡◌}
use Rattle.std.specs.declared.option.Option.TheVariants.{None, Some}
use Rattle.std.specs.declared.option.Option.{Option}
use Rattle.std.proofs.Common.{ap, arith, refl, sym, ◌∙◌}
use Rattle.ov_types.specs.declared.rows.NodeId.{NodeId}
use Rattle.config_types.specs.declared.topology.Node.{Node}
use Rattle.node_model.specs.Paths.{Told}
use Rattle.node_model.specs.Step.{Post, post}
use Rattle.machine_laws.specs.MachineModel.Moments.{Each}
use Rattle.machine_laws.specs.MachineModel.Network.{MachineState, View, config, first_held, heard_from, holdings_of, same_role, told_by, view, with_role}
use Rattle.machine_laws.specs.MachineModel.Session.{Agent, Configuration, Controller, Role, Session}
use Rattle.machine_laws.specs.MachineModel.Setup.{Name}
use Rattle.machine_laws.specs.MachineModel.Steps.{session_in, session_of}
use Rattle.machine_laws.specs.Goal.{Party}
use Rattle.machine_laws.proofs.Views.{far, views}
use Rattle.running_nodes.specs.Controls.{Controls, holdings}
use Rattle.running_nodes.specs.Seats.{no_node}
use Rattle.running_laws.proofs.FirstPlaces.{first_is, rest_is, some_nothing}
use Rattle.running_laws.proofs.Parties.{computer, root, site}
use Rattle.running_laws.proofs.Positions.{told_from}

-- a session shows its node what the node's end has
abbrev pub Same : Session → Post → Type 0
Same s p = (s.near.phase ≡ p.phase) × (s.near.held ≡ p.held)

-- it is of the node of this name, and found by the names of its two nodes
abbrev pub IsSeen : MachineState → Name → Session → Type 0
IsSeen w n s = (s.near.name ≡ n) × (session_in w.sessions s.near.name s.far.name ≡ Some s)

-- ---- sessions of one role among others
passed_by : (q r : Role) (s : Session) (own : List Session) → s.far.role ≡ r → same_role q r ≡ false → with_role q (views (s ∷ own)) ≡ with_role q (views own)
passed_by q r s own e h = ap (λ b. cond b (view s ∷ with_role q (views own)) (with_role q (views own))) (ap (same_role q) e ∙ h)

taken_in : (q r : Role) (s : Session) (own : List Session) → s.far.role ≡ r → same_role q r ≡ true → with_role q (views (s ∷ own)) ≡ view s ∷ with_role q (views own)
taken_in q r s own e h = ap (λ b. cond b (view s ∷ with_role q (views own)) (with_role q (views own))) (ap (same_role q) e ∙ h)

role_is : (s : Session) (own : List Session) (o : Party) (os : List Party) → map far (s ∷ own) ≡ o ∷ os → s.far.role ≡ o.1
role_is s own o os e = ap (λ (p : Party). p.1) (first_is (far s) o (map far own) os e)

name_is : (s : Session) (own : List Session) (o : Party) (os : List Party) → map far (s ∷ own) ≡ o ∷ os → s.far.name ≡ o.0
name_is s own o os e = ap (λ (p : Party). p.0) (first_is (far s) o (map far own) os e)

-- ---- those of agents alone
agents_no_peers : (agents : List Node) (own : List Session) → map far own ≡ map computer agents → with_role Controller (views own) ≡ []
agents_no_peers [] [] e = refl
agents_no_peers [] (s ∷ own) e = absurd (some_nothing (far s) (map far own) e)
agents_no_peers (a ∷ agents) [] e = absurd (some_nothing (computer a) (map computer agents) (sym e))
agents_no_peers (a ∷ agents) (s ∷ own) e =
    passed_by Controller Agent s own (role_is s own (computer a) (map computer agents) e) refl
    ∙ agents_no_peers agents own (rest_is (far s) (computer a) (map far own) (map computer agents) e)

-- ---- what agents told, by their numbers
abbrev told_seen : List View → ℕ → List (Option NodeId) → List Told
told_seen vs m agents = filter_map (λ (e : ℕ × Option NodeId). told_by vs e.0 e.1) (enumerate_from m agents)

agents_told : (vs : List View) (posts : List Post) (agents : List (Option NodeId)) (m : ℕ)
    → ((j : ℕ) (a : NodeId) → slice_index_or agents j None ≡ Some a → (heard_from vs a.name).map ≡ (post posts (m + j)).held)
    → told_seen vs m agents ≡ told_from posts m agents
agents_told vs posts [] m h = refl
agents_told vs posts (None ∷ agents) m h =
    agents_told vs posts agents (m + 1)
    (λ j a e. let on : m + suc j ≡ (m + 1) + j = omega arith in h (suc j) a e ∙ ap (λ k. (post posts k).held) on)
agents_told vs posts (Some b ∷ agents) m h =
    let here : m + 0 ≡ m = omega arith in
    let first : (heard_from vs b.name).map ≡ (post posts m).held = h 0 b refl ∙ ap (λ k. (post posts k).held) here in
    let rest = agents_told vs posts agents (m + 1)
    (λ j a e. let on : m + suc j ≡ (m + 1) + j = omega arith in h (suc j) a e ∙ ap (λ k. (post posts k).held) on) in
    λ i. record { session = m; address = b.address; map = first i } ∷ rest i

module _ (w : MachineState) (name : Name) where
  -- ---- the ends of peers, one after another
  abbrev pub Fits : List NodeId → List Post → Type 0
  Fits [] posts = Unit {0}
  Fits (d ∷ peers) [] = ⊥
  Fits (d ∷ peers) (p ∷ posts) = ((s : Session) → session_of w name d.name ≡ Some s → Same s p) × Fits peers posts

  pub fits_of : (peers : List NodeId) (posts : List Post) → length peers ≤ length posts
      → ((j : ℕ) → j < length peers → (s : Session) → session_of w name (slice_index_or peers j no_node).name ≡ Some s → Same s (post posts j))
      → Fits peers posts
  fits_of [] posts l h = tt
  fits_of (d ∷ peers) [] l h = absurd (omega (arith, l))
  fits_of (d ∷ peers) (p ∷ posts) l h = (h 0 (omega arith), fits_of peers posts (omega (arith, l)) (λ j less. h (suc j) (omega (arith, less))))

  found_as : (s : Session) (o : Name) → IsSeen w name s → s.far.name ≡ o → session_of w name o ≡ Some s
  found_as s o h e = (λ i. session_in w.sessions (sym h.0 i) (sym e i)) ∙ h.1

  -- ---- those of peers, and then those of agents
  peers_held : (peers : List NodeId) (agents : List Node) (own : List Session) (posts : List Post) → map far own ≡ map site peers ++ map computer agents
      → Each (IsSeen w name) own → Fits peers posts
      → map (λ v. v.held) (with_role Controller (views own)) ≡ map (λ (p : Post). p.held) (take (length peers) posts)
  peers_held [] agents own posts e h z = ap (map (λ v. v.held)) (agents_no_peers agents own e)
  peers_held (d ∷ peers) agents [] posts e h z = absurd (some_nothing (site d) (map site peers ++ map computer agents) (sym e))
  peers_held (d ∷ peers) agents (s ∷ own) [] e h z = absurd z
  peers_held (d ∷ peers) agents (s ∷ own) (p ∷ posts) e h z =
      let later = map site peers ++ map computer agents in
      let held : s.near.held ≡ p.held = (z.0 s (found_as s d.name h.0 (name_is s own (site d) later e))).1 in
      ap (map (λ v. v.held)) (taken_in Controller Controller s own (role_is s own (site d) later e) refl)
      ∙ (λ i. held i ∷ peers_held peers agents own posts (rest_is (far s) (site d) (map far own) later e) h.1 z.1 i)

  peers_many : (peers : List NodeId) (agents : List Node) (own : List Session) → map far own ≡ map site peers ++ map computer agents → length (with_role Controller (views own)) ≡ length peers
  peers_many [] agents own e = ap length (agents_no_peers agents own e)
  peers_many (d ∷ peers) agents [] e = absurd (some_nothing (site d) (map site peers ++ map computer agents) (sym e))
  peers_many (d ∷ peers) agents (s ∷ own) e =
      let later = map site peers ++ map computer agents in
      ap length (taken_in Controller Controller s own (role_is s own (site d) later e) refl)
      ∙ ap suc (peers_many peers agents own (rest_is (far s) (site d) (map far own) later e))

  -- ---- all of them
  pub control_holds : (c : Controls) (agents : List Node) (own : List Session) (posts : List Post)
      → map far own ≡ root ∷ (map site c.peers ++ map computer agents) → Each (IsSeen w name) own
      → ((s : Session) → session_of w name config ≡ Some s → Same s (post posts 0)) → Fits c.peers (drop 1 posts)
      → ((j : ℕ) (a : NodeId) → slice_index_or c.agents j None ≡ Some a → (heard_from (views own) a.name).map ≡ (post posts ((1 + length c.peers) + j)).held)
      → holdings_of c.asn c.agents (views own) ≡ holdings c posts
  control_holds c agents [] posts e h feed peers told = absurd (some_nothing root (map site c.peers ++ map computer agents) (sym e))
  control_holds c agents (s ∷ own) posts e h feed peers told =
      let later = map site c.peers ++ map computer agents in
      let role = role_is s own root later e in
      let rest = rest_is (far s) root (map far own) later e in
      let n = length c.peers in
      let vs = views (s ∷ own) in
      let controllers : with_role Controller vs ≡ with_role Controller (views own) = passed_by Controller Configuration s own role refl in
      let many : length (with_role Controller vs) ≡ n = ap length controllers ∙ peers_many c.peers agents own rest in
      let all_told : told_seen vs (1 + length (with_role Controller vs)) c.agents ≡ told_from posts (1 + n) c.agents =
      ap (λ k. told_seen vs (1 + k) c.agents) many ∙ agents_told vs posts c.agents (1 + n) told in
      λ i. record {
        asn = c.asn;
        feed = (ap (λ vs. first_held vs) (taken_in Configuration Configuration s own role refl) ∙ (feed s (found_as s config h.0 (name_is s own root later e))).1) i;
        peers = (ap (map (λ (v : View). v.held)) controllers ∙ peers_held c.peers agents own (drop 1 posts) rest h.1 peers) i;
        agents = all_told i;
      }
