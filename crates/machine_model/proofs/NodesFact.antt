-- The sessions and their nodes stay.
use Rattle.std.specs.Prelude.{◌≡◌, ℕ, ◌+◌, ◌-◌, List, [], ◌∷◌, map, true, false, cond, nat_lt}
use Rattle.std.proofs.Common.{refl, sym, ◌∙◌, ap, subst}
use Rattle.schedule_script.specs.ConfigTypes.Edit.{Edit}
use Rattle.machine_model.specs.Setup.{Name, edited, moves}
use Rattle.transform_model.specs.NodeModel.Step.{Phase, Idle, Opened, Confirmed, Up}
use Rattle.machine_model.specs.Session.{Message, Open, Keepalive, Hello, Carries, Session, turned, closed, is_peering, shut, lost, passed, opened, with_phase, peer_took, item_took, took, without_first, took_first, arrived, took_octets, octets_arrived}
use Rattle.machine_model.specs.Network.{MachineState, wanted, view, views_of}
use Rattle.machine_model.specs.Events.{MachineEvent, edits, passes, add_break, next, after}
use Rattle.machine_model.specs.Steps.{at_node, joins, with_session, change_session, pass, round, is_broken, around, open_second, connect, connect_if, connect_all, without_breaks}
use Rattle.machine_model.specs.Setup.{Setup}
use Rattle.machine_model.proofs.Walk.{Takes, Connects, Steps, round_walk, connect_walk, connections_walk, next_walk, after_walk}
use Rattle.machine_model.proofs.NetworkFact.{NodePair, nodes, KeepsNodes, told_nodes, passed_nodes, opened_nodes, at_node_nodes}

-- ---- the steps of one end
peer_took_nodes : (p : Phase) (m : Message) → KeepsNodes (peer_took p m)
peer_took_nodes Idle m s = refl
peer_took_nodes Opened Open s = told_nodes (Keepalive ∷ []) (with_phase Confirmed s)
peer_took_nodes Confirmed Keepalive s = refl
peer_took_nodes Up Keepalive s = refl
peer_took_nodes Up (Carries d) s = refl
peer_took_nodes _ _ s = refl

item_took_nodes : (p : Phase) (m : Message) → KeepsNodes (item_took p m)
item_took_nodes Idle m s = refl
item_took_nodes Opened Hello s = refl
item_took_nodes Up (Carries d) s = refl
item_took_nodes _ _ s = refl

pub took_nodes : (m : Message) → KeepsNodes (took m)
took_nodes m s =
    elim (is_peering s) as (λ b. nodes (cond b (peer_took s.near.phase m s) (item_took s.near.phase m s)) ≡ nodes s) [ true ↦ peer_took_nodes s.near.phase m s | false ↦ item_took_nodes s.near.phase m s ]

took_first_nodes : (f : List Message) → KeepsNodes (took_first f)
took_first_nodes [] s = refl
took_first_nodes (m ∷ ms) s = took_nodes m (without_first ms s)

pub arrived_nodes : KeepsNodes arrived
unfolding arrived
arrived_nodes s = elim s.near.notice as (λ b. nodes (cond b (record s { near = closed s.near }) (took_first s.far.flight s)) ≡ nodes s) [ true ↦ refl | false ↦ took_first_nodes s.far.flight s ]

-- ---- lists
pub map_nodes : (f : Session → Session) → KeepsNodes f → (ss : List Session) → map nodes (map f ss) ≡ map nodes ss
map_nodes f k [] = refl
map_nodes f k (s ∷ ss) = λ i. k s i ∷ map_nodes f k ss i

pub turned_nodes : (f : Session → Session) → KeepsNodes f → (s : Session) → nodes (turned (f (turned s))) ≡ nodes s
turned_nodes f k s = ap (λ (p : NodePair). (p.1, p.0)) (k (turned s))

pub session_nodes : (a b : Name) (f : Session → Session) → KeepsNodes f → (ss : List Session) → map nodes (with_session a b f ss) ≡ map nodes ss
session_nodes a b f k [] = refl
session_nodes a b f k (s ∷ ss) =
    elim (joins a b s) as (λ c. map nodes (cond c (f s ∷ ss) (cond (joins b a s) (turned (f (turned s)) ∷ ss) (s ∷ with_session a b f ss))) ≡ nodes s ∷ map nodes ss) [
      | true ↦ ap (λ p. p ∷ map nodes ss) (k s)
      | false ↦ elim (joins b a s) as (λ c. map nodes (cond c (turned (f (turned s)) ∷ ss) (s ∷ with_session a b f ss)) ≡ nodes s ∷ map nodes ss) [
        | true ↦ ap (λ p. p ∷ map nodes ss) (turned_nodes f k s)
        | false ↦ ap (λ ps. nodes s ∷ ps) (session_nodes a b f k ss)
      ]
    ]

abbrev pub SameNodes : MachineState → MachineState → Type 0
SameNodes w v = map nodes v.sessions ≡ map nodes w.sessions

pub pass_nodes : (n : Name) (w : MachineState) → SameNodes w (pass n w)
pass_nodes n w = map_nodes (at_node n (λ s. passed (wanted w.setup (views_of n w.sessions) (view s)) s)) (at_node_nodes n (λ s. passed (wanted w.setup (views_of n w.sessions) (view s)) s) (λ s. passed_nodes (wanted w.setup (views_of n w.sessions) (view s)) s)) w.sessions

pub step_nodes : (n a b : Name) (f : Session → Session) → KeepsNodes f → (w : MachineState) → SameNodes w (pass n (change_session a b f w))
step_nodes n a b f k w = pass_nodes n (change_session a b f w) ∙ session_nodes a b f k w.sessions

-- ---- the nodes of all sessions
abbrev HaveNodes : List NodePair → MachineState → Type 0
HaveNodes ps w = map nodes w.sessions ≡ ps

takes_nodes : (ps : List NodePair) → Takes (HaveNodes ps)
takes_nodes ps from to w e = step_nodes to to from arrived arrived_nodes w ∙ e

second_nodes : (a b : Name) (w : MachineState) → SameNodes w (open_second a b w)
second_nodes a b w = elim (is_broken w a b) as (λ c. SameNodes w (cond c w (pass b (change_session a b (around opened) w)))) [ true ↦ refl | false ↦ step_nodes b a b (around opened) (turned_nodes opened opened_nodes) w ]

connects_nodes : (ps : List NodePair) → Connects (HaveNodes ps)
connects_nodes ps a b w may some e = second_nodes a b (pass a (change_session a b opened w)) ∙ step_nodes a a b opened opened_nodes w ∙ e

pub round_nodes : (w : MachineState) → SameNodes w (round w)
round_nodes w = round_walk (HaveNodes (map nodes w.sessions)) (takes_nodes (map nodes w.sessions)) w refl

pub connect_if_nodes : (a b : Name) (w : MachineState) → SameNodes w (connect_if a b w)
connect_if_nodes a b w = connect_walk (HaveNodes (map nodes w.sessions)) (connects_nodes (map nodes w.sessions)) a b w refl

pub connect_all_nodes : (ss : List Session) (w : MachineState) → SameNodes w (connect_all ss w)
connect_all_nodes ss w = connections_walk (HaveNodes (map nodes w.sessions)) (connects_nodes (map nodes w.sessions)) ss w refl

module _ (size : Name → Message → ℕ) where
  took_octets_nodes : (f : List Message) (n : ℕ) → KeepsNodes (took_octets size n f)
  took_octets_nodes [] n s = refl
  took_octets_nodes (m ∷ ms) n s =
      elim s.is_down as (λ b. nodes (cond b s (cond (nat_lt n (size s.far.name m - s.far.taken)) (record s { far = record s.far { taken = s.far.taken + n } }) (took_octets size (n - (size s.far.name m - s.far.taken)) ms (took m (without_first ms s))))) ≡ nodes s) [
        | true ↦ refl
        | false ↦ elim (nat_lt n (size s.far.name m - s.far.taken)) as (λ b. nodes (cond b (record s { far = record s.far { taken = s.far.taken + n } }) (took_octets size (n - (size s.far.name m - s.far.taken)) ms (took m (without_first ms s)))) ≡ nodes s) [
          | true ↦ refl
          | false ↦ took_octets_nodes ms (n - (size s.far.name m - s.far.taken)) (took m (without_first ms s)) ∙ took_nodes m (without_first ms s)
        ]
      ]

  pub octets_nodes : (n : ℕ) → KeepsNodes (octets_arrived size n)
  unfolding octets_arrived
  octets_nodes n s = elim s.near.notice as (λ b. nodes (cond b (record s { near = closed s.near }) (took_octets size n s.far.flight s)) ≡ nodes s) [ true ↦ refl | false ↦ took_octets_nodes s.far.flight n s ]

-- ---- the setup stays
abbrev pub HasSetup : Setup → MachineState → Type 0
HasSetup x w = w.setup ≡ x

pub setup_connects : (x : Setup) → Connects (HasSetup x)
setup_connects x a b w may some e =
    let u = pass a (change_session a b opened w) in
    elim (is_broken u a b) as (λ c. (cond c u (pass b (change_session a b (around opened) u))).setup ≡ x) [ true ↦ e | false ↦ e ]

pub setup_steps : (size : Name → Message → ℕ) (x : Setup) → Steps size (HasSetup x)
setup_steps size x = record {
  takes = λ from to w e. e;
  octets = λ from to n w e. e;
  loses = λ a b w e. e;
  connects = setup_connects x;
  restarts = λ n w e. e;
  clears = λ w e. e;
  breaks = λ a b n w e. e;
}

-- ---- what is said of the setup and of the nodes of all sessions, every event but an edit keeps
abbrev pub Holds : (Setup → List NodePair → Type 0) → MachineState → Type 0
Holds Q w = Q w.setup (map nodes w.sessions)

module _ (size : Name → Message → ℕ) (Q : Setup → List NodePair → Type 0) where
  pub holds_steps : Steps size (Holds Q)
  holds_steps = record {
    takes = λ from to w q. subst (Q w.setup) (sym (step_nodes to to from arrived arrived_nodes w)) q;
    octets = λ from to n w q. subst (Q w.setup) (sym (step_nodes to to from (octets_arrived size n) (octets_nodes size n) w)) q;
    loses = λ a b w q. subst (Q w.setup) (sym (session_nodes a b lost (λ s. refl) w.sessions)) q;
    connects = λ a b w may some q.
        let kept : (connect a b w).setup ≡ w.setup = setup_connects w.setup a b w may some refl in
        let same : map nodes (connect a b w).sessions ≡ map nodes w.sessions = connects_nodes (map nodes w.sessions) a b w may some refl in
        subst (λ (x : Setup). Q x (map nodes (connect a b w).sessions)) (sym kept) (subst (Q w.setup) (sym same) q);
    restarts = λ n w q. subst (Q w.setup) (sym (map_nodes (at_node n shut) (at_node_nodes n shut (λ s. refl)) w.sessions)) q;
    clears = λ w q. subst (Q w.setup) (sym (map_nodes without_breaks (λ s. refl) w.sessions)) q;
    breaks = λ a b n w q. subst (Q w.setup) (sym (session_nodes a b (add_break n) (λ s. refl) w.sessions)) q;
  }

  module _ (edit : (d : Edit) (w : MachineState) → Holds Q w → Holds Q (edits (moves d w.setup.topology) (edited w.setup d) w)) where
    pub next_holds : (w : MachineState) (e : MachineEvent) → Holds Q w → Holds Q (next size w e)
    next_holds w e q = next_walk size (Holds Q) holds_steps w e (λ d _. edit d w) q

    pub after_holds : (w : MachineState) (es : List MachineEvent) → Holds Q w → Holds Q (after size w es)
    after_holds w es q = after_walk size (Holds Q) holds_steps edit w es q

pub passes_nodes : (ns : List Name) (w : MachineState) → SameNodes w (passes ns w)
passes_nodes [] w = refl
passes_nodes (n ∷ ns) w = passes_nodes ns (pass n w) ∙ pass_nodes n w

pub passes_setup : (ns : List Name) (w : MachineState) → (passes ns w).setup ≡ w.setup
passes_setup [] w = refl
passes_setup (n ∷ ns) w = passes_setup ns (pass n w)
