-- What the machine takes of an agent's sessions is what the agent takes of its ends.
use Rattle.std.specs.Cmp.Lexicographic.{bytes_decides}
use Rattle.std.specs.List.{AllZip, cons_option}
use Rattle.std.specs.Prelude.{Bool, List, cond, false, find, map, true, [], ◌&&◌, ◌∷◌, ◌≡◌}
use Rattle.std.specs.declared.option.Option.TheVariants.{None, Some}
use Rattle.std.specs.declared.option.Option.{Option}
use Rattle.std.proofs.Common.{ap, inl, inr, refl, subst, sym, ◌∙◌}
use Rattle.std.proofs.lemmas.Option.{same_Some}
use Rattle.ov_types.specs.First.{same_name}
use Rattle.config_types.specs.declared.topology.Node.{Node}
use Rattle.node_model.specs.Agent.{Heard}
use Rattle.node_model.specs.Members.{Member}
use Rattle.node_model.specs.Step.{Confirmed, Idle, Opened, Phase, Post, Up}
use Rattle.node_model.proofs.Members.{in_map, none_some}
use Rattle.machine_laws.specs.MachineModel.Network.{View, agent_holdings, heard_from, is_at, sessions_of, view, views_of}
use Rattle.machine_laws.specs.MachineModel.Session.{Session, is_up_phase, turned}
use Rattle.machine_laws.specs.MachineModel.Setup.{Name, Setup, listed_by}
use Rattle.machine_laws.specs.MachineModel.Steps.{session_in}
use Rattle.machine_laws.proofs.MachineModel.Twins.{itself}
use Rattle.machine_laws.proofs.MachineModel.Distinct.{Apart, same_false}
use Rattle.running_nodes.specs.AgentNode.Core.{heard_at, holdings, is_up}

abbrev pub heard_as : Session → Heard
heard_as s = record { is_up = is_up_phase s.near.phase; map = s.near.held }

-- ---- the session of two nodes is the one whose view the first finds
module _ (u s : Session) (o : Option Session) (rest : Heard) (later : o ≡ Some s → rest ≡ heard_as s) where
  decided : (a b c d : Bool) → (a ≡ true → c ≡ true → ⊥) → cond (a && b) (Some u) (cond (c && d) (Some (turned u)) o) ≡ Some s → cond a (cond b (heard_as u) rest) (cond d (cond c (heard_as (turned u)) rest) rest) ≡ heard_as s
  decided true true c d h e = ap heard_as (same_Some u s e)
  decided true false true d h e = absurd (h refl refl)
  decided true false false d h e = later e
  decided false b true true h e = ap heard_as (same_Some (turned u) s e)
  decided false b true false h e = later e
  decided false b false true h e = later e
  decided false b false false h e = later e

first_heard : (a b : Name) (u : Session) (ss : List Session) → let rest = heard_from (views_of a ss) b in heard_from (views_of a (u ∷ ss)) b ≡ cond (is_at a u.near) (cond (is_at b u.far) (heard_as u) rest) (cond (is_at a u.far) (cond (is_at b u.near) (heard_as (turned u)) rest) rest)
first_heard a b u ss =
    let rest = heard_from (views_of a ss) b in
    elim (is_at a u.near) as (λ c. heard_from (map view (cons_option (cond c (Some u) (cond (is_at a u.far) (Some (turned u)) None)) (sessions_of a ss))) b ≡ cond c (cond (is_at b u.far) (heard_as u) rest) (cond (is_at a u.far) (cond (is_at b u.near) (heard_as (turned u)) rest) rest)) [
      | true ↦ refl
      | false ↦ elim (is_at a u.far) as (λ c. heard_from (map view (cons_option (cond c (Some (turned u)) None) (sessions_of a ss))) b ≡ cond c (cond (is_at b u.near) (heard_as (turned u)) rest) rest) [ true ↦ refl | false ↦ refl ]
    ]

pub heard_of : (a b : Name) → (a ≡ b → ⊥) → (ss : List Session) (s : Session) → session_in ss a b ≡ Some s → heard_from (views_of a ss) b ≡ heard_as s
heard_of a b h [] s e = absurd (none_some s e)
heard_of a b h (u ∷ ss) s e =
    first_heard a b u ss
    ∙ decided u s (session_in ss a b) (heard_from (views_of a ss) b) (heard_of a b h ss s) (is_at a u.near) (is_at b u.far) (is_at b u.near) (is_at a u.far)
    (λ p q. h (sym ((bytes_decides u.near.name a).0 p) ∙ (bytes_decides u.near.name b).0 q)) e

-- ---- an agent
pub computer_found : (ns : List Node) (c : Node) → Apart (map (λ (n : Node). n.name) ns) → Member c ns → find (λ (n : Node). same_name n.name c.name) ns ≡ Some c
computer_found [] c a m = absurd m
computer_found (d ∷ ns) c a (inl e) = ap (λ b. cond b (Some d) (find (λ (n : Node). same_name n.name c.name) ns)) (subst (λ (c : Node). same_name d.name c.name ≡ true) e (itself d.name)) ∙ ap Some e
computer_found (d ∷ ns) c a (inr m) = ap (λ b. cond b (Some d) (find (λ (n : Node). same_name n.name c.name) ns)) (same_false d.name c.name (λ e. a.0 c.name (in_map (λ (n : Node). n.name) c ns m) e)) ∙ computer_found ns c a.1 m

pub up_same : (p : Phase) → is_up_phase p ≡ is_up p
up_same Idle = refl
up_same Opened = refl
up_same Confirmed = refl
up_same Up = refl

abbrev pub HearsAt : List View → Name → Post → Type 0
HearsAt vs name p = heard_from vs name ≡ heard_at p

all_heard : (vs : List View) (names : List Name) (posts : List Post) → AllZip (HearsAt vs) names posts → map (heard_from vs) names ≡ map heard_at posts
all_heard vs [] [] z = refl
all_heard vs [] (p ∷ posts) z = absurd z
all_heard vs (name ∷ names) [] z = absurd z
all_heard vs (name ∷ names) (p ∷ posts) z = λ i. z.0 i ∷ all_heard vs names posts z.1 i

pub agent_holds : (x : Setup) (n : Node) (vs : List View) (posts : List Post) → Apart (map (λ (n : Node). n.name) x.topology.nodes) → Member n x.topology.nodes → AllZip (HearsAt vs) n.controllers posts → agent_holdings x n.name vs ≡ holdings posts
agent_holds x n vs posts a m z =
    ap (λ (o : Option Node). map (heard_from vs) (listed_by o)) (computer_found x.topology.nodes n a m)
    ∙ all_heard vs n.controllers posts z
