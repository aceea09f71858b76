-- An agent that goes from a control node: what is left of the node.
use Rattle.std.specs.Prelude.{◌≡◌, ℕ, List, [], ◌∷◌, length, map, Bool, true, false, cond}
use Rattle.std.specs.declared.option.Option.{Option}
use Rattle.std.specs.declared.option.Option.TheVariants.{Some, None}
use Rattle.std.specs.Option.{option_map}
use Rattle.std.proofs.Common.{refl, sym, ◌∙◌, ap, subst, inl, inr}
use Rattle.std.proofs.lemmas.List.{length-set, set-get_or}
use Rattle.std.proofs.lemmas.Option.{same_Some}
use Rattle.ov_types.specs.First.{same_name}
use Rattle.ov_types.specs.declared.rows.NodeId.{NodeId}
use Rattle.node_model.specs.Members.{Member}
use Rattle.node_model.proofs.Members.{in_map, in_right}
use Rattle.running_nodes.specs.MachineModel.Setup.{Name, without_agent}
use Rattle.running_nodes.specs.Controls.{Controls}
use Rattle.running_nodes.specs.Moving.{retired_of, vacated, vacated_from}
use Rattle.running_nodes.specs.Seats.{Controlling, Seat, index_from, is_name, name_there, names_of, nobody, others_of, place_at, place_of}
use Rattle.running_nodes.specs.Seats.{seat, seat_named, session_with}
use Rattle.running_nodes.specs.Steps.{with_seat}
use Rattle.running_nodes.specs.declared.place.SessionPlace.{SessionPlace}
use Rattle.running_laws.proofs.FirstPlaces.{index_none}
use Rattle.running_laws.proofs.Lists.{named_by}
use Rattle.net_machine.specs.Moving.{CanLeave, GoesFrom, IsAgentPlace, left_at}
use Rattle.net_machine.proofs.Seating.{named_within, place_names}

-- ---- a control node that has no session with it stays as it was
agents_stay : (name : Name) (agents : List (Option NodeId))
    → ((a : NodeId) → Member (Some a) agents → same_name a.name name ≡ true → ⊥) → without_agent name agents ≡ agents
agents_stay name [] off = refl
agents_stay name (None ∷ agents) off = ap (λ (os : List (Option NodeId)). None ∷ os) (agents_stay name agents (λ a m. off a (inr m)))
agents_stay name (Some b ∷ agents) off = by_name (same_name b.name name) refl (agents_stay name agents (λ a m. off a (inr m)))
  where
    by_name : (t : Bool) → same_name b.name name ≡ t → without_agent name agents ≡ agents
        → without_agent name (Some b ∷ agents) ≡ Some b ∷ agents
    by_name true e rest = absurd (off b (inl refl) e)
    by_name false e rest = λ i. cond (e i) None (Some b) ∷ rest i

nobody_left : (name : Name) (n : Seat) (c : Controls) → n.who ≡ Controlling c → session_with n name ≡ None
    → vacated name n ≡ n
nobody_left name n c who none =
    let others : index_from 0 (is_name name) (others_of (Controlling c)) ≡ None =
    ap (λ w. index_from 0 (is_name name) (others_of w)) (sym who) ∙ none in
    let stays : without_agent name c.agents ≡ c.agents =
    agents_stay name c.agents (λ a m e. index_none (is_name name) 0 (others_of (Controlling c)) others (Some a.name)
    (inr (in_right (Some a.name) (names_of c.peers) (map name_there c.agents) (in_map name_there (Some a) c.agents m))) e) in
    let same : retired_of name n.who ≡ n.who =
    ap (retired_of name) who ∙ ap (λ agents. Controlling (record c { agents = agents })) stays ∙ sym who in
    λ i. record (vacated_from (none i) n) { who = same i }

-- ---- its place
none_mapped : {A B : Type 0} (f : A → B) (o : Option A) → option_map f o ≡ None → o ≡ None
none_mapped f None e = refl
none_mapped f (Some a) e = cc

pub none_goes : (seats : List Seat) (name control : Name) → GoesFrom seats name control → place_of seats control name ≡ None
    → seats ≡ left_at name (seat_named seats control) seats
none_goes seats name control h none =
    let there : session_with (seat seats h.node) name ≡ None =
    none_mapped (λ i. record { node = h.node; session = i }) (session_with (seat seats h.node) name)
    (sym (ap (place_at seats name) h.is) ∙ none) in
    sym (ap (λ o. left_at name o seats) h.is
    ∙ ap (λ n. with_seat h.node n seats) (nobody_left name (seat seats h.node) h.controls h.who there)
    ∙ set-get_or seats h.node nobody)

pub place_is_agents : (seats : List Seat) (name control : Name) (p : SessionPlace) → GoesFrom seats name control
    → place_of seats control name ≡ Some p → IsAgentPlace seats name p
place_is_agents seats name control p h found =
    let is = named_by seats control name p found in
    let there = (place_names seats control name p found).there in
    let same : h.node ≡ p.node = same_Some h.node p.node (sym h.is ∙ is) in
    let who = subst (λ k. (seat seats k).who ≡ Controlling h.controls) same h.who in
    let leaves = subst (λ k. CanLeave name (seat seats k)) same h.leaves h.controls who p.session there in
    record {
      node = named_within seats control p.node is;
      controls = h.controls;
      who = who;
      behind = leaves.0;
      there = there;
      alone = leaves.1;
    }

-- ---- the node has as many ends as before
pub posts_vacated : (name : Name) (n : Seat) → length (vacated name n).posts ≡ length n.posts
posts_vacated name n = by_session (session_with n name)
  where
    by_session : (o : Option ℕ) → length (vacated_from o n).posts ≡ length n.posts
    by_session None = refl
    by_session (Some i) = length-set n.posts i _
