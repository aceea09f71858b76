-- The session of each place, and the place of each session.
use Rattle.std.specs.Cmp.Lexicographic.{bytes_decides}
use Rattle.std.specs.List.{AllByRecursion}
use Rattle.std.specs.Prelude.{List, cond, false, map, true, [], ◌∷◌, ◌≡◌, ◌⊎◌}
use Rattle.std.specs.declared.option.Option.TheVariants.{None, Some}
use Rattle.std.specs.declared.option.Option.{Option}
use Rattle.std.proofs.Common.{ap, inl, inr, refl, subst, sym, ◌∙◌}
use Rattle.std.proofs.lemmas.Bool.{and_parts, true≢false}
use Rattle.std.proofs.lemmas.Option.{same_Some}
use Rattle.ov_types.specs.First.{same_name}
use Rattle.node_model.specs.Members.{Member}
use Rattle.node_model.proofs.Members.{from_map, in_map, none_some}
use Rattle.machine_laws.specs.MachineModel.Moments.{Each, HasNumbers, HasSessions, NodePair, nodes}
use Rattle.machine_laws.specs.MachineModel.Network.{MachineState, is_at}
use Rattle.machine_laws.specs.MachineModel.Session.{Session, turned}
use Rattle.machine_laws.specs.MachineModel.Setup.{Name}
use Rattle.machine_laws.specs.MachineModel.Steps.{joins, session_in, session_of}
use Rattle.machine_laws.proofs.MachineModel.Twins.{Found, NoTwins, found_each}
use Rattle.machine_laws.specs.Goal.{Party}
use Rattle.machine_laws.specs.Setups.{IsNamed}
use Rattle.running_nodes.specs.Seats.{Seat, place_of, role_of, seat}
use Rattle.running_nodes.specs.declared.place.SessionPlace.{SessionPlace}
use Rattle.running_laws.specs.Wiring.{AreSeats, HasSession, IsFound, IsPlace, name_at, other_at}
use Rattle.running_laws.proofs.FirstPlaces.{all_of, from_all, some_none}
use Rattle.running_laws.proofs.Links.{link_of, links, proper, tied_of, twinless}
use Rattle.running_laws.proofs.Parties.{Ties, self, ties_turned}
use Rattle.running_laws.proofs.Seating.{ListsApart, far_at, party_at, party_named, place_is, place_is_of, tied_at, ties_at}

-- what is found in a list of sessions stands there, as one of its two nodes sees it
abbrev pub StandsIn : List Session → Name → Name → Session → Type 0
StandsIn ss a b s = (s.near.name ≡ a) × (s.far.name ≡ b) × (Member s ss ⊎ Member (turned s) ss)

pub stands_in : (ss : List Session) (a b : Name) (s : Session) → session_in ss a b ≡ Some s → StandsIn ss a b s
stands_in [] a b s e = absurd (none_some s e)
stands_in (u ∷ ss) a b s e =
    elim (joins a b u) as (λ c. joins a b u ≡ c → cond c (Some u) (cond (joins b a u) (Some (turned u)) (session_in ss a b)) ≡ Some s → StandsIn (u ∷ ss) a b s) [
      | true ↦ λ is e. near (same_Some u s e) (and_parts (is_at a u.near) (is_at b u.far) is)
      | false ↦ λ _ e. elim (joins b a u) as (λ c. joins b a u ≡ c → cond c (Some (turned u)) (session_in ss a b) ≡ Some s → StandsIn (u ∷ ss) a b s) [
        | true ↦ λ is e. far (same_Some (turned u) s e) (and_parts (is_at b u.near) (is_at a u.far) is)
        | false ↦ λ _ e. later (stands_in ss a b s e)
      ] refl e
    ] refl e
  where
    near : u ≡ s → (is_at a u.near ≡ true) × (is_at b u.far ≡ true) → StandsIn (u ∷ ss) a b s
    near same p = subst (StandsIn (u ∷ ss) a b) same ((bytes_decides u.near.name a).0 p.0, (bytes_decides u.far.name b).0 p.1, inl (inl refl))

    far : turned u ≡ s → (is_at b u.near ≡ true) × (is_at a u.far ≡ true) → StandsIn (u ∷ ss) a b s
    far same p = subst (StandsIn (u ∷ ss) a b) same ((bytes_decides u.far.name a).0 p.1, (bytes_decides u.near.name b).0 p.0, inr (inl refl))

    later : StandsIn ss a b s → StandsIn (u ∷ ss) a b s
    later h = (h.0, h.1, elim h.2 as (λ _. Member s (u ∷ ss) ⊎ Member (turned s) (u ∷ ss)) [ inl m ↦ inl (inr m) | inr m ↦ inr (inr m) ])

module _ (w : MachineState) (named : IsNamed w.setup.topology) (numbers : HasNumbers w.setup) (listed : ListsApart w.setup) (seats : List Seat) (are : AreSeats w.setup seats) (has : HasSessions w) where
  -- ---- sessions
  twins : NoTwins (map nodes w.sessions)
  twins = subst NoTwins (sym has) (twinless w.setup named)

  pub all_found : Each (Found w.sessions) w.sessions
  all_found = found_each w.sessions twins

  found_at : (s : Session) → Member s w.sessions → Found w.sessions s
  found_at s m = from_all (Found w.sessions) w.sessions all_found s m

  link_at : (s : Session) → Member s w.sessions → Member (nodes s) (links w.setup)
  link_at s m = subst (Member (nodes s)) has (in_map nodes s w.sessions m)

  -- no session joins a node to itself
  pub sessions_proper : Each (λ s. (same_name s.near.name s.far.name ≡ false) × (same_name s.far.name s.near.name ≡ false)) w.sessions
  sessions_proper = all_of (λ (s : Session). (same_name s.near.name s.far.name ≡ false) × (same_name s.far.name s.near.name ≡ false)) w.sessions (λ s m. proper w.setup named (nodes s) (link_at s m))

  pub names_differ : (a b : Name) (s : Session) → session_of w a b ≡ Some s → a ≡ b → ⊥
  names_differ a b s e same =
      let h = stands_in w.sessions a b s e in
      elim h.2 as (λ _. ⊥) [
        | inl m ↦ true≢false (sym ((bytes_decides s.near.name s.far.name).1 (h.0 ∙ same ∙ sym h.1)) ∙ (proper w.setup named (nodes s) (link_at s m)).0)
        | inr m ↦ true≢false (sym ((bytes_decides s.far.name s.near.name).1 (h.1 ∙ sym same ∙ sym h.0)) ∙ (proper w.setup named (nodes (turned s)) (link_at (turned s) m)).0)
      ]

  -- ---- the session of two nodes that have one
  pub record SessionOf (a o : Party) : Type 0 where
    pub session : Session
    pub found : session_of w a.0 o.0 ≡ Some session
    pub nodes_are : nodes session ≡ (a, o)

  pub session_tied : (a o : Party) → Ties w.setup.topology a o → SessionOf a o
  session_tied a o ties =
      elim (link_of w.setup named a o ties) as (λ _. SessionOf a o) [
        | inl m ↦
            let q = from_map nodes (a, o) w.sessions (subst (Member (a, o)) (sym has) m) in
            record {
              session = q.0;
              found = subst (λ (p : NodePair). session_in w.sessions p.0.0 p.1.0 ≡ Some q.0) q.2 (found_at q.0 q.1).0;
              nodes_are = q.2;
            }
        | inr m ↦
            let q = from_map nodes (o, a) w.sessions (subst (Member (o, a)) (sym has) m) in
            record {
              session = turned q.0;
              found = subst (λ (p : NodePair). session_in w.sessions p.1.0 p.0.0 ≡ Some (turned q.0)) q.2 (found_at q.0 q.1).1;
              nodes_are = ap (λ (p : NodePair). (p.1, p.0)) q.2;
            }
      ]

  pub nodes_at : (p : SessionPlace) → IsPlace seats p → (s : Session) → session_of w (name_at seats p) (other_at seats p) ≡ Some s → nodes s ≡ (self (seat seats p.node).who, party_at w.setup named numbers listed seats are p)
  nodes_at p h s e =
      let a = self (seat seats p.node).who in
      let o = party_at w.setup named numbers listed seats are p in
      let q = session_tied a o (ties_at w.setup named numbers listed seats are p h) in
      let found : session_of w (name_at seats p) (other_at seats p) ≡ Some q.session = subst (λ b. session_of w (name_at seats p) b ≡ Some q.session) (party_named w.setup named numbers listed seats are p h) q.found in
      subst (λ s. nodes s ≡ (a, o)) (same_Some q.session s (sym found ∙ e)) q.nodes_are

  -- ---- each place has its session
  pub place_session : (p : SessionPlace) → IsPlace seats p → HasSession seats w p
  place_session p h =
      let a = self (seat seats p.node).who in
      let o = party_at w.setup named numbers listed seats are p in
      let other : o.0 ≡ other_at seats p = party_named w.setup named numbers listed seats are p h in
      let s = session_tied a o (ties_at w.setup named numbers listed seats are p h) in
      let f = far_at w.setup named numbers listed seats are p h in
      record {
        session = s.session;
        found = subst (λ b. session_of w (name_at seats p) b ≡ Some s.session) other s.found;
        near_name = ap (λ (n : NodePair). n.0.0) s.nodes_are;
        far_name = ap (λ (n : NodePair). n.1.0) s.nodes_are ∙ other;
        near_role = ap (λ (n : NodePair). n.0.1) s.nodes_are;
        far_role = λ q e.
            let same : f.has.far ≡ q = same_Some f.has.far q (sym f.has.found ∙ e) in
            subst (λ (q : SessionPlace). s.session.far.role ≡ role_of (seat seats q.node).who) same (ap (λ (n : NodePair). n.1.1) s.nodes_are ∙ sym f.role);
      }

  -- ---- each session has its place
  session_place : (s : Session) → Member s w.sessions → IsFound seats w s
  session_place s m =
      let n = nodes s in
      let q = tied_at w.setup named numbers listed seats are n.0 n.1 (tied_of w.setup named n (link_at s m)) in
      record {
        place = q.place;
        place_is = place_is_of w.setup named numbers listed seats are s.near.name s.far.name q.place q.is_of;
        is_place = q.is_of.is_place;
        found = (found_at s m).0;
      }

  pub sessions_placed : AllByRecursion (IsFound seats w) w.sessions
  sessions_placed = all_of (IsFound seats w) w.sessions session_place

  -- ---- two nodes have a place exactly where they have a session
  abbrev PlaceOf : Name → Name → Type 0
  PlaceOf a b = (p : SessionPlace) × (place_of seats a b ≡ Some p)

  pub place_where : (a b : Name) (s : Session) → session_of w a b ≡ Some s → PlaceOf a b
  place_where a b s e =
      let h = stands_in w.sessions a b s e in
      let ties : Ties w.setup.topology (s.near.name, s.near.role) (s.far.name, s.far.role) =
      elim h.2 as (λ _. Ties w.setup.topology (s.near.name, s.near.role) (s.far.name, s.far.role)) [
        | inl m ↦ tied_of w.setup named (nodes s) (link_at s m)
        | inr m ↦ ties_turned w.setup.topology (s.far.name, s.far.role) (s.near.name, s.near.role) (tied_of w.setup named (nodes (turned s)) (link_at (turned s) m))
      ] in
      let q = tied_at w.setup named numbers listed seats are (s.near.name, s.near.role) (s.far.name, s.far.role) ties in
      let at : place_of seats s.near.name s.far.name ≡ Some q.place = place_is_of w.setup named numbers listed seats are s.near.name s.far.name q.place q.is_of in
      (q.place, subst (λ a. place_of seats a b ≡ Some q.place) h.0 (subst (λ b. place_of seats s.near.name b ≡ Some q.place) h.1 at))

  pub session_where : (a b : Name) (p : SessionPlace) → place_of seats a b ≡ Some p → (s : Session) × (session_of w a b ≡ Some s)
  session_where a b p e =
      let h = place_is w.setup named numbers listed seats are a b p e in
      let s = place_session p h.is_place in
      (s.session, (λ i. session_of w (sym h.name i) (sym h.other i)) ∙ s.found)

  pub no_place : (a b : Name) → session_of w a b ≡ None → place_of seats a b ≡ None
  no_place a b e = by (place_of seats a b) refl
    where
      by : (o : Option SessionPlace) → place_of seats a b ≡ o → place_of seats a b ≡ None
      by None is = is
      by (Some p) is = let s = session_where a b p is in absurd (some_none s.0 (sym s.1 ∙ e))

  pub no_session : (a b : Name) → place_of seats a b ≡ None → session_of w a b ≡ None
  no_session a b e = by (session_of w a b) refl
    where
      by : (o : Option Session) → session_of w a b ≡ o → session_of w a b ≡ None
      by None is = is
      by (Some s) is = let p = place_where a b s is in absurd (some_none p.0 (sym p.1 ∙ e))
