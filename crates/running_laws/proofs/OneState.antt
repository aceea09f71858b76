-- The state for which seats stand is one: each end is as its seat has it, and what is in flight is known by its octets.
use Rattle.std.specs.Prelude.{◌≡◌, ◌++◌, ℕ, List, [], ◌∷◌, map, length, Bool, not, ◌&&◌}
use Rattle.std.specs.List.{AllByRecursion}
use Rattle.std.specs.declared.option.Option.{Option}
use Rattle.std.specs.declared.option.Option.TheVariants.{Some, None}
use Rattle.std.proofs.lemmas.Bool.{true≢false}
use Rattle.std.proofs.lemmas.Option.{none-some, same_Some}
use Rattle.std.proofs.Common.{refl, sym, ◌∙◌, ap, subst, inl, inr, suc-ne-zero}
use Rattle.ov_types.specs.declared.rows.NodeId.{NodeId}
use Rattle.schedule_script.specs.ConfigCheck.Checked.{Checked}
use Rattle.schedule_script.specs.ConfigCheck.Rules.{controller_names}
use Rattle.node_model.specs.Maps.{Change}
use Rattle.machine_laws.specs.MachineModel.Session.{Carries, Message, Session, are_peers, is_idle, is_peering, turned}
use Rattle.machine_laws.specs.MachineModel.Setup.{Setup, agents_in, checked}
use Rattle.machine_laws.specs.MachineModel.Network.{MachineState, asked}
use Rattle.machine_laws.specs.MachineModel.Steps.{session_of}
use Rattle.machine_laws.specs.MachineModel.Moments.{Each, NodePair, nodes}
use Rattle.machine_laws.proofs.MachineModel.NetworkFact.{found}
use Rattle.machine_laws.proofs.MachineModel.SessionFact.{Fact, Fact-turned, greetings}
use Rattle.machine_laws.proofs.MachineModel.Twins.{Found, found_each}
use Rattle.running_nodes.specs.Seats.{Configuring, Controlling, Forwarding, Seat, Who, agent_plan, control_plan, place_of, seat, whos}
use Rattle.running_nodes.specs.Stands.{IsDownWhere, IsEnd, StandsFor, message_size, octets_of}
use Rattle.running_nodes.specs.Telling.{CanBeHeard, CanSend, from_of}
use Rattle.running_nodes.specs.declared.place.SessionPlace.{SessionPlace}
use Rattle.running_laws.specs.Moments.{IsMoment}
use Rattle.running_laws.specs.Wiring.{IsPlace, name_at, other_at}
use Rattle.running_laws.specs.OneState.{SeatsStandForOneState}
use Rattle.running_laws.proofs.AtMoments.{found_heard, found_sound, moment_right}
use Rattle.running_laws.proofs.Down.{down_turned}
use Rattle.running_laws.proofs.Entries.{entries, same_numbers}
use Rattle.running_laws.proofs.Facts.{Facts, IsRight, right_sites, right_twins}
use Rattle.running_laws.proofs.Here.{Here, here}
use Rattle.running_laws.proofs.Spelled.{head_or, one_flight, tail_of}

-- ---- what is in flight
all_right : {A : Type 0} (P : A → Type 0) (xs ys : List A) → AllByRecursion P (xs ++ ys) → AllByRecursion P ys
all_right P [] ys p = p
all_right P (x ∷ xs) ys p = all_right P xs ys p.1

all_carried : (P : Message → Type 0) (cs : List Change) → AllByRecursion P (map Carries cs) → AllByRecursion (λ c. P (Carries c)) cs
all_carried P [] p = tt
all_carried P (c ∷ cs) p = (p.0, all_carried P cs p.1)

-- two sessions of the same nodes, of which each end is as the same seat has it
pub record AreAlike (s t : Session) : Type 0 where
  pub nodes : nodes s ≡ nodes t
  pub near_phase : s.near.phase ≡ t.near.phase
  pub far_phase : s.far.phase ≡ t.far.phase
  pub down : s.is_down ≡ t.is_down

alike_turned : (s t : Session) → AreAlike s t → AreAlike (turned s) (turned t)
alike_turned s t a = record {
  nodes = ap (λ (p : NodePair). (p.1, p.0)) a.nodes;
  near_phase = a.far_phase;
  far_phase = a.near_phase;
  down = a.down;
}

same_flight : (who : Who) (s t : Session) → AreAlike s t → Fact message_size s → Fact message_size t
    → AllByRecursion (CanSend s.near.role s.far.role) s.near.flight
    → AllByRecursion (CanSend t.near.role t.far.role) t.near.flight
    → map (octets_of who (is_peering s)) s.near.flight ≡ map (octets_of who (is_peering t)) t.near.flight
    → s.near.flight ≡ t.near.flight
same_flight who s t a (inr d) (inr d') p q e = d.near.flight ∙ sym d'.near.flight
same_flight who s t a (inl j) (inr d) p q e = absurd (true≢false (sym d.down ∙ sym a.down ∙ j.whole))
same_flight who s t a (inr d) (inl j) p q e = absurd (true≢false (sym d.down ∙ a.down ∙ j.whole))
same_flight who s t a (inl j) (inl k) p q e =
    let b : Bool = is_peering s in
    let roles : s.near.role ≡ t.near.role = ap (λ (p : NodePair). p.0.1) a.nodes in
    let others : s.far.role ≡ t.far.role = ap (λ (p : NodePair). p.1.1) a.nodes in
    let peering : is_peering t ≡ b = λ i. are_peers (sym roles i) (sym others i) in
    let g : List Message = greetings b s.far.phase s.near.phase in
    let there : t.near.flight ≡ g ++ map Carries k.outward.changes =
    k.outward.flight
    ∙ (λ i. greetings (peering i) (sym a.far_phase i) (sym a.near_phase i) ++ map Carries k.outward.changes)
    in
    let mine : AllByRecursion (CanSend s.near.role s.far.role) (g ++ map Carries j.outward.changes) =
    subst (AllByRecursion (CanSend s.near.role s.far.role)) j.outward.flight p
    in
    let yours : AllByRecursion (CanSend s.near.role s.far.role) (g ++ map Carries k.outward.changes) =
    subst (AllByRecursion (CanSend s.near.role s.far.role)) there
    (subst (λ r. AllByRecursion (CanSend r s.far.role) t.near.flight) (sym roles)
    (subst (λ r. AllByRecursion (CanSend t.near.role r) t.near.flight) (sym others) q))
    in
    let same : j.outward.changes ≡ k.outward.changes =
    one_flight who b (from_of s.near.role s.far.role) g j.outward.changes k.outward.changes
    (all_carried (CanSend s.near.role s.far.role) j.outward.changes
    (all_right (CanSend s.near.role s.far.role) g (map Carries j.outward.changes) mine))
    (all_carried (CanSend s.near.role s.far.role) k.outward.changes
    (all_right (CanSend s.near.role s.far.role) g (map Carries k.outward.changes) yours))
    (ap (map (octets_of who b)) (sym j.outward.flight)
    ∙ e
    ∙ ap (λ c. map (octets_of who c) t.near.flight) peering
    ∙ ap (map (octets_of who b)) there)
    in
    j.outward.flight ∙ ap (λ cs. g ++ map Carries cs) same ∙ sym there

-- of what is in flight from an end as much was taken as the other end keeps
same_near : (n m : Seat) (i j : ℕ) (s t : Session) → AreAlike s t → IsEnd n i s → IsEnd n i t
    → IsEnd m j (turned s) → IsEnd m j (turned t) → s.near.flight ≡ t.near.flight → s.near ≡ t.near
same_near n m i j s t a x y x' y' flight =
    let names : s.near.name ≡ t.near.name = ap (λ (p : NodePair). p.0.0) a.nodes in
    let roles : s.near.role ≡ t.near.role = ap (λ (p : NodePair). p.0.1) a.nodes in
    let phase : s.near.phase ≡ t.near.phase = x.phase ∙ sym y.phase in
    let notice : s.near.notice ≡ t.near.notice = x.notice ∙ sym y.notice in
    let sent : s.near.sent ≡ t.near.sent = x.sent ∙ sym y.sent in
    let held : s.near.held ≡ t.near.held = x.held ∙ sym y.held in
    let taken : s.near.taken ≡ t.near.taken = x'.taken ∙ sym y'.taken in
    let breaks : s.near.breaks ≡ t.near.breaks = x.breaks ∙ sym y.breaks in
    λ i. record {
      name = names i;
      role = roles i;
      phase = phase i;
      notice = notice i;
      sent = sent i;
      held = held i;
      flight = flight i;
      taken = taken i;
      breaks = breaks i;
    }

-- ---- the agents of control nodes
abbrev agents_behind : Setup → List Who
agents_behind x = map (λ n. Forwarding (agent_plan x.topology n)) x.topology.nodes

abbrev agents_at : List (Option NodeId) → Who → List (Option NodeId)
agents_at d (Controlling c) = c.agents
agents_at d who = d

agents_alike : (x y : Setup) (cs : List NodeId) (behind behind' : List Who)
    → map (λ c. Controlling (control_plan x c)) cs ++ behind ≡ map (λ c. Controlling (control_plan y c)) cs ++ behind'
    → AllByRecursion (λ k. agents_in x.numbers k ≡ agents_in y.numbers k) (map (λ (c : NodeId). c.name) cs)
agents_alike x y [] behind behind' e = tt
agents_alike x y (c ∷ cs) behind behind' e = (
  ap (λ ws. agents_at [] (head_or (Controlling (control_plan x c)) ws)) e,
  agents_alike x y cs behind behind' (ap tail_of e),
)

-- ---- the session at a place
module _ (facts : Facts) (seats : List Seat) (w v : MachineState) (moment : IsMoment w) (moment' : IsMoment v)
    (stands : StandsFor seats w) (stands' : StandsFor seats v) where
  right : IsRight w
  right = moment_right facts.moments w moment

  right' : IsRight v
  right' = moment_right facts.moments v moment'

  module _ (p : SessionPlace) (is : IsPlace seats p) where
    abbrev at : Here seats w p
    at = here facts.wired seats w right stands.seats_are p is

    abbrev at' : Here seats v p
    at' = here facts.wired seats v right' stands'.seats_are p is

    abbrev s : Session
    s = at.session

    abbrev t : Session
    t = at'.session

    same_far : at'.far.far ≡ at.far.far
    same_far = same_Some at'.far.far at.far.far (sym at'.far.found ∙ at.far.found)

    there : IsEnd (seat seats at.far.far.node) at.far.far.session (turned t)
    there = subst (λ (q : SessionPlace). IsEnd (seat seats q.node) q.session (turned t)) same_far at'.far_is

    same_nodes : nodes s ≡ nodes t
    same_nodes =
        let x = facts.wired.session w seats p right.written right.numbers right.sessions stands.seats_are.who is in
        let y = facts.wired.session v seats p right'.written right'.numbers right'.sessions stands'.seats_are.who is in
        let is_s : x.session ≡ s = same_Some x.session s (sym x.found ∙ at.found) in
        let is_t : y.session ≡ t = same_Some y.session t (sym y.found ∙ at'.found) in
        let both : nodes x.session ≡ nodes y.session =
        λ i. (
          ((x.near_name ∙ sym y.near_name) i, (x.near_role ∙ sym y.near_role) i),
          ((x.far_name ∙ sym y.far_name) i, (x.far_role at.far.far at.far.found ∙ sym (y.far_role at.far.far at.far.found)) i),
        )
        in
        ap nodes (sym is_s) ∙ both ∙ ap nodes is_t

    same_down : s.is_down ≡ t.is_down
    same_down =
        let near : s.near.phase ≡ t.near.phase = at.near_is.phase ∙ sym at'.near_is.phase in
        let near_notice : s.near.notice ≡ t.near.notice = at.near_is.notice ∙ sym at'.near_is.notice in
        let far : s.far.phase ≡ t.far.phase = at.far_is.phase ∙ sym there.phase in
        let far_notice : s.far.notice ≡ t.far.notice = at.far_is.notice ∙ sym there.notice in
        found IsDownWhere down_turned w.sessions (name_at seats p) (other_at seats p) stands.down s at.found
        ∙ (λ i. not ((not (is_idle (near i)) && not (near_notice i)) && (not (is_idle (far i)) && not (far_notice i))))
        ∙ sym (found IsDownWhere down_turned v.sessions (name_at seats p) (other_at seats p) stands'.down t at'.found)

    alike : AreAlike s t
    alike = record {
      nodes = same_nodes;
      near_phase = at.near_is.phase ∙ sym at'.near_is.phase;
      far_phase = at.far_is.phase ∙ sym there.phase;
      down = same_down;
    }

    sound : Fact message_size s
    sound = found_sound w moment (name_at seats p) (other_at seats p) s at.found

    sound' : Fact message_size t
    sound' = found_sound v moment' (name_at seats p) (other_at seats p) t at'.found

    can_be_heard : CanBeHeard s
    can_be_heard = found_heard w moment (name_at seats p) (other_at seats p) s at.found facts.moments

    can_be_heard' : CanBeHeard t
    can_be_heard' = found_heard v moment' (name_at seats p) (other_at seats p) t at'.found facts.moments

    nears : s.near ≡ t.near
    nears =
        same_near (seat seats p.node) (seat seats at.far.far.node) p.session at.far.far.session s t alike at.near_is at'.near_is
        at.far_is there
        (same_flight (seat seats p.node).who s t alike sound sound' can_be_heard.near can_be_heard'.near
        (sym at.near_is.flight ∙ at'.near_is.flight))

    fars : s.far ≡ t.far
    fars =
        let q = at.far.far in
        same_near (seat seats q.node) (seat seats p.node) q.session p.session (turned s) (turned t) (alike_turned s t alike)
        at.far_is there at.near_is at'.near_is
        (same_flight (seat seats q.node).who (turned s) (turned t) (alike_turned s t alike) (Fact-turned message_size s sound)
        (Fact-turned message_size t sound') can_be_heard.far can_be_heard'.far (sym at.far_is.flight ∙ there.flight))

    one_session : s ≡ t
    one_session i = record { is_down = same_down i; near = nears i; far = fars i }

  -- ---- a session among all
  same_session : (s t : Session) → nodes s ≡ nodes t → Found w.sessions s → Found v.sessions t → s ≡ t
  same_session s t e f g = by_place (place_of seats s.near.name s.far.name) refl
    where
      by_place : (o : Option SessionPlace) → place_of seats s.near.name s.far.name ≡ o → s ≡ t
      by_place None none =
          absurd (none-some s
          (sym (facts.wired.none w seats s.near.name s.far.name right.written right.numbers right.sessions stands.seats_are.who none) ∙ f.0))
      by_place (Some p) is =
          let of = facts.wired.place_is w.setup seats s.near.name s.far.name p right.written right.numbers stands.seats_are.who is in
          let h = at p of.is_place in
          let h' = at' p of.is_place in
          let first : h.session ≡ s =
          same_Some h.session s (sym h.found ∙ (λ i. session_of w (of.name i) (of.other i)) ∙ f.0)
          in
          let second : h'.session ≡ t =
          same_Some h'.session t
          (sym h'.found
          ∙ (λ i. session_of v ((of.name ∙ ap (λ (p : NodePair). p.0.0) e) i) ((of.other ∙ ap (λ (p : NodePair). p.1.0) e) i))
          ∙ g.0)
          in
          sym first ∙ one_session p of.is_place ∙ second

  same_sessions : (ss ts : List Session) → map nodes ss ≡ map nodes ts → Each (Found w.sessions) ss
      → Each (Found v.sessions) ts → ss ≡ ts
  same_sessions [] [] e f g = refl
  same_sessions [] (t ∷ ts) e f g = absurd (suc-ne-zero (length (map nodes ts)) (ap length (sym e)))
  same_sessions (s ∷ ss) [] e f g = absurd (suc-ne-zero (length (map nodes ss)) (ap length e))
  same_sessions (s ∷ ss) (t ∷ ts) e f g =
      let first = same_session s t (ap (head_or (nodes s)) e) f.0 g.0 in
      let rest = same_sessions ss ts (ap tail_of e) f.1 g.1 in
      λ i. first i ∷ rest i

  abbrev checked_of : List Who → Checked → Checked
  checked_of (Configuring x ∷ whos) d = x
  checked_of whos d = d

  same_whos : whos w.setup ≡ whos v.setup
  same_whos = sym stands.seats_are.who ∙ stands'.seats_are.who

  same_checked : checked w.setup ≡ checked v.setup
  same_checked = ap (λ whos. checked_of whos (checked w.setup)) same_whos

  same_controllers : v.setup.topology.controllers ≡ w.setup.topology.controllers
  same_controllers = ap (λ (x : Checked). x.topology.controllers) (sym same_checked)

  -- the agents of each control node are alike
  same_agents : AllByRecursion (λ k. agents_in w.setup.numbers k ≡ agents_in v.setup.numbers k) (controller_names w.setup.topology)
  same_agents =
      agents_alike w.setup v.setup w.setup.topology.controllers (agents_behind w.setup) (agents_behind v.setup)
      (ap tail_of same_whos
      ∙ ap (λ cs. map (λ c. Controlling (control_plan v.setup c)) cs ++ agents_behind v.setup) same_controllers)

  setups_alike : w.setup.numbers ≡ v.setup.numbers
  setups_alike =
      same_numbers (controller_names w.setup.topology) w.setup.numbers v.setup.numbers (right_sites w right)
      (entries w moment) (entries v moment' ∙ ap (map (λ (c : NodeId). c.name)) same_controllers) same_agents

  same_setup : w.setup ≡ v.setup
  same_setup i = record {
    topology = (same_checked i).topology;
    config = (same_checked i).config;
    numbers = setups_alike i;
  }

  one_state : w ≡ v
  one_state =
      let same : w.sessions ≡ v.sessions =
      same_sessions w.sessions v.sessions
      (right.sessions ∙ ap (λ (x : Setup). map nodes (asked x.topology)) same_setup ∙ sym right'.sessions)
      (found_each w.sessions (right_twins w right)) (found_each v.sessions (right_twins v right'))
      in
      λ i. record { setup = same_setup i; sessions = same i }

pub seats_stand_for_one_state : Facts → SeatsStandForOneState
seats_stand_for_one_state facts seats w v moment moment' stands stands' =
    one_state facts seats w v moment moment' stands stands'
