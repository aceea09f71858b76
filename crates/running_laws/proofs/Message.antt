-- A message is delivered: what is left of it leaves its link, its node takes it and makes its pass.
use Rattle.std.specs.Prelude.{◌≡◌, ◌≢◌, ◌<◌, ℕ, zero, suc, List, [], ◌∷◌, ◌++◌, map, length, drop, take, Bool, true, false, not, cond, ◌==◌}
use Rattle.std.specs.Borrow.{Bor}
use Rattle.std.specs.List.{AllByRecursion, slice_index_or, slice_set}
use Rattle.std.specs.Option.{option_map, unwrap_or}
use Rattle.std.specs.declared.option.Option.{Option}
use Rattle.std.specs.declared.option.Option.TheVariants.{Some}
use Rattle.std.proofs.lemmas.Bool.{ne_eqb, not-true, true≢false}
use Rattle.std.proofs.lemmas.List.{get_or-set_same}
use Rattle.std.proofs.lemmas.Option.{same_Some}
use Rattle.std.proofs.Common.{refl, sym, ◌∙◌, ap, subst, suc-ne-zero}
use Rattle.ov_link.specs.declared.step.Input.TheVariants as input
use Rattle.node_model.specs.Step.{Beginning, Phase, Post, end_of, nothing, post}
use Rattle.machine_laws.specs.MachineModel.Session.{Message, Session, are_peers, arrived, is_idle, is_peering, told, turned, waiting, without_first}
use Rattle.machine_laws.specs.MachineModel.Network.{MachineState}
use Rattle.machine_laws.specs.MachineModel.Steps.{change_session, deliver, in_flight, pass}
use Rattle.machine_laws.specs.MachineModel.Moments.{IsJoined, NoneGoesDown, cell}
use Rattle.machine_laws.proofs.MachineModel.NetworkFact.{with_session_keeps}
use Rattle.machine_laws.proofs.MachineModel.NodesFact.{arrived_nodes}
use Rattle.machine_laws.proofs.MachineModel.SessionFact.{Fact, Fact-turned, are_peers-turned, arrived_keeps}
use Rattle.running_nodes.specs.Seats.{Seat, kept_at, kept_in, link, link_at, name_of, notice_at, role_of, seat}
use Rattle.running_nodes.specs.Steps.{BeginsAt, Takes, cleared, with_link, with_seat}
use Rattle.running_nodes.specs.Stands.{IsEnd, Seats, first_of, message_size, octets_of}
use Rattle.running_nodes.specs.Taking.{held_after, replies_to, taken, wide_after}
use Rattle.running_nodes.specs.Telling.{CanSend}
use Rattle.running_nodes.specs.declared.place.SessionPlace.{SessionPlace}
use Rattle.running_laws.specs.Moments.{IsMoment}
use Rattle.running_laws.specs.Wiring.{IsPlace, name_at, other_at}
use Rattle.running_nodes.proofs.Sizes.{positive}
use Rattle.running_laws.proofs.Arriving.{live_after}
use Rattle.running_laws.proofs.AtMoments.{IsSound, found_heard, found_joined, moment_right, moment_sound}
use Rattle.running_laws.proofs.Building.{AllBut, IsPart, fit_but, part_at, part_none}
use Rattle.running_laws.proofs.Facts.{Facts, IsRight}
use Rattle.running_laws.proofs.Here.{Here, here, part_here}
use Rattle.running_laws.proofs.Lists.{seat_elsewhere, seat_here, seats_fit}
use Rattle.running_laws.proofs.Marks.{link_but}
use Rattle.running_laws.proofs.Members.{is_one_of}
use Rattle.running_laws.proofs.Sent.{arrived_takes, taking_session, took_tells}
use Rattle.running_laws.proofs.Stepped.{IsReady, stands_after, taking}

-- ---- the first message in flight
record IsFirst (g : Message → List ℕ) (flight : List Message) (octets : List ℕ) (rest : List (List ℕ)) : Type 0 where
  message : Message
  after : List Message
  is : flight ≡ message ∷ after
  octets_are : octets ≡ g message
  rest_is : rest ≡ map g after

first_in : (g : Message → List ℕ) (flight : List Message) (octets : List ℕ) (rest : List (List ℕ)) → octets ∷ rest ≡ map g flight
    → IsFirst g flight octets rest
first_in g [] octets rest e = absurd (suc-ne-zero (length rest) (ap length e))
first_in g (m ∷ ms) octets rest e = record {
  message = m;
  after = ms;
  is = refl;
  octets_are = ap (λ (l : List (List ℕ)). slice_index_or l 0 []) e;
  rest_is = ap (drop 1) e;
}

none_either_way : {A : Type 0} (b : Bool) → ◌≡◌ {A = List A} (cond b [] []) []
none_either_way true = refl
none_either_way false = refl

take_and_drop : (n : ℕ) (xs : List ℕ) → take n xs ++ drop n xs ≡ xs
take_and_drop zero xs = refl
take_and_drop (suc n) [] = refl
take_and_drop (suc n) (x ∷ xs) = ap (λ ys. x ∷ ys) (take_and_drop n xs)

-- ---- the theorem
module _ (facts : Facts) (seats : List Seat) (w : MachineState) (moment : IsMoment w) (stands : Seats seats w) (p : SessionPlace)
    (is : IsPlace seats p) (quiet : notice_at seats p ≡ false) where
  abbrev right : IsRight w
  right = moment_right facts.moments w moment

  abbrev at : Here seats w p
  at = here facts.wired seats w right stands p is

  abbrev q : SessionPlace
  q = at.far.far

  abbrev s : Session
  s = at.session

  not_far : q.node ≢ p.node
  not_far e = at.apart (sym (ap (λ k. name_of (seat seats k).who) e) ∙ at.far.name)

  near_role : s.near.role ≡ role_of (seat seats p.node).who
  near_role =
      let h = facts.wired.session w seats p right.written right.numbers right.sessions stands.who is in
      ap (λ (s : Session). s.near.role) (same_Some s h.session (sym at.found ∙ h.found)) ∙ h.near_role

  far_role : s.far.role ≡ role_of (seat seats q.node).who
  far_role =
      let h = facts.wired.session w seats p right.written right.numbers right.sessions stands.who is in
      ap (λ (s : Session). s.far.role) (same_Some s h.session (sym at.found ∙ h.found)) ∙ h.far_role q at.far.found

  -- the octets of the message, of which some may have been taken before
  module _ (octets : List ℕ) (rest : List (List ℕ)) (waits : link_at seats q ≡ octets ∷ rest) where
    first : IsFirst (octets_of (seat seats q.node).who (is_peering (turned s))) s.far.flight octets rest
    first = first_in (octets_of (seat seats q.node).who (is_peering (turned s))) s.far.flight octets rest (sym waits ∙ at.far_is.flight)

    abbrev m : Message
    m = first.message

    whole : s.is_down ≡ false
    whole = by_test s.is_down refl
      where
        by_test : (b : Bool) → s.is_down ≡ b → b ≡ false
        by_test true e = absurd (suc-ne-zero (length first.after) (ap length (sym first.is ∙ (at.quiet e).1)))
        by_test false e = refl

    live : is_idle s.near.phase ≡ false
    live = not-true (is_idle s.near.phase) (found_joined w moment (name_at seats p) (other_at seats p) s at.found whole).near_live

    passing : NoneGoesDown (is_peering s) s.near.phase (m ∷ first.after)
    passing =
        subst (NoneGoesDown (is_peering s) s.near.phase) first.is
        (found_joined w moment (name_at seats p) (other_at seats p) s at.found whole).inward.passing

    abbrev next : Phase
    next = passing.0

    -- the session once the message is taken, before it is answered
    abbrev t0 : Session
    t0 = taking_session m next (without_first first.after s)

    abbrev replies : List Message
    replies = replies_to (is_peering s) s.near.phase m

    arrives : arrived s ≡ told replies t0
    arrives =
        arrived_takes s m first.after (at.near_is.notice ∙ quiet) first.is
        ∙ took_tells m next (without_first first.after s) live passing.1

    -- a message does not close the end
    stays_live : is_idle next ≡ false
    stays_live = live_after (is_peering s) s.near.phase m next live passing.1

    peering_is : are_peers (role_of (seat seats p.node).who) (role_of (seat seats q.node).who) ≡ is_peering s
    peering_is i = are_peers (sym near_role i) (sym far_role i)

    sends : CanSend (role_of (seat seats q.node).who) (role_of (seat seats p.node).who) m
    sends =
        subst (λ r. CanSend r (role_of (seat seats p.node).who) m) far_role
        (subst (λ r. CanSend s.far.role r m) near_role
        (subst (AllByRecursion (CanSend s.far.role s.near.role)) first.is
        (found_heard w moment (name_at seats p) (other_at seats p) s at.found facts.moments).far).0)

    -- what is kept of it and what is still to come are all of it
    kept_and_next : (bytes : List ℕ) → bytes ≡ drop (length (kept_at seats p)) octets → kept_at seats p ++ bytes ≡ octets
    kept_and_next bytes e =
        (λ i. (part_at seats p q at.far.found (part_here facts.wired seats w right stands p is) quiet
        ∙ ap (λ l. take (length (kept_at seats p)) (first_of l)) waits) i ++ e i)
        ∙ take_and_drop (length (kept_at seats p)) octets

    module _ (bytes : Bor (List ℕ)) (bytes_are : bytes.now ≡ drop (length (kept_at seats p)) octets) (n' : Seat)
        (takes : Takes (seat (with_link q rest seats) p.node) n' (input.Bytes p.session bytes)) where
      abbrev given : Beginning
      given = takes.given

      abbrev left : List ℕ
      left = takes.left

      abbrev far_seat : Seat
      far_seat = record (seat seats q.node) { links = slice_set (seat seats q.node).links q.session rest }

      abbrev begun : List Seat
      begun = with_link q rest seats

      seat_same : seat begun p.node ≡ seat seats p.node
      seat_same = seat_elsewhere q.node p.node far_seat seats (λ e. not_far (sym e))

      far_seat_is : seat begun q.node ≡ far_seat
      far_seat_is = seat_here q.node far_seat seats at.far.is_place.node

      but : AllBut seats begun q
      but = link_but seats q at.far.is_place.node rest

      heard : (given ≡ taken (seat seats p.node).who (is_peering s) (post (seat seats p.node).posts p.session) m next) × (left ≡ [])
      heard =
          subst (λ b. (given ≡ taken (seat seats p.node).who b (post (seat seats p.node).posts p.session) m next) × (left ≡ [])) peering_is
          (facts.hears.message w.setup right.written right.numbers (seat seats p.node).who (seat seats q.node).who
          (is_one_of seats w stands p.node is.node) (is_one_of seats w stands q.node at.far.is_place.node)
          p.session is.session (is.somebody ∙ ap Some (sym at.far.name)) (post (seat seats p.node).posts p.session)
          (ap is_idle (sym at.near_is.phase) ∙ live) m next
          ((λ i. cell (peering_is i) (sym at.near_is.phase i) m) ∙ passing.1) sends (kept_at seats p) bytes
          (kept_and_next bytes.now bytes_are
          ∙ first.octets_are ∙ (λ i. octets_of (seat seats q.node).who (are_peers-turned s.far.role s.near.role i) m)
          ∙ (λ i. octets_of (seat seats q.node).who (sym peering_is i) m))
          given left (subst (λ (n : Seat). BeginsAt n.who p.session (post n.posts p.session) (kept_in n p.session)
          (input.Bytes p.session bytes) given left) seat_same takes.begins))

      -- ---- the two ends
      abbrev near_seat : Seat
      near_seat = taking (seat seats p.node) p.session given left

      post_then : post near_seat.posts p.session ≡ record {
        phase = next;
        sent = (post (seat seats p.node).posts p.session).sent;
        held = held_after m (post (seat seats p.node).posts p.session).held;
        wide = wide_after m (post (seat seats p.node).posts p.session).wide;
      }
      post_then =
          get_or-set_same (seat seats p.node).posts p.session (end_of given.after) nothing
          (subst (λ n. p.session < n) (sym (stands.long p.node is.node).posts) is.session)
          ∙ ap (λ (g : Beginning). end_of g.after) heard.0

      kept_then : kept_in near_seat p.session ≡ []
      kept_then =
          get_or-set_same (seat seats p.node).kept p.session (cond (is_idle (end_of given.after).phase) [] left) []
          (subst (λ n. p.session < n) (sym (stands.long p.node is.node).kept) is.session)
          ∙ ap (cond (is_idle (end_of given.after).phase) []) heard.1
          ∙ none_either_way (is_idle (end_of given.after).phase)

      near_end : IsEnd near_seat p.session t0
      near_end = record {
        phase = ap (λ (p : Post). p.phase) (sym post_then);
        sent = at.near_is.sent ∙ ap (λ (p : Post). p.sent) (sym post_then);
        held = ap (held_after m) at.near_is.held ∙ ap (λ (p : Post). p.held) (sym post_then);
        notice = at.near_is.notice;
        flight = at.near_is.flight;
        breaks = at.near_is.breaks;
        taken = sym (ap (λ (b : Bool). cond b 0 (length (kept_in near_seat p.session))) quiet ∙ ap length kept_then);
      }

      far_link : link (seat begun q.node) q.session ≡ rest
      far_link =
          ap (λ n. link n q.session) far_seat_is
          ∙ get_or-set_same (seat seats q.node).links q.session rest []
          (subst (λ n. q.session < n) (sym (stands.long q.node at.far.is_place.node).links) at.far.is_place.session)

      far_end : IsEnd (seat begun q.node) q.session (turned t0)
      far_end = record {
        phase = at.far_is.phase ∙ ap (λ n. (post n.posts q.session).phase) (sym far_seat_is);
        sent = at.far_is.sent ∙ ap (λ n. (post n.posts q.session).sent) (sym far_seat_is);
        held = at.far_is.held ∙ ap (λ n. (post n.posts q.session).held) (sym far_seat_is);
        notice = at.far_is.notice ∙ ap (λ (n : Seat). slice_index_or n.notices q.session false) (sym far_seat_is);
        flight = far_link ∙ first.rest_is
            ∙ (λ i. map (octets_of (ap (λ (n : Seat). n.who) (sym far_seat_is) i) (is_peering (turned s))) first.after);
        breaks = at.far_is.breaks ∙ ap (λ (n : Seat). slice_index_or n.breaks q.session []) (sym far_seat_is);
        taken = at.far_is.taken
            ∙ ap (λ (n : Seat). cond (slice_index_or n.notices q.session false) 0 (length (slice_index_or n.kept q.session []))) (sym far_seat_is);
      }

      far_keeps : IsPart (seat begun q.node) q.session (seat begun p.node) p.session
      far_keeps =
          subst (λ n. IsPart n q.session (seat begun p.node) p.session) (sym far_seat_is)
          (subst (λ n. IsPart far_seat q.session n p.session) (sym seat_same)
          (part_at seats q p at.far.back (part_here facts.wired seats w right stands q at.far.is_place)))

      joined : IsJoined s
      joined = found_joined w moment (name_at seats p) (other_at seats p) s at.found whole

      ready : IsReady t0
      ready = record {
        near = λ e. absurd (true≢false (sym (ap not stays_live) ∙ e));
        far = λ e. absurd (true≢false (sym joined.far_live ∙ e));
        quiet = λ e. absurd (true≢false (sym e ∙ whole));
      }

      sound : IsSound (change_session (name_at seats p) (other_at seats p) arrived w)
      sound =
          with_session_keeps (Fact message_size) (Fact-turned message_size) arrived (arrived_keeps message_size positive)
          (name_at seats p) (other_at seats p) w.sessions (moment_sound w moment)

      pub message_stands : Seats (cleared (with_seat p.node n' begun) p.node)
          (pass (name_at seats p) (change_session (name_at seats p) (other_at seats p) arrived w))
      message_stands =
          stands_after facts seats w moment stands p is begun but.alike
          (fit_but seats begun q at.far.is_place but (seats_fit seats w stands)) (λ r _ _ not_q. but.ends r not_q)
          arrived arrived_nodes sound given left t0 replies arrives
          (ap (λ (g : Beginning). g.replies) heard.0
          ∙ (λ i. map (octets_of (seat seats p.node).who (is_peering s)) (replies_to (is_peering s) (sym at.near_is.phase i) m)))
          (subst (λ n. IsEnd (taking n p.session given left) p.session t0) (sym seat_same) near_end) far_end
          (subst (λ n. IsPart (taking n p.session given left) p.session (seat begun q.node) q.session) (sym seat_same)
          (part_none near_seat p.session (seat begun q.node) q.session kept_then))
          far_keeps ready (λ e. absurd (true≢false (sym e ∙ stays_live))) n' takes.stepped takes.swept

    -- something waits there
    some_waits : (in_flight w (other_at seats p) (name_at seats p) == 0) ≡ false
    some_waits =
        ap (λ (o : Option Session). unwrap_or (option_map waiting o) 0 == 0) at.found
        ∙ ap (λ (b : Bool). cond b 1 (length s.far.flight) == 0) (at.near_is.notice ∙ quiet)
        ∙ ap (λ (f : List Message). length f == 0) first.is
        ∙ ne_eqb (suc (length first.after)) 0 (suc-ne-zero (length first.after))

    pub message_delivered : deliver (other_at seats p) (name_at seats p) w
        ≡ pass (name_at seats p) (change_session (name_at seats p) (other_at seats p) arrived w)
    message_delivered =
        ap (λ (b : Bool). cond b w (pass (name_at seats p) (change_session (name_at seats p) (other_at seats p) arrived w))) some_waits
