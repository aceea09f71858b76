-- Octets are delivered: they leave their link, and their node takes the messages of which they are the last and makes its
-- pass. Those of a message that is not whole are kept.
use Rattle.std.specs.Prelude.{◌≡◌, ◌≢◌, ◌⊎◌, ◌<◌, ◌+◌, ℕ, List, [], ◌∷◌, ◌++◌, map, length, take, drop, Bool, true, false, cond, not, ◌==◌}
use Rattle.std.specs.Borrow.{Bor}
use Rattle.std.specs.List.{AllByRecursion, concat, slice_index_or, slice_set}
use Rattle.std.specs.Option.{option_map, unwrap_or}
use Rattle.std.specs.declared.option.Option.{Option}
use Rattle.std.specs.declared.option.Option.TheVariants.{Some}
use Rattle.std.proofs.lemmas.Bool.{ne_eqb, not-true, true≢false}
use Rattle.std.proofs.lemmas.List.{get_or-set_same, nil_from_length}
use Rattle.std.proofs.lemmas.Option.{same_Some}
use Rattle.std.proofs.Common.{refl, sym, ◌∙◌, ap, subst, inl, inr}
use Rattle.ov_link.specs.declared.step.Input.TheVariants as input
use Rattle.node_model.specs.Step.{Beginning, Phase, Post, end_of, nothing, post}
use Rattle.machine_laws.specs.MachineModel.Setup.{Name}
use Rattle.machine_laws.specs.MachineModel.Session.{Message, SessionEnd, Session, are_peers, arrived, closed, is_idle, is_live, is_peering, octets_arrived}
use Rattle.machine_laws.specs.MachineModel.Session.{took_first, took_octets, told, turned, waiting}
use Rattle.machine_laws.specs.MachineModel.Network.{MachineState}
use Rattle.machine_laws.specs.MachineModel.Steps.{change_session, deliver_octets, in_flight, joins, pass, session_in, session_of}
use Rattle.machine_laws.specs.MachineModel.Steps.{with_session}
use Rattle.machine_laws.specs.MachineModel.Events.{DeliverOctets, next}
use Rattle.machine_laws.specs.MachineModel.Moments.{IsJoined, IsPartly, NoneGoesDown, cell}
use Rattle.machine_laws.proofs.MachineModel.NetworkFact.{with_session_keeps}
use Rattle.machine_laws.proofs.MachineModel.NodesFact.{octets_nodes}
use Rattle.machine_laws.proofs.MachineModel.SessionFact.{Fact, Fact-turned, are_peers-turned, octets_arrived_keeps}
use Rattle.running_nodes.specs.Seats.{Seat, Who, kept_at, kept_in, link, link_at, name_of, notice_at, role_of, seat}
use Rattle.running_nodes.specs.Steps.{BeginsAt, Takes, cleared, untaken, with_link, with_seat}
use Rattle.running_nodes.specs.Stands.{IsEnd, Seats, StandsFor, first_of, message_size, octets_of}
use Rattle.running_nodes.specs.Taking.{replies_to_all, taken_all, took_all}
use Rattle.running_nodes.specs.Telling.{CanSend}
use Rattle.running_nodes.specs.declared.place.SessionPlace.{SessionPlace}
use Rattle.running_laws.specs.Hearing.{IsMessageOf, IsPartial, IsPhaseOf}
use Rattle.running_laws.proofs.HeardEnds.{message_of, phase_of_cell}
use Rattle.running_laws.specs.Moments.{IsMoment}
use Rattle.running_laws.specs.Wiring.{HasFar, HasSession, IsPlace, IsPlaceOf, name_at, other_at}
use Rattle.running_nodes.proofs.Sizes.{positive}
use Rattle.running_laws.specs.Delivering.{NoticesCountAsOctets, OctetsAreDelivered, TakesAt}
use Rattle.running_laws.proofs.Arriving.{live_after, octets_taken, rest_of, still, taken_of, unanswered, whole_of}
use Rattle.running_laws.proofs.AtMoments.{IsSound, found_heard, found_joined, found_sound, moment_right, moment_sound, stands_at}
use Rattle.running_laws.proofs.Building.{AllBut, IsPart, fit_but, part_at}
use Rattle.running_laws.proofs.Cutting.{AreLong, both_parts, first_part, kept_and_next, part_in, part_is, part_long, untaken_is}
use Rattle.running_laws.proofs.Facts.{Facts, IsRight}
use Rattle.running_laws.proofs.Here.{Here, here, part_here}
use Rattle.running_laws.proofs.Lists.{seat_elsewhere, seat_here, seats_fit}
use Rattle.running_laws.proofs.Marks.{link_but}
use Rattle.running_laws.proofs.Members.{is_one_of}
use Rattle.running_laws.proofs.Stepped.{IsReady, stands_after, taking}
use Rattle.running_laws.proofs.Taken.{OnlyTook, TookSame, all_first, all_rest, first_pass, live_still, only_took, took_same}

-- ---- how long messages are that some live end takes
module _ (g : Message → List ℕ) (z : Message → ℕ) (b : Bool) (P : Message → Type 0)
    (one : (p : Phase) → is_idle p ≡ false → (m : Message) (after : Phase) → cell b p m ≡ Some after → P m → length (g m) ≡ z m) where
  all_long : (p : Phase) → is_idle p ≡ false → (ms : List Message) → NoneGoesDown b p ms → AllByRecursion P ms → AreLong g z ms
  all_long p live [] passing can = tt
  all_long p live (m ∷ ms) passing can = (
    one p live m passing.0 passing.1 can.0,
    all_long passing.0 (live_after b p m passing.0 live passing.1) ms passing.2 can.1,
  )

some_phase : (b : Bool) (phase : Phase) (ms : List Message) → ms ≢ [] → NoneGoesDown b phase ms → IsPhaseOf b phase
some_phase b phase [] some passing = absurd (some refl)
some_phase b phase (m ∷ ms) some passing = phase_of_cell b phase m passing.0 passing.1

-- ---- the place
module _ (facts : Facts) (seats : List Seat) (w : MachineState) (moment : IsMoment w) (stands : Seats seats w) (p : SessionPlace)
    (is : IsPlace seats p) (quiet : notice_at seats p ≡ false) where
  abbrev right : IsRight w
  right = moment_right facts.moments w moment

  abbrev at : Here seats w p
  at = here facts.wired seats w right stands p is

  abbrev q : SessionPlace
  q = at.far.far

  abbrev s : Session
  s = at.session

  abbrev b : Bool
  b = is_peering s

  abbrev who : Who
  who = (seat seats p.node).who

  abbrev who_there : Who
  who_there = (seat seats q.node).who

  not_far : q.node ≢ p.node
  not_far e = at.apart (sym (ap (λ k. name_of (seat seats k).who) e) ∙ at.far.name)

  has : HasSession seats w p
  has = facts.wired.session w seats p right.written right.numbers right.sessions stands.who is

  same_session : has.session ≡ s
  same_session = same_Some has.session s (sym has.found ∙ at.found)

  near_role : s.near.role ≡ role_of who
  near_role = ap (λ (s : Session). s.near.role) (sym same_session) ∙ has.near_role

  far_role : s.far.role ≡ role_of who_there
  far_role = ap (λ (s : Session). s.far.role) (sym same_session) ∙ has.far_role q at.far.found

  far_name : s.far.name ≡ name_of who_there
  far_name = ap (λ (s : Session). s.far.name) (sym same_session) ∙ has.far_name ∙ sym at.far.name

  peering_is : are_peers (role_of who) (role_of who_there) ≡ b
  peering_is i = are_peers (sym near_role i) (sym far_role i)

  peering_there : are_peers (role_of who_there) (role_of who) ≡ b
  peering_there = are_peers-turned (role_of who_there) (role_of who) ∙ peering_is

  -- how the other end spells a message, and how many octets it has
  abbrev g : Message → List ℕ
  g = octets_of who_there b

  abbrev z : Message → ℕ
  z = message_size s.far.name

  link_is : link_at seats q ≡ map g s.far.flight
  link_is =
      at.far_is.flight ∙ (λ i. map (octets_of who_there (are_peers-turned s.far.role s.near.role i)) s.far.flight)

  abbrev kept : List ℕ
  kept = kept_at seats p

  taken_is : s.far.taken ≡ length kept
  taken_is = at.near_is.taken ∙ ap (λ b. cond b 0 (length kept)) quiet

  -- ---- where something is in flight
  module _ (waits : link_at seats q ≢ []) (n : ℕ) where
    whole : s.is_down ≡ false
    whole = by_test s.is_down refl
      where
        by_test : (d : Bool) → s.is_down ≡ d → d ≡ false
        by_test true e = absurd (waits (link_is ∙ ap (map g) (at.quiet e).1))
        by_test false e = refl

    abbrev joined : IsJoined s
    joined = found_joined w moment (name_at seats p) (other_at seats p) s at.found whole

    live : is_idle s.near.phase ≡ false
    live = not-true (is_idle s.near.phase) joined.near_live

    passing : NoneGoesDown b s.near.phase s.far.flight
    passing = joined.inward.passing

    partly : IsPartly z s.far.flight s.far.taken
    partly = by_fact (found_sound w moment (name_at seats p) (other_at seats p) s at.found)
      where
        by_fact : Fact message_size s → IsPartly z s.far.flight s.far.taken
        by_fact (inl j) = j.inward.partly
        by_fact (inr d) = absurd (true≢false (sym d.down ∙ whole))

    abbrev Can : Message → Type 0
    Can = CanSend (role_of who_there) (role_of who)

    can : AllByRecursion Can s.far.flight
    can =
        subst (λ r. AllByRecursion (CanSend r (role_of who)) s.far.flight) far_role
        (subst (λ r. AllByRecursion (CanSend s.far.role r) s.far.flight) near_role
        (found_heard w moment (name_at seats p) (other_at seats p) s at.found facts.moments).far)

    -- ---- what of it is taken
    abbrev total : ℕ
    total = length kept + n

    abbrev ms : List Message
    ms = whole_of z total s.far.flight

    abbrev rest : List Message
    rest = rest_of z total s.far.flight

    abbrev part : List ℕ
    part = part_in g z total s.far.flight

    split : s.far.flight ≡ ms ++ rest
    split = both_parts g z total s.far.flight

    long : AreLong g z s.far.flight
    long =
        all_long g z b Can
        (λ phase up m after e can.
        (λ i. length (octets_of who_there (sym peering_there i) m))
        ∙ facts.hears.sizes who_there who m can (subst (λ b. IsMessageOf b m) (sym peering_there) (message_of b phase m after up e))
        ∙ ap (λ name. message_size name m) (sym far_name))
        s.near.phase live s.far.flight passing can

    long_rest : AreLong g z rest
    long_rest = all_rest (λ m. length (g m) ≡ z m) ms rest (subst (AreLong g z) split long)

    part_length : length part ≡ taken_of z total s.far.flight
    part_length = part_long g z total s.far.flight long

    ms_pass : NoneGoesDown b s.near.phase ms
    ms_pass = first_pass b s.near.phase ms rest (subst (NoneGoesDown b s.near.phase) split passing)

    abbrev kept_first : Type 0
    kept_first = kept ≡ take (length kept) (first_of (map g s.far.flight))

    kept_is : kept_first
    kept_is =
        part_at seats p q at.far.found (part_here facts.wired seats w right stands p is) quiet
        ∙ ap (λ l. take (length kept) (first_of l)) link_is

    -- ---- the machine's session, before any reply is sent
    abbrev t0 : Session
    t0 = unanswered b ms (still rest (taken_of z total s.far.flight) s)

    arrives : octets_arrived message_size n s ≡ told (replies_to_all b s.near.phase ms) t0
    arrives =
        octets_taken message_size positive n s whole (at.near_is.notice ∙ quiet) live partly passing
        ∙ (λ i. let k = taken_is i + n in
        told (replies_to_all b s.near.phase (whole_of z k s.far.flight))
        (unanswered b (whole_of z k s.far.flight) (still (rest_of z k s.far.flight) (taken_of z k s.far.flight) s)))

    kept_up : OnlyTook (still rest (taken_of z total s.far.flight) s) t0
    kept_up = only_took b ms (still rest (taken_of z total s.far.flight) s)

    peering_same : is_peering t0 ≡ b
    peering_same i = are_peers (kept_up.role i) (kept_up.far i).role

    live_then : is_idle t0.near.phase ≡ false
    live_then = live_still b ms (still rest (taken_of z total s.far.flight) s) live ms_pass

    sound : IsSound (change_session (name_at seats p) (other_at seats p) (octets_arrived message_size n) w)
    sound =
        with_session_keeps (Fact message_size) (Fact-turned message_size) (octets_arrived message_size n)
        (octets_arrived_keeps message_size positive n) (name_at seats p) (other_at seats p) w.sessions (moment_sound w moment)

    -- ---- the seats once the octets left their link
    abbrev left_link : List (List ℕ)
    left_link = untaken total (link_at seats q)

    left_is : left_link ≡ map g rest
    left_is = ap (untaken total) link_is ∙ untaken_is g z total s.far.flight long

    abbrev begun : List Seat
    begun = with_link q left_link seats

    abbrev far_seat : Seat
    far_seat = record (seat seats q.node) { links = slice_set (seat seats q.node).links q.session left_link }

    near_seat_is : seat begun p.node ≡ seat seats p.node
    near_seat_is = seat_elsewhere q.node p.node far_seat seats (λ e. not_far (sym e))

    far_seat_is : seat begun q.node ≡ far_seat
    far_seat_is = seat_here q.node far_seat seats at.far.is_place.node

    but : AllBut seats begun q
    but = link_but seats q at.far.is_place.node left_link

    link_then : link (seat begun q.node) q.session ≡ map g rest
    link_then =
        ap (λ n. link n q.session) far_seat_is
        ∙ get_or-set_same (seat seats q.node).links q.session left_link []
        (subst (λ m. q.session < m) (sym (stands.long q.node at.far.is_place.node).links) at.far.is_place.session)
        ∙ left_is

    far_end : IsEnd (seat begun q.node) q.session (turned t0)
    far_end =
        let far : t0.far ≡ record s.far { flight = rest; taken = taken_of z total s.far.flight } = kept_up.far in
        record {
          phase = ap (λ (e : SessionEnd). e.phase) far ∙ at.far_is.phase ∙ ap (λ n. (post n.posts q.session).phase) (sym far_seat_is);
          sent = ap (λ (e : SessionEnd). e.sent) far ∙ at.far_is.sent ∙ ap (λ n. (post n.posts q.session).sent) (sym far_seat_is);
          held = ap (λ (e : SessionEnd). e.held) far ∙ at.far_is.held ∙ ap (λ n. (post n.posts q.session).held) (sym far_seat_is);
          notice = ap (λ (e : SessionEnd). e.notice) far ∙ at.far_is.notice ∙ ap (λ (n : Seat). slice_index_or n.notices q.session false) (sym far_seat_is);
          flight = link_then
              ∙ (λ i. map (octets_of (ap (λ (n : Seat). n.who) (sym far_seat_is) i)
              ((sym peering_same ∙ are_peers-turned t0.near.role t0.far.role) i)) (sym far i).flight);
          breaks = ap (λ (e : SessionEnd). e.breaks) far ∙ at.far_is.breaks ∙ ap (λ (n : Seat). slice_index_or n.breaks q.session []) (sym far_seat_is);
          taken = kept_up.taken ∙ at.far_is.taken
              ∙ ap (λ (n : Seat). cond (slice_index_or n.notices q.session false) 0 (length (slice_index_or n.kept q.session []))) (sym far_seat_is);
        }

    -- ---- the node takes them
    module _ (bytes : Bor (List ℕ)) (bytes_are : bytes.now ≡ take n (drop (length kept) (concat (link_at seats q)))) (n' : Seat)
        (takes : Takes (seat begun p.node) n' (input.Bytes p.session bytes)) where
      abbrev given : Beginning
      given = takes.given

      abbrev left : List ℕ
      left = takes.left

      abbrev before : Post
      before = post (seat seats p.node).posts p.session

      octets_are : kept ++ bytes.now ≡ concat (map g ms) ++ part
      octets_are =
          ap (λ o. kept ++ o) (bytes_are ∙ ap (λ l. take n (drop (length kept) (concat l))) link_is)
          ∙ kept_and_next g z s.far.flight long kept kept_is (subst (IsPartly z s.far.flight) taken_is partly) n

      -- a first part of a message, or nothing
      partial : IsPartial who who_there part
      partial =
          by_part
          (first_part g z Can rest (taken_of z total s.far.flight) (part_is g z total s.far.flight) long_rest
          (all_rest Can ms rest (subst (AllByRecursion Can) split can)))
        where
          by_part : (part ≡ []) ⊎ ((m : Message) × (k : ℕ) × Can m × (k < length (g m)) × (part ≡ take k (g m)))
              → IsPartial who who_there part
          by_part (inl none) = inl none
          by_part (inr f) =
              inr (record {
                message = f.0;
                count = f.1;
                can = f.2;
                fewer = subst (λ b. f.1 < length (octets_of who_there b f.0)) (sym peering_is) f.3;
                is = f.4 ∙ (λ i. take f.1 (octets_of who_there (sym peering_is i) f.0));
              })

      -- some message is in flight that the end's state takes
      phase_is : IsPhaseOf (are_peers (role_of who) (role_of who_there)) before.phase
      phase_is =
          subst (λ b. IsPhaseOf b before.phase) (sym peering_is)
          (subst (IsPhaseOf b) at.near_is.phase (some_phase b s.near.phase s.far.flight (λ e. waits (link_is ∙ ap (map g) e)) passing))

      begins : BeginsAt who p.session before kept (input.Bytes p.session bytes) given left
      begins =
          subst (λ (n : Seat). BeginsAt n.who p.session (post n.posts p.session) (kept_in n p.session)
          (input.Bytes p.session bytes) given left) near_seat_is takes.begins

      heard : (given ≡ taken_all who b before ms) × (left ≡ part)
      heard =
          subst (λ b. (given ≡ taken_all who b before ms) × (left ≡ part)) peering_is
          (facts.hears.octets w.setup right.written right.numbers who who_there (is_one_of seats w stands p.node is.node)
          (is_one_of seats w stands q.node at.far.is_place.node) p.session is.session (is.somebody ∙ ap Some (sym at.far.name)) before
          (ap is_idle (sym at.near_is.phase) ∙ live) phase_is ms
          (subst (λ b. NoneGoesDown b before.phase ms) (sym peering_is)
          (subst (λ phase. NoneGoesDown b phase ms) at.near_is.phase ms_pass))
          (all_first Can ms rest (subst (AllByRecursion Can) split can)) part partial kept bytes
          (octets_are ∙ (λ i. concat (map (octets_of who_there (sym peering_is i)) ms) ++ part)) given left begins)

      after_is : end_of given.after ≡ took_all b before ms
      after_is = ap (λ (g : Beginning). end_of g.after) heard.0

      same : TookSame t0 (took_all b before ms)
      same =
          took_same b ms (still rest (taken_of z total s.far.flight) s) before
          (record { phase = at.near_is.phase; sent = at.near_is.sent; held = at.near_is.held })

      live_after_it : is_idle (end_of given.after).phase ≡ false
      live_after_it = ap (λ (p : Post). is_idle p.phase) after_is ∙ ap is_idle (sym same.phase) ∙ live_then

      abbrev near_seat : Seat
      near_seat = taking (seat seats p.node) p.session given left

      post_then : post near_seat.posts p.session ≡ took_all b before ms
      post_then =
          get_or-set_same (seat seats p.node).posts p.session (end_of given.after) nothing
          (subst (λ m. p.session < m) (sym (stands.long p.node is.node).posts) is.session)
          ∙ after_is

      kept_then : kept_in near_seat p.session ≡ part
      kept_then =
          get_or-set_same (seat seats p.node).kept p.session (cond (is_idle (end_of given.after).phase) [] left) []
          (subst (λ m. p.session < m) (sym (stands.long p.node is.node).kept) is.session)
          ∙ ap (λ b. cond b [] left) live_after_it
          ∙ heard.1

      near_end : IsEnd near_seat p.session t0
      near_end = record {
        phase = same.phase ∙ ap (λ (p : Post). p.phase) (sym post_then);
        sent = same.sent ∙ ap (λ (p : Post). p.sent) (sym post_then);
        held = same.held ∙ ap (λ (p : Post). p.held) (sym post_then);
        notice = kept_up.notice ∙ at.near_is.notice;
        flight = at.near_is.flight ∙ (λ i. map (octets_of who (sym peering_same i)) (sym kept_up.flight i));
        breaks = kept_up.breaks ∙ at.near_is.breaks;
        taken = ap (λ (e : SessionEnd). e.taken) kept_up.far ∙ sym part_length
            ∙ (λ i. cond (sym quiet i) 0 (length (sym kept_then i)));
      }

      near_part : IsPart near_seat p.session (seat begun q.node) q.session
      near_part =
          λ _. subst (λ (l : List ℕ). l ≡ take (length l) (first_of (link (seat begun q.node) q.session))) (sym kept_then)
          (λ i. take (sym part_length i) (first_of (sym link_then i)))

      far_part : IsPart (seat begun q.node) q.session (seat begun p.node) p.session
      far_part =
          subst (λ n. IsPart n q.session (seat begun p.node) p.session) (sym far_seat_is)
          (subst (λ n. IsPart far_seat q.session n p.session) (sym near_seat_is)
          (part_at seats q p at.far.back (part_here facts.wired seats w right stands q at.far.is_place)))

      replies_are : given.replies ≡ map (octets_of who (is_peering t0)) (replies_to_all b s.near.phase ms)
      replies_are =
          ap (λ (g : Beginning). g.replies) heard.0
          ∙ (λ i. map (octets_of who (sym peering_same i)) (replies_to_all b (sym at.near_is.phase i) ms))

      ready : IsReady t0
      ready = record {
        near = λ e. absurd (true≢false (sym (ap not live_then) ∙ e));
        far = λ e. absurd (true≢false (sym joined.far_live ∙ (λ i. is_live (sym kept_up.far i)) ∙ e));
        quiet = λ e. absurd (true≢false (sym e ∙ kept_up.down ∙ whole));
      }

      pub octets_stand : Seats (cleared (with_seat p.node n' begun) p.node)
          (pass (name_at seats p) (change_session (name_at seats p) (other_at seats p) (octets_arrived message_size n) w))
      octets_stand =
          stands_after facts seats w moment stands p is begun but.alike
          (fit_but seats begun q at.far.is_place but (seats_fit seats w stands))
          (λ r _ _ not_q. but.ends r not_q) (octets_arrived message_size n) (octets_nodes message_size n) sound given left t0
          (replies_to_all b s.near.phase ms) arrives replies_are
          (subst (λ m. IsEnd (taking m p.session given left) p.session t0) (sym near_seat_is) near_end) far_end
          (subst (λ m. IsPart (taking m p.session given left) p.session (seat begun q.node) q.session) (sym near_seat_is) near_part)
          far_part ready (λ e. absurd (true≢false (sym e ∙ live_then))) n' takes.stepped takes.swept

    -- something waits there
    some_waits : (in_flight w (other_at seats p) (name_at seats p) == 0) ≡ false
    some_waits =
        ap (λ (o : Option Session). unwrap_or (option_map waiting o) 0 == 0) at.found
        ∙ ap (λ (b : Bool). cond b 1 (length s.far.flight) == 0) (at.near_is.notice ∙ quiet)
        ∙ ne_eqb (length s.far.flight) 0 (λ e. waits (link_is ∙ ap (map g) (nil_from_length s.far.flight e)))

    pub octets_delivered : deliver_octets message_size (other_at seats p) (name_at seats p) n w
        ≡ pass (name_at seats p) (change_session (name_at seats p) (other_at seats p) (octets_arrived message_size n) w)
    octets_delivered =
        ap (λ (b : Bool). cond b w
        (pass (name_at seats p) (change_session (name_at seats p) (other_at seats p) (octets_arrived message_size n) w))) some_waits

-- ---- by names
one_delivery : (w : MachineState) (from to : Name) (n : ℕ)
    → next message_size w (DeliverOctets from to n) ≡ deliver_octets message_size from to n w
unfolding next
one_delivery w from to n = refl

pub octets_are_delivered : Facts → OctetsAreDelivered
octets_are_delivered facts seats w moment stands from to p far are quiet waits n above bytes bytes_are after takes =
    (subst Leaves far_is by_place waits bytes_are after takes, later)
  where
    right : IsRight w
    right = moment_right facts.moments w moment

    place : IsPlaceOf seats to from p
    place = facts.wired.place_is w.setup seats to from p right.written right.numbers stands.seats_are.who are.0

    at : HasFar seats p
    at = (here facts.wired seats w (moment_right facts.moments w moment) stands.seats_are p place.is_place).far

    far_is : at.far ≡ far
    far_is = same_Some at.far far (sym at.found ∙ are.1)

    later : IsMoment (deliver_octets message_size from to n w)
    later = subst IsMoment (one_delivery w from to n) (facts.moments.after w (DeliverOctets from to n) moment tt)

    Leaves : SessionPlace → Type 0
    Leaves far = link_at seats far ≢ []
        → bytes.now ≡ take n (drop (length (kept_at seats p)) (concat (link_at seats far)))
        → (after : List Seat)
        → TakesAt (with_link far (untaken (length (kept_at seats p) + n) (link_at seats far)) seats) p
        (input.Bytes p.session bytes) after
        → StandsFor after (deliver_octets message_size from to n w)

    by_place : Leaves at.far
    by_place waits bytes_are after takes =
        let left = with_link at.far (untaken (length (kept_at seats p) + n) (link_at seats at.far)) seats in
        let ss = cleared (with_seat p.node takes.taken left) p.node in
        subst (λ ss. StandsFor ss (deliver_octets message_size from to n w)) (sym takes.is)
        (stands_at ss (deliver_octets message_size from to n w) later
        (subst (Seats ss)
        (sym (octets_delivered facts seats w moment stands.seats_are p place.is_place quiet waits n)
        ∙ (λ i. deliver_octets message_size (place.other i) (place.name i) n w))
        (octets_stand facts seats w moment stands.seats_are p place.is_place quiet waits n bytes bytes_are takes.taken takes.takes)))

-- ---- a notice
notice_arrives : (n : ℕ) (s : Session) → s.near.notice ≡ true → octets_arrived message_size n s ≡ arrived s
unfolding octets_arrived arrived
notice_arrives n s e =
    ap (λ b. cond b (record s { near = closed s.near }) (took_octets message_size n s.far.flight s)) e
    ∙ sym (ap (λ b. cond b (record s { near = closed s.near }) (took_first s.far.flight s)) e)

-- two changes that are one at the session of two nodes are one
same_change : (f g : Session → Session) (a b : Name) (ss : List Session) (s : Session) → session_in ss a b ≡ Some s
    → f s ≡ g s → with_session a b f ss ≡ with_session a b g ss
same_change f g a b [] s found equal = refl
same_change f g a b (t ∷ ts) s found equal =
    by_tests (joins a b t) (joins b a t) found (λ e. same_change f g a b ts s e equal)
  where
    by_tests : (c d : Bool) → cond c (Some t) (cond d (Some (turned t)) (session_in ts a b)) ≡ Some s
        → (session_in ts a b ≡ Some s → with_session a b f ts ≡ with_session a b g ts)
        → cond c (f t ∷ ts) (cond d (turned (f (turned t)) ∷ ts) (t ∷ with_session a b f ts))
        ≡ cond c (g t ∷ ts) (cond d (turned (g (turned t)) ∷ ts) (t ∷ with_session a b g ts))
    by_tests true d e later =
        let is : s ≡ t = sym (same_Some t s e) in
        ap (λ (s : Session). s ∷ ts) (ap f (sym is) ∙ equal ∙ ap g is)
    by_tests false true e later =
        let is : s ≡ turned t = sym (same_Some (turned t) s e) in
        ap (λ (s : Session). turned s ∷ ts) (ap f (sym is) ∙ equal ∙ ap g is)
    by_tests false false e later = ap (λ (ss : List Session). t ∷ ss) (later e)

pub notices_count_as_octets : Facts → NoticesCountAsOctets
notices_count_as_octets facts seats w moment stands from to p far are waits n =
    let right = moment_right facts.moments w moment in
    let place = facts.wired.place_is w.setup seats to from p right.written right.numbers stands.seats_are.who are.0 in
    let h = here facts.wired seats w right stands.seats_are p place.is_place in
    ap (λ (ss : List Session). cond (in_flight w from to == 0) w (pass to (record { setup = w.setup; sessions = ss })))
    (same_change (octets_arrived message_size n) arrived to from w.sessions h.session
    ((λ i. session_of w (sym place.name i) (sym place.other i)) ∙ h.found)
    (notice_arrives n h.session (h.near_is.notice ∙ waits)))
