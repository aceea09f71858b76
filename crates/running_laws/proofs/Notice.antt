-- A notice of loss is delivered: it leaves its end, which closes, and the node makes its pass.
use Rattle.std.specs.Prelude.{◌≡◌, ◌≢◌, ◌<◌, ℕ, List, [], map, length, Bool, true, false, cond, ◌==◌}
use Rattle.std.specs.List.{slice_set}
use Rattle.std.specs.Option.{option_map, unwrap_or}
use Rattle.std.specs.declared.option.Option.{Option}
use Rattle.std.proofs.lemmas.Bool.{true≢false}
use Rattle.std.proofs.lemmas.List.{get_or-set_same}
use Rattle.std.proofs.Common.{refl, sym, ◌∙◌, ap, subst, inl, inr}
use Rattle.ov_link.specs.declared.step.Input.TheVariants as input
use Rattle.node_model.specs.Step.{Beginning, end_of, nothing, post}
use Rattle.machine_laws.specs.MachineModel.Session.{Session, arrived, closed as closed_end, is_idle, is_peering, told, turned, waiting}
use Rattle.machine_laws.specs.MachineModel.Network.{MachineState}
use Rattle.machine_laws.specs.MachineModel.Steps.{change_session, deliver, in_flight, pass}
use Rattle.machine_laws.proofs.MachineModel.NetworkFact.{with_session_keeps}
use Rattle.machine_laws.proofs.MachineModel.NodesFact.{arrived_nodes}
use Rattle.machine_laws.proofs.MachineModel.SessionFact.{Down, Fact, Fact-turned, arrived_keeps}
use Rattle.running_nodes.specs.Seats.{Seat, kept_in, name_of, notice_at, seat}
use Rattle.running_nodes.specs.Steps.{Takes, cleared, with_notice, with_seat}
use Rattle.running_nodes.specs.Stands.{IsEnd, Seats, message_size, octets_of}
use Rattle.running_nodes.specs.Taking.{closed}
use Rattle.running_nodes.specs.declared.place.SessionPlace.{SessionPlace}
use Rattle.running_laws.specs.Moments.{IsMoment}
use Rattle.running_laws.specs.Wiring.{IsPlace, name_at, other_at}
use Rattle.running_nodes.proofs.Sizes.{positive}
use Rattle.running_laws.proofs.AtMoments.{IsSound, found_sound, moment_right, moment_sound}
use Rattle.running_laws.proofs.Building.{AllBut, IsPart, fit_but, part_none}
use Rattle.running_laws.proofs.Facts.{Facts, IsRight}
use Rattle.running_laws.proofs.Here.{Here, here}
use Rattle.running_laws.proofs.Lists.{seat_elsewhere, seat_here, seats_fit}
use Rattle.running_laws.proofs.Marks.{end_closed, kept_nothing, notice_but}
use Rattle.running_laws.proofs.Sent.{arrived_closes, told_none}
use Rattle.running_laws.proofs.Stepped.{IsReady, stands_after, taking}

module _ (facts : Facts) (seats : List Seat) (w : MachineState) (moment : IsMoment w) (stands : Seats seats w) (p : SessionPlace)
    (is : IsPlace seats p) (waits : notice_at seats p ≡ true) where
  abbrev right : IsRight w
  right = moment_right facts.moments w moment

  abbrev at : Here seats w p
  at = here facts.wired seats w right stands p is

  abbrev q : SessionPlace
  q = at.far.far

  abbrev s : Session
  s = at.session

  not_far : q.node ≢ p.node
  not_far e = at.apart (sym (ap (λ k. name_of (seat seats k).who) e) ∙ at.far.name)

  noticed : s.near.notice ≡ true
  noticed = at.near_is.notice ∙ waits

  down : Down s
  down = by_fact (found_sound w moment (name_at seats p) (other_at seats p) s at.found)
    where
      by_fact : Fact message_size s → Down s
      by_fact (inl j) = absurd (true≢false (sym noticed ∙ j.near_notice))
      by_fact (inr d) = d

  -- the session once its near end is closed
  abbrev t0 : Session
  t0 = record s { near = closed_end s.near }

  arrives : arrived s ≡ told [] t0
  arrives = arrived_closes s noticed ∙ sym (told_none t0)

  down_then : Down t0
  down_then = record {
    down = down.down;
    near = record { notice = refl; flight = refl; taken = refl; tidy = λ _. (refl, refl) };
    far = down.far;
  }

  ready : IsReady t0
  ready = record {
    near = λ _. down_then;
    far = λ e. (down.far.notice ∙ e, refl);
    quiet = λ _. (refl, down.far.flight);
  }

  module _ (n' : Seat) (takes : Takes (seat (with_notice p false seats) p.node) n' (input.Closed p.session)) where
    abbrev given : Beginning
    given = takes.given

    abbrev left : List ℕ
    left = takes.left

    abbrev seen : Seat
    seen = record (seat seats p.node) { notices = slice_set (seat seats p.node).notices p.session false }

    abbrev begun : List Seat
    begun = with_notice p false seats

    seat_seen : seat begun p.node ≡ seen
    seat_seen = seat_here p.node seen seats is.node

    far_same : seat begun q.node ≡ seat seats q.node
    far_same = seat_elsewhere p.node q.node seen seats not_far

    but : AllBut seats begun p
    but = notice_but seats p is.node false

    heard : (given ≡ closed) × (left ≡ [])
    heard =
        facts.hears.closes (seat begun p.node).who p.session (post (seat begun p.node).posts p.session)
        (kept_in (seat begun p.node) p.session) given left takes.begins

    abbrev near_seat : Seat
    near_seat = taking seen p.session given left

    post_then : post near_seat.posts p.session ≡ nothing
    post_then =
        get_or-set_same (seat seats p.node).posts p.session (end_of given.after) nothing
        (subst (λ n. p.session < n) (sym (stands.long p.node is.node).posts) is.session)
        ∙ ap (λ (g : Beginning). end_of g.after) heard.0

    kept_then : kept_in near_seat p.session ≡ []
    kept_then =
        get_or-set_same (seat seats p.node).kept p.session (cond (is_idle (end_of given.after).phase) [] left) []
        (subst (λ n. p.session < n) (sym (stands.long p.node is.node).kept) is.session)
        ∙ ap (λ (g : Beginning). cond (is_idle (end_of g.after).phase) [] left) heard.0

    near_end : IsEnd near_seat p.session t0
    near_end =
        end_closed near_seat p.session s.near t0 post_then kept_then
        (get_or-set_same (seat seats p.node).notices p.session false false
        (subst (λ n. p.session < n) (sym (stands.long p.node is.node).notices) is.session))
        (at.near_is.flight ∙ ap (map (octets_of (seat seats p.node).who (is_peering s))) down.near.flight)
        at.near_is.breaks refl down.far.taken

    far_end : IsEnd (seat begun q.node) q.session (turned t0)
    far_end =
        subst (λ n. IsEnd n q.session (turned t0)) (sym far_same) (record {
          phase = at.far_is.phase;
          sent = at.far_is.sent;
          held = at.far_is.held;
          notice = at.far_is.notice;
          flight = at.far_is.flight;
          breaks = at.far_is.breaks;
          taken = sym down.near.taken ∙ at.far_is.taken;
        })

    -- nothing is in flight
    far_keeps : IsPart (seat begun q.node) q.session (seat begun p.node) p.session
    far_keeps =
        subst (λ n. IsPart n q.session (seat begun p.node) p.session) (sym far_same)
        (λ quiet. part_none (seat seats q.node) q.session (seat begun p.node) p.session
        (kept_nothing (seat seats q.node) q.session (turned s) at.far_is (at.far_is.notice ∙ quiet) down.near.taken) quiet)

    sound : IsSound (change_session (name_at seats p) (other_at seats p) arrived w)
    sound =
        with_session_keeps (Fact message_size) (Fact-turned message_size) arrived (arrived_keeps message_size positive)
        (name_at seats p) (other_at seats p) w.sessions (moment_sound w moment)

    pub notice_stands : Seats (cleared (with_seat p.node n' begun) p.node)
        (pass (name_at seats p) (change_session (name_at seats p) (other_at seats p) arrived w))
    notice_stands =
        stands_after facts seats w moment stands p is begun but.alike
        (fit_but seats begun p is but (seats_fit seats w stands)) (λ r _ not_p _. but.ends r not_p)
        arrived arrived_nodes sound given left t0 [] arrives (ap (λ (g : Beginning). g.replies) heard.0)
        (subst (λ n. IsEnd (taking n p.session given left) p.session t0) (sym seat_seen) near_end) far_end
        (subst (λ n. IsPart (taking n p.session given left) p.session (seat begun q.node) q.session) (sym seat_seen)
        (part_none near_seat p.session (seat begun q.node) q.session kept_then))
        far_keeps ready (λ _. refl) n' takes.stepped takes.swept

  -- the notice waits there
  some_waits : (in_flight w (other_at seats p) (name_at seats p) == 0) ≡ false
  some_waits =
      ap (λ (o : Option Session). unwrap_or (option_map waiting o) 0 == 0) at.found
      ∙ ap (λ (b : Bool). cond b 1 (length s.far.flight) == 0) noticed

  pub notice_delivered : deliver (other_at seats p) (name_at seats p) w
      ≡ pass (name_at seats p) (change_session (name_at seats p) (other_at seats p) arrived w)
  notice_delivered =
      ap (λ (b : Bool). cond b w (pass (name_at seats p) (change_session (name_at seats p) (other_at seats p) arrived w))) some_waits
