-- A node opens an end and makes its pass over links that may fail: the seats stand for the state after it.
use Rattle.std.specs.Prelude.{◌≡◌, ◌≢◌, ◌<◌, ℕ, List, [], ◌∷◌, map, length, Bool, true, false, cond, not}
use Rattle.std.specs.declared.option.Option.TheVariants.{Some}
use Rattle.std.specs.Cmp.Lexicographic.{bytes_decides}
use Rattle.std.proofs.lemmas.Bool.{true≢false}
use Rattle.std.proofs.lemmas.List.{get_or-set_other, get_or-set_same}
use Rattle.std.proofs.lemmas.Option.{same_Some}
use Rattle.std.proofs.Common.{refl, sym, ◌∙◌, ap, subst}
use Rattle.ov_types.specs.First.{same_name}
use Rattle.ov_link.specs.declared.step.Input.TheVariants as input
use Rattle.node_model.specs.Step.{Beginning, Opened, Post, begun, end_of, nothing, post, told_all}
use Rattle.machine_laws.specs.MachineModel.Setup.{Name}
use Rattle.machine_laws.specs.MachineModel.Session.{Message, Session, are_peers, greeting, is_idle, is_live, is_peering, opened, passed, shut, told, turned, with_breaks}
use Rattle.machine_laws.specs.MachineModel.Network.{MachineState, view, views_of, wanted}
use Rattle.machine_laws.specs.MachineModel.Steps.{change_session, pass, session_of}
use Rattle.machine_laws.proofs.MachineModel.Deeds.{others_stay}
use Rattle.machine_laws.proofs.MachineModel.NetworkFact.{nodes_keep, opened_nodes, with_session_keeps}
use Rattle.machine_laws.proofs.MachineModel.NodesFact.{pass_nodes}
use Rattle.machine_laws.proofs.MachineModel.SessionFact.{IsTidy, sends, shut_down}
use Rattle.running_nodes.specs.Seats.{Seat, kept_in, kind_of, notice, role_of, seat}
use Rattle.running_nodes.specs.Steps.{IsStepped, Sending, Takes, end_after, reply_fails, sending, sent_on, with_seat}
use Rattle.running_nodes.specs.Stands.{IsEnd, Seats, octets_of}
use Rattle.running_nodes.specs.Taking.{opened as opened_by}
use Rattle.running_nodes.specs.declared.place.SessionPlace.{SessionPlace}
use Rattle.running_laws.specs.Wiring.{IsPlace, name_at, other_at}
use Rattle.running_laws.proofs.Building.{IsPart, SameEnd, end_refl, moved, part_at, part_none}
use Rattle.running_laws.proofs.Changing.{changed_right}
use Rattle.running_laws.proofs.Clearing.{IsCleared, place}
use Rattle.running_laws.proofs.Ends.{IsReady}
use Rattle.running_laws.proofs.Facts.{Facts, IsRight}
use Rattle.running_laws.proofs.Here.{Here, here, part_here}
use Rattle.running_laws.proofs.Lists.{seats_fit}
use Rattle.running_laws.proofs.Members.{is_one_of}
use Rattle.running_laws.proofs.Passing.{AreReady, told_phase}
use Rattle.running_laws.proofs.Quiet.{IsQuiet, opened_quiet, passed_quiet, quiet_turned}
use Rattle.running_laws.proofs.Sent.{AllLeft, all_left, opened_tells, opening_session, told_as_sent, told_down}
use Rattle.running_laws.proofs.Sides.{changed_here}
use Rattle.running_laws.proofs.Stepped.{count, far, live_here, near1, off, passed_stands, post_here, taking}

-- ---- a live end that tells is ready to tell more
pub told_ready : (ms : List Message) (s : Session) → is_idle s.near.phase ≡ false → s.is_down ≡ false → IsTidy s.far → IsReady s
    → IsReady (told ms s)
told_ready ms s live whole tidy ready =
    let r : Sending = sending s.near.breaks (map (λ m. []) ms) in
    subst IsReady (sym (told_as_sent (λ m. []) ms s s.near.breaks refl)) (by_failed r.breaks r.failed)
  where
    left : (b : List ℕ) → IsReady (with_breaks b (sends ms s))
    left b =
        let l = all_left b ms s in
        record {
          near = λ e. absurd (true≢false (sym (ap (λ p. not (is_idle p)) l.phase ∙ ap not live) ∙ e));
          far = λ e.
              let f = ready.far (ap is_live (sym l.far) ∙ e) in
              ((λ i. (l.far i).notice) ∙ f.0, l.taken ∙ f.1);
          quiet = λ e. absurd (true≢false (sym e ∙ l.down ∙ whole));
        }

    by_failed : (b : List ℕ) (f : Bool) → IsReady (cond f (shut (with_breaks b s)) (with_breaks b (sends ms s)))
    by_failed b true = record {
      near = λ _. shut_down (with_breaks b s) tidy;
      far = λ e. (e, refl);
      quiet = λ _. (refl, refl);
    }
    by_failed b false = left b

-- where all leaves on a session that is not down
pub told_whole : (ms : List Message) (s : Session) → (told ms s).is_down ≡ false → (b : List ℕ) × AllLeft b ms s (told ms s)
told_whole ms s whole =
    let r : Sending = sending s.near.breaks (map (λ m. []) ms) in
    let is = told_as_sent (λ m. []) ms s s.near.breaks refl in
    (r.breaks, subst (AllLeft r.breaks ms s) (sym is) (by_failed r.breaks r.failed (ap (λ (t : Session). t.is_down) (sym is) ∙ whole)))
  where
    by_failed : (b : List ℕ) (f : Bool) → (cond f (shut (with_breaks b s)) (with_breaks b (sends ms s))).is_down ≡ false
        → AllLeft b ms s (cond f (shut (with_breaks b s)) (with_breaks b (sends ms s)))
    by_failed b true e = absurd (true≢false e)
    by_failed b false e = all_left b ms s

-- ---- a step of a node
-- another end that is live then was so before
pub stepped_live : (n n' : Seat) (i : ℕ) (given : Beginning) → IsStepped n n' i given → (j : ℕ) → j < length n.posts → j ≢ i
    → is_idle (post n'.posts j).phase ≡ false → is_idle (post n.posts j).phase ≡ false
stepped_live n n' i given stepped j less ne live = by_idle (is_idle (post n.posts j).phase) refl
  where
    by_idle : (b : Bool) → is_idle (post n.posts j).phase ≡ b → b ≡ false
    by_idle false e = refl
    by_idle true e =
        absurd (true≢false (sym (after (sent_on n i given j).failed) ∙ ap (λ (p : Post). is_idle p.phase) (sym (stepped.posts j less)) ∙ live))
      where
        after : (f : Bool)
            → is_idle (end_after f (told_all (kind_of n.who) (begun n.posts i given (reply_fails n i given)) j)).phase ≡ true
        after true = refl
        after false =
            ap is_idle (told_phase (kind_of n.who) (begun n.posts i given (reply_fails n i given)) j)
            ∙ ap (λ (p : Post). is_idle p.phase)
            (get_or-set_other n.posts i j (cond (reply_fails n i given) nothing (end_of given.after)) nothing ne)
            ∙ e

-- ---- states
pub opened_right : (a b : Name) (w : MachineState) → IsRight w → IsRight (change_session a b opened w)
opened_right a b w right =
    changed_right a b opened opened_nodes w right
    (with_session_keeps IsQuiet quiet_turned opened (λ s _. opened_quiet s) a b w.sessions right.quiet)

pub passed_right : (name : Name) (w : MachineState) → IsRight w → IsRight (pass name w)
passed_right name w right = record {
  written = right.written;
  numbers = right.numbers;
  sessions = pass_nodes name w ∙ right.sessions;
  quiet = nodes_keep IsQuiet quiet_turned (λ s. passed (wanted w.setup (views_of name w.sessions) (view s)) s)
      (λ s q. passed_quiet (wanted w.setup (views_of name w.sessions) (view s)) s q) name w.sessions right.quiet;
}

-- ---- an end opens at a place, of which nothing was taken
module _ (facts : Facts) (seats : List Seat) (w : MachineState) (right : IsRight w) (stands : Seats seats w) (p : SessionPlace)
    (is : IsPlace seats p) (n' : Seat) (takes : Takes (seat seats p.node) n' (input.Opened p.session))
    (bare : (here facts.wired seats w right stands p is).session.far.taken ≡ 0)
    (fine : is_live (here facts.wired seats w right stands p is).session.far ≡ false
    → ((here facts.wired seats w right stands p is).session.far.notice ≡ false)
    × ((here facts.wired seats w right stands p is).session.near.taken ≡ 0))
    (tidy : IsTidy (here facts.wired seats w right stands p is).session.far)
    (others : (b : Name) (t : Session) → b ≢ other_at seats p → session_of w (name_at seats p) b ≡ Some t → IsReady t) where
  abbrev at : Here seats w p
  at = here facts.wired seats w right stands p is

  abbrev q : SessionPlace
  q = at.far.far

  abbrev s : Session
  s = at.session

  abbrev n : Seat
  n = seat seats p.node

  abbrev given : Beginning
  given = takes.given

  abbrev left : List ℕ
  left = takes.left

  abbrev t0 : Session
  t0 = opening_session s

  peering_is : are_peers (role_of n.who) (role_of (seat seats q.node).who) ≡ is_peering s
  peering_is =
      let h = facts.wired.session w seats p right.written right.numbers right.sessions stands.who is in
      let same = same_Some s h.session (sym at.found ∙ h.found) in
      λ i. are_peers (sym (ap (λ (s : Session). s.near.role) same ∙ h.near_role) i) (sym (ap (λ (s : Session). s.far.role) same ∙ h.far_role q at.far.found) i)

  heard : (given ≡ opened_by n.who (is_peering s) (post n.posts p.session)) × (left ≡ [])
  heard =
      subst (λ b. (given ≡ opened_by n.who b (post n.posts p.session)) × (left ≡ [])) peering_is
      (facts.hears.opens w.setup right.written right.numbers n.who (seat seats q.node).who
      (is_one_of seats w stands p.node is.node) (is_one_of seats w stands q.node at.far.is_place.node)
      p.session is.session (is.somebody ∙ ap Some (sym at.far.name)) (post n.posts p.session) (kept_in n p.session) given left takes.begins)

  post_then : post (taking n p.session given left).posts p.session ≡ record (post n.posts p.session) { phase = Opened }
  post_then =
      get_or-set_same n.posts p.session (end_of given.after) nothing
      (subst (λ m. p.session < m) (sym (stands.long p.node is.node).posts) is.session)
      ∙ ap (λ (g : Beginning). end_of g.after) heard.0

  kept_then : kept_in (taking n p.session given left) p.session ≡ []
  kept_then =
      get_or-set_same n.kept p.session (cond (is_idle (end_of given.after).phase) [] left) []
      (subst (λ m. p.session < m) (sym (stands.long p.node is.node).kept) is.session)
      ∙ ap (cond (is_idle (end_of given.after).phase) []) heard.1
      ∙ none_either_way (is_idle (end_of given.after).phase)
    where
      none_either_way : (b : Bool) → ◌≡◌ {A = List ℕ} (cond b [] []) []
      none_either_way true = refl
      none_either_way false = refl

  near_end : IsEnd (taking n p.session given left) p.session t0
  near_end = record {
    phase = ap (λ (p : Post). p.phase) (sym post_then);
    sent = at.near_is.sent ∙ ap (λ (p : Post). p.sent) (sym post_then);
    held = at.near_is.held ∙ ap (λ (p : Post). p.held) (sym post_then);
    notice = at.near_is.notice;
    flight = at.near_is.flight;
    breaks = at.near_is.breaks;
    taken = bare ∙ sym (nothing_taken (notice n p.session));
  }
    where
      nothing_taken : (b : Bool) → cond b 0 (length (kept_in (taking n p.session given left) p.session)) ≡ 0
      nothing_taken true = refl
      nothing_taken false = ap length kept_then

  far_end : IsEnd (seat seats q.node) q.session (turned t0)
  far_end =
      moved (seat seats q.node) (seat seats q.node) q.session (turned s) (turned t0) refl (end_refl (seat seats q.node) q.session)
      refl refl refl at.far_is

  ready0 : IsReady t0
  ready0 = record {
    near = λ e. absurd (true≢false e);
    far = fine;
    quiet = λ e. absurd (true≢false (sym e));
  }

  replies : given.replies ≡ map (octets_of n.who (is_peering t0)) (greeting s ∷ [])
  replies = ap (λ (g : Beginning). g.replies) heard.0

  near_keeps : IsPart (taking n p.session given left) p.session (seat seats q.node) q.session
  near_keeps = part_none (taking n p.session given left) p.session (seat seats q.node) q.session kept_then

  far_keeps : IsPart (seat seats q.node) q.session n p.session
  far_keeps = part_at seats q p at.far.back (part_here facts.wired seats w right stands q at.far.is_place)

  abbrev pub opened_network : MachineState
  opened_network = change_session (name_at seats p) (other_at seats p) opened w

  right1 : IsRight opened_network
  right1 = opened_right (name_at seats p) (other_at seats p) w right

  ready1 : AreReady opened_network (name_at seats p)
  ready1 b t found_it = by_name (same_name b (other_at seats p)) refl
    where
      by_name : (c : Bool) → same_name b (other_at seats p) ≡ c → IsReady t
      by_name true e =
          let same : b ≡ other_at seats p = (bytes_decides b (other_at seats p)).0 e in
          let found_here = changed_here (name_at seats p) (other_at seats p) at.apart opened opened_nodes w.sessions s at.found in
          subst IsReady
          (sym (opened_tells s) ∙ same_Some (opened s) t
          (sym found_here ∙ ap (session_of opened_network (name_at seats p)) (sym same) ∙ found_it))
          (told_ready (greeting s ∷ []) t0 refl refl tidy ready0)
      by_name false e =
          let ne : b ≢ other_at seats p = λ f. true≢false (sym ((bytes_decides b (other_at seats p)).1 f) ∙ e) in
          others b t ne
          (sym (others_stay (name_at seats p) (other_at seats p) (name_at seats p) b
          ((λ _ f. ne (sym f)), (λ _ f. at.apart (sym f))) opened opened_nodes w.sessions) ∙ found_it)

  same_all : (r : SessionPlace) → IsPlace seats r → r ≢ p → r ≢ q → SameEnd (seat seats r.node) (seat seats r.node) r.session
  same_all r _ _ _ = end_refl (seat seats r.node) r.session

  still : is_idle t0.near.phase ≡ true → ◌≡◌ {A = List Message} (greeting s ∷ []) []
  still e = absurd (true≢false (sym e))

  pub open_passed : (down : ℕ → Bool) (after : List Seat)
      → IsCleared seats p.node (far facts.wired seats w right stands p is) (off facts.wired seats w right stands p is) down
      (count facts.wired seats w right stands p is) 0 (with_seat p.node n' seats) after
      → ((j : ℕ) → IsPlace seats (place p.node j) → is_idle (post n'.posts j).phase ≡ false → (t : Session)
      → session_of opened_network (name_at seats (place p.node j)) (other_at seats (place p.node j)) ≡ Some t → down j ≡ t.is_down)
      → Seats after (pass (name_at seats p) opened_network)
  open_passed down after c agree =
      passed_stands facts.wired seats w right stands p is seats refl (seats_fit seats w stands) same_all given left opened opened_nodes t0
      (greeting s ∷ []) (opened_tells s) replies near_end far_end near_keeps far_keeps ready0 still right1 ready1 n' takes.stepped
      takes.swept down after c agree

  -- where its own end is live then, its session is not down
  pub open_whole : is_idle (post n'.posts p.session).phase ≡ false → (opened s).is_down ≡ false
  open_whole live =
      ap (λ (t : Session). t.is_down) (opened_tells s)
      ∙ told_down (greeting s ∷ []) t0 refl
      ∙ ap (λ (t : Session). is_idle t.near.phase) (sym (opened_tells s))
      ∙ ap is_idle
      (near1 facts.wired seats w right stands p is seats refl (seats_fit seats w stands) same_all given left opened opened_nodes t0
      (greeting s ∷ []) (opened_tells s) replies near_end far_end near_keeps far_keeps ready0 still right1 ready1 n' takes.stepped
      takes.swept).phase
      ∙ ap (λ (p : Post). is_idle p.phase)
      (post_here facts.wired seats w right stands p is seats refl (seats_fit seats w stands) same_all given left opened opened_nodes t0
      (greeting s ∷ []) (opened_tells s) replies near_end far_end near_keeps far_keeps ready0 still)
      ∙ live_here facts.wired seats w right stands p is seats refl (seats_fit seats w stands) same_all given left opened opened_nodes t0
      (greeting s ∷ []) (opened_tells s) replies near_end far_end near_keeps far_keeps ready0 still right1 ready1 n' takes.stepped
      takes.swept p.session is.session live refl
