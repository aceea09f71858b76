-- A session is connected: one end opens and then, where that is live still, the other; then the sessions of which their
-- nodes closed an end are cleared.
use Rattle.std.specs.Prelude.{◌≡◌, ◌≢◌, ◌⊎◌, ◌<◌, ◌≤◌, ℕ, ◌+◌, List, [], ◌∷◌, length, Bool, true, false, cond, not, ◌&&◌}
use Rattle.std.specs.List.{slice_index_or}
use Rattle.std.specs.Option.{option_map, unwrap_or}
use Rattle.std.specs.declared.option.Option.{Option}
use Rattle.std.specs.declared.option.Option.TheVariants.{Some, None}
use Rattle.std.proofs.lemmas.Bool.{cases_eq, true≢false}
use Rattle.std.proofs.lemmas.Option.{same_Some}
use Rattle.std.proofs.Common.{refl, sym, ◌∙◌, ap, subst, inl, inr, arith}
use Rattle.ov_link.specs.declared.step.Input.TheVariants as input
use Rattle.node_model.specs.Maps.{Map}
use Rattle.node_model.specs.Step.{Post, post}
use Rattle.machine_laws.specs.MachineModel.Setup.{Name}
use Rattle.machine_laws.specs.MachineModel.Session.{Session, is_idle, is_live, greeting, opened, passed, turned}
use Rattle.machine_laws.specs.MachineModel.Network.{MachineState, view, views_of, wanted}
use Rattle.machine_laws.specs.MachineModel.Steps.{around, change_session, connect, is_broken, joins, pass, session_of, with_session}
use Rattle.machine_laws.specs.MachineModel.Moments.{nodes}
use Rattle.machine_laws.proofs.MachineModel.Deeds.{others_stay, strangers_stay}
use Rattle.machine_laws.proofs.MachineModel.NetworkFact.{opened_nodes, passed_nodes}
use Rattle.machine_laws.proofs.MachineModel.SessionFact.{Down, IsTidy}
use Rattle.running_nodes.specs.Seats.{Seat, far_of, is_down_at, link, link_at, live_at, name_of, notice, notice_at, other, seat}
use Rattle.running_nodes.specs.Steps.{Takes, cleared, with_seat}
use Rattle.running_nodes.specs.Stands.{Seats}
use Rattle.running_nodes.specs.declared.place.SessionPlace.{SessionPlace}
use Rattle.running_laws.specs.Moments.{IsMoment}
use Rattle.running_laws.specs.Wiring.{HasFar, IsPlace, name_at, other_at}
use Rattle.running_laws.proofs.Asked.{down_here}
use Rattle.running_laws.proofs.AtMoments.{found_sound, moment_right}
use Rattle.running_laws.proofs.Building.{SameEnd, Stays, both_vacant, stays_back, stays_trans}
use Rattle.running_laws.proofs.Changing.{found_elsewhere, one_place}
use Rattle.running_laws.proofs.Clearing.{IsCleared, all_cleared, clear_from, clear_nodes, cleared_from_same, far_or_not, is_cleared, place, stays_live}
use Rattle.running_laws.proofs.Ends.{IsReady, fact_ready}
use Rattle.running_laws.proofs.Facts.{Facts, IsRight}
use Rattle.running_laws.proofs.Here.{Here, here}
use Rattle.running_laws.proofs.Lists.{AreAlike, same_far_of, same_name_at, same_other, same_other_at, same_place, seat_elsewhere, seat_here}
use Rattle.running_laws.proofs.Lists.{seats_fit, there_or_nobody, with_alike}
use Rattle.running_laws.proofs.Opens.{open_passed, open_whole, opened_right, passed_right, stepped_live, told_whole}
use Rattle.running_laws.proofs.Sent.{AllLeft, opened_tells, opening_session, passed_tells, telling_session, told_down, wanted_messages}
use Rattle.running_laws.proofs.Sides.{changed_here, joined_twice, node_elsewhere, node_here, node_there}
use Rattle.running_laws.proofs.Stepped.{count, far, off}
use Rattle.running_laws.proofs.Telling.{Going}
use Rattle.running_laws.proofs.Vacant.{stepped_fit}
use Rattle.running_laws.proofs.Wholes.{down_by_ends, not_down_by_ends}

-- a change at the other end is a change of the session the other way round
around_back : (a b : Name) → a ≢ b → (f : Session → Session) → (ss : List Session)
    → with_session a b (around f) ss ≡ with_session b a f ss
around_back a b apart f [] = refl
around_back a b apart f (s ∷ ss) = by_tests (around_back a b apart f ss) (joins a b s) (joins b a s) refl refl
  where
    by_tests : with_session a b (around f) ss ≡ with_session b a f ss
        → (c d : Bool) → joins a b s ≡ c → joins b a s ≡ d
        → cond c (around f s ∷ ss) (cond d (turned (around f (turned s)) ∷ ss) (s ∷ with_session a b (around f) ss))
        ≡ cond d (f s ∷ ss) (cond c (turned (f (turned s)) ∷ ss) (s ∷ with_session b a f ss))
    by_tests rest true true e g = absurd (joined_twice a b apart s e g)
    by_tests rest true false e g = refl
    by_tests rest false true e g = refl
    by_tests rest false false e g = ap (λ ts. s ∷ ts) rest

abbrev down_of : Option Session → Bool
down_of None = true
down_of (Some s) = s.is_down

at_least : (j : ℕ) → 0 ≤ j
at_least j = omega arith

at_most : (n j : ℕ) → j < n → j < 0 + n
at_most n j h = omega (arith, h)

module _ (facts : Facts) (seats : List Seat) (w : MachineState) (moment : IsMoment w) (stands : Seats seats w) (p : SessionPlace)
    (is : IsPlace seats p) (down : Down (here facts.wired seats w (moment_right facts.moments w moment) stands p is).session)
    (quiet : notice_at seats p ≡ false)
    (quiet_there : notice_at seats (here facts.wired seats w (moment_right facts.moments w moment) stands p is).far.far ≡ false)
    (n1 : Seat) (takes1 : Takes (seat seats p.node) n1 (input.Opened p.session)) where
  abbrev right : IsRight w
  right = moment_right facts.moments w moment

  abbrev at : Here seats w p
  at = here facts.wired seats w right stands p is

  abbrev q : SessionPlace
  q = at.far.far

  abbrev s : Session
  s = at.session

  abbrev me : Name
  me = name_at seats p

  not_far : q.node ≢ p.node
  not_far e = at.apart (sym (ap (λ k. name_of (seat seats k).who) e) ∙ at.far.name)

  -- ---- the near end opens
  abbrev w1 : MachineState
  w1 = change_session (name_at seats p) (other_at seats p) opened w

  abbrev w2 : MachineState
  w2 = pass (name_at seats p) w1

  right2 : IsRight w2
  right2 = passed_right (name_at seats p) w1 (opened_right (name_at seats p) (other_at seats p) w right)

  abbrev opened_seats : List Seat
  opened_seats = with_seat p.node n1 seats

  abbrev count1 : ℕ
  count1 = count facts.wired seats w right stands p is

  abbrev far1 : (j : ℕ) → IsPlace seats (place p.node j) → HasFar seats (place p.node j)
  far1 = far facts.wired seats w right stands p is

  abbrev off1 : (j : ℕ) (lt : IsPlace seats (place p.node j)) → (far1 j lt).far.node ≢ p.node
  off1 = off facts.wired seats w right stands p is

  bare1 : s.far.taken ≡ 0
  bare1 = down.far.taken

  fine1 : is_live s.far ≡ false → (s.far.notice ≡ false) × (s.near.taken ≡ 0)
  fine1 e = (down.far.notice ∙ e, down.near.taken)

  others1 : (b : Name) (t : Session) → b ≢ other_at seats p → session_of w (name_at seats p) b ≡ Some t → IsReady t
  others1 b t _ found_it = fact_ready t (found_sound w moment (name_at seats p) b t found_it)

  seat_p : seat opened_seats p.node ≡ n1
  seat_p = seat_here p.node n1 seats is.node

  posts_within : (j : ℕ) → j < count1 → j < length (seat seats p.node).posts
  posts_within j less = subst (λ m. j < m) (sym (stands.long p.node is.node).posts) less

  going_o : Going seats opened_seats
  going_o = record {
    alike = with_alike p.node n1 seats takes1.stepped.who;
    fit = stepped_fit seats p n1 takes1.given takes1.left is takes1.stepped takes1.swept (seats_fit seats w stands);
  }

  count_o : length (seat opened_seats p.node).posts ≡ count1
  count_o = ap (λ (n : Seat). length n.posts) seat_p ∙ takes1.stepped.posts_long ∙ (stands.long p.node is.node).posts

  live_o : (j : ℕ) → live_at opened_seats (place p.node j) ≡ not (is_idle (post n1.posts j).phase)
  live_o j = ap (λ (n : Seat). not (is_idle (post n.posts j).phase)) seat_p

  live_of : (j : ℕ) → is_idle (post n1.posts j).phase ≡ false → live_at opened_seats (place p.node j) ≡ true
  live_of j e = live_o j ∙ ap not e

  -- the machine's session then is down where its near end is closed
  abbrev tells : Session → Session
  tells t = passed (wanted w1.setup (views_of (name_at seats p) w1.sessions) (view t)) t

  tells_nodes : (t : Session) → nodes (tells t) ≡ nodes t
  tells_nodes t = passed_nodes (wanted w1.setup (views_of (name_at seats p) w1.sessions) (view t)) t

  abbrev t2 : Session
  t2 = tells (opened s)

  first : session_of w1 (name_at seats p) (other_at seats p) ≡ Some (opened s)
  first = changed_here (name_at seats p) (other_at seats p) at.apart opened opened_nodes w.sessions s at.found

  second : session_of w2 (name_at seats p) (other_at seats p) ≡ Some t2
  second = node_here (name_at seats p) (other_at seats p) at.apart tells tells_nodes w1.sessions (opened s) first

  opened_down : (opened s).is_down ≡ is_idle (opened s).near.phase
  opened_down =
      subst (λ (t : Session). t.is_down ≡ is_idle t.near.phase) (sym (opened_tells s)) (told_down (greeting s ∷ []) (opening_session s) refl)

  abbrev wants : Map
  wants = wanted w1.setup (views_of (name_at seats p) w1.sessions) (view (opened s))

  t2_down : t2.is_down ≡ is_idle t2.near.phase
  t2_down =
      subst (λ (t : Session). t.is_down ≡ is_idle t.near.phase) (sym (passed_tells wants (opened s)))
      (told_down (wanted_messages wants (opened s)) (telling_session wants (opened s)) opened_down)

  broken_is : is_broken w2 (name_at seats p) (other_at seats p) ≡ t2.is_down
  broken_is = ap (λ (o : Option Session). unwrap_or (option_map (λ (s : Session). s.is_down) o) true) second

  -- as its seat says
  down_is_idle : (after : List Seat) (gone : Going seats after) → Seats after w2
      → post (seat after p.node).posts p.session ≡ post n1.posts p.session
      → t2.is_down ≡ is_idle (post n1.posts p.session).phase
  down_is_idle after gone stands2 same =
      let is2 = same_place after seats (sym gone.alike) p is in
      let h = here facts.wired after w2 right2 stands2 p is2 in
      let same_session : h.session ≡ t2 =
      same_Some h.session t2 (sym h.found ∙ (λ i. session_of w2 (same_name_at seats after gone.alike p i) (same_other_at seats after gone.alike p i)) ∙ second)
      in
      t2_down ∙ ap (λ (t : Session). is_idle t.near.phase) (sym same_session) ∙ ap is_idle h.near_is.phase
      ∙ ap (λ (p : Post). is_idle p.phase) same

  connects_by : (b : Bool) → t2.is_down ≡ b
      → connect (name_at seats p) (other_at seats p) w
      ≡ cond b w2 (pass (other_at seats p) (change_session (other_at seats p) (name_at seats p) opened w2))
  connects_by b e =
      ap (λ c. cond c w2 (pass (other_at seats p) (change_session (name_at seats p) (other_at seats p) (around opened) w2))) (broken_is ∙ e)
      ∙ ap (λ ss. cond b w2 (pass (other_at seats p) (record { setup = w2.setup; sessions = ss })))
      (around_back (name_at seats p) (other_at seats p) at.apart opened w2.sessions)

  -- ---- the other sessions of the near node
  -- its other sessions lead to other nodes
  other_nodes : (j : ℕ) (less : IsPlace seats (place p.node j)) → j ≢ p.session → (far1 j less).far.node ≢ q.node
  other_nodes j less ne e =
      ne (ap (λ (r : SessionPlace). r.session)
      (one_place facts.wired seats w right stands (place p.node j) p less is refl
      (sym (far1 j less).name ∙ ap (λ k. name_of (seat seats k).who) e ∙ at.far.name)))

  -- the session there is as it was
  session_there : (j : ℕ) (less : IsPlace seats (place p.node j)) → j ≢ p.session → (t : Session)
      → session_of w1 (name_at seats (place p.node j)) (other_at seats (place p.node j)) ≡ Some t
      → (here facts.wired seats w right stands (place p.node j) less).session ≡ t
  session_there j less ne t found_it =
      let h = here facts.wired seats w right stands (place p.node j) less in
      same_Some h.session t
      (sym (found_elsewhere facts.wired seats w right stands p is at opened opened_nodes (place p.node j) less
      (λ e. ne (ap (λ (r : SessionPlace). r.session) e)) (λ e. not_far (sym (ap (λ (r : SessionPlace). r.node) e))) h.session h.found) ∙ found_it)

  -- and it is down as its ends say
  down_there : (u : List Seat) → AreAlike seats u → (j : ℕ) (less : IsPlace seats (place p.node j)) → j ≢ p.session
      → is_idle (post n1.posts j).phase ≡ false → seat u p.node ≡ n1
      → seat u (far1 j less).far.node ≡ seat seats (far1 j less).far.node
      → is_down_at u (place p.node j) ≡ (here facts.wired seats w right stands (place p.node j) less).session.is_down
  down_there u alike j less ne live here_is there_is =
      let r = place p.node j in
      let h = here facts.wired seats w right stands r less in
      let before = stepped_live (seat seats p.node) n1 p.session takes1.given takes1.stepped j (posts_within j less.session) ne live in
      down_by_ends seats u alike r (far1 j less).far (far1 j less).found
      ((λ i. not (is_idle (post (here_is i).posts j).phase) && not (notice (here_is i) j))
      ∙ (λ i. not (live i) && not (slice_index_or (takes1.stepped.notices i) j false))
      ∙ (λ i. not (sym before i) && not (notice (seat seats p.node) j)))
      (λ i. not (is_idle (post (there_is i).posts (far1 j less).far.session).phase) && not (notice (there_is i) (far1 j less).far.session))
      ∙ down_here facts seats w moment stands r less h

  -- ---- where the near end is closed again
  module _ (dead : live_at opened_seats p ≡ false) where
    closed_c : IsCleared seats p.node far1 off1 (λ j. is_down_at opened_seats (place p.node j)) count1 0 opened_seats (cleared opened_seats p.node)
    closed_c = all_cleared seats p.node far1 off1 opened_seats going_o count1 count_o

    pub closed_stands : Seats (cleared opened_seats p.node) w2
    closed_stands =
        open_passed facts seats w right stands p is n1 takes1 bare1 fine1 down.far.tidy others1 (λ j. is_down_at opened_seats (place p.node j))
        (cleared opened_seats p.node) closed_c
        (λ j less live t found_it.
        let ne : j ≢ p.session = λ e. true≢false (sym (live_of j live) ∙ ap (λ j. live_at opened_seats (place p.node j)) e ∙ dead) in
        down_there opened_seats going_o.alike j less ne live seat_p (seat_elsewhere p.node (far1 j less).far.node n1 seats (off1 j less))
        ∙ ap (λ (s : Session). s.is_down) (session_there j less ne t found_it))

    pub closed_connects : connect (name_at seats p) (other_at seats p) w ≡ w2
    closed_connects =
        connects_by true
        (down_is_idle (cleared opened_seats p.node) closed_c.going closed_stands
        ((closed_c.stays p).post ∙ ap (λ (n : Seat). post n.posts p.session) seat_p)
        ∙ by_end (is_idle (post n1.posts p.session).phase) (sym (live_o p.session) ∙ dead))
      where
        by_end : (b : Bool) → not b ≡ false → b ≡ true
        by_end true e = refl
        by_end false e = absurd (true≢false e)

  -- ---- where it is live still
  module _ (alive : live_at opened_seats p ≡ true) where
    live_p : is_idle (post n1.posts p.session).phase ≡ false
    live_p = by_end (is_idle (post n1.posts p.session).phase) (sym (live_o p.session) ∙ alive)
      where
        by_end : (b : Bool) → not b ≡ true → b ≡ false
        by_end true e = absurd (true≢false (sym e))
        by_end false e = refl

    abbrev down2 : ℕ → Bool
    down2 j = down_of (session_of w1 (name_at seats (place p.node j)) (other_at seats (place p.node j)))

    abbrev standing : List Seat
    standing = clear_from down2 count1 p.node 0 opened_seats

    c2 : IsCleared seats p.node far1 off1 down2 count1 0 opened_seats standing
    c2 = is_cleared seats p.node far1 off1 down2 count1 0 opened_seats going_o

    stands2 : Seats standing w2
    stands2 =
        open_passed facts seats w right stands p is n1 takes1 bare1 fine1 down.far.tidy others1 down2 standing c2
        (λ j less live t found_it. ap down_of found_it)

    whole2 : t2.is_down ≡ false
    whole2 = down_is_idle standing c2.going stands2 ((c2.stays p).post ∙ ap (λ (n : Seat). post n.posts p.session) seat_p) ∙ live_p

    opened_whole : (opened s).is_down ≡ false
    opened_whole = open_whole facts seats w right stands p is n1 takes1 bare1 fine1 down.far.tidy others1 live_p

    first_left : (b : List ℕ) × AllLeft b (greeting s ∷ []) (opening_session s) (opened s)
    first_left =
        subst (λ (t : Session). t.is_down ≡ false → (b : List ℕ) × AllLeft b (greeting s ∷ []) (opening_session s) t) (sym (opened_tells s))
        (told_whole (greeting s ∷ []) (opening_session s)) opened_whole

    second_left : (b : List ℕ) × AllLeft b (wanted_messages wants (opened s)) (telling_session wants (opened s)) t2
    second_left =
        subst (λ (t : Session). t.is_down ≡ false
        → (b : List ℕ) × AllLeft b (wanted_messages wants (opened s)) (telling_session wants (opened s)) t) (sym (passed_tells wants (opened s)))
        (told_whole (wanted_messages wants (opened s)) (telling_session wants (opened s))) whole2

    -- nothing that the near end sent was taken
    untaken2 : t2.near.taken ≡ 0
    untaken2 = second_left.1.taken ∙ first_left.1.taken ∙ down.near.taken

    live2 : is_live t2.near ≡ true
    live2 = ap not (sym t2_down ∙ whole2)

    -- ---- the far end
    is_q : IsPlace standing q
    is_q = same_place standing seats (sym c2.going.alike) q at.far.is_place

    not_dead : (j : ℕ) → live_at opened_seats (place p.node j) ≡ false → j ≢ p.session
    not_dead j e f = true≢false (sym alive ∙ sym (ap (λ j. live_at opened_seats (place p.node j)) f) ∙ e)

    seat_q : seat standing q.node ≡ seat opened_seats q.node
    seat_q =
        clear_nodes seats p.node far1 off1 down2 count1 0 opened_seats going_o q.node not_far
        (λ j less closed e. other_nodes j less (not_dead j closed) (sym e))

    name_q : name_at standing q ≡ other_at seats p
    name_q = same_name_at seats standing c2.going.alike q ∙ at.far.name

    other_q : other_at standing q ≡ name_at seats p
    other_q = same_other_at seats standing c2.going.alike q ∙ at.far.other

    abbrev here_q : Here standing w2 q
    here_q = here facts.wired standing w2 right2 stands2 q is_q

    same_q : here_q.session ≡ turned t2
    same_q =
        same_Some here_q.session (turned t2)
        (sym here_q.found ∙ (λ i. session_of w2 (name_q i) (other_q i))
        ∙ node_there (name_at seats p) (other_at seats p) at.apart tells tells_nodes w1.sessions (opened s) first)

    bare2 : here_q.session.far.taken ≡ 0
    bare2 = ap (λ (t : Session). t.far.taken) same_q ∙ untaken2

    live_far2 : is_live here_q.session.far ≡ true
    live_far2 = ap (λ (t : Session). is_live t.far) same_q ∙ live2

    fine2 : is_live here_q.session.far ≡ false → (here_q.session.far.notice ≡ false) × (here_q.session.near.taken ≡ 0)
    fine2 e = absurd (true≢false (sym live_far2 ∙ e))

    tidy2 : IsTidy here_q.session.far
    tidy2 e = absurd (true≢false (sym live_far2 ∙ e))

    others2 : (b : Name) (t : Session) → b ≢ other_at standing q → session_of w2 (name_at standing q) b ≡ Some t → IsReady t
    others2 b t ne found_it =
        let a = other_at seats p in
        let not_me : b ≢ name_at seats p = λ e. ne (e ∙ sym other_q) in
        fact_ready t (found_sound w moment a b t
        (sym (others_stay (name_at seats p) a a b ((λ e _. at.apart e), (λ e _. not_me (sym e))) opened opened_nodes w.sessions)
        ∙ sym (strangers_stay (name_at seats p) a b at.apart (λ e. not_me (sym e)) tells tells_nodes w1.sessions)
        ∙ ap (λ c. session_of w2 c b) (sym name_q) ∙ found_it))

    abbrev w3 : MachineState
    w3 = change_session (name_at standing q) (other_at standing q) opened w2

    pub open_connects : connect (name_at seats p) (other_at seats p) w ≡ pass (name_at standing q) w3
    open_connects =
        connects_by false whole2
        ∙ (λ i. pass (sym name_q i) (change_session (sym name_q i) (sym other_q i) opened w2))

    module _ (n2 : Seat) (takes : Takes (seat opened_seats q.node) n2 (input.Opened q.session)) where
      takes2 : Takes (seat standing q.node) n2 (input.Opened q.session)
      takes2 = subst (λ n. Takes n n2 (input.Opened q.session)) (sym seat_q) takes

      abbrev count2 : ℕ
      count2 = count facts.wired standing w2 right2 stands2 q is_q

      abbrev far2 : (j : ℕ) → IsPlace standing (place q.node j) → HasFar standing (place q.node j)
      far2 = far facts.wired standing w2 right2 stands2 q is_q

      abbrev off2 : (j : ℕ) (lt : IsPlace standing (place q.node j)) → (far2 j lt).far.node ≢ q.node
      off2 = off facts.wired standing w2 right2 stands2 q is_q

      -- what there is, and what the theorem is of
      abbrev both_opened : List Seat
      both_opened = with_seat q.node n2 opened_seats

      abbrev last_opened : List Seat
      last_opened = with_seat q.node n2 standing

      abbrev near_cleared : List Seat
      near_cleared = cleared both_opened p.node

      is_o : IsPlace opened_seats q
      is_o = same_place opened_seats seats (sym going_o.alike) q at.far.is_place

      lt_o : q.node < length opened_seats
      lt_o = is_o.node

      y_q : seat both_opened q.node ≡ n2
      y_q = seat_here q.node n2 opened_seats lt_o

      z_q : seat last_opened q.node ≡ n2
      z_q = seat_here q.node n2 standing is_q.node

      y_else : (m : ℕ) → m ≢ q.node → seat both_opened m ≡ seat opened_seats m
      y_else m ne = seat_elsewhere q.node m n2 opened_seats ne

      z_else : (m : ℕ) → m ≢ q.node → seat last_opened m ≡ seat standing m
      z_else m ne = seat_elsewhere q.node m n2 standing ne

      off_q : p.node ≢ q.node
      off_q e = not_far (sym e)

      y_p : seat both_opened p.node ≡ n1
      y_p = y_else p.node off_q ∙ seat_p

      going_y : Going seats both_opened
      going_y = record {
        alike = with_alike q.node n2 opened_seats takes.stepped.who ∙ going_o.alike;
        fit = stepped_fit opened_seats q n2 takes.given takes.left is_o takes.stepped takes.swept going_o.fit;
      }

      cx : IsCleared seats p.node far1 off1 (λ j. is_down_at both_opened (place p.node j)) count1 0 both_opened near_cleared
      cx =
          all_cleared seats p.node far1 off1 both_opened going_y count1
          (ap (λ (n : Seat). length n.posts) (y_else p.node off_q) ∙ count_o)

      live_y : (j : ℕ) → live_at both_opened (place p.node j) ≡ live_at opened_seats (place p.node j)
      live_y j = ap (λ (n : Seat). not (is_idle (post n.posts j).phase)) (y_else p.node off_q)

      -- ---- what both make of each end
      -- at the far node nothing is cleared yet
      same_at_q : (r : SessionPlace) → r.node ≡ q.node → SameEnd (seat last_opened r.node) (seat near_cleared r.node) r.session
      same_at_q r e =
          subst (λ n. SameEnd n (seat near_cleared r.node) r.session) (ap (seat both_opened) e ∙ y_q ∙ sym z_q ∙ ap (seat last_opened) (sym e))
          (cx.rest r (λ j _ _ f. off_q (sym (ap (λ (r : SessionPlace). r.node) f) ∙ e))
          (λ j less _ _ closed f. other_nodes j less (not_dead j (sym (live_y j) ∙ closed)) (sym (ap (λ (r : SessionPlace). r.node) f) ∙ e)))

      stays_zx : (r : SessionPlace) → Stays (seat last_opened r.node) (seat near_cleared r.node) r.session
      stays_zx r = by_node (cases_eq r.node q.node)
        where
          by_node : (r.node ≡ q.node) ⊎ (r.node ≢ q.node) → Stays (seat last_opened r.node) (seat near_cleared r.node) r.session
          by_node (inl e) =
              subst (λ n. Stays n (seat near_cleared r.node) r.session) (ap (seat both_opened) e ∙ y_q ∙ sym z_q ∙ ap (seat last_opened) (sym e)) (cx.stays r)
          by_node (inr ne) =
              subst (λ n. Stays n (seat near_cleared r.node) r.session) (sym (z_else r.node ne))
              (stays_trans (seat standing r.node) (seat opened_seats r.node) (seat near_cleared r.node) r.session
              (stays_back (seat opened_seats r.node) (seat standing r.node) r.session (c2.stays r))
              (subst (λ n. Stays n (seat near_cleared r.node) r.session) (y_else r.node ne) (cx.stays r)))

      posts_zx : (j : ℕ) → (seat near_cleared j).posts ≡ (seat last_opened j).posts
      posts_zx j = by_node (cases_eq j q.node)
        where
          by_node : (j ≡ q.node) ⊎ (j ≢ q.node) → (seat near_cleared j).posts ≡ (seat last_opened j).posts
          by_node (inl e) = cx.posts j ∙ ap (λ (n : Seat). n.posts) (ap (seat both_opened) e ∙ y_q ∙ sym z_q ∙ ap (seat last_opened) (sym e))
          by_node (inr ne) =
              cx.posts j ∙ ap (λ (n : Seat). n.posts) (y_else j ne) ∙ sym (c2.posts j) ∙ sym (ap (λ (n : Seat). n.posts) (z_else j ne))

      -- two ends that differ from a third one in the same way
      same_marks : (r : SessionPlace) → r.node ≢ q.node → notice_at near_cleared r ≡ notice_at standing r → link_at near_cleared r ≡ link_at standing r
          → SameEnd (seat last_opened r.node) (seat near_cleared r.node) r.session
      same_marks r ne waits flight =
          let s = stays_zx r in
          record {
            post = s.post;
            kept = s.kept;
            link = flight ∙ sym (ap (λ n. link n r.session) (z_else r.node ne));
            breaks = s.breaks;
            notice = waits ∙ sym (ap (λ n. notice n r.session) (z_else r.node ne));
          }

      quiet_n1 : notice n1 p.session ≡ false
      quiet_n1 = ap (λ bs. slice_index_or bs p.session false) takes1.stepped.notices ∙ quiet

      quiet_n2 : notice n2 q.session ≡ false
      quiet_n2 =
          ap (λ bs. slice_index_or bs q.session false)
          (takes.stepped.notices ∙ ap (λ (n : Seat). n.notices) (seat_elsewhere p.node q.node n1 seats not_far))
          ∙ quiet_there

      up_p : (is_down_at both_opened p ≡ false) ⊎ (is_idle (post n2.posts q.session).phase ≡ true)
      up_p = by_end (is_idle (post n2.posts q.session).phase) refl
        where
          by_end : (b : Bool) → is_idle (post n2.posts q.session).phase ≡ b
              → (is_down_at both_opened p ≡ false) ⊎ (is_idle (post n2.posts q.session).phase ≡ true)
          by_end true e = inr e
          by_end false e =
              inl (not_down_by_ends seats both_opened going_y.alike p q at.far.found
              ((λ i. not (is_idle (post (y_p i).posts p.session).phase) && not (notice (y_p i) p.session))
              ∙ (λ i. not (live_p i) && not (quiet_n1 i)))
              ((λ i. not (is_idle (post (y_q i).posts q.session).phase) && not (notice (y_q i) q.session))
              ∙ (λ i. not (e i) && not (quiet_n2 i))))

      -- an end of the near node
      near_marks : (j : ℕ) (less : IsPlace seats (place p.node j)) → (j ≡ p.session → is_down_at both_opened p ≡ false)
          → SameEnd (seat last_opened p.node) (seat near_cleared p.node) j
      near_marks j less up = by_live (live_at opened_seats (place p.node j)) refl
        where
          same_before : seat both_opened p.node ≡ seat opened_seats p.node
          same_before = y_else p.node off_q

          by_live : (b : Bool) → live_at opened_seats (place p.node j) ≡ b → SameEnd (seat last_opened p.node) (seat near_cleared p.node) j
          by_live false e =
              let a = (cx.ends j less (at_least j) (at_most count1 j less.session)).closed (live_y j ∙ e) in
              let b = (c2.ends j less (at_least j) (at_most count1 j less.session)).closed e in
              same_marks (place p.node j) off_q (a.0 ∙ sym b.0) (a.1 ∙ sym b.1)
          by_live true e =
              let a = (cx.ends j less (at_least j) (at_most count1 j less.session)).live (live_y j ∙ e) in
              let b = (c2.ends j less (at_least j) (at_most count1 j less.session)).live e in
              same_marks (place p.node j) off_q (a.0 ∙ ap (λ n. notice n j) same_before ∙ sym b.0)
              (a.1 ∙ (λ i. cond (same_down (cases_eq j p.session) e i) [] (link (same_before i) j)) ∙ sym b.1)
            where
              live_n1 : live_at opened_seats (place p.node j) ≡ true → is_idle (post n1.posts j).phase ≡ false
              live_n1 e = by_end (is_idle (post n1.posts j).phase) (sym (live_o j) ∙ e)
                where
                  by_end : (b : Bool) → not b ≡ true → b ≡ false
                  by_end true e = absurd (true≢false (sym e))
                  by_end false e = refl

              same_down : (j ≡ p.session) ⊎ (j ≢ p.session) → live_at opened_seats (place p.node j) ≡ true → is_down_at both_opened (place p.node j) ≡ down2 j
              same_down (inl f) e =
                  ap (λ j. is_down_at both_opened (place p.node j)) f ∙ up f ∙ sym opened_whole ∙ sym (ap down_of first)
                  ∙ ap (λ j. down2 j) (sym f)
              same_down (inr ne) e =
                  let h = here facts.wired seats w right stands (place p.node j) less in
                  down_there both_opened going_y.alike j less ne (live_n1 e) y_p
                  (y_else (far1 j less).far.node (other_nodes j less ne) ∙ seat_elsewhere p.node (far1 j less).far.node n1 seats (off1 j less))
                  ∙ sym (ap down_of
                  (found_elsewhere facts.wired seats w right stands p is at opened opened_nodes (place p.node j) less
                  (λ e. ne (ap (λ (r : SessionPlace). r.session) e)) (λ e. not_far (sym (ap (λ (r : SessionPlace). r.node) e))) h.session h.found))

      -- an end that is nobody's
      nobodys : (j : ℕ) → other (seat seats p.node) j ≡ None → SameEnd (seat last_opened p.node) (seat near_cleared p.node) j
      nobodys j none =
          let r = place p.node j in
          subst (λ n. SameEnd n (seat near_cleared p.node) j) (sym (z_else p.node off_q))
          (both_vacant (seat standing p.node) (seat near_cleared p.node) j
          (c2.going.fit.vacant r (same_other seats standing c2.going.alike r ∙ none))
          (cx.going.fit.vacant r (same_other seats near_cleared cx.going.alike r ∙ none)))

      -- an end of another node
      strange_marks : (r : SessionPlace) → r.node ≢ p.node → r.node ≢ q.node → SameEnd (seat last_opened r.node) (seat near_cleared r.node) r.session
      strange_marks r not_p not_q = by_far (far_or_not seats p.node far1 off1 r count1)
        where
          same_before : seat both_opened r.node ≡ seat opened_seats r.node
          same_before = y_else r.node not_q

          untouched : ((l : ℕ) (less : IsPlace seats (place p.node l)) → live_at opened_seats (place p.node l) ≡ false → r ≢ (far1 l less).far)
              → SameEnd (seat last_opened r.node) (seat near_cleared r.node) r.session
          untouched none =
              let a = cx.rest r (λ l _ _ e. not_p (ap (λ (r : SessionPlace). r.node) e)) (λ l less _ _ closed. none l less (sym (live_y l) ∙ closed)) in
              let b = c2.rest r (λ l _ _ e. not_p (ap (λ (r : SessionPlace). r.node) e)) (λ l less _ _ closed. none l less closed) in
              same_marks r not_q (a.notice ∙ ap (λ n. notice n r.session) same_before ∙ sym b.notice)
              (a.link ∙ ap (λ n. link n r.session) same_before ∙ sym b.link)

          told_there : (l : ℕ) (less : IsPlace seats (place p.node l)) → r ≡ (far1 l less).far → live_at opened_seats (place p.node l) ≡ false
              → SameEnd (seat last_opened r.node) (seat near_cleared r.node) r.session
          told_there l less e closed =
              let a = (cx.ends l less (at_least l) (at_most count1 l less.session)).told (live_y l ∙ closed) in
              let b = (c2.ends l less (at_least l) (at_most count1 l less.session)).told closed in
              same_marks r not_q
              (ap (notice_at near_cleared) e ∙ a.0 ∙ ap (live_at both_opened) (sym e) ∙ ap (λ n. not (is_idle (post n.posts r.session).phase)) same_before
              ∙ ap (live_at opened_seats) e ∙ sym b.0 ∙ ap (notice_at standing) (sym e))
              (ap (link_at near_cleared) e ∙ a.1 ∙ sym b.1 ∙ ap (link_at standing) (sym e))

          by_far : ((l : ℕ) × (less : IsPlace seats (place p.node l)) × (r ≡ (far1 l less).far))
              ⊎ ((l : ℕ) (less : IsPlace seats (place p.node l)) → l < count1 → r ≢ (far1 l less).far)
              → SameEnd (seat last_opened r.node) (seat near_cleared r.node) r.session
          by_far (inr none) = untouched (λ l less _. none l less less.session)
          by_far (inl f) = by_live (live_at opened_seats (place p.node f.0)) refl
            where
              by_live : (b : Bool) → live_at opened_seats (place p.node f.0) ≡ b → SameEnd (seat last_opened r.node) (seat near_cleared r.node) r.session
              by_live false closed = told_there f.0 f.1 f.2 closed
              by_live true live =
                  untouched (λ l less closed e. one_far l less closed (sym f.2 ∙ e))
                where
                  one_far : (l : ℕ) (less : IsPlace seats (place p.node l)) → live_at opened_seats (place p.node l) ≡ false → (far1 f.0 f.1).far ≡ (far1 l less).far → ⊥
                  one_far l less closed e =
                      true≢false (sym live
                      ∙ ap (live_at opened_seats) (same_Some (place p.node f.0) (place p.node l) (sym (far1 f.0 f.1).back ∙ ap (far_of seats) e ∙ (far1 l less).back))
                      ∙ closed)

      -- ---- once the sessions of closed ends are cleared
      abbrev last : List Seat
      last = cleared near_cleared q.node

      going_x : Going standing near_cleared
      going_x = record { alike = cx.going.alike ∙ sym c2.going.alike; fit = cx.going.fit }

      count_x : length (seat near_cleared q.node).posts ≡ count2
      count_x =
          ap length (posts_zx q.node) ∙ ap (λ (n : Seat). length n.posts) z_q ∙ takes2.stepped.posts_long
          ∙ (stands2.long q.node is_q.node).posts

      live_z : (j : ℕ) → live_at last_opened (place q.node j) ≡ not (is_idle (post n2.posts j).phase)
      live_z j = ap (λ (n : Seat). not (is_idle (post n.posts j).phase)) z_q

      far_of_q : (far2 q.session is_q).far ≡ p
      far_of_q =
          same_Some (far2 q.session is_q).far p
          (sym (far2 q.session is_q).found ∙ same_far_of seats standing c2.going.alike q ∙ at.far.back)

      cl : IsCleared standing q.node far2 off2 (λ j. is_down_at near_cleared (place q.node j)) count2 0 last_opened last
      cl =
          cleared_from_same standing q.node far2 off2 (λ j. is_down_at near_cleared (place q.node j)) count2 0 last_opened near_cleared last posts_zx stays_zx
          (λ j _ _ _. same_at_q (place q.node j) refl) elsewhere
          (all_cleared standing q.node far2 off2 near_cleared going_x count2 count_x)
        where
          elsewhere : (r : SessionPlace) → ((j : ℕ) → 0 ≤ j → j < 0 + count2 → r ≢ place q.node j)
              → ((j : ℕ) (lt : IsPlace standing (place q.node j)) → 0 ≤ j → j < 0 + count2 → live_at last_opened (place q.node j) ≡ false → r ≢ (far2 j lt).far)
              → SameEnd (seat last_opened r.node) (seat near_cleared r.node) r.session
          elsewhere r not_own not_far2 = by_node (cases_eq r.node q.node) (cases_eq r.node p.node) (there_or_nobody seats (place p.node r.session))
            where
              up : r.node ≡ p.node → r.session ≡ p.session → is_down_at both_opened p ≡ false
              up e f = by_up up_p
                where
                  by_up : (is_down_at both_opened p ≡ false) ⊎ (is_idle (post n2.posts q.session).phase ≡ true) → is_down_at both_opened p ≡ false
                  by_up (inl g) = g
                  by_up (inr g) =
                      absurd (not_far2 q.session is_q (at_least q.session) (at_most count2 q.session is_q.session)
                      (live_z q.session ∙ ap not g) ((λ i. record { node = e i; session = f i }) ∙ sym far_of_q))

              by_node : (r.node ≡ q.node) ⊎ (r.node ≢ q.node) → (r.node ≡ p.node) ⊎ (r.node ≢ p.node)
                  → (IsPlace seats (place p.node r.session) ⊎ (other (seat seats p.node) r.session ≡ None)) → SameEnd (seat last_opened r.node) (seat near_cleared r.node) r.session
              by_node (inl e) b c = same_at_q r e
              by_node (inr ne) (inr ne') c = strange_marks r ne' ne
              by_node (inr ne) (inl e) (inl less) =
                  subst (λ k. SameEnd (seat last_opened k) (seat near_cleared k) r.session) (sym e) (near_marks r.session less (up e))
              by_node (inr ne) (inl e) (inr none) =
                  subst (λ k. SameEnd (seat last_opened k) (seat near_cleared k) r.session) (sym e) (nobodys r.session none)

      -- a session of the far node is down as its ends say
      alike_x : AreAlike seats near_cleared
      alike_x = cx.going.alike

      same_names : (r : SessionPlace) → session_of w3 (name_at seats r) (other_at seats r) ≡ session_of w3 (name_at standing r) (other_at standing r)
      same_names r i = session_of w3 (sym (same_name_at seats standing c2.going.alike r) i) (sym (same_other_at seats standing c2.going.alike r) i)

      agree : (j : ℕ) → IsPlace standing (place q.node j) → is_idle (post n2.posts j).phase ≡ false → (t : Session)
          → session_of w3 (name_at standing (place q.node j)) (other_at standing (place q.node j)) ≡ Some t → is_down_at near_cleared (place q.node j) ≡ t.is_down
      agree j less live t found_it = by_place (cases_eq j q.session)
        where
          here_q_end : (j ≡ q.session) → is_down_at near_cleared (place q.node j) ≡ t.is_down
          here_q_end e =
              let live_q : is_idle (post n2.posts q.session).phase ≡ false = ap (λ j. is_idle (post n2.posts j).phase) (sym e) ∙ live in
              let opens_q = changed_here (name_at standing q) (other_at standing q) here_q.apart opened opened_nodes w2.sessions here_q.session here_q.found in
              let same : opened here_q.session ≡ t =
              same_Some (opened here_q.session) t
              (sym opens_q ∙ ap (λ j. session_of w3 (name_at standing (place q.node j)) (other_at standing (place q.node j))) (sym e) ∙ found_it)
              in
              let near_x = (cx.ends p.session is (at_least p.session) (at_most count1 p.session is.session)).live (live_y p.session ∙ alive) in
              let at_q = same_at_q q refl in
              ap (λ j. is_down_at near_cleared (place q.node j)) e
              ∙ not_down_by_ends seats near_cleared alike_x q p at.far.back
              (λ i. not ((ap (λ (p : Post). is_idle p.phase) at_q.post ∙ ap (λ (n : Seat). is_idle (post n.posts q.session).phase) z_q ∙ live_q) i)
              && not ((at_q.notice ∙ ap (λ n. notice n q.session) z_q ∙ quiet_n2) i))
              (λ i. (stays_live both_opened near_cleared p (cx.stays p) ∙ live_y p.session ∙ alive) i
              && not ((near_x.0 ∙ ap (λ n. notice n p.session) y_p ∙ quiet_n1) i))
              ∙ sym (open_whole facts standing w2 right2 stands2 q is_q n2 takes2 bare2 fine2 tidy2 others2 live_q)
              ∙ ap (λ (s : Session). s.is_down) same

          other_q_end : (j ≢ q.session) → is_down_at near_cleared (place q.node j) ≡ t.is_down
          other_q_end ne =
              let is_r : IsPlace seats (place q.node j) = same_place seats standing c2.going.alike (place q.node j) less in
              let h = here facts.wired seats w right stands (place q.node j) is_r in
              let not_q : (place q.node j) ≢ q = λ e. ne (ap (λ (r : SessionPlace). r.session) e) in
              let not_p : (place q.node j) ≢ p = λ e. not_far (ap (λ (r : SessionPlace). r.node) e) in
              let a = found_elsewhere facts.wired seats w right stands p is at opened opened_nodes (place q.node j) is_r not_p not_q h.session h.found in
              let strange : name_at seats p ≢ other_at seats (place q.node j) =
              λ f. not_q (one_place facts.wired seats w right stands (place q.node j) q is_r at.far.is_place refl (sym f ∙ sym at.far.other))
              in
              let b : session_of w2 (name_at seats (place q.node j)) (other_at seats (place q.node j)) ≡ Some h.session =
              node_elsewhere (name_at seats p) (name_at seats (place q.node j)) (other_at seats (place q.node j)) (λ f. at.apart (f ∙ at.far.name)) strange tells tells_nodes
              w1.sessions h.session a
              in
              let c : session_of w3 (name_at standing (place q.node j)) (other_at standing (place q.node j)) ≡ Some h.session =
              found_elsewhere facts.wired standing w2 right2 stands2 q is_q here_q opened opened_nodes (place q.node j) less not_q
              (λ f. not_p (f ∙ same_Some here_q.far.far p (sym here_q.far.found ∙ same_far_of seats standing c2.going.alike q ∙ at.far.back))) h.session
              ((λ i. session_of w2 (same_name_at seats standing c2.going.alike (place q.node j) i) (same_other_at seats standing c2.going.alike (place q.node j) i)) ∙ b)
              in
              let far_off_q : h.far.far.node ≢ q.node = λ e. h.apart (ap (λ k. name_of (seat seats k).who) (sym e) ∙ h.far.name) in
              let far_off_p : h.far.far.node ≢ p.node = λ e. strange (ap (λ k. name_of (seat seats k).who) (sym e) ∙ h.far.name) in
              let far_x : SameEnd (seat both_opened h.far.far.node) (seat near_cleared h.far.far.node) h.far.far.session =
              cx.rest h.far.far (λ l _ _ e. far_off_p (ap (λ (r : SessionPlace). r.node) e))
              (λ l more _ _ _ e. off_q (ap (λ (r : SessionPlace). r.node)
              (same_Some (place p.node l) (place q.node j) (sym (far1 l more).back ∙ ap (far_of seats) (sym e) ∙ h.far.back))))
              in
              let far_y : seat both_opened h.far.far.node ≡ seat seats h.far.far.node =
              y_else h.far.far.node far_off_q ∙ seat_elsewhere p.node h.far.far.node n1 seats far_off_p
              in
              let at_r = same_at_q (place q.node j) refl in
              let o_q : seat opened_seats q.node ≡ seat seats q.node = seat_elsewhere p.node q.node n1 seats not_far in
              let was_live : is_idle (post (seat seats q.node).posts j).phase ≡ false =
              ap (λ (n : Seat). is_idle (post n.posts j).phase) (sym o_q)
              ∙ stepped_live (seat opened_seats q.node) n2 q.session takes.given takes.stepped j
              (subst (λ m. j < m) (sym (ap (λ (n : Seat). length n.posts) o_q ∙ (stands.long q.node at.far.is_place.node).posts)) is_r.session) ne live
              in
              down_by_ends seats near_cleared alike_x (place q.node j) h.far.far h.far.found
              ((λ i. not ((ap (λ (p : Post). is_idle p.phase) at_r.post ∙ ap (λ (n : Seat). is_idle (post n.posts j).phase) z_q ∙ live ∙ sym was_live) i)
              && not ((at_r.notice ∙ ap (λ n. notice n j) z_q ∙ ap (λ bs. slice_index_or bs j false) (takes.stepped.notices ∙ ap (λ (n : Seat). n.notices) o_q)) i)))
              (λ i. not ((ap (λ (p : Post). is_idle p.phase) far_x.post ∙ ap (λ (n : Seat). is_idle (post n.posts h.far.far.session).phase) far_y) i)
              && not ((far_x.notice ∙ ap (λ n. notice n h.far.far.session) far_y) i))
              ∙ down_here facts seats w moment stands (place q.node j) is_r h
              ∙ ap (λ (s : Session). s.is_down) (same_Some h.session t (sym c ∙ found_it))

          by_place : (j ≡ q.session) ⊎ (j ≢ q.session) → is_down_at near_cleared (place q.node j) ≡ t.is_down
          by_place (inl e) = here_q_end e
          by_place (inr ne) = other_q_end ne

      pub open_stands : Seats last (pass (name_at standing q) w3)
      open_stands =
          open_passed facts standing w2 right2 stands2 q is_q n2 takes2 bare2 fine2 tidy2 others2 (λ j. is_down_at near_cleared (place q.node j)) last cl agree
