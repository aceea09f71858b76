-- A node takes an input and makes its pass over links of which some may fail: once the sessions of which it closed its end
-- are cleared, its seats stand for the state after it.
use Rattle.std.specs.Prelude.{◌≡◌, ◌≢◌, ◌⊎◌, ◌<◌, ◌≤◌, ℕ, ◌+◌, List, [], ◌++◌, map, length, Bool, true, false, cond, not, ◌&&◌}
use Rattle.std.specs.List.{slice_index_or, slice_set}
use Rattle.std.specs.declared.option.Option.TheVariants.{Some}
use Rattle.std.proofs.lemmas.Bool.{cases_eq, eq-eqb, ne_eqb, true≢false}
use Rattle.std.proofs.lemmas.List.{append_assoc, get_or-set_other, get_or-set_same, length-set}
use Rattle.std.proofs.lemmas.Option.{same_Some}
use Rattle.std.proofs.Common.{refl, sym, ◌∙◌, ap, subst, inl, inr, arith}
use Rattle.node_core.specs.Keeping.{AreSwept}
use Rattle.node_model.specs.Step.{Beginning, NodeKind, Post, changes, end_of, nothing, post, told_all}
use Rattle.node_model.specs.Maps.{difference}
use Rattle.machine_laws.specs.MachineModel.Setup.{Name}
use Rattle.machine_laws.specs.MachineModel.Session.{Message, Session, is_idle, is_peering, shut, told, turned, with_breaks}
use Rattle.machine_laws.specs.MachineModel.Network.{MachineState}
use Rattle.machine_laws.specs.MachineModel.Steps.{change_session, pass, session_of}
use Rattle.machine_laws.specs.MachineModel.Moments.{Each}
use Rattle.machine_laws.proofs.MachineModel.NetworkFact.{KeepsNodes, found}
use Rattle.machine_laws.proofs.MachineModel.SessionFact.{Fact, Fact-turned, sends as sends_in}
use Rattle.running_nodes.specs.Seats.{Seat, breaks_in, far_of, is_down_at, kept_in, kind_of, link, live_at, name_of, notice, others_of}
use Rattle.running_nodes.specs.Seats.{seat, seat_named}
use Rattle.running_nodes.specs.Steps.{IsStepped, Sending, cleared, end_after, sending, sent_on, with_seat}
use Rattle.running_nodes.specs.Stands.{IsDownWhere, IsEnd, IsLong, Seats, message_size, octets_of}
use Rattle.running_nodes.specs.declared.place.SessionPlace.{SessionPlace}
use Rattle.running_laws.specs.Wiring.{HasFar, IsPlace, name_at, other_at}
use Rattle.running_laws.specs.Moments.{IsMoment}
use Rattle.running_laws.proofs.AtMoments.{IsSound, all_down_where, all_quiet, moment_right}
use Rattle.running_laws.proofs.Building.{AllBut, IsPart, SameEnd, Stays, began, end_back, end_trans, fit_but, part_of, put_but, stays_back}
use Rattle.running_laws.proofs.Building.{stays_trans, stored_began}
use Rattle.running_laws.proofs.Changing.{changed_right, changes_at}
use Rattle.running_laws.proofs.Clearing.{IsCleared, all_cleared, clear_from, far_once, is_cleared, place, stays_live}
pub use Rattle.running_laws.proofs.Ends.{IsReady}
use Rattle.running_laws.proofs.Ends.{HearsEnd, TellsEnd, fact_ready, far_part, far_told, near_part, near_told}
use Rattle.running_laws.proofs.Facts.{Facts, IsRight, Wired}
use Rattle.running_laws.proofs.Here.{Here, here, place_named}
use Rattle.running_laws.proofs.Lists.{AreAlike, AreFit, same_far_of, same_long, same_name_at, same_named, same_place, same_who, seat_elsewhere, seat_here, same_other_at, with_alike}
use Rattle.running_laws.proofs.Passing.{AreReady, IsPassed, passes, telling, told_phase}
use Rattle.running_laws.proofs.Sent.{all_left, onward, sending_all, sends_go_on, sends_stop, silent, told_as_sent}
use Rattle.running_laws.proofs.Sides.{changed_here}
use Rattle.running_laws.proofs.Down.{down_is, down_turned}
use Rattle.running_laws.proofs.Telling.{Going}
use Rattle.running_laws.proofs.Vacant.{stepped_fit}
use Rattle.running_laws.proofs.Wholes.{down_by_ends}

-- the node once it took an input, before any reply leaves
abbrev pub taking : Seat → ℕ → Beginning → List ℕ → Seat
taking n i given left = record n {
  posts = slice_set n.posts i (end_of given.after);
  kept = slice_set n.kept i (cond (is_idle (end_of given.after).phase) [] left);
}

-- ---- sends one after the other, as two parts
record SendsAs (q : Post) (before before' : List (List ℕ)) (a b : Sending) : Type 0 where
  post : end_after a.failed q ≡ end_after b.failed q
  breaks : a.breaks ≡ b.breaks
  links : is_idle (end_after a.failed q).phase ≡ false → before ++ a.accepted ≡ before' ++ b.accepted

sends_same : (q : Post) (before before' : List (List ℕ)) (a b : Sending) → before ≡ before' → a ≡ b → SendsAs q before before' a b
sends_same q before before' a b e f = record {
  post = ap (λ (r : Sending). end_after r.failed q) f;
  breaks = ap (λ (r : Sending). r.breaks) f;
  links = λ _ i. e i ++ (f i).accepted;
}

-- replies of which one fails, where nothing is told then
sends_stopped : (q : Post) (before before' : List (List ℕ)) (breaks : List ℕ) (replies news : List (List ℕ)) → q ≡ nothing → news ≡ []
    → (sending breaks replies).failed ≡ true
    → SendsAs q before before' (sending breaks (replies ++ news)) (sending (sending breaks replies).breaks news)
sends_stopped q before before' breaks replies news idle none e =
    let a = sends_stop breaks replies news e in
    let b : sending (sending breaks replies).breaks news ≡ record { accepted = []; failed = false; breaks = (sending breaks replies).breaks } =
    ap (sending (sending breaks replies).breaks) none
    in
    let closed : end_after (sending breaks (replies ++ news)).failed q ≡ nothing =
    ap (λ (r : Sending). end_after r.failed q) a ∙ ap (λ (f : Bool). end_after f q) e
    in
    record {
      post = closed ∙ sym (ap (λ (r : Sending). end_after r.failed q) b ∙ idle);
      breaks = ap (λ (r : Sending). r.breaks) a ∙ sym (ap (λ (r : Sending). r.breaks) b);
      links = λ live. absurd (true≢false (sym (ap (λ (p : Post). is_idle p.phase) closed) ∙ live));
    }

-- replies that all leave
sends_onward : (q : Post) (before : List (List ℕ)) (breaks : List ℕ) (replies news : List (List ℕ))
    → (sending breaks replies).failed ≡ false
    → SendsAs q before (before ++ (sending breaks replies).accepted) (sending breaks (replies ++ news))
    (sending (sending breaks replies).breaks news)
sends_onward q before breaks replies news e =
    let b = sending (sending breaks replies).breaks news in
    let a : sending breaks (replies ++ news) ≡ onward replies b = sends_go_on breaks replies news e in
    record {
      post = ap (λ (r : Sending). end_after r.failed q) a;
      breaks = ap (λ (r : Sending). r.breaks) a;
      links = λ _. ap (λ (r : Sending). before ++ r.accepted) a
          ∙ sym (append_assoc before replies b.accepted)
          ∙ ap (λ xs. (before ++ xs) ++ b.accepted) (sym (sending_all breaks replies e));
    }

idle_after : (f : Bool) (k : NodeKind) (posts : List Post) (i : ℕ) → is_idle (post posts i).phase ≡ true
    → is_idle (end_after f (told_all k posts i)).phase ≡ true
idle_after true k posts i e = refl
idle_after false k posts i e = ap is_idle (told_phase k posts i) ∙ e

swept_twice : (f : Bool) (p : Post) (left : List ℕ)
    → cond (is_idle (end_after f p).phase) [] left
    ≡ cond (is_idle (end_after f p).phase) [] (cond (is_idle p.phase) [] left)
swept_twice true p left = refl
swept_twice false p left = by_idle (is_idle p.phase)
  where
    by_idle : (b : Bool) → cond b [] left ≡ cond b [] (cond b [] left)
    by_idle true = refl
    by_idle false = refl

only_one : (i j : ℕ) → i ≤ j → j < i + 1 → j ≡ i
only_one i j low high = omega (arith, low, high)

one_low : (i : ℕ) → i ≤ i
one_low i = omega arith

one_high : (i : ℕ) → i < i + 1
one_high i = omega arith

all_low : (j : ℕ) → 0 ≤ j
all_low j = omega arith

all_high : (j count : ℕ) → j < count → j < 0 + count
all_high j count lt = omega (arith, lt)

module _ (wired : Wired) (seats : List Seat) (w : MachineState) (right : IsRight w) (stands : Seats seats w) (p : SessionPlace)
    (is : IsPlace seats p) where
  abbrev at : Here seats w p
  at = here wired seats w right stands p is

  abbrev k : ℕ
  k = p.node

  abbrev i : ℕ
  i = p.session

  abbrev q : SessionPlace
  q = at.far.far

  abbrev s : Session
  s = at.session

  abbrev me : Name
  me = name_at seats p

  -- ---- the sessions of the node
  abbrev pub count : ℕ
  count = length (others_of (seat seats p.node).who)

  abbrev pub far : (j : ℕ) → IsPlace seats (place p.node j) → HasFar seats (place p.node j)
  far j own = (here wired seats w right stands (place p.node j) own).far

  pub off : (j : ℕ) (own : IsPlace seats (place p.node j)) → (far j own).far.node ≢ p.node
  off j own e =
      (here wired seats w right stands (place p.node j) own).apart
      (ap (λ k. name_of (seat seats k).who) (sym e) ∙ (far j own).name)

  -- ---- the seats as the node takes the input: those of the state but at the two ends of its session
  module _ (begun : List Seat) (alike : AreAlike seats begun) (fit : AreFit begun)
      (same : (r : SessionPlace) → IsPlace seats r → r ≢ p → r ≢ q → SameEnd (seat seats r.node) (seat begun r.node) r.session)
      (given : Beginning) (left : List ℕ) where
    abbrev n : Seat
    n = seat begun p.node

    abbrev replied : Sending
    replied = sending (breaks_in n p.session) given.replies

    abbrev post1 : Post
    post1 = end_after replied.failed (end_of given.after)

    abbrev n1 : Seat
    n1 = began n p.session post1 (cond (is_idle post1.phase) [] left) (link n p.session ++ replied.accepted) replied.breaks

    abbrev begun1 : List Seat
    begun1 = with_seat p.node n1 begun

    is_b : IsPlace begun p
    is_b = same_place begun seats (sym alike) p is

    lt : p.node < length begun
    lt = is_b.node

    but1 : AllBut begun begun1 p
    but1 =
        put_but begun p n1 lt
        (stored_began n p.session post1 (cond (is_idle post1.phase) [] left) (link n p.session ++ replied.accepted) replied.breaks)

    here1 : seat begun1 p.node ≡ n1
    here1 = seat_here p.node n1 begun lt

    who_n : n.who ≡ (seat seats p.node).who
    who_n = same_who seats begun alike p.node

    within : {A : Type 0} (xs : List A) → length xs ≡ length (others_of n.who) → (j : ℕ) → j < count → j < length xs
    within xs e j less = subst (λ m. j < m) (sym (e ∙ ap (λ x. length (others_of x)) who_n)) less

    long_n : IsLong n
    long_n = fit.long p.node lt

    -- once its replies have left
    module _ (f : Session → Session) (keeps : KeepsNodes f) (t0 : Session) (ms : List Message) (tells : f s ≡ told ms t0)
        (replies : given.replies ≡ map (octets_of n.who (is_peering t0)) ms)
        (near : IsEnd (taking n p.session given left) p.session t0) (far_is : IsEnd (seat begun q.node) q.session (turned t0))
        (near_keeps : IsPart (taking n p.session given left) p.session (seat begun q.node) q.session)
        (far_keeps : IsPart (seat begun q.node) q.session (taking n p.session given left) p.session)
        (ready : IsReady t0) (still : is_idle t0.near.phase ≡ true → ms ≡ []) where
      abbrev replied_seats : List Seat
      replied_seats = clear_from (λ _. t0.is_down) 1 p.node p.session begun1

      c1 : IsCleared seats p.node far off (λ _. t0.is_down) 1 p.session begun1 replied_seats
      c1 =
          is_cleared seats p.node far off (λ _. t0.is_down) 1 p.session begun1
          (record { alike = but1.alike ∙ alike; fit = fit_but begun begun1 p is_b but1 fit })

      abbrev m : Seat
      m = seat replied_seats p.node

      same_sends : sending (breaks_in n p.session) (map (octets_of n.who (is_peering t0)) ms) ≡ replied
      same_sends = ap (sending (breaks_in n p.session)) (sym replies)

      post_before : post (taking n p.session given left).posts p.session ≡ end_of given.after
      post_before = get_or-set_same n.posts p.session (end_of given.after) nothing (within n.posts long_n.posts p.session is.session)

      pub post_here : post m.posts p.session ≡ post1
      post_here =
          (c1.stays p).post ∙ ap (λ (n : Seat). post n.posts p.session) here1
          ∙ get_or-set_same n.posts p.session post1 nothing (within n.posts long_n.posts p.session is.session)

      live_before : live_at begun1 p ≡ not (is_idle post1.phase)
      live_before = sym (stays_live begun1 replied_seats p (c1.stays p)) ∙ ap (λ (p : Post). not (is_idle p.phase)) post_here

      link_stored : link n1 p.session ≡ link n p.session ++ replied.accepted
      link_stored =
          get_or-set_same n.links p.session (link n p.session ++ replied.accepted) [] (within n.links long_n.links p.session is.session)

      own_tells : TellsEnd (taking n p.session given left) m p.session t0.is_down replied
      own_tells = record {
        ended = post_here ∙ ap (end_after replied.failed) (sym post_before);
        breaks = (c1.stays p).breaks ∙ ap (λ n. breaks_in n p.session) here1
            ∙ get_or-set_same n.breaks p.session replied.breaks [] (within n.breaks long_n.breaks p.session is.session);
        kept = (c1.stays p).kept ∙ ap (λ n. kept_in n p.session) here1
            ∙ get_or-set_same n.kept p.session (cond (is_idle post1.phase) [] left) [] (within n.kept long_n.kept p.session is.session)
            ∙ swept_twice replied.failed (end_of given.after) left
            ∙ (λ x. cond (is_idle (sym post_here x).phase) []
            (sym (get_or-set_same n.kept p.session (cond (is_idle (end_of given.after).phase) [] left) []
            (within n.kept long_n.kept p.session is.session)) x));
        closed = λ e.
            (c1.ends p.session is (one_low p.session) (one_high p.session)).closed
            (live_before ∙ ap (λ (p : Post). not (is_idle p.phase)) (sym post_here) ∙ ap not e);
        live = λ e.
            let l = (c1.ends p.session is (one_low p.session) (one_high p.session)).live
            (live_before ∙ ap (λ (p : Post). not (is_idle p.phase)) (sym post_here) ∙ ap not e) in (
              l.0 ∙ ap (λ n. notice n p.session) here1,
              l.1 ∙ ap (cond t0.is_down []) (ap (λ n. link n p.session) here1 ∙ link_stored),
            );
      }

      elsewhere1 : (r : SessionPlace) → r.node ≢ p.node → seat begun1 r.node ≡ seat begun r.node
      elsewhere1 r ne = seat_elsewhere p.node r.node n1 begun ne

      far_hears : HearsEnd (seat begun q.node) (seat replied_seats q.node) q.session (is_idle (post m.posts p.session).phase)
      far_hears = record {
        stays = subst (λ b. Stays b (seat replied_seats q.node) q.session) (elsewhere1 q (off p.session is)) (c1.stays q);
        told = λ e.
            let t = (c1.ends p.session is (one_low p.session) (one_high p.session)).told
            (live_before ∙ ap (λ (p : Post). not (is_idle p.phase)) (sym post_here) ∙ ap not e) in
            (t.0 ∙ ap (λ n. not (is_idle (post n.posts q.session).phase)) (elsewhere1 q (off p.session is)), t.1);
        same = λ e.
            let g : SameEnd (seat begun q.node) (seat replied_seats q.node) q.session =
            subst (λ b. SameEnd b (seat replied_seats q.node) q.session) (elsewhere1 q (off p.session is))
            (c1.rest q (λ j _ _ f. off p.session is (ap (λ (p : SessionPlace). p.node) f))
            (λ j less low high closed. absurd (true≢false
            (sym (live_before ∙ ap (λ (p : Post). not (is_idle p.phase)) (sym post_here) ∙ ap not e)
            ∙ ap (λ j. live_at begun1 (place p.node j)) (sym (only_one p.session j low high)) ∙ closed))))
            in
            (g.notice, g.link);
      }

      tells_it : TellsEnd (taking n p.session given left) m p.session t0.is_down
          (sending (breaks_in n p.session) (map (octets_of n.who (is_peering t0)) ms))
      tells_it = subst (TellsEnd (taking n p.session given left) m p.session t0.is_down) (sym same_sends) own_tells

      who_m : m.who ≡ n.who
      who_m = same_who seats replied_seats c1.going.alike p.node ∙ sym who_n

      who_far : (seat replied_seats q.node).who ≡ (seat begun q.node).who
      who_far = same_who seats replied_seats c1.going.alike q.node ∙ sym (same_who seats begun alike q.node)

      abbrev w1 : MachineState
      w1 = change_session (name_at seats p) (other_at seats p) f w

      pub stands1 : Seats replied_seats w1
      stands1 =
          changes_at wired seats w right stands replied_seats p is at f keeps c1.going.alike c1.going.fit
          (subst (IsEnd m p.session) (sym tells)
          (near_told (taking n p.session given left) m (seat begun q.node) (seat replied_seats q.node) p.session q.session t0 ms
          who_m who_far near far_is ready still tells_it far_hears))
          (subst (λ (t : Session). IsEnd (seat replied_seats q.node) q.session (turned t)) (sym tells)
          (far_told (taking n p.session given left) m (seat begun q.node) (seat replied_seats q.node) p.session q.session t0 ms
          who_m who_far near far_is ready still tells_it far_hears))
          (λ r is_r not_p not_q.
          end_trans (seat seats r.node) (seat begun1 r.node) (seat replied_seats r.node) r.session
          (end_trans (seat seats r.node) (seat begun r.node) (seat begun1 r.node) r.session (same r is_r not_p not_q) (but1.ends r not_p))
          (c1.rest r (λ j low high e. not_p (e ∙ ap (place p.node) (only_one p.session j low high)))
          (λ j less low high _ e. not_q (e ∙ same_far j less (only_one p.session j low high)))))
          (part_of replied_seats p q (same_far_of seats replied_seats c1.going.alike p ∙ at.far.found)
          (near_part (taking n p.session given left) m (seat begun q.node) (seat replied_seats q.node) p.session q.session t0 ms
          who_m who_far near far_is ready still tells_it far_hears near_keeps))
          (part_of replied_seats q p (same_far_of seats replied_seats c1.going.alike q ∙ at.far.back)
          (far_part (taking n p.session given left) m (seat begun q.node) (seat replied_seats q.node) p.session q.session t0 ms
          who_m who_far near far_is ready still tells_it far_hears far_keeps))
        where
          same_far : (j : ℕ) (less : IsPlace seats (place p.node j)) → j ≡ p.session → (far j less).far ≡ q
          same_far j less e =
              same_Some (far j less).far q (sym (far j less).found ∙ ap (λ j. far_of seats (place p.node j)) e ∙ at.far.found)

      -- ---- and its pass
      module _ (right1 : IsRight w1) (ready1 : AreReady w1 (name_at seats p)) (n' : Seat) (stepped : IsStepped n n' p.session given)
          (swept : AreSwept n'.posts (slice_set n.kept p.session left) n'.kept) where
        abbrev kind : NodeKind
        kind = kind_of n.who

        abbrev posts1 : List Post
        posts1 = n1.posts

        abbrev stepped_seats : List Seat
        stepped_seats = with_seat p.node n' begun

        posts_m : m.posts ≡ posts1
        posts_m = c1.posts p.node ∙ ap (λ (n : Seat). n.posts) here1

        -- what its sessions are told is what the machine's are
        abbrev tells_on : ℕ → Sending
        tells_on j = sending (breaks_in n1 j) (changes kind posts1 j)

        machine_session : session_of w1 (name_at seats p) (other_at seats p) ≡ Some (f s)
        machine_session = changed_here (name_at seats p) (other_at seats p) at.apart f keeps w.sessions s at.found

        is1 : IsPlace replied_seats p
        is1 = same_place replied_seats seats (sym c1.going.alike) p is

        -- an end that was closed tells nothing
        gone : replied.failed ≡ true → post1 ≡ nothing
        gone e = ap (λ (f : Bool). end_after f (end_of given.after)) e

        pub near1 : IsEnd m p.session (f s)
        near1 =
            subst (IsEnd m p.session) (sym tells)
            (near_told (taking n p.session given left) m (seat begun q.node) (seat replied_seats q.node) p.session q.session t0 ms
            who_m who_far near far_is ready still tells_it far_hears)

        mute : replied.failed ≡ true → kind.may_send p.session (post posts1 p.session).phase ≡ false
        mute e =
            let found1 : session_of w1 (name_at replied_seats p) (other_at replied_seats p) ≡ Some (f s) =
            (λ x. session_of w1 (same_name_at seats replied_seats c1.going.alike p x) (same_other_at seats replied_seats c1.going.alike p x))
            ∙ machine_session
            in
            let by = wired.goes_by w1 replied_seats p (f s) right1.written right1.numbers right1.sessions stands1 is1 found1 in
            (λ x. (kind_of (sym who_m x)).may_send p.session (post (sym posts_m x) p.session).phase)
            ∙ sym by.may_send
            ∙ silent (f s) (ap is_idle near1.phase ∙ ap (λ (p : Post). is_idle p.phase) (post_here ∙ gone e))

        stored1 : post posts1 p.session ≡ post1
        stored1 = get_or-set_same n.posts p.session post1 nothing (within n.posts long_n.posts p.session is.session)

        sends : (j : ℕ) → j < count
            → SendsAs (told_all kind posts1 j) (link n j) (link n1 j) (sent_on n p.session given j) (tells_on j)
        sends j less = by_place (cases_eq j p.session)
          where
            here_sends : (failed : Bool) → replied.failed ≡ failed
                → SendsAs (told_all kind posts1 p.session) (link n p.session) (link n p.session ++ replied.accepted)
                (sending (breaks_in n p.session) (given.replies ++ changes kind posts1 p.session))
                (sending replied.breaks (changes kind posts1 p.session))
            here_sends true e =
                sends_stopped (told_all kind posts1 p.session) (link n p.session) (link n p.session ++ replied.accepted)
                (breaks_in n p.session) given.replies (changes kind posts1 p.session)
                (ap (λ (b : Bool). cond b (record (post posts1 p.session) { sent = kind.wanted posts1 p.session }) (post posts1 p.session)) (mute e)
                ∙ stored1 ∙ gone e)
                (ap (λ (b : Bool). cond b (map (kind.spelled p.session) (difference (post posts1 p.session).sent (kind.wanted posts1 p.session))) []) (mute e))
                e
            here_sends false e =
                sends_onward (told_all kind posts1 p.session) (link n p.session) (breaks_in n p.session) given.replies
                (changes kind posts1 p.session) e

            stored : SendsAs (told_all kind posts1 p.session) (link n p.session) (link n1 p.session)
                (sent_on n p.session given p.session) (tells_on p.session)
            stored =
                subst (λ l. SendsAs (told_all kind posts1 p.session) (link n p.session) l
                (sent_on n p.session given p.session) (tells_on p.session)) (sym link_stored)
                (subst (λ b. SendsAs (told_all kind posts1 p.session) (link n p.session) (link n p.session ++ replied.accepted)
                (sent_on n p.session given p.session) (sending b (changes kind posts1 p.session)))
                (sym (get_or-set_same n.breaks p.session replied.breaks [] (within n.breaks long_n.breaks p.session is.session)))
                (subst (λ b. SendsAs (told_all kind posts1 p.session) (link n p.session) (link n p.session ++ replied.accepted)
                (sending (breaks_in n p.session) (cond b given.replies [] ++ changes kind posts1 p.session))
                (sending replied.breaks (changes kind posts1 p.session)))
                (sym (eq-eqb p.session p.session refl)) (here_sends replied.failed refl)))

            by_place : (j ≡ p.session) ⊎ (j ≢ p.session)
                → SendsAs (told_all kind posts1 j) (link n j) (link n1 j) (sent_on n p.session given j) (tells_on j)
            by_place (inl e) =
                subst (λ j. SendsAs (told_all kind posts1 j) (link n j) (link n1 j) (sent_on n p.session given j) (tells_on j)) (sym e) stored
            by_place (inr ne) =
                sends_same (told_all kind posts1 j) (link n j) (link n1 j) (sent_on n p.session given j) (tells_on j)
                (sym (get_or-set_other n.links p.session j (link n p.session ++ replied.accepted) [] ne))
                ((λ x. sending (breaks_in n j) (cond (ne_eqb j p.session ne x) given.replies [] ++ changes kind posts1 j))
                ∙ ap (λ b. sending b (changes kind posts1 j)) (sym (get_or-set_other n.breaks p.session j replied.breaks [] ne)))

        post_after : (j : ℕ) → j < count → post n'.posts j ≡ end_after (tells_on j).failed (told_all kind posts1 j)
        post_after j less = stepped.posts j (within n.posts long_n.posts j less) ∙ (sends j less).post

        -- an end that is live then was live before
        was_live : (j : ℕ) → j < count → is_idle (post n'.posts j).phase ≡ false → is_idle (post posts1 j).phase ≡ false
        was_live j less e = by_test (is_idle (post posts1 j).phase) refl
          where
            by_test : (b : Bool) → is_idle (post posts1 j).phase ≡ b → b ≡ false
            by_test true g =
                absurd (true≢false (sym (ap (λ (p : Post). is_idle p.phase) (post_after j less) ∙ idle_after (tells_on j).failed kind posts1 j g) ∙ e))
            by_test false g = refl

        pub live_here : (j : ℕ) (less : j < count) → is_idle (post n'.posts j).phase ≡ false → j ≡ p.session → is_idle post1.phase ≡ false
        live_here j less e at_it =
            ap (λ (p : Post). is_idle p.phase) (sym stored1) ∙ ap (λ j. is_idle (post posts1 j).phase) (sym at_it) ∙ was_live j less e

        -- ---- what the end is before the pass, where it stays live
        record Before (j : ℕ) : Type 0 where
          notice_is : notice m j ≡ notice n j
          link_is : (link m j ≡ link n1 j) ⊎ ((j ≡ p.session) × (link m j ≡ cond t0.is_down [] (link n1 j)))

        before : (j : ℕ) (less : j < count) → is_idle (post n'.posts j).phase ≡ false → Before j
        before j less e = by_place (cases_eq j p.session)
          where
            by_place : (j ≡ p.session) ⊎ (j ≢ p.session) → Before j
            by_place (inl g) =
                let l = (c1.ends p.session is (one_low p.session) (one_high p.session)).live (live_before ∙ ap not (live_here j less e g)) in
                record {
                  notice_is = ap (notice m) g ∙ l.0 ∙ ap (λ n. notice n p.session) here1 ∙ ap (notice n) (sym g);
                  link_is = inr (g, ap (link m) g ∙ l.1 ∙ (λ x. cond t0.is_down [] (link (here1 x) p.session)) ∙ ap (λ j. cond t0.is_down [] (link n1 j)) (sym g));
                }
            by_place (inr ne) =
                let r = c1.rest (place p.node j) (λ l low high g. ne (ap (λ (p : SessionPlace). p.session) g ∙ only_one p.session l low high))
                (λ l more _ _ _ g. off l more (sym (ap (λ (p : SessionPlace). p.node) g))) in
                record {
                  notice_is = r.notice ∙ ap (λ n. notice n j) here1;
                  link_is = inl (r.link ∙ ap (λ n. link n j) here1);
                }

        kept_before : (j : ℕ) → j < count → is_idle (post n'.posts j).phase ≡ false
            → kept_in (record n { kept = slice_set n.kept p.session left }) j ≡ kept_in m j
        kept_before j less e =
            by_place (cases_eq j p.session) ∙ sym ((c1.stays (place p.node j)).kept ∙ ap (λ n. kept_in n j) here1)
          where
            by_place : (j ≡ p.session) ⊎ (j ≢ p.session) → kept_in (record n { kept = slice_set n.kept p.session left }) j ≡ kept_in n1 j
            by_place (inl g) =
                ap (λ b. kept_in (record n { kept = slice_set n.kept p.session (cond b [] left) }) j) (sym (live_here j less e g))
            by_place (inr ne) =
                get_or-set_other n.kept p.session j left [] ne
                ∙ sym (get_or-set_other n.kept p.session j (cond (is_idle post1.phase) [] left) [] ne)

        -- the session that a live end has is down where it was before any reply left
        down_before : is_idle post1.phase ≡ false → (f s).is_down ≡ t0.is_down
        down_before e = by_failed replied.failed refl
          where
            by_failed : (b : Bool) → replied.failed ≡ b → (f s).is_down ≡ t0.is_down
            by_failed true g = absurd (true≢false (sym (ap (λ (p : Post). is_idle p.phase) (gone g)) ∙ e))
            by_failed false g =
                let octets = octets_of n.who (is_peering t0) in
                let r = sending (breaks_in n p.session) (map octets ms) in
                ap (λ (t : Session). t.is_down)
                (tells ∙ told_as_sent octets ms t0 (breaks_in n p.session) near.breaks
                ∙ ap (λ (b : Bool). cond b (shut (with_breaks r.breaks t0)) (with_breaks r.breaks (sends_in ms t0)))
                (ap (λ (r : Sending). r.failed) same_sends ∙ g))
                ∙ (all_left r.breaks ms t0).down

        flight_before : (j : ℕ) (less : j < count) → is_idle (post n'.posts j).phase ≡ false → (t : Session)
            → session_of w1 (name_at seats (place p.node j)) (other_at seats (place p.node j)) ≡ Some t → (more : List (List ℕ))
            → cond t.is_down [] (link n1 j ++ more) ≡ cond t.is_down [] (link m j ++ more)
        flight_before j less e t found_it more = by_before (before j less e).link_is
          where
            by_down : (b : Bool) → cond b [] (link n1 j ++ more) ≡ cond b [] (cond b [] (link n1 j) ++ more)
            by_down true = refl
            by_down false = refl

            by_before : ((link m j ≡ link n1 j) ⊎ ((j ≡ p.session) × (link m j ≡ cond t0.is_down [] (link n1 j))))
                → cond t.is_down [] (link n1 j ++ more) ≡ cond t.is_down [] (link m j ++ more)
            by_before (inl g) = ap (λ l. cond t.is_down [] (l ++ more)) (sym g)
            by_before (inr g) =
                let same_down : t.is_down ≡ t0.is_down =
                ap (λ (s : Session). s.is_down)
                (same_Some t (f s) (sym found_it ∙ ap (λ j. session_of w1 (name_at seats (place p.node j)) (other_at seats (place p.node j))) g.0 ∙ machine_session))
                ∙ down_before (live_here j less e g.0)
                in
                by_down t.is_down ∙ (λ x. cond t.is_down [] (cond (same_down x) [] (link n1 j) ++ more))
                ∙ ap (λ l. cond t.is_down [] (l ++ more)) (sym g.1)

        -- ---- once the sessions of closed ends are cleared
        module _ (down : ℕ → Bool) (after : List Seat)
            (c2 : IsCleared seats p.node far off down count 0 stepped_seats after)
            (agree : (j : ℕ) → IsPlace seats (place p.node j) → is_idle (post n'.posts j).phase ≡ false → (t : Session)
            → session_of w1 (name_at seats (place p.node j)) (other_at seats (place p.node j)) ≡ Some t → down j ≡ t.is_down) where
          here2 : seat stepped_seats p.node ≡ n'
          here2 = seat_here p.node n' begun lt

          abbrev m' : Seat
          m' = seat after p.node

          post_then : (j : ℕ) → post m'.posts j ≡ post n'.posts j
          post_then j = (c2.stays (place p.node j)).post ∙ ap (λ (n : Seat). post n.posts j) here2

          live_then : (j : ℕ) → live_at stepped_seats (place p.node j) ≡ not (is_idle (post n'.posts j).phase)
          live_then j = ap (λ (n : Seat). not (is_idle (post n.posts j).phase)) here2

          alike_again : AreAlike replied_seats after
          alike_again = c2.going.alike ∙ sym c1.going.alike

          own_of : (j : ℕ) → IsPlace replied_seats (place p.node j) → IsPlace seats (place p.node j)
          own_of j is_j = same_place seats replied_seats c1.going.alike (place p.node j) is_j

          telling_post : (j : ℕ) → j < count → post (telling m j).posts j ≡ told_all (kind_of m.who) m.posts j
          telling_post j less =
              get_or-set_same m.posts j (told_all (kind_of m.who) m.posts j) nothing
              (subst (λ ps. j < length ps) (sym posts_m)
              (subst (λ n. j < n) (sym (length-set n.posts p.session post1)) (within n.posts long_n.posts j less)))

          same_told : (j : ℕ) → tells_on j ≡ sending (breaks_in m j) (changes (kind_of m.who) m.posts j)
          same_told j x =
              sending (sym ((c1.stays (place p.node j)).breaks ∙ ap (λ n. breaks_in n j) here1) x)
              (changes (kind_of (sym who_m x)) (sym posts_m x) j)

          own_after : (j : ℕ) → IsPlace seats (place p.node j) → (t : Session)
              → session_of w1 (name_at seats (place p.node j)) (other_at seats (place p.node j)) ≡ Some t
              → TellsEnd (telling m j) m' j t.is_down (sending (breaks_in m j) (changes (kind_of m.who) m.posts j))
          own_after j own t found_it = record {
            ended = post_then j ∙ post_after j own.session
                ∙ (λ x. end_after (same_told j x).failed (told_all (kind_of (sym who_m x)) (sym posts_m x) j))
                ∙ ap (end_after (sending (breaks_in m j) (changes (kind_of m.who) m.posts j)).failed) (sym (telling_post j own.session));
            breaks = (c2.stays (place p.node j)).breaks ∙ ap (λ n. breaks_in n j) here2
                ∙ stepped.breaks j (within n.posts long_n.posts j own.session) ∙ (sends j own.session).breaks
                ∙ ap (λ (r : Sending). r.breaks) (same_told j);
            kept = (c2.stays (place p.node j)).kept ∙ ap (λ n. kept_in n j) here2
                ∙ swept.each j (subst (λ n. j < n) (sym (length-set n.kept p.session left)) (within n.kept long_n.kept j own.session))
                ∙ by_end (is_idle (post n'.posts j).phase) refl
                ∙ (λ x. cond (is_idle (sym (post_then j) x).phase) [] (kept_in m j));
            closed = λ e.
                (c2.ends j own (all_low j) (all_high j count own.session)).closed
                (live_then j ∙ ap not (ap (λ (p : Post). is_idle p.phase) (sym (post_then j)) ∙ e));
            live = λ e. live_after (ap (λ (p : Post). is_idle p.phase) (sym (post_then j)) ∙ e);
          }
            where
              by_end : (b : Bool) → is_idle (post n'.posts j).phase ≡ b
                  → cond (is_idle (post n'.posts j).phase) [] (kept_in (record n { kept = slice_set n.kept p.session left }) j)
                  ≡ cond (is_idle (post n'.posts j).phase) [] (kept_in m j)
              by_end true e =
                  ap (λ b. cond b [] (kept_in (record n { kept = slice_set n.kept p.session left }) j)) e
                  ∙ sym (ap (λ b. cond b [] (kept_in m j)) e)
              by_end false e = ap (cond (is_idle (post n'.posts j).phase) []) (kept_before j own.session e)

              live_after : is_idle (post n'.posts j).phase ≡ false
                  → (notice m' j ≡ notice (telling m j) j)
                  × (link m' j ≡ cond t.is_down [] (link (telling m j) j ++ (sending (breaks_in m j) (changes (kind_of m.who) m.posts j)).accepted))
              live_after e =
                  let l = (c2.ends j own (all_low j) (all_high j count own.session)).live (live_then j ∙ ap not e) in (
                    l.0 ∙ ap (λ n. notice n j) here2 ∙ ap (λ bs. slice_index_or bs j false) stepped.notices ∙ sym (before j own.session e).notice_is,
                    l.1 ∙ (λ x. cond (agree j own e t found_it x) [] (link (here2 x) j))
                        ∙ ap (cond t.is_down [])
                        (stepped.links j (within n.posts long_n.posts j own.session)
                        ∙ (sends j own.session).links (ap (λ (p : Post). is_idle p.phase) (sym (stepped.posts j (within n.posts long_n.posts j own.session))) ∙ e))
                        ∙ flight_before j own.session e t found_it (tells_on j).accepted
                        ∙ (λ x. cond t.is_down [] (link m j ++ (same_told j x).accepted)),
                  )

          -- the ends of other nodes
          abroad : (r : SessionPlace) → r.node ≢ p.node → seat stepped_seats r.node ≡ seat begun1 r.node
          abroad r ne = seat_elsewhere p.node r.node n' begun ne ∙ sym (elsewhere1 r ne)

          same_ends : (r : SessionPlace) → r.node ≢ p.node
              → ((j : ℕ) (less : IsPlace seats (place p.node j)) → r ≡ (far j less).far → is_idle (post n'.posts j).phase ≡ false)
              → SameEnd (seat replied_seats r.node) (seat after r.node) r.session
          same_ends r ne live =
              end_trans (seat replied_seats r.node) (seat begun1 r.node) (seat after r.node) r.session
              (end_back (seat begun1 r.node) (seat replied_seats r.node) r.session
              (c1.rest r (λ j _ _ e. ne (ap (λ (p : SessionPlace). p.node) e))
              (λ j less low high closed e. absurd (true≢false
              (sym (live_before ∙ ap not (live_here j less.session (live j less e) (only_one p.session j low high)))
              ∙ ap (λ j. live_at begun1 (place p.node j)) (sym (only_one p.session j low high)) ∙ closed)))))
              (subst (λ b. SameEnd b (seat after r.node) r.session) (abroad r ne)
              (c2.rest r (λ j _ _ e. ne (ap (λ (p : SessionPlace). p.node) e))
              (λ j less _ _ closed e. absurd (true≢false (sym (live_then j ∙ ap not (live j less e)) ∙ closed)))))

          done : IsPassed w1 replied_seats after p.node
          done = record {
            alike = alike_again;
            fit = c2.going.fit;
            own = λ j is_j t found_it.
                own_after j (own_of j is_j) t
                ((λ x. session_of w1 (sym (same_name_at seats replied_seats c1.going.alike (place p.node j)) x)
                (sym (same_other_at seats replied_seats c1.going.alike (place p.node j)) x)) ∙ found_it);
            far = λ j is_j r is_r found_it. far_after j (own_of j is_j) r (sym (same_far_of seats replied_seats c1.going.alike (place p.node j)) ∙ found_it);
            rest = λ r is_r ne strange.
                same_ends r ne (λ j less e. absurd (strange j
                (same_far_of seats replied_seats c1.going.alike r ∙ ap (far_of seats) e ∙ (far j less).back)));
          }
            where
              far_after : (j : ℕ) → IsPlace seats (place p.node j) → (r : SessionPlace) → far_of seats (place p.node j) ≡ Some r
                  → HearsEnd (seat replied_seats r.node) (seat after r.node) r.session (is_idle (post m'.posts j).phase)
              far_after j less r found_it = subst (λ (r : SessionPlace). HearsEnd (seat replied_seats r.node) (seat after r.node) r.session (is_idle (post m'.posts j).phase)) same_far hears
                where
                  same_far : (far j less).far ≡ r
                  same_far = same_Some (far j less).far r (sym (far j less).found ∙ found_it)

                  stays : Stays (seat replied_seats (far j less).far.node) (seat after (far j less).far.node) (far j less).far.session
                  stays =
                      stays_trans (seat replied_seats (far j less).far.node) (seat begun1 (far j less).far.node) (seat after (far j less).far.node) (far j less).far.session
                      (stays_back (seat begun1 (far j less).far.node) (seat replied_seats (far j less).far.node) (far j less).far.session (c1.stays (far j less).far))
                      (subst (λ b. Stays b (seat after (far j less).far.node) (far j less).far.session) (abroad (far j less).far (off j less)) (c2.stays (far j less).far))

                  live_again : (l : ℕ) (more : IsPlace seats (place p.node l)) → (far j less).far ≡ (far l more).far → is_idle (post n'.posts j).phase ≡ false
                      → is_idle (post n'.posts l).phase ≡ false
                  live_again l more e live = by_number (cases_eq j l)
                    where
                      by_number : (j ≡ l) ⊎ (j ≢ l) → is_idle (post n'.posts l).phase ≡ false
                      by_number (inl g) = ap (λ j. is_idle (post n'.posts j).phase) (sym g) ∙ live
                      by_number (inr ne) = absurd (far_once seats p.node far off j l less more ne e)

                  hears : HearsEnd (seat replied_seats (far j less).far.node) (seat after (far j less).far.node) (far j less).far.session (is_idle (post m'.posts j).phase)
                  hears = record {
                    stays = stays;
                    told = λ e.
                        let t = (c2.ends j less (all_low j) (all_high j count less.session)).told
                        (live_then j ∙ ap not (ap (λ (p : Post). is_idle p.phase) (sym (post_then j)) ∙ e)) in (
                          t.0 ∙ ap (λ n. not (is_idle (post n.posts (far j less).far.session).phase)) (abroad (far j less).far (off j less))
                              ∙ sym (stays_live begun1 replied_seats (far j less).far (c1.stays (far j less).far)),
                          t.1,
                        );
                    same = λ e.
                        let g = same_ends (far j less).far (off j less) (λ l more same_place. live_again l more same_place
                        (ap (λ (p : Post). is_idle p.phase) (sym (post_then j)) ∙ e)) in
                        (g.notice, g.link);
                  }

          pub passed_stands : Seats after (pass (name_at seats p) w1)
          passed_stands =
              subst (λ name. Seats after (pass name w1)) (same_name_at seats replied_seats c1.going.alike p)
              (passes wired replied_seats w1 right1 stands1 p.node after
              (subst (λ m. p.node < m) (sym (same_long seats replied_seats c1.going.alike)) is.node)
              (same_named seats replied_seats c1.going.alike (name_of m.who)
              ∙ ap (seat_named seats) (same_name_at seats replied_seats c1.going.alike p) ∙ place_named wired seats w right stands p is)
              (subst (AreReady w1) (sym (same_name_at seats replied_seats c1.going.alike p)) ready1) done)

        stepped_going_long : length (seat stepped_seats p.node).posts ≡ count
        stepped_going_long =
            ap (λ (n : Seat). length n.posts) (seat_here p.node n' begun lt) ∙ stepped.posts_long ∙ long_n.posts
            ∙ ap (λ x. length (others_of x)) who_n

        pub stepped_going : Going seats stepped_seats
        stepped_going = record {
          alike = with_alike p.node n' begun stepped.who ∙ alike;
          fit = stepped_fit begun p n' given left is_b stepped swept fit;
        }

        module _ (all_down : Each IsDownWhere w1.sessions) where
          -- a session of which the own end is live is down as its ends say, before the pass and after it
          agrees : (j : ℕ) (less : IsPlace seats (place p.node j)) → is_idle (post n'.posts j).phase ≡ false → (t : Session)
              → session_of w1 (name_at seats (place p.node j)) (other_at seats (place p.node j)) ≡ Some t
              → is_down_at stepped_seats (place p.node j) ≡ t.is_down
          agrees j less live t found_it =
              let r = place p.node j in
              let is_r = same_place replied_seats seats (sym c1.going.alike) r less in
              let h = here wired replied_seats w1 right1 stands1 r is_r in
              let there = (far j less).far in
              let found_far = same_far_of seats replied_seats c1.going.alike r ∙ (far j less).found in
              let same_session : h.session ≡ t =
              same_Some h.session t (sym h.found
              ∙ (λ x. session_of w1 (same_name_at seats replied_seats c1.going.alike r x) (same_other_at seats replied_seats c1.going.alike r x)) ∙ found_it)
              in
              let is_at : seat stepped_seats p.node ≡ n' = seat_here p.node n' begun lt in
              let gone_there : seat stepped_seats there.node ≡ seat begun1 there.node =
              seat_elsewhere p.node there.node n' begun (off j less) ∙ sym (elsewhere1 there (off j less))
              in
              let same_far : SameEnd (seat begun1 there.node) (seat replied_seats there.node) there.session =
              c1.rest there (λ l _ _ e. off j less (ap (λ (p : SessionPlace). p.node) e))
              (λ l more low high closed e. absurd (true≢false
              (sym (live_before ∙ ap not (live_here j less.session live (alone j less l more low high e)))
              ∙ ap (λ l. live_at begun1 (place p.node l)) (sym (only_one p.session l low high)) ∙ closed)))
              in
              down_by_ends replied_seats stepped_seats (stepped_going.alike ∙ sym c1.going.alike) r there found_far
              ((λ x. not (is_idle (post (is_at x).posts j).phase) && not (notice (is_at x) j))
              ∙ (λ x. not (live x) && not (slice_index_or (stepped.notices x) j false))
              ∙ sym (λ x. not ((ap (λ ps. is_idle (post ps j).phase) posts_m ∙ was_live j less.session live) x) && not ((before j less.session live).notice_is x)))
              ((λ x. not (is_idle (post (gone_there x).posts there.session).phase) && not (notice (gone_there x) there.session))
              ∙ (λ x. not (is_idle (sym same_far.post x).phase) && not (sym same_far.notice x)))
              ∙ down_is wired replied_seats w1 right1 stands1 replied_seats refl (λ _ _. refl) r is_r h
              (found IsDownWhere down_turned w1.sessions (name_at replied_seats r) (other_at replied_seats r) all_down h.session h.found)
              ∙ ap (λ (s : Session). s.is_down) same_session
            where
              alone : (j : ℕ) (less : IsPlace seats (place p.node j)) (l : ℕ) (more : IsPlace seats (place p.node l)) → p.session ≤ l → l < p.session + 1 → (far j less).far ≡ (far l more).far
                  → j ≡ p.session
              alone j less l more low high e = by_number (cases_eq j l)
                where
                  by_number : (j ≡ l) ⊎ (j ≢ l) → j ≡ p.session
                  by_number (inl g) = g ∙ only_one p.session l low high
                  by_number (inr ne) = absurd (far_once seats p.node far off j l less more ne e)

          pub cleared_stands : Seats (cleared stepped_seats p.node) (pass (name_at seats p) w1)
          cleared_stands =
              passed_stands (λ j. is_down_at stepped_seats (place p.node j)) (cleared stepped_seats p.node)
              (all_cleared seats p.node far off stepped_seats stepped_going count stepped_going_long) agrees

-- ---- where every session is as at a moment once the input has changed its own
module _ (wired : Wired) (seats : List Seat) (w : MachineState) (right : IsRight w) (stands : Seats seats w) (p : SessionPlace)
    (is : IsPlace seats p) (begun : List Seat) (alike : AreAlike seats begun) (fit : AreFit begun)
    (same : (r : SessionPlace) → IsPlace seats r → r ≢ p → r ≢ (here wired seats w right stands p is).far.far
    → SameEnd (seat seats r.node) (seat begun r.node) r.session)
    (given : Beginning) (left : List ℕ) (f : Session → Session) (keeps : KeepsNodes f) (t0 : Session) (ms : List Message)
    (tells : f (here wired seats w right stands p is).session ≡ told ms t0)
    (replies : given.replies ≡ map (octets_of (seat begun p.node).who (is_peering t0)) ms)
    (near : IsEnd (taking (seat begun p.node) p.session given left) p.session t0)
    (far_is : IsEnd (seat begun (here wired seats w right stands p is).far.far.node) (here wired seats w right stands p is).far.far.session (turned t0))
    (near_keeps : IsPart (taking (seat begun p.node) p.session given left) p.session
    (seat begun (here wired seats w right stands p is).far.far.node) (here wired seats w right stands p is).far.far.session)
    (far_keeps : IsPart (seat begun (here wired seats w right stands p is).far.far.node) (here wired seats w right stands p is).far.far.session
    (taking (seat begun p.node) p.session given left) p.session)
    (ready : IsReady t0) (still : is_idle t0.near.phase ≡ true → ms ≡ [])
    (sound : IsSound (change_session (name_at seats p) (other_at seats p) f w)) (n' : Seat)
    (stepped : IsStepped (seat begun p.node) n' p.session given)
    (swept : AreSwept n'.posts (slice_set (seat begun p.node).kept p.session left) n'.kept) where
  pub stands_soundly : Seats (cleared (with_seat p.node n' begun) p.node)
      (pass (name_at seats p) (change_session (name_at seats p) (other_at seats p) f w))
  stands_soundly =
      let w1 = change_session (name_at seats p) (other_at seats p) f w in
      cleared_stands wired seats w right stands p is begun alike fit same given left f keeps t0 ms tells replies near far_is
      near_keeps far_keeps ready still
      (changed_right (name_at seats p) (other_at seats p) f keeps w right (all_quiet w1 sound))
      (λ b t found_it.
      fact_ready t (found (Fact message_size) (Fact-turned message_size) w1.sessions (name_at seats p) b sound t found_it)) n' stepped swept
      (all_down_where w1 sound)

-- ---- the theorem, at a moment: the seats as the node takes the input are those of the state but at the two ends of its
-- session
module _ (facts : Facts) (seats : List Seat) (w : MachineState) (moment : IsMoment w) (stands : Seats seats w) (p : SessionPlace)
    (is : IsPlace seats p) (begun : List Seat) (alike : AreAlike seats begun) (fit : AreFit begun)
    (same : (r : SessionPlace) → IsPlace seats r → r ≢ p
    → r ≢ (here facts.wired seats w (moment_right facts.moments w moment) stands p is).far.far
    → SameEnd (seat seats r.node) (seat begun r.node) r.session)
    (f : Session → Session) (keeps : KeepsNodes f) (sound : IsSound (change_session (name_at seats p) (other_at seats p) f w))
    (given : Beginning) (left : List ℕ) (t0 : Session) (ms : List Message) where
  abbrev at_moment : Here seats w p
  at_moment = here facts.wired seats w (moment_right facts.moments w moment) stands p is

  pub stands_after : f at_moment.session ≡ told ms t0
      → given.replies ≡ map (octets_of (seat seats p.node).who (is_peering t0)) ms
      → IsEnd (taking (seat begun p.node) p.session given left) p.session t0
      → IsEnd (seat begun at_moment.far.far.node) at_moment.far.far.session (turned t0)
      → IsPart (taking (seat begun p.node) p.session given left) p.session (seat begun at_moment.far.far.node) at_moment.far.far.session
      → IsPart (seat begun at_moment.far.far.node) at_moment.far.far.session (seat begun p.node) p.session
      → IsReady t0 → (is_idle t0.near.phase ≡ true → ms ≡ [])
      → (n' : Seat) → IsStepped (seat begun p.node) n' p.session given
      → AreSwept n'.posts (slice_set (seat begun p.node).kept p.session left) n'.kept
      → Seats (cleared (with_seat p.node n' begun) p.node)
      (pass (name_at seats p) (change_session (name_at seats p) (other_at seats p) f w))
  stands_after tells replies near far_is near_keeps far_keeps ready still n' stepped swept =
      stands_soundly facts.wired seats w (moment_right facts.moments w moment) stands p is begun alike fit same given left f keeps t0 ms
      tells (replies ∙ ap (λ x. map (octets_of x (is_peering t0)) ms) (sym (same_who seats begun alike p.node))) near far_is near_keeps far_keeps
      ready still sound n' stepped swept
