-- A node that has told all its sessions what it wants, where some of them may fail, stands for the machine's node after its
-- pass.
use Rattle.std.specs.Prelude.{◌≡◌, ◌≢◌, ◌⊎◌, ◌<◌, ℕ, List, [], map, length, Bool, true, false, cond, not}
use Rattle.std.specs.List.{slice_set}
use Rattle.std.specs.declared.option.Option.TheVariants.{Some}
use Rattle.std.proofs.lemmas.Bool.{cases_eq, true≢false}
use Rattle.std.proofs.lemmas.List.{get_or-set_same}
use Rattle.std.proofs.lemmas.Option.{same_Some}
use Rattle.std.specs.Cmp.Lexicographic.{bytes_decides}
use Rattle.std.proofs.Common.{refl, sym, ◌∙◌, ap, subst, inl, inr}
use Rattle.ov_types.specs.First.{same_name}
use Rattle.node_model.specs.Maps.{Change, Map, difference}
use Rattle.node_model.specs.Step.{NodeKind, Post, changes, nothing, post, told_all}
use Rattle.machine_laws.specs.MachineModel.Setup.{Name}
use Rattle.machine_laws.specs.MachineModel.Session.{Carries, Message, Session, is_idle, is_live, is_peering, may_send, passed, turned}
use Rattle.machine_laws.specs.MachineModel.Network.{MachineState, view, views_of, wanted}
use Rattle.machine_laws.specs.MachineModel.Steps.{pass, session_of}
use Rattle.machine_laws.specs.MachineModel.Moments.{nodes}
use Rattle.machine_laws.proofs.MachineModel.NetworkFact.{passed_nodes}
use Rattle.machine_laws.proofs.MachineModel.SessionFact.{Down}
use Rattle.running_nodes.specs.Seats.{Seat, breaks_in, far_of, kind_of, name_of, seat, seat_named}
use Rattle.running_nodes.specs.Steps.{sending}
use Rattle.running_nodes.specs.Stands.{IsEnd, KeepsPart, Seats, octets_of}
use Rattle.running_nodes.specs.declared.place.SessionPlace.{SessionPlace}
use Rattle.running_laws.specs.Wiring.{GoesBy, IsPlace, name_at, other_at}
use Rattle.running_laws.proofs.Building.{SameEnd, end_refl, has_end, moved, part_at, part_of, part_same, seats_by_places}
use Rattle.running_laws.proofs.Clearing.{place}
use Rattle.running_laws.proofs.Ends.{HearsEnd, IsReady, TellsEnd, far_part, far_told, near_part, near_told}
use Rattle.running_laws.proofs.Facts.{IsRight, Wired}
use Rattle.running_laws.proofs.Here.{Here, here, other_named, part_here, place_named}
use Rattle.running_laws.proofs.Lists.{AreAlike, AreFit, EndAt, same_far_of, same_place, same_who}
use Rattle.running_laws.proofs.Sent.{idle_stays, idle_tells_nothing, passed_tells, telling_session, wanted_messages}
use Rattle.running_laws.proofs.Sides.{node_elsewhere, node_here, node_there}
use Rattle.running_laws.proofs.FirstPlaces.{map_twice}

-- ---- what a pass makes of an end
pub told_phase : (k : NodeKind) (posts : List Post) (i : ℕ) → (told_all k posts i).phase ≡ (post posts i).phase
told_phase k posts i =
    elim (k.may_send i (post posts i).phase) as (λ b.
    (cond b (record (post posts i) { sent = k.wanted posts i }) (post posts i)).phase ≡ (post posts i).phase) [ true ↦ refl | false ↦ refl ]

told_held : (k : NodeKind) (posts : List Post) (i : ℕ) → (told_all k posts i).held ≡ (post posts i).held
told_held k posts i =
    elim (k.may_send i (post posts i).phase) as (λ b.
    (cond b (record (post posts i) { sent = k.wanted posts i }) (post posts i)).held ≡ (post posts i).held) [ true ↦ refl | false ↦ refl ]

told_sent : (k : NodeKind) (posts : List Post) (i : ℕ)
    → (told_all k posts i).sent ≡ cond (k.may_send i (post posts i).phase) (k.wanted posts i) (post posts i).sent
told_sent k posts i =
    elim (k.may_send i (post posts i).phase) as (λ b.
    (cond b (record (post posts i) { sent = k.wanted posts i }) (post posts i)).sent
    ≡ cond b (k.wanted posts i) (post posts i).sent) [ true ↦ refl | false ↦ refl ]

carried : (g : Message → List ℕ) (b : Bool) (cs : List Change)
    → cond b (map (λ c. g (Carries c)) cs) [] ≡ map g (cond b (map Carries cs) [])
carried g true cs = sym (map_twice g Carries cs)
carried g false cs = refl

-- the node as one of its sessions is told: what is wanted counts as sent
abbrev pub telling : Seat → ℕ → Seat
telling n i = record n { posts = slice_set n.posts i (told_all (kind_of n.who) n.posts i) }

module _ (n : Seat) (i : ℕ) (s : Session) (w : Map) (lt : i < length n.posts) (is : IsEnd n i s)
    (may : may_send s ≡ (kind_of n.who).may_send i (post n.posts i).phase) (wanted : w ≡ (kind_of n.who).wanted n.posts i) where
  abbrev kind : NodeKind
  kind = kind_of n.who

  post_is : post (telling n i).posts i ≡ told_all kind n.posts i
  post_is = get_or-set_same n.posts i (told_all kind n.posts i) nothing lt

  pub telling_end : IsEnd (telling n i) i (telling_session w s)
  telling_end = record {
    phase = is.phase ∙ sym (ap (λ (p : Post). p.phase) post_is ∙ told_phase kind n.posts i);
    sent = (λ j. cond (may j) (wanted j) (is.sent j)) ∙ sym (ap (λ (p : Post). p.sent) post_is ∙ told_sent kind n.posts i);
    held = is.held ∙ sym (ap (λ (p : Post). p.held) post_is ∙ told_held kind n.posts i);
    notice = is.notice;
    flight = is.flight;
    breaks = is.breaks;
    taken = is.taken;
  }

  pub told_messages : ((c : Change) → octets_of n.who (is_peering s) (Carries c) ≡ kind.spelled i c)
      → changes kind n.posts i ≡ map (octets_of n.who (is_peering s)) (wanted_messages w s)
  told_messages spelled =
      (λ j. cond (sym may j) (map (λ c. sym (spelled c) j) (difference (sym is.sent j) (sym wanted j))) [])
      ∙ carried (octets_of n.who (is_peering s)) (may_send s) (difference s.near.sent w)

pub telling_ready : (w : Map) (s : Session) → IsReady s → IsReady (telling_session w s)
telling_ready w s r = record {
  near = λ e. subst Down (sym (idle_stays w s (idle_of e))) (r.near e);
  far = r.far;
  quiet = r.quiet;
}
  where
    idle_of : is_live s.near ≡ false → is_idle s.near.phase ≡ true
    idle_of e = by_phase (is_idle s.near.phase) e
      where
        by_phase : (b : Bool) → not b ≡ false → b ≡ true
        by_phase true e = refl
        by_phase false e = absurd (true≢false e)

-- ---- the network after the pass
-- the sessions of a node as its pass begins
abbrev pub AreReady : MachineState → Name → Type 0
AreReady w me = (b : Name) (s : Session) → session_of w me b ≡ Some s → IsReady s

-- the node told each of its sessions what is wanted. Where a message failed the end is closed, and the other end is told
pub record IsPassed (w : MachineState) (seats after : List Seat) (k : ℕ) : Type 0 where
  pub alike : AreAlike seats after
  pub fit : AreFit after
  pub own : (i : ℕ) → IsPlace seats (place k i) → (s : Session)
      → session_of w (name_at seats (place k i)) (other_at seats (place k i)) ≡ Some s
      → TellsEnd (telling (seat seats k) i) (seat after k) i s.is_down
      (sending (breaks_in (seat seats k) i) (changes (kind_of (seat seats k).who) (seat seats k).posts i))
  pub far : (i : ℕ) → IsPlace seats (place k i) → (q : SessionPlace) → IsPlace seats q → far_of seats (place k i) ≡ Some q
      → HearsEnd (seat seats q.node) (seat after q.node) q.session (is_idle (post (seat after k).posts i).phase)
  pub rest : (r : SessionPlace) → IsPlace seats r → r.node ≢ k → ((i : ℕ) → far_of seats r ≢ Some (place k i))
      → SameEnd (seat seats r.node) (seat after r.node) r.session

module _ (wired : Wired) (seats : List Seat) (w : MachineState) (right : IsRight w) (stands : Seats seats w) (k : ℕ)
    (after : List Seat) (lt : k < length seats) (named : seat_named seats (name_of (seat seats k).who) ≡ Some k)
    (ready : AreReady w (name_of (seat seats k).who)) (done : IsPassed w seats after k) where
  abbrev me : Name
  me = name_of (seat seats k).who

  abbrev wants : Session → Map
  wants s = wanted w.setup (views_of me w.sessions) (view s)

  abbrev tells : Session → Session
  tells s = passed (wants s) s

  tells_nodes : (s : Session) → nodes (tells s) ≡ nodes s
  tells_nodes s = passed_nodes (wants s) s

  -- a session of the node
  module _ (i : ℕ) (is : IsPlace seats (place k i)) where
    abbrev at : Here seats w (place k i)
    at = here wired seats w right stands (place k i) is

    abbrev s : Session
    s = at.session

    abbrev q : SessionPlace
    q = at.far.far

    by : GoesBy seats w (place k i) s
    by = wired.goes_by w seats (place k i) s right.written right.numbers right.sessions stands is at.found

    within : i < length (seat seats k).posts
    within = subst (λ n. i < n) (sym (stands.long k lt).posts) is.session

    near_before : IsEnd (telling (seat seats k) i) i (telling_session (wants s) s)
    near_before = telling_end (seat seats k) i s (wants s) within at.near_is by.may_send by.wanted

    far_before : IsEnd (seat seats q.node) q.session (turned (telling_session (wants s) s))
    far_before =
        moved (seat seats q.node) (seat seats q.node) q.session (turned s) (turned (telling_session (wants s) s)) refl
        (end_refl (seat seats q.node) q.session) refl refl refl at.far_is

    ready_before : IsReady (telling_session (wants s) s)
    ready_before = telling_ready (wants s) s (ready (other_at seats (place k i)) s at.found)

    own_tells : TellsEnd (telling (seat seats k) i) (seat after k) i s.is_down
        (sending (breaks_in (seat seats k) i) (map (octets_of (seat seats k).who (is_peering s)) (wanted_messages (wants s) s)))
    own_tells =
        subst (λ xs. TellsEnd (telling (seat seats k) i) (seat after k) i s.is_down (sending (breaks_in (seat seats k) i) xs))
        (told_messages (seat seats k) i s (wants s) within at.near_is by.may_send by.wanted by.told)
        (done.own i is s at.found)

    far_hears : HearsEnd (seat seats q.node) (seat after q.node) q.session (is_idle (post (seat after k).posts i).phase)
    far_hears = done.far i is q at.far.is_place at.far.found

    own_end : EndAt (pass me w) after (place k i)
    own_end =
        has_end seats after (pass me w) (place k i) (tells s) done.alike
        (node_here me (other_at seats (place k i)) at.apart tells tells_nodes w.sessions s at.found)
        (subst (IsEnd (seat after k) i) (sym (passed_tells (wants s) s))
        (near_told (telling (seat seats k) i) (seat after k) (seat seats q.node) (seat after q.node) i q.session
        (telling_session (wants s) s) (wanted_messages (wants s) s) (same_who seats after done.alike k)
        (same_who seats after done.alike q.node) near_before far_before ready_before (idle_tells_nothing (wants s) s) own_tells far_hears))

    far_end : EndAt (pass me w) after q
    far_end =
        has_end seats after (pass me w) q (turned (tells s)) done.alike
        ((λ x. session_of (pass me w) (at.far.name x) (at.far.other x))
        ∙ node_there me (other_at seats (place k i)) at.apart tells tells_nodes w.sessions s at.found)
        (subst (λ (t : Session). IsEnd (seat after q.node) q.session (turned t)) (sym (passed_tells (wants s) s))
        (far_told (telling (seat seats k) i) (seat after k) (seat seats q.node) (seat after q.node) i q.session
        (telling_session (wants s) s) (wanted_messages (wants s) s) (same_who seats after done.alike k)
        (same_who seats after done.alike q.node) near_before far_before ready_before (idle_tells_nothing (wants s) s) own_tells far_hears))

    own_part : KeepsPart after (place k i)
    own_part =
        part_of after (place k i) q (same_far_of seats after done.alike (place k i) ∙ at.far.found)
        (near_part (telling (seat seats k) i) (seat after k) (seat seats q.node) (seat after q.node) i q.session
        (telling_session (wants s) s) (wanted_messages (wants s) s) (same_who seats after done.alike k)
        (same_who seats after done.alike q.node) near_before far_before ready_before (idle_tells_nothing (wants s) s) own_tells far_hears
        (part_at seats (place k i) q at.far.found (part_here wired seats w right stands (place k i) is)))

    other_part : KeepsPart after q
    other_part =
        part_of after q (place k i) (same_far_of seats after done.alike q ∙ at.far.back)
        (far_part (telling (seat seats k) i) (seat after k) (seat seats q.node) (seat after q.node) i q.session
        (telling_session (wants s) s) (wanted_messages (wants s) s) (same_who seats after done.alike k)
        (same_who seats after done.alike q.node) near_before far_before ready_before (idle_tells_nothing (wants s) s) own_tells far_hears
        (part_at seats q (place k i) at.far.back (part_here wired seats w right stands q at.far.is_place)))

  -- an end of another node
  module _ (p : SessionPlace) (is : IsPlace seats p) (off : p.node ≢ k) where
    there : Here seats w p
    there = here wired seats w right stands p is

    mine : me ≢ name_at seats p
    mine = other_named wired seats w right stands k named p is off

    -- whose other end is one of the node's
    module _ (e : me ≡ other_at seats p) where
      far_node : there.far.far.node ≡ k
      far_node =
          same_Some there.far.far.node k
          (sym (place_named wired seats w right stands there.far.far there.far.is_place)
          ∙ ap (seat_named seats) (there.far.name ∙ sym e) ∙ named)

      abbrev i : ℕ
      i = there.far.far.session

      own_place : there.far.far ≡ place k i
      own_place x = record { node = far_node x; session = i }

      is_own : IsPlace seats (place k i)
      is_own = subst (IsPlace seats) own_place there.far.is_place

      is_far : (at i is_own).far.far ≡ p
      is_far = same_Some (at i is_own).far.far p (sym (at i is_own).far.found ∙ ap (far_of seats) (sym own_place) ∙ there.far.back)

      pub heard_end : EndAt (pass me w) after p
      heard_end = subst (EndAt (pass me w) after) is_far (far_end i is_own)

      pub heard_part : KeepsPart after p
      heard_part = subst (KeepsPart after) is_far (other_part i is_own)

    -- and one whose other end is not
    module _ (ne : me ≢ other_at seats p) where
      abroad : (i : ℕ) → far_of seats p ≢ Some (place k i)
      abroad i e =
          ne (ap (name_at seats) (sym (same_Some there.far.far (place k i) (sym there.far.found ∙ e))) ∙ there.far.name)

      same : SameEnd (seat seats p.node) (seat after p.node) p.session
      same = done.rest p is off abroad

      far_same : SameEnd (seat seats there.far.far.node) (seat after there.far.far.node) there.far.far.session
      far_same =
          done.rest there.far.far there.far.is_place
          (λ e. ne (ap (λ k. name_of (seat seats k).who) (sym e) ∙ there.far.name))
          (λ i e. off (ap (λ (p : SessionPlace). p.node) (same_Some p (place k i) (sym there.far.back ∙ e))))

      pub strange_end : EndAt (pass me w) after p
      strange_end =
          has_end seats after (pass me w) p there.session done.alike
          (node_elsewhere me (name_at seats p) (other_at seats p) mine ne tells tells_nodes w.sessions there.session there.found)
          (moved (seat seats p.node) (seat after p.node) p.session there.session there.session
          (same_who seats after done.alike p.node) same refl refl refl there.near_is)

      pub strange_part : KeepsPart after p
      strange_part =
          part_of after p there.far.far (same_far_of seats after done.alike p ∙ there.far.found)
          (part_same (seat seats p.node) (seat after p.node) p.session (seat seats there.far.far.node)
          (seat after there.far.far.node) there.far.far.session same far_same.link
          (part_at seats p there.far.far there.far.found (part_here wired seats w right stands p is)))

    other_end : EndAt (pass me w) after p × KeepsPart after p
    other_end = by_test (same_name me (other_at seats p)) refl
      where
        by_test : (b : Bool) → same_name me (other_at seats p) ≡ b → EndAt (pass me w) after p × KeepsPart after p
        by_test true e =
            let f = (bytes_decides me (other_at seats p)).0 e in
            (heard_end f, heard_part f)
        by_test false e =
            let f : me ≢ other_at seats p = λ f. true≢false (sym ((bytes_decides me (other_at seats p)).1 f) ∙ e) in
            (strange_end f, strange_part f)

  each_end : (p : SessionPlace) → IsPlace seats p → EndAt (pass me w) after p × KeepsPart after p
  each_end p is = by_node (cases_eq p.node k)
    where
      by_node : (p.node ≡ k) ⊎ (p.node ≢ k) → EndAt (pass me w) after p × KeepsPart after p
      by_node (inl e) =
          let same : p ≡ place k p.session = λ x. record { node = e x; session = p.session } in
          let is_own = subst (IsPlace seats) same is in
          subst (λ (p : SessionPlace). EndAt (pass me w) after p × KeepsPart after p) (sym same)
          (own_end p.session is_own, own_part p.session is_own)
      by_node (inr off) = other_end p is off

  pub passes : Seats after (pass me w)
  passes =
      seats_by_places after (pass me w) (done.alike ∙ stands.who) done.fit
      (λ p is. (each_end p (same_place seats after done.alike p is)).0)
      (λ p is. (each_end p (same_place seats after done.alike p is)).1)
