-- A node restarts: it has nothing, and the other end of each of its sessions is told of the loss.
use Rattle.std.specs.Prelude.{◌≡◌, ◌≢◌, ◌⊎◌, ◌<◌, ℕ, suc, ◌+◌, List, [], ◌∷◌, length, Bool, true, false, cond, not}
use Rattle.std.specs.List.{slice_index_or}
use Rattle.std.specs.Cmp.Lexicographic.{bytes_decides}
use Rattle.std.specs.declared.option.Option.TheVariants.{Some}
use Rattle.std.proofs.lemmas.Bool.{cases_eq, true≢false}
use Rattle.std.proofs.lemmas.List.{length-set}
use Rattle.std.proofs.lemmas.Option.{none-some, same_Some}
use Rattle.std.proofs.Common.{refl, sym, ◌∙◌, ap, subst, inl, inr, arith}
use Rattle.ov_types.specs.First.{same_name}
use Rattle.schedule_script.specs.declared.answer.Answer.TheVariants.{Idle}
use Rattle.node_model.specs.Step.{nothing, post}
use Rattle.machine_laws.specs.MachineModel.Setup.{Name}
use Rattle.machine_laws.specs.MachineModel.Session.{is_idle, is_live, shut, turned}
use Rattle.machine_laws.specs.MachineModel.Network.{MachineState}
use Rattle.machine_laws.specs.MachineModel.Steps.{change_node, session_of}
use Rattle.machine_laws.specs.MachineModel.Events.{Restart, answer_to, is_node, next, unless}
use Rattle.running_nodes.specs.Seats.{Seat, breaks_in, far_of, index_from, kept_in, link, name_of, nobody, notice, notice_at, seat}
use Rattle.running_nodes.specs.Seats.{seat_named}
use Rattle.running_nodes.specs.Steps.{emptied, with_seat}
use Rattle.running_nodes.specs.Stands.{IsLong, IsVacant, KeepsPart, Seats, message_size}
use Rattle.running_nodes.specs.declared.place.SessionPlace.{SessionPlace}
use Rattle.running_laws.specs.Moments.{IsMoment}
use Rattle.running_laws.specs.Wiring.{HasFar, IsPlace, name_at, other_at}
use Rattle.running_laws.specs.Losing.{NothingIsRestarted, RestartsAreMade, all_told, restarted}
use Rattle.running_laws.proofs.AtMoments.{found_sound, kept_closed, moment_right, stands_at}
use Rattle.running_laws.proofs.Building.{SameEnd, Stays, has_end, long_again, moved, part_at, part_none, part_of, part_same, seats_by_places}
use Rattle.running_laws.proofs.Facts.{Facts, IsRight}
use Rattle.running_laws.proofs.Here.{Here, here, other_named, part_here, place_named}
use Rattle.running_laws.proofs.Lists.{EndAt, same_far_of, same_other, same_place, same_who, seat_elsewhere, seat_here, seats_fit}
use Rattle.running_laws.proofs.Lists.{with_alike}
use Rattle.running_laws.proofs.Marks.{end_closed, end_noticed}
use Rattle.running_laws.proofs.Sides.{node_elsewhere, node_here, node_there}
use Rattle.running_laws.proofs.Started.{all_alike, all_long}
use Rattle.running_laws.proofs.Telling.{Going, IsTold, all_are_told, all_going, all_others, all_posts, all_stay, same_live}

-- ---- a node by its name
found_index : {A : Type 0} (is : A → Bool) (i : ℕ) (xs : List A) (j : ℕ) → index_from i is xs ≡ Some j
    → (m : ℕ) × (j ≡ i + m) × (m < length xs) × ((d : A) → is (slice_index_or xs m d) ≡ true)
found_index is i [] j e = absurd (none-some j e)
found_index {A} is i (x ∷ xs) j e = by_test (is x) refl e (found_index is (suc i) xs j)
  where
    by_test : (b : Bool) → is x ≡ b → cond b (Some i) (index_from (suc i) is xs) ≡ Some j
        → (index_from (suc i) is xs ≡ Some j
        → (m : ℕ) × (j ≡ suc i + m) × (m < length xs) × ((d : A) → is (slice_index_or xs m d) ≡ true))
        → (m : ℕ) × (j ≡ i + m) × (m < length (x ∷ xs)) × ((d : A) → is (slice_index_or (x ∷ xs) m d) ≡ true)
    by_test true f e rest = let s : i ≡ j = same_Some i j e in (0, omega (arith, s), omega arith, (λ d. f))
    by_test false f e rest = let r = rest e in (suc r.0, omega (arith, r.1), omega (arith, r.2), r.3)

pub seat_of_name : (seats : List Seat) (name : Name) (k : ℕ) → seat_named seats name ≡ Some k
    → (k < length seats) × (name_of (seat seats k).who ≡ name)
seat_of_name seats name k e =
    let r = found_index (λ (n : Seat). same_name (name_of n.who) name) 0 seats k e in
    let same : k ≡ r.0 = omega (arith, r.1) in (
      subst (λ k. k < length seats) (sym same) r.2,
      (bytes_decides (name_of (seat seats k).who) name).0 (subst (λ k. same_name (name_of (seat seats k).who) name ≡ true) (sym same) (r.3 nobody)),
    )

module _ (facts : Facts) (seats : List Seat) (w : MachineState) (moment : IsMoment w) (stands : Seats seats w) (k : ℕ)
    (lt : k < length seats) (named : seat_named seats (name_of (seat seats k).who) ≡ Some k) where
  abbrev right : IsRight w
  right = moment_right facts.moments w moment

  abbrev me : Name
  me = name_of (seat seats k).who

  abbrev n : Seat
  n = seat seats k

  abbrev count : ℕ
  count = length n.posts

  far : (j : ℕ) → IsPlace seats (record { node = k; session = j }) → HasFar seats (record { node = k; session = j })
  far j is = facts.wired.far w.setup seats (record { node = k; session = j }) right.written right.numbers stands.who is

  abbrev empty : List Seat
  empty = with_seat k (emptied n) seats

  empty_going : Going seats empty
  empty_going = record {
    alike = with_alike k (emptied n) seats refl;
    fit = record {
      long = λ j less. by_node j (cases_eq j k) (subst (λ m. j < m) (length-set seats k (emptied n)) less);
      vacant = λ r none.
          vacant_node r (cases_eq r.node k)
          ((seats_fit seats w stands).vacant r
          (sym (same_other seats empty (with_alike k (emptied n) seats refl) r) ∙ none));
    };
  }
    where
      vacant_node : (r : SessionPlace) → (r.node ≡ k) ⊎ (r.node ≢ k) → IsVacant (seat seats r.node) r.session
          → IsVacant (seat empty r.node) r.session
      vacant_node r (inl e) v =
          subst (λ m. IsVacant m r.session) (sym (ap (seat empty) e ∙ seat_here k (emptied n) seats lt))
          (record {
            post = all_alike nothing n.posts r.session;
            kept = all_alike [] n.kept r.session;
            link = all_alike [] n.links r.session;
            breaks = ap (λ j. breaks_in (seat seats j) r.session) (sym e) ∙ v.breaks;
            notice = all_alike false n.notices r.session;
          })
      vacant_node r (inr ne) v = subst (λ m. IsVacant m r.session) (sym (seat_elsewhere k r.node (emptied n) seats ne)) v

      by_node : (j : ℕ) → (j ≡ k) ⊎ (j ≢ k) → j < length seats → IsLong (seat empty j)
      by_node j (inl e) less =
          subst (λ j. IsLong (seat empty j)) (sym e) (subst IsLong (sym (seat_here k (emptied n) seats lt))
          (long_again n (emptied n) refl (all_long nothing n.posts) (all_long [] n.kept) (all_long [] n.links) refl
          (all_long false n.notices) (stands.long k lt)))
      by_node j (inr ne) less = subst IsLong (sym (seat_elsewhere k j (emptied n) seats ne)) (stands.long j less)

  abbrev after : List Seat
  after = all_told count k 0 empty

  going : Going seats after
  going = all_going seats k far count 0 empty empty_going

  abbrev later : MachineState
  later = change_node me shut w

  -- ---- the node's own ends
  own_end : (i : ℕ) → IsPlace seats (record { node = k; session = i }) → EndAt later after (record { node = k; session = i })
  own_end i is =
      let p : SessionPlace = record { node = k; session = i } in
      let h = here facts.wired seats w right stands p is in
      let same : SameEnd (seat empty k) (seat after k) i =
      all_others seats k far count 0 empty empty_going p
      (λ j own e. (here facts.wired seats w right stands (record { node = k; session = j }) own).apart
      (ap (name_at seats) e ∙ (far j own).name))
      in
      let gone : seat empty k ≡ emptied n = seat_here k (emptied n) seats lt in
      has_end seats after later p (shut h.session) going.alike
      (node_here me (other_at seats p) h.apart shut (λ s. refl) w.sessions h.session h.found)
      (end_closed (seat after k) i h.session.near (shut h.session)
      (same.post ∙ ap (λ (n : Seat). post n.posts i) gone ∙ all_alike nothing n.posts i)
      (same.kept ∙ ap (λ (n : Seat). kept_in n i) gone ∙ all_alike [] n.kept i)
      (same.notice ∙ ap (λ (n : Seat). notice n i) gone ∙ all_alike false n.notices i)
      (same.link ∙ ap (λ (n : Seat). link n i) gone ∙ all_alike [] n.links i)
      (h.near_is.breaks ∙ sym (same.breaks ∙ ap (λ (n : Seat). breaks_in n i) gone)) refl refl)

  -- nothing is kept there
  own_part : (i : ℕ) → IsPlace seats (record { node = k; session = i }) → KeepsPart after (record { node = k; session = i })
  own_part i is =
      let p : SessionPlace = record { node = k; session = i } in
      let same : SameEnd (seat empty k) (seat after k) i =
      all_others seats k far count 0 empty empty_going p
      (λ j own e. (here facts.wired seats w right stands (record { node = k; session = j }) own).apart
      (ap (name_at seats) e ∙ (far j own).name))
      in
      let gone : seat empty k ≡ emptied n = seat_here k (emptied n) seats lt in
      λ q _. part_none (seat after k) i (seat after q.node) q.session
      (same.kept ∙ ap (λ (n : Seat). kept_in n i) gone ∙ all_alike [] n.kept i)

  -- ---- an end of another node
  module _ (p : SessionPlace) (is : IsPlace seats p) (off : p.node ≢ k) where
    abbrev there : Here seats w p
    there = here facts.wired seats w right stands p is

    mine : me ≢ name_at seats p
    mine = other_named facts.wired seats w right stands k named p is off

    posts_same : (seat after p.node).posts ≡ (seat seats p.node).posts
    posts_same =
        all_posts seats k far count 0 empty empty_going p.node
        ∙ ap (λ (n : Seat). n.posts) (seat_elsewhere k p.node (emptied n) seats off)

    far_node : me ≡ other_at seats p → there.far.far.node ≡ k
    far_node e =
        same_Some there.far.far.node k
        (sym (place_named facts.wired seats w right stands there.far.far there.far.is_place)
        ∙ ap (seat_named seats) (there.far.name ∙ sym e) ∙ named)

    told_there : me ≡ other_at seats p → IsTold after p
    told_there e =
        let q = there.far.far in
        let at = far_node e in
        let own : IsPlace seats (record { node = k; session = q.session }) =
        subst (λ j. IsPlace seats (record { node = j; session = q.session })) at there.far.is_place
        in
        let less : q.session < count = subst (λ m. q.session < m) (sym (stands.long k lt).posts) own.session in
        let told : IsTold after (far q.session own).far =
        all_are_told seats k far count 0 empty empty_going q.session own (omega arith) (omega (arith, less))
        in
        subst (IsTold after)
        (same_Some (far q.session own).far p
        (sym (far q.session own).found ∙ (λ i. far_of seats (record { node = sym at i; session = q.session })) ∙ there.far.back))
        told

    stays : Stays (seat seats p.node) (seat after p.node) p.session
    stays =
        subst (λ n. Stays n (seat after p.node) p.session) (seat_elsewhere k p.node (emptied n) seats off)
        (all_stay seats k far count 0 empty empty_going p)

    told_notice : me ≡ other_at seats p → notice_at after p ≡ is_live there.session.near
    told_notice e =
        (told_there e).notice ∙ same_live seats after p posts_same ∙ (λ i. not (is_idle (sym there.near_is.phase i)))

    idle : is_live there.session.near ≡ false → kept_in (seat seats p.node) p.session ≡ []
    idle =
        kept_closed (seat seats p.node) p.session there.session there.near_is
        (found_sound w moment (name_at seats p) (other_at seats p) there.session there.found)

    far_end : me ≡ other_at seats p → EndAt later after p
    far_end e =
        let s = there.session in
        has_end seats after later p (turned (shut (turned s))) going.alike
        (subst (λ m. session_of later (name_at seats p) m ≡ Some (turned (shut (turned s)))) e
        (node_there me (name_at seats p) mine shut (λ s. refl) w.sessions (turned s)
        (subst (λ m. session_of w m (name_at seats p) ≡ Some (turned s)) (sym e) there.far_found)))
        (end_noticed (seat seats p.node) (seat after p.node) p.session s (turned (shut (turned s))) stays
        (told_notice e) (told_there e).link refl refl idle there.near_is)

    far_part : me ≡ other_at seats p → KeepsPart after p
    far_part e =
        λ q _ quiet. part_none (seat after p.node) p.session (seat after q.node) q.session
        (stays.kept ∙ idle (sym (told_notice e) ∙ quiet)) quiet

    -- at the end of a session with another node nothing changes, nor at its other end
    abbrev q : SessionPlace
    q = there.far.far

    strange : me ≢ other_at seats p → SameEnd (seat seats p.node) (seat after p.node) p.session
    strange ne =
        subst (λ n. SameEnd n (seat after p.node) p.session) (seat_elsewhere k p.node (emptied n) seats off)
        (all_others seats k far count 0 empty empty_going p
        (λ j own e. ne (sym (ap (other_at seats) e ∙ (far j own).other))))

    strange_there : me ≢ other_at seats p → SameEnd (seat seats q.node) (seat after q.node) q.session
    strange_there ne =
        subst (λ n. SameEnd n (seat after q.node) q.session)
        (seat_elsewhere k q.node (emptied n) seats (λ e. ne (ap (λ j. name_of (seat seats j).who) (sym e) ∙ there.far.name)))
        (all_others seats k far count 0 empty empty_going q
        (λ j own e. mine (sym (sym there.far.other ∙ ap (other_at seats) e ∙ (far j own).other))))

    strange_part : me ≢ other_at seats p → KeepsPart after p
    strange_part ne =
        part_of after p q (same_far_of seats after going.alike p ∙ there.far.found)
        (part_same (seat seats p.node) (seat after p.node) p.session (seat seats q.node) (seat after q.node) q.session
        (strange ne) (strange_there ne).link
        (part_at seats p q there.far.found (part_here facts.wired seats w right stands p is)))

    strange_end : me ≢ other_at seats p → EndAt later after p
    strange_end ne =
        let s = there.session in
        has_end seats after later p s going.alike
        (node_elsewhere me (name_at seats p) (other_at seats p) mine ne shut (λ s. refl) w.sessions s there.found)
        (moved (seat seats p.node) (seat after p.node) p.session s s (same_who seats after going.alike p.node)
        (strange ne) refl refl refl there.near_is)

    other_end : EndAt later after p × KeepsPart after p
    other_end = by_test (same_name me (other_at seats p)) refl
      where
        by_test : (b : Bool) → same_name me (other_at seats p) ≡ b → EndAt later after p × KeepsPart after p
        by_test true e = let is = (bytes_decides me (other_at seats p)).0 e in (far_end is, far_part is)
        by_test false e =
            let ne : me ≢ other_at seats p = λ f. true≢false (sym ((bytes_decides me (other_at seats p)).1 f) ∙ e) in
            (strange_end ne, strange_part ne)

  pub restarted_seats : Seats after later
  restarted_seats =
      seats_by_places after later (going.alike ∙ stands.who) going.fit
      (λ p is. (by_node p (same_place seats after going.alike p is) (cases_eq p.node k)).0)
      (λ p is. (by_node p (same_place seats after going.alike p is) (cases_eq p.node k)).1)
    where
      by_node : (p : SessionPlace) → IsPlace seats p → (p.node ≡ k) ⊎ (p.node ≢ k)
          → EndAt later after p × KeepsPart after p
      by_node p is (inl e) =
          let own = subst (λ j. IsPlace seats (record { node = j; session = p.session })) e is in
          subst (λ j. EndAt later after (record { node = j; session = p.session }) × KeepsPart after (record { node = j; session = p.session })) (sym e)
          (own_end p.session own, own_part p.session own)
      by_node p is (inr off) = other_end p is off

-- ---- by names
restart_made : (w : MachineState) (name : Name) (b : Bool) → is_node w name ≡ b
    → (next message_size w (Restart name) ≡ cond b (change_node name shut w) w) × (answer_to w (Restart name) ≡ unless (not b))
unfolding next
restart_made w name b e = (ap (λ b. cond b (change_node name shut w) w) e, ap (λ b. unless (not b)) e)

pub restarts_are_made : Facts → RestartsAreMade
restarts_are_made facts seats w moment stands name k e =
    let right = moment_right facts.moments w moment in
    let at = seat_of_name seats name (suc k) e in
    let named : seat_named seats (name_of (seat seats (suc k)).who) ≡ Some (suc k) = ap (seat_named seats) at.1 ∙ e in
    let is : is_node w name ≡ true =
    ap (is_node w) (sym at.1) ∙ facts.wired.nodes w seats (suc k) right.written right.numbers right.sessions stands.seats_are (omega arith) at.0
    in
    let step = restart_made w name true is in
    let later = facts.moments.after w (Restart name) moment tt in (
      stands_at (restarted seats (suc k)) (next message_size w (Restart name)) later
          (subst (Seats (restarted seats (suc k))) ((λ i. change_node (at.1 i) shut w) ∙ sym step.0)
          (restarted_seats facts seats w moment stands.seats_are (suc k) at.0 named)),
      later,
      step.1,
    )

pub nothing_is_restarted : Facts → NothingIsRestarted
nothing_is_restarted facts seats w moment stands name none = by_test (is_node w name) refl
  where
    by_test : (b : Bool) → is_node w name ≡ b
        → (next message_size w (Restart name) ≡ w) × (answer_to w (Restart name) ≡ Idle)
    by_test true e =
        let right = moment_right facts.moments w moment in
        let s = facts.wired.shown w seats name right.written right.numbers right.sessions stands.seats_are e in
        absurd (above s.0 (none s.0 s.1.seat_is) s.1.above)
      where
        above : (k : ℕ) → k ≡ 0 → 0 < k → ⊥
        above k e h = omega (arith, e, h)
    by_test false e = restart_made w name false e
