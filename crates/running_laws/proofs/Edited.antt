-- An edit is made: the seats of a network whose sessions moved, and the configuration node, which makes its pass.
use Rattle.std.specs.Prelude.{◌≡◌, ◌≢◌, ◌⊎◌, ◌<◌, ℕ, List, [], ◌∷◌, map, length, Bool, true, false, cond, IsTrue}
use Rattle.std.specs.Prelude.{option_and_then}
use Rattle.std.specs.List.{slice_index_or, slice_set}
use Rattle.std.specs.Option.{option_map, unwrap_or}
use Rattle.std.specs.declared.option.Option.{Option}
use Rattle.std.specs.declared.option.Option.TheVariants.{Some, None}
use Rattle.std.proofs.lemmas.Bool.{cases_eq, leb-true}
use Rattle.std.proofs.lemmas.List.{length-map, length-set, map-set, set-get_or, set-set}
use Rattle.std.proofs.Common.{refl, sym, ◌∙◌, ap, subst, inl, inr, arith, zero-lt-suc}
use Rattle.ov_types.specs.First.{same_name}
use Rattle.ov_types.specs.declared.rows.NodeId.{NodeId}
use Rattle.config_types.specs.Form.{has_topology_form}
use Rattle.config_types.specs.declared.config.Config.{Config}
use Rattle.config_types.specs.declared.edit.Edit.{Edit}
use Rattle.config_types.specs.declared.topology.Topology.{Topology}
use Rattle.schedule_script.specs.ConfigCheck.Checked.{Checked}
use Rattle.schedule_script.specs.ConfigCheck.Edits as config_edits
use Rattle.schedule_script.specs.ConfigCheck.Edits.{edit_fault}
use Rattle.schedule_script.specs.ConfigCheck.EditFault.{EditFault}
use Rattle.node_core.specs.Keeping.{AreSwept}
use Rattle.node_model.specs.Step.{Post}
use Rattle.machine_laws.specs.MachineModel.Setup.{Move, Name, Setup, checked, edited_without, moves, renumbered}
use Rattle.machine_laws.specs.MachineModel.Session.{Message, Open, Keepalive, Hello, Carries, is_peering}
use Rattle.machine_laws.specs.MachineModel.Network.{MachineState, config}
use Rattle.machine_laws.specs.MachineModel.Steps.{pass, session_of}
use Rattle.machine_laws.specs.MachineModel.Events as events
use Rattle.machine_laws.specs.MachineModel.Events.{Edits, answer_to, edit_answer, edits, next}
use Rattle.machine_laws.specs.MachineModel.Moments.{EditIsValid}
use Rattle.machine_laws.proofs.MachineModel.NetworkFact.{found, moved_sound}
use Rattle.machine_laws.proofs.MachineModel.NodesFact.{pass_nodes}
use Rattle.machine_laws.specs.Headline.{IsOfForm}
use Rattle.running_nodes.specs.Seats.{Seat, Who, Configuring, far_of, index_from, is_name, name_of, names_of, nobody, other}
use Rattle.running_nodes.specs.Seats.{others_of, place_at, place_of, seat, seat_named, whos}
use Rattle.running_nodes.specs.Moving.{MovesIf}
use Rattle.running_nodes.specs.Steps.{IsStepped, as_it_is, cleared, with_seat}
use Rattle.running_nodes.specs.Stands.{IsLong, KeepsPart, Seats, message_size, octets_of}
use Rattle.running_nodes.specs.declared.place.SessionPlace.{SessionPlace}
use Rattle.running_nodes.proofs.Sizes.{positive}
use Rattle.running_laws.specs.Moments.{IsMoment}
use Rattle.running_laws.specs.Wiring.{IsPlace, name_at, other_at}
use Rattle.running_laws.proofs.Named.{forms}
use Rattle.running_laws.specs.Editing.{EditsAreMade, FaultyEditsAreRefused}
use Rattle.running_laws.proofs.Anew.{told_anew}
use Rattle.running_laws.proofs.AtMoments.{IsSound, all_quiet, moment_right, moment_sound, stands_at}
use Rattle.running_laws.proofs.Building.{IsPart, SameEnd, end_refl, part_same, seats_by_places, vacant_same}
use Rattle.running_laws.proofs.Facts.{Facts, IsRight, right_computers}
use Rattle.running_laws.proofs.Resettled.{setup_after}
use Rattle.running_laws.proofs.Here.{end_at}
use Rattle.running_laws.proofs.Lists.{AreFit, EndAt, index_map, place_with, seat_elsewhere, seat_here, seats_fit, who_at}
use Rattle.running_laws.proofs.Moved.{moved_stands}
use Rattle.running_laws.proofs.Reconfigured.{reconfigured}
use Rattle.running_laws.proofs.Unmoved.{unmoved}

-- ---- the configuration node
some_controllers : (t : Topology) → IsTrue (has_topology_form t) → 0 < length t.controllers
some_controllers t h = leb-true 1 (length t.controllers) (forms t h).some

-- what it sends does not depend on what is valid
same_octets : (x y : Checked) (b : Bool) (m : Message) → octets_of (Configuring x) b m ≡ octets_of (Configuring y) b m
same_octets x y true Open = refl
same_octets x y true Keepalive = refl
same_octets x y true Hello = refl
same_octets x y true (Carries c) = refl
same_octets x y false Open = refl
same_octets x y false Keepalive = refl
same_octets x y false Hello = refl
same_octets x y false (Carries c) = refl

-- ---- the configuration node has another configuration, of the same topology
module _ (seats : List Seat) (w : MachineState) (stands : Seats seats w) where
  abbrev n : Seat
  n = seat seats 0

  pub some_seats : 0 < length seats
  some_seats =
      subst (λ m. 0 < m) (length-map seats (λ (n : Seat). n.who))
      (subst (λ xs. 0 < length xs) (sym stands.who) (zero-lt-suc _))

  pub who_is : n.who ≡ Configuring (checked w.setup)
  who_is = who_at seats 0 ∙ ap (λ xs. slice_index_or xs 0 nobody.who) stands.who

  module _ (c : Config) where
    abbrev y : Setup
    y = record { topology = w.setup.topology; config = c; numbers = w.setup.numbers }

    abbrev v : MachineState
    v = record { setup = y; sessions = w.sessions }

    -- the configuration node once the edit is made
    abbrev ny : Seat
    ny = record (seat seats 0) { who = Configuring (checked y) }

    abbrev seats_y : List Seat
    seats_y = reconfigured (checked y) seats

    here_y : seat seats_y 0 ≡ ny
    here_y = seat_here 0 ny seats some_seats

    who_y : map (λ (n : Seat). n.who) seats_y ≡ whos y
    who_y = map-set (λ (n : Seat). n.who) seats 0 ny ∙ ap (λ xs. slice_set xs 0 (Configuring (checked y))) stands.who

    -- its sessions lead where they led, and it says what it said
    record SameThere (k : ℕ) : Type 0 where
      others : others_of (seat seats_y k).who ≡ others_of (seat seats k).who
      name : name_of (seat seats_y k).who ≡ name_of (seat seats k).who
      octets : (b : Bool) (m : Message) → octets_of (seat seats k).who b m ≡ octets_of (seat seats_y k).who b m

    same_there : (k : ℕ) → SameThere k
    same_there k = by_node (cases_eq k 0)
      where
        by_node : (k ≡ 0) ⊎ (k ≢ 0) → SameThere k
        by_node (inl e) =
            subst SameThere (sym e) (record {
              others = ap (λ (n : Seat). others_of n.who) here_y ∙ ap others_of (sym who_is);
              name = ap (λ (n : Seat). name_of n.who) here_y ∙ ap name_of (sym who_is);
              octets = λ b m. ap (λ (who : Who). octets_of who b m) who_is ∙ same_octets (checked w.setup) (checked y) b m
                  ∙ ap (λ (n : Seat). octets_of n.who b m) (sym here_y);
            })
        by_node (inr ne) =
            let same = seat_elsewhere 0 k ny seats ne in
            record {
              others = ap (λ (n : Seat). others_of n.who) same;
              name = ap (λ (n : Seat). name_of n.who) same;
              octets = λ b m. ap (λ (n : Seat). octets_of n.who b m) (sym same);
            }

    same_other_y : (p : SessionPlace) → other (seat seats_y p.node) p.session ≡ other (seat seats p.node) p.session
    same_other_y p = ap (λ xs. slice_index_or xs p.session None) (same_there p.node).others

    same_names : map (λ (n : Seat). name_of n.who) seats_y ≡ map (λ (n : Seat). name_of n.who) seats
    same_names =
        map-set (λ (n : Seat). name_of n.who) seats 0 ny
        ∙ ap (slice_set (map (λ (n : Seat). name_of n.who) seats) 0) (ap name_of (sym who_is) ∙ first seats)
        ∙ set-get_or (map (λ (n : Seat). name_of n.who) seats) 0 (name_of nobody.who)
      where
        first : (seats : List Seat) → name_of (seat seats 0).who ≡ slice_index_or (map (λ (n : Seat). name_of n.who) seats) 0 (name_of nobody.who)
        first [] = refl
        first (n ∷ seats) = refl

    same_seat_named : (a : Name) → seat_named seats_y a ≡ seat_named seats a
    same_seat_named a =
        index_map (λ m. same_name m a) (λ (n : Seat). name_of n.who) 0 seats_y
        ∙ ap (index_from 0 (λ m. same_name m a)) same_names
        ∙ sym (index_map (λ m. same_name m a) (λ (n : Seat). name_of n.who) 0 seats)

    same_place_at : (b : Name) (o : Option ℕ) → place_at seats_y b o ≡ place_at seats b o
    same_place_at b None = refl
    same_place_at b (Some k) =
        ap (λ ms. option_map (λ i. record { node = k; session = i }) (index_from 0 (is_name b) ms)) (same_there k).others

    same_places : (a b : Name) → place_of seats_y a b ≡ place_of seats a b
    same_places a b = ap (place_at seats_y b) (same_seat_named a) ∙ same_place_at b (seat_named seats a)

    same_far : (p : SessionPlace) → far_of seats_y p ≡ far_of seats p
    same_far p =
        (λ i. option_and_then (λ b. place_of seats_y b ((same_there p.node).name i)) (same_other_y p i))
        ∙ (λ i. option_and_then (λ b. same_places b (name_at seats p) i) (other (seat seats p.node) p.session))

    same_ends : (r : SessionPlace) → SameEnd (seat seats r.node) (seat seats_y r.node) r.session
    same_ends r = by_node (cases_eq r.node 0)
      where
        by_node : (r.node ≡ 0) ⊎ (r.node ≢ 0) → SameEnd (seat seats r.node) (seat seats_y r.node) r.session
        by_node (inl e) =
            subst (λ k. SameEnd (seat seats k) (seat seats_y k) r.session) (sym e)
            (subst (λ m. SameEnd (seat seats 0) m r.session) (sym here_y)
            (record { post = refl; kept = refl; link = refl; breaks = refl; notice = refl }))
        by_node (inr ne) =
            subst (λ m. SameEnd (seat seats r.node) m r.session) (sym (seat_elsewhere 0 r.node ny seats ne))
            (end_refl (seat seats r.node) r.session)

    long_y : (k : ℕ) → k < length seats_y → IsLong (seat seats_y k)
    long_y k less = by_node (cases_eq k 0) (subst (λ m. k < m) (length-set seats 0 ny) less)
      where
        by_node : (k ≡ 0) ⊎ (k ≢ 0) → k < length seats → IsLong (seat seats_y k)
        by_node (inl e) less =
            let l = stands.long 0 some_seats in
            subst (λ k. IsLong (seat seats_y k)) (sym e) (subst IsLong (sym here_y) (record {
              posts = l.posts ∙ ap (λ x. length (others_of x)) who_is;
              kept = l.kept ∙ ap (λ x. length (others_of x)) who_is;
              breaks = l.breaks ∙ ap (λ x. length (others_of x)) who_is;
              links = l.links ∙ ap (λ x. length (others_of x)) who_is;
              notices = l.notices ∙ ap (λ x. length (others_of x)) who_is;
            }))
        by_node (inr ne) less = subst IsLong (sym (seat_elsewhere 0 k ny seats ne)) (stands.long k less)

    fit_y : AreFit seats_y
    fit_y = record {
      long = long_y;
      vacant = λ p none.
          vacant_same (seat seats p.node) (seat seats_y p.node) p.session (same_ends p)
          ((seats_fit seats w stands).vacant p (sym (same_other_y p) ∙ none));
    }

    place_before : (p : SessionPlace) → IsPlace seats_y p → IsPlace seats p
    place_before p is = place_with seats p (other_at seats_y p) (sym (same_other_y p) ∙ is.somebody)

    end_y : (p : SessionPlace) → IsPlace seats_y p → EndAt v seats_y p
    end_y p is =
        let h = end_at seats w stands p (place_before p is) in
        let same = same_ends p in
        record {
          session = h.session;
          found = (λ i. session_of w ((same_there p.node).name i) (unwrap_or (same_other_y p i) [])) ∙ h.found;
          is = record {
            phase = h.is.phase ∙ ap (λ (p : Post). p.phase) (sym same.post);
            sent = h.is.sent ∙ ap (λ (p : Post). p.sent) (sym same.post);
            held = h.is.held ∙ ap (λ (p : Post). p.held) (sym same.post);
            notice = h.is.notice ∙ sym same.notice;
            flight = same.link ∙ h.is.flight
                ∙ (λ j. map (λ m. (same_there p.node).octets (is_peering h.session) m j) h.session.near.flight);
            breaks = h.is.breaks ∙ sym same.breaks;
            taken = h.is.taken ∙ (λ j. cond (sym same.notice j) 0 (length (sym same.kept j)));
          };
        }

    part_y : (p : SessionPlace) → IsPlace seats_y p → KeepsPart seats_y p
    part_y p is far found =
        part_same (seat seats p.node) (seat seats_y p.node) p.session (seat seats far.node) (seat seats_y far.node) far.session
        (same_ends p) (same_ends far).link (part_before (place_before p is) (sym (same_far p) ∙ found))
      where
        part_before : IsPlace seats p → far_of seats p ≡ Some far → IsPart (seat seats p.node) p.session (seat seats far.node) far.session
        part_before is found =
            stands.parts p.node p.session is.node (subst (λ m. p.session < m) (sym (stands.long p.node is.node).posts) is.session)
            far found

    pub stands_y : Seats seats_y v
    stands_y = seats_by_places seats_y v who_y fit_y end_y part_y

-- ---- its pass
first_some : (cs : List NodeId) → 0 < length cs → (b : Name) × (slice_index_or (names_of cs) 0 None ≡ Some b)
first_some [] lt = absurd (omega (arith, lt))
first_some (c ∷ cs) lt = (c.name, refl)

module _ (facts : Facts) (seats : List Seat) (v : MachineState) (stands : Seats seats v) (sound : IsSound v)
    (later : IsMoment (pass config v)) (n' : Seat) (stepped : IsStepped (seat seats 0) n' 0 (as_it_is (seat seats 0)))
    (swept : AreSwept n'.posts (seat seats 0).kept n'.kept) where
  right_v : IsRight v
  right_v = record {
    written = facts.moments.written (pass config v) later;
    numbers = facts.moments.numbers (pass config v) later;
    sessions = sym (pass_nodes config v) ∙ facts.moments.sessions (pass config v) later;
    quiet = all_quiet v sound;
  }

  -- its first session
  abbrev p : SessionPlace
  p = record { node = 0; session = 0 }

  is : IsPlace seats p
  is =
      let first = first_some v.setup.topology.controllers (some_controllers v.setup.topology right_v.written.topology) in
      place_with seats p first.0
      (ap (λ (who : Who). slice_index_or (others_of who) 0 None) (who_is seats v stands) ∙ first.1)

  pub configured_stands : Seats (cleared (with_seat 0 n' seats) 0) (pass config v)
  configured_stands =
      subst (λ (name : Name). Seats (cleared (with_seat 0 n' seats) 0) (pass name v)) (ap name_of (who_is seats v stands))
      (told_anew facts.wired seats v right_v sound stands 0 is n' stepped swept)

-- ---- a compute node moves, or none does
module _ (facts : Facts) (seats : List Seat) (w : MachineState) (moment : IsMoment w) (stands : Seats seats w) (e : Edit)
    (form : EditIsValid IsOfForm w (Edits e)) (none : edit_fault (checked w.setup) e ≡ None) where
  abbrev now : Setup
  now = setup_after w.setup e

  abbrev then : Option Move → MachineState
  then move = events.moved move (record { setup = now; sessions = w.sessions })

  unmoved_now : moves e w.setup.topology ≡ None
      → now ≡ y seats w stands (config_edits.edited e (checked w.setup)).config
  unmoved_now is =
      λ i. record {
        topology = unmoved (checked w.setup) e (right_computers w (moment_right facts.moments w moment)) is i;
        config = (config_edits.edited e (checked w.setup)).config;
        numbers = renumbered (is i) w.setup.numbers;
      }

  moved_or_not : (move : Option Move) → moves e w.setup.topology ≡ move → (after : List Seat)
      → MovesIf (config_edits.edited e (checked w.setup)).topology move seats after
      → Seats (reconfigured (checked now) after) (then move)
  moved_or_not None is after made =
      subst (λ after. Seats (reconfigured (checked now) after) (then None)) (sym made)
      (subst (λ (z : Setup). Seats (reconfigured (checked z) seats) (record { setup = z; sessions = w.sessions })) (sym (unmoved_now is))
      (stands_y seats w stands (config_edits.edited e (checked w.setup)).config))
  moved_or_not (Some m) is after made = moved_stands facts seats w moment stands e form none m is after made

-- ---- the events
edit_step : (w : MachineState) (e : Edit) (o : Option EditFault) → edit_fault (checked w.setup) e ≡ o
    → (next message_size w (Edits e) ≡ edits (moves e w.setup.topology) (edited_without o w.setup e) w)
    × (answer_to w (Edits e) ≡ edit_answer o)
unfolding next
edit_step w e o is = (ap (λ o. edits (moves e w.setup.topology) (edited_without o w.setup e) w) is, ap edit_answer is)

pub faulty_edits_are_refused : FaultyEditsAreRefused
faulty_edits_are_refused w e f is = edit_step w e (Some f) is

pub edits_are_made : Facts → EditsAreMade
edits_are_made facts seats w moment stands e form none after makes =
    let step = edit_step w e None none in
    let later = facts.moments.after w (Edits e) moment form in
    let move = moves e w.setup.topology in
    let x = config_edits.edited e (checked w.setup) in
    let moved_seats = makes.moved in
    let node = makes.configures.node in
    let v = then facts seats w moment stands.seats_are e form none move in
    let sound : IsSound v =
    moved_sound message_size positive move (record { setup = setup_after w.setup e; sessions = w.sessions }) (moment_sound w moment)
    in
    let stands_v : Seats (reconfigured x moved_seats) v =
    moved_or_not facts seats w moment stands.seats_are e form none move refl moved_seats makes.moves
    in
    let some : 0 < length moved_seats =
    subst (λ m. 0 < m) (length-set moved_seats 0 (record (seat moved_seats 0) { who = Configuring x }))
    (some_seats (reconfigured x moved_seats) v stands_v)
    in
    let first : seat (reconfigured x moved_seats) 0 ≡ record (seat moved_seats 0) { who = Configuring x } =
    seat_here 0 (record (seat moved_seats 0) { who = Configuring x }) moved_seats some
    in
    let passed : Seats (cleared (with_seat 0 node (reconfigured x moved_seats)) 0) (pass config v) =
    configured_stands facts (reconfigured x moved_seats) v stands_v sound (subst IsMoment step.0 later) node
    (subst (λ (n : Seat). IsStepped n node 0 (as_it_is n)) (sym first) makes.configures.stepped)
    (subst (λ (n : Seat). AreSwept node.posts n.kept node.kept) (sym first) makes.configures.swept)
    in
    let same : after ≡ cleared (with_seat 0 node (reconfigured x moved_seats)) 0 =
    makes.is
    ∙ ap (λ ss. cleared ss 0)
    (makes.configures.is ∙ sym (set-set moved_seats 0 (record (seat moved_seats 0) { who = Configuring x }) node))
    in (
      stands_at after (next message_size w (Edits e)) later
          (subst (λ ss. Seats ss (next message_size w (Edits e))) (sym same)
          (subst (Seats (cleared (with_seat 0 node (reconfigured x moved_seats)) 0)) (sym step.0) passed)),
      later,
      step.1,
    )
