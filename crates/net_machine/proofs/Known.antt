-- What is asked of the seats of a network at a moment is known of them.
use Rattle.std.specs.Prelude.{◌≡◌, ◌≢◌, ◌<◌, ◌+◌, ◌==◌, ◌&&◌, ℕ, zero, suc, List, [], ◌∷◌, Bool, true, false, not, cond}
use Rattle.std.specs.Prelude.{drop, length, take}
use Rattle.std.specs.List.{concat}
use Rattle.std.specs.declared.option.Option.{Option}
use Rattle.std.specs.declared.option.Option.TheVariants.{Some, None}
use Rattle.std.specs.Option.{option_map, unwrap_or}
use Rattle.std.proofs.Common.{refl, sym, ◌∙◌, ap, subst, arith, inr}
use Rattle.std.proofs.lemmas.Bool.{and_parts, true≢false}
use Rattle.std.proofs.lemmas.Option.{same_Some}
use Rattle.ov_types.specs.First.{same_name}
use Rattle.ov_link.specs.declared.step.Input.{Input}
use Rattle.ov_link.specs.declared.step.Input.TheVariants.{Bytes, Closed, Opened}
use Rattle.config_types.specs.declared.edit.Edit.{Edit}
use Rattle.config_check.specs.Edits.{edit_fault}
use Rattle.config_check.specs.declared.edits.EditFault.{EditFault}
use Rattle.running_nodes.specs.MachineModel.Setup.{Name, checked}
use Rattle.running_nodes.specs.MachineModel.Session as session
use Rattle.running_nodes.specs.MachineModel.Session.{arrived, octets_arrived}
use Rattle.running_nodes.specs.MachineModel.Network.{MachineState}
use Rattle.running_nodes.specs.MachineModel.Steps as machine
use Rattle.running_nodes.specs.MachineModel.Steps.{change_session, connect_if, deliver, deliver_octets, pass}
use Rattle.running_nodes.specs.MachineModel.Events.{Connect, Deliver, DeliverOctets, Break, MachineEvent, Edits as Changes, Lose, Restart}
use Rattle.running_nodes.specs.MachineModel.Events.{Round, Settle, Show, Trace, is_node, next, shown}
use Rattle.running_nodes.proofs.MachineModel.NetworkFact.{found}
use Rattle.running_nodes.proofs.MachineModel.Twins.{itself}
use Rattle.running_nodes.specs.MachineModel.Moments.{EditIsValid}
use Rattle.running_laws.specs.MachineLaws.Headline.{IsOfForm}
use Rattle.running_nodes.specs.Seats.{Seat, is_down_at, is_live, kept_at, link_at, live_at, name_of, notice_at, seat}
use Rattle.running_nodes.specs.Seats.{seat_named}
use Rattle.running_nodes.specs.Seats.{whole_at, whole_there}
use Rattle.running_nodes.specs.Steps.{Takes, cleared, shown_by, untaken, with_link, with_notice, with_seat}
use Rattle.running_nodes.specs.Stands.{StandsFor, message_size}
use Rattle.running_nodes.specs.declared.place.SessionPlace.{SessionPlace}
use Rattle.running_laws.specs.Moments.{IsMoment}
use Rattle.running_laws.proofs.Moments.{moment_next, moment_numbers, moment_sessions, moment_written}
use Rattle.running_laws.specs.Wiring.{name_at, other_at}
use Rattle.running_laws.proofs.Written.{forwarders_are, has_far, has_session, names_differ, no_node_above, place_is, shows_at}
use Rattle.running_laws.specs.Connecting.{OpensBehind, OpensBoth}
use Rattle.running_laws.specs.Delivering as deliveries
use Rattle.running_laws.specs.Losing.{cut, restarted}
use Rattle.net_machine.specs.declared.ends.SessionEnds.{SessionEnds}
use Rattle.net_machine.specs.Connections.{ConnectsAt, ConnectsIf, OpensSecond, goes_on, may_connect}
use Rattle.net_machine.specs.Deliveries.{DeliversIf, DeliversOctetsIf, DeliversOctetsTo, DeliversTo, TakesAt}
use Rattle.net_machine.specs.Happenings.{EditsUnless}
use Rattle.net_machine.specs.Seating.{ends_of, is_down}
use Rattle.net_machine.proofs.Facts.{Facts, IsNotAfter, MayHappen}
use Rattle.net_machine.proofs.Kept.{with_there}
use Rattle.net_machine.proofs.KnownEnds.{all_stood, closed_waits, ends_are_at, ends_turn, fact_of, no_session_of, says_of}
use Rattle.net_machine.proofs.Proved.{Proved}
use Rattle.net_machine.proofs.Forms.{edited_form}

-- ---- the same, as it is said there
takes_there : (seats : List Seat) (q : SessionPlace) (input : Input) (after : List Seat) → TakesAt seats q.node input after
    → deliveries.TakesAt seats q input after
takes_there seats q input after h = record { taken = h.node; takes = h.takes; is = h.is }

-- where the near end is live still, the far one opens behind it
opens_behind : (seats : List Seat) (p q : SessionPlace) (n : Seat) (one : List Seat) (b : Bool) (after : List Seat)
    → one ≡ with_seat p.node n seats → live_at (with_seat p.node n seats) p ≡ b
    → OpensSecond b one (record { near = p; far = q }) after
    → OpensBehind b (with_seat p.node n seats) p q after
opens_behind seats p q n one true after is live o = (
  o.opens.node,
  subst (λ ss. Takes (seat ss q.node) o.opens.node (Opened q.session)) is o.opens.takes,
  o.is ∙ ap (λ ss. cleared (cleared ss p.node) q.node) (o.opens.is ∙ ap (with_seat q.node o.opens.node) is),
)
opens_behind seats p q n one false after is live o = o ∙ ap (λ ss. cleared ss p.node) is

module _ (p : Proved) (seats : List Seat) (w : MachineState) (m : IsMoment w) (st : StandsFor seats w) where
  -- ---- deliveries
  nothing_there : (from to : Name) (e : SessionEnds) → ends_of seats to from ≡ Some e → live_at seats e.near ≡ false
      → deliver from to w ≡ w
  nothing_there from to e is closed =
      let at = ends_are_at seats to from e is in
      let s = p.say seats w m st to from e.near e.far at in
      let none = closed_waits s.0 (fact_of w to from s.0 m s.1) (sym s.2.live ∙ closed) in
      ap (λ n. cond (n == 0) w (pass to (change_session to from arrived w)))
      (ap (λ o. unwrap_or (option_map session.waiting o) 0) s.1 ∙ none)

  delivers_to : (after : List Seat) (from to : Name) (e : SessionEnds) → ends_of seats to from ≡ Some e
      → (b : Bool) (messages : List (List ℕ)) → notice_at seats e.near ≡ b → link_at seats e.far ≡ messages
      → DeliversTo seats e b messages after → StandsFor after (deliver from to w)
  delivers_to after from to e is true messages notice link d =
      let at = ends_are_at seats to from e is in
      (p.notices seats w m st from to e.near e.far at notice after
      (takes_there (with_notice e.near false seats) e.near (Closed e.near.session) after d)).0
  delivers_to after from to e is false [] notice link d =
      let at = ends_are_at seats to from e is in
      let none = p.nothing seats w m st from to (inr (e.near, e.far, at, notice, link)) in
      subst (StandsFor after) (sym none.0) (subst (λ s. StandsFor s w) (sym d) st)
  delivers_to after from to e is false (octets ∷ messages) notice link d =
      let at = ends_are_at seats to from e is in
      (p.messages seats w m st from to e.near e.far at notice octets messages link d.bytes d.are after
      (takes_there (with_link e.far messages seats) e.near (Bytes e.near.session d.bytes) after d.takes)).0

  delivers_if : (after : List Seat) (from to : Name) (e : SessionEnds) → ends_of seats to from ≡ Some e
      → (b : Bool) → live_at seats e.near ≡ b → DeliversIf b seats e after → StandsFor after (deliver from to w)
  delivers_if after from to e is true live d =
      delivers_to after from to e is (notice_at seats e.near) (link_at seats e.far) refl refl d
  delivers_if after from to e is false live d =
      subst (StandsFor after) (sym (nothing_there from to e is live)) (subst (λ s. StandsFor s w) (sym d) st)

  -- ---- octets
  no_octets : (from to : Name) (e : SessionEnds) (n : ℕ) → ends_of seats to from ≡ Some e → live_at seats e.near ≡ false
      → deliver_octets message_size from to n w ≡ w
  no_octets from to e n is closed =
      let at = ends_are_at seats to from e is in
      let s = p.say seats w m st to from e.near e.far at in
      let none = closed_waits s.0 (fact_of w to from s.0 m s.1) (sym s.2.live ∙ closed) in
      ap (λ k. cond (k == 0) w (pass to (change_session to from (octets_arrived message_size n) w)))
      (ap (λ o. unwrap_or (option_map session.waiting o) 0) s.1 ∙ none)

  octets_to : (after : List Seat) (from to : Name) (e : SessionEnds) (n : ℕ) → ends_of seats to from ≡ Some e → 0 < n
      → (b : Bool) (messages : List (List ℕ)) → notice_at seats e.near ≡ b → link_at seats e.far ≡ messages
      → DeliversOctetsTo seats e n b messages after → StandsFor after (deliver_octets message_size from to n w)
  octets_to after from to e n is some true messages notice link d =
      let at = ends_are_at seats to from e is in
      subst (StandsFor after) (sym (p.notice_octets seats w m st from to e.near e.far at notice n))
      (delivers_to after from to e is true messages notice link d)
  octets_to after from to e n is some false [] notice link d =
      let at = ends_are_at seats to from e is in
      let none = p.nothing seats w m st from to (inr (e.near, e.far, at, notice, link)) in
      subst (StandsFor after) (sym (none.1 n)) (subst (λ s. StandsFor s w) (sym d) st)
  octets_to after from to e n is some false (octets ∷ messages) notice link d =
      let at = ends_are_at seats to from e is in
      let k = length (kept_at seats e.near) in
      (p.octets seats w m st from to e.near e.far at notice (λ none. absurd (no_octet (sym link ∙ none))) n some d.bytes
      (d.are ∙ ap (λ ms. take n (drop k (concat ms))) (sym link)) after
      (subst (λ ms. deliveries.TakesAt (with_link e.far (untaken (k + n) ms) seats) e.near
      (Bytes e.near.session d.bytes) after) (sym link)
      (takes_there (with_link e.far (untaken (k + n) (octets ∷ messages)) seats) e.near (Bytes e.near.session d.bytes) after
      d.takes))).0
    where
      no_octet : octets ∷ messages ≡ [] → ⊥
      no_octet none = cc

  octets_if : (after : List Seat) (from to : Name) (e : SessionEnds) (n : ℕ) → ends_of seats to from ≡ Some e → 0 < n
      → (b : Bool) → live_at seats e.near ≡ b → DeliversOctetsIf b seats e n after
      → StandsFor after (deliver_octets message_size from to n w)
  octets_if after from to e n is some true live d =
      octets_to after from to e n is some (notice_at seats e.near) (link_at seats e.far) refl refl d
  octets_if after from to e n is some false live d =
      subst (StandsFor after) (sym (no_octets from to e n is live)) (subst (λ s. StandsFor s w) (sym d) st)

  -- ---- connections
  nodes_differ : (a b : Name) (e : SessionEnds) → ends_of seats a b ≡ Some e → e.far.node ≢ e.near.node
  nodes_differ a b e is same =
      let written = moment_written w m in
      let has = moment_sessions w m in
      let at = ends_are_at seats a b e is in
      let there = place_is w.setup written (moment_numbers w m) seats st.seats_are.who a b e.near at.0 in
      let far = has_far w.setup written (moment_numbers w m) seats st.seats_are.who e.near there.is_place in
      let far_is : far.far ≡ e.far = same_Some far.far e.far (sym far.found ∙ at.1) in
      let s = has_session w written (moment_numbers w m) seats st.seats_are.who has e.near there.is_place in
      let apart = found (λ s. (same_name s.near.name s.far.name ≡ false) × (same_name s.far.name s.near.name ≡ false))
      (λ s h. (h.1, h.0)) w.sessions (name_at seats e.near) (other_at seats e.near)
      (names_differ w written (moment_numbers w m) seats st.seats_are.who has) s.session s.found in
      let one : s.session.far.name ≡ s.session.near.name =
      s.far_name ∙ sym far.name ∙ (λ i. name_of (seat seats (far_is i).node).who)
      ∙ (λ i. name_of (seat seats (same i)).who) ∙ sym s.near_name in
      true≢false (sym (itself s.session.near.name) ∙ ap (λ n. same_name s.session.near.name n) (sym one) ∙ apart.0)

  opened_still : (e : SessionEnds) (n : Seat) (opened : List Seat) → e.far.node ≢ e.near.node
      → opened ≡ with_seat e.near.node n seats → live_at opened e.far ≡ live_at seats e.far
  opened_still e n opened off is =
      ap (λ ss. live_at ss e.far) is
      ∙ ap (λ (n : Seat). is_live n e.far.session) (with_there seats e.near.node e.far.node n off)

  connects_both : (after : List Seat) (a b : Name) (e : SessionEnds) → ends_of seats a b ≡ Some e
      → may_connect seats e ≡ true → ConnectsAt seats e after → OpensBoth seats e.near e.far after
  connects_both after a b e is may c =
      let closed = and_parts (not (live_at seats e.near)) (not (live_at seats e.far)) may in
      let still = opened_still e c.first.node c.opened (nodes_differ a b e is) c.first.is in
      let quiet : live_at c.opened e.far ≡ false = still ∙ not_true (live_at seats e.far) closed.1 in
      let live = ap (λ ss. live_at ss e.near) c.first.is in
      let goes : goes_on c.opened e ≡ live_at (with_seat e.near.node c.first.node seats) e.near =
      (λ i. live i && not (quiet i)) ∙ and_true (live_at (with_seat e.near.node c.first.node seats) e.near) in
      record {
        near_node = c.first.node;
        near_takes = c.first.takes;
        behind = opens_behind seats e.near e.far c.first.node c.opened
            (live_at (with_seat e.near.node c.first.node seats) e.near) after c.first.is refl
            (subst (λ b. OpensSecond b c.opened e after) goes c.second);
      }
    where
      not_true : (b : Bool) → not b ≡ true → b ≡ false
      not_true true h = sym h
      not_true false h = refl

      and_true : (b : Bool) → (b && true) ≡ b
      and_true true = refl
      and_true false = refl

  connects_if : (after : List Seat) (a b : Name) (e : SessionEnds) → ends_of seats a b ≡ Some e → (c : Bool)
      → may_connect seats e ≡ c → ConnectsIf c seats e after → StandsFor after (connect_if a b w)
  connects_if after a b e is true may c =
      let at = ends_are_at seats a b e is in
      let s = p.say seats w m st a b e.near e.far at in
      let of = says_of p seats w m st a b e is in
      let same = same_Some of.session s.0 (sym of.found ∙ s.1) in
      p.connections seats w m st a b e.near e.far at
      (s.2.may_connect ∙ sym (of.says.may ∙ ap machine.may_connect same) ∙ may) after (connects_both after a b e is may c)
  connects_if after a b e is false may c =
      let at = ends_are_at seats a b e is in
      let s = p.say seats w m st a b e.near e.far at in
      let of = says_of p seats w m st a b e is in
      let same = same_Some of.session s.0 (sym of.found ∙ s.1) in
      let none = p.none_connected seats w m st a b e.near e.far at
      (s.2.may_connect ∙ sym (of.says.may ∙ ap machine.may_connect same) ∙ may) in
      subst (StandsFor after) (sym none) (subst (λ s. StandsFor s w) (sym c) st)

  -- ---- losses
  down_at : (a b : Name) (e : SessionEnds) → ends_of seats a b ≡ Some e → is_down_at seats e.near ≡ is_down seats e
  down_at a b e is =
      ap (λ o. not (whole_at seats e.near && whole_there seats o)) (ends_are_at seats a b e is).1

  loses_if : (a b : Name) (e : SessionEnds) → ends_of seats a b ≡ Some e → (c : Bool) → is_down seats e ≡ c
      → StandsFor (cond c seats (cut e.near e.far seats)) (next message_size w (Lose a b))
  loses_if a b e is true down =
      let at = ends_are_at seats a b e is in
      let none = (p.no_loss seats w m st a b (λ q there. subst (λ q. is_down_at seats q ≡ true)
      (same_Some e.near q (sym at.0 ∙ there)) (down_at a b e is ∙ down))).0 in
      subst (StandsFor seats) (sym none) st
  loses_if a b e is false down =
      (p.losses seats w m st a b e.near e.far (ends_are_at seats a b e is) (down_at a b e is ∙ down)).0

  -- ---- restarts, edits, and what is shown
  restarts_at : (name : Name) (k : ℕ) → seat_named seats name ≡ Some (suc k)
      → StandsFor (restarted seats (suc k)) (next message_size w (Restart name))
  restarts_at name k is = (p.restarts seats w m st name k is).0

  edits_if : (after : List Seat) (e : Edit) → MayHappen (Changes e) → (o : Option EditFault)
      → edit_fault (checked w.setup) e ≡ o → EditsUnless o seats (checked w.setup) e after
      → StandsFor after (next message_size w (Changes e))
  edits_if after e may (Some f) is d =
      subst (StandsFor after) (sym (p.refused w e f is).0) (subst (λ s. StandsFor s w) (sym d) st)
  edits_if after e may None is d =
      (p.edits seats w m st e (λ y at. edited_form w.setup y e may (moment_written w m) at) is after d).0

  node_at : (name : Name) (k : ℕ) → seat_named seats name ≡ Some (suc k)
      → (is_node w name ≡ true) × (shown w name ≡ shown_by (seat seats (suc k)))
  node_at name k is =
      elim (is_node w name) as (λ b. is_node w name ≡ b
      → (b ≡ true) × (shown w name ≡ shown_by (seat seats (suc k)))) [
        | true ↦ λ at.
            let s = shows_at w (moment_written w m) (moment_numbers w m) seats st.seats_are (moment_sessions w m) name at in
            let same : s.0 ≡ suc k = same_Some s.0 (suc k) (sym s.1.seat_is ∙ is) in
            (refl, s.1.shows ∙ ap (λ j. shown_by (seat seats j)) same)
        | false ↦ λ at.
            let none = no_node_above w (moment_written w m) (moment_numbers w m) seats st.seats_are (moment_sessions w m) name at (suc k) is in
            absurd (omega (arith, none))
      ] refl

  no_node : (name : Name) → IsNotAfter (seat_named seats name) → is_node w name ≡ false
  no_node name off =
      elim (is_node w name) as (λ b. is_node w name ≡ b → b ≡ false) [
        | true ↦ λ at.
            let s = shows_at w (moment_written w m) (moment_numbers w m) seats st.seats_are (moment_sessions w m) name at in
            absurd (not_after s.0 s.1.above (subst IsNotAfter s.1.seat_is off))
        | false ↦ λ at. refl
      ] refl
    where
      not_after : (k : ℕ) → 0 < k → IsNotAfter (Some k) → ⊥
      not_after zero above off = omega (arith, above)
      not_after (suc k) above off = off

-- what may happen leads on
asked_of : (w : MachineState) (e : MachineEvent) → IsMoment w → MayHappen e → EditIsValid IsOfForm w e
asked_of w (Changes e) m may =
    λ y at. edited_form w.setup y e may (moment_written w m) at
asked_of w (Deliver from to n) m may = tt
asked_of w (DeliverOctets from to n) m may = tt
asked_of w (Lose a b) m may = tt
asked_of w (Connect a b) m may = tt
asked_of w (Restart name) m may = tt
asked_of w Round m may = tt
asked_of w Settle m may = tt
asked_of w (Show name) m may = tt
asked_of w (Trace packet) m may = tt
asked_of w (Break from to n) m may = tt

pub known : Proved → Facts IsMoment
known p = record {
  says = λ seats w a b e m st is. says_of p seats w m st a b e is;
  none = λ seats w a b m st is. no_session_of p seats w m st a b is;
  turns = λ seats w a b e m st is. ends_turn p seats w m st a b e is;
  stood = λ seats w m st. all_stood p seats w m st;
  removes = p.removed;
  breaks = λ seats w from to e n m st is some.
      (p.breaks seats w m st from to e.near e.far (ends_are_at seats from to e is) n some).0;
  delivers_octets = λ seats after w from to e n m st is some d.
      octets_if p seats w m st after from to e n is some (live_at seats e.near) refl d;
  delivers = λ seats after w from to e m st is d.
      delivers_if p seats w m st after from to e is (live_at seats e.near) refl d;
  connects = λ seats after w a b e m st first is c.
      connects_if p seats w m st after a b e is (may_connect seats e) refl c;
  loses = λ seats w a b e m st is. loses_if p seats w m st a b e is (is_down seats e) refl;
  restarts = λ seats w name k m st is. restarts_at p seats w m st name k is;
  edits = λ seats after w e may m st d.
      edits_if p seats w m st after e may (edit_fault (checked w.setup) e) refl d;
  nodes = λ seats w name k m st is. node_at p seats w m st name k is;
  others = λ seats w name m st off. no_node p seats w m st name off;
  forwards = λ seats w m st. forwarders_are w (moment_written w m) (moment_numbers w m) seats st.seats_are (moment_sessions w m);
  next = λ w e may m. moment_next w e m (asked_of w e m may);
}
