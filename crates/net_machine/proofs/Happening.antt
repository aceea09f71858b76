-- What an event makes of the state for which seats stand, and what it answers.
use Rattle.std.specs.Prelude.{◌≡◌, ◌<◌, ◌==◌, ℕ, zero, suc, List, [], ◌∷◌, Bool, true, false, cond, not, is_some}
use Rattle.std.specs.declared.option.Option.{Option}
use Rattle.std.specs.declared.option.Option.TheVariants.{Some, None}
use Rattle.std.specs.Option.{option_map, unwrap_or}
use Rattle.std.proofs.Common.{refl, sym, ◌∙◌, ap, subst}
use Rattle.config_types.specs.declared.event.Event.{Event as Written}
use Rattle.config_types.specs.declared.event.Event.TheVariants as event
use Rattle.config_check.specs.Checked.{Checked}
use Rattle.config_check.specs.Edits.{edit_fault}
use Rattle.route_targets.specs.Forwarding.{forwarding}
use Rattle.schedule_script.specs.declared.answer.Answer.{Answer}
use Rattle.schedule_script.specs.declared.answer.Answer.TheVariants.{Idle, Rounds, Shown, Traced}
use Rattle.running_nodes.specs.MachineModel.Setup.{Name, checked, longest_in}
use Rattle.running_nodes.specs.MachineModel.Session as session
use Rattle.running_nodes.specs.MachineModel.Session.{Session, shut}
use Rattle.running_nodes.specs.MachineModel.Network.{MachineState}
use Rattle.running_nodes.specs.MachineModel.Steps as steps
use Rattle.running_nodes.specs.MachineModel.Steps.{connect_found, connect_if, deliver, in_flight, is_broken, repeat, session_of, settle}
use Rattle.running_nodes.specs.MachineModel.Steps.{change_node, change_session, deliver_octets, joins, pass, session_in, with_session}
use Rattle.running_nodes.specs.MachineModel.Session.{arrived, octets_arrived}
use Rattle.running_nodes.specs.MachineModel.Events as events
use Rattle.running_nodes.specs.MachineModel.Events.{Break, Connect, Deliver, DeliverOctets, Edits as Changes, Lose, Restart}
use Rattle.running_nodes.specs.MachineModel.Events.{add_break, answer_to, edit_answer}
use Rattle.running_nodes.specs.MachineModel.Events.{event_of, is_node, lose, next, shown, unless}
use Rattle.running_nodes.specs.Seats.{Seat, seat_named}
use Rattle.running_nodes.specs.Stands.{message_size}
use Rattle.net_machine.specs.declared.ends.SessionEnds.{SessionEnds}
use Rattle.net_machine.specs.Connections.{Connects}
use Rattle.net_machine.specs.Happenings.{BreaksOn, ConnectsOn, DeliversOctetsOn, DeliversOn, EditsUnless, Happens, LosesOn}
use Rattle.net_machine.specs.Happenings.{RestartsAt}
use Rattle.net_machine.specs.Happenings.{shown_at}
use Rattle.net_machine.specs.Seating.{ends_of, order_among, turned}
use Rattle.net_machine.specs.Settling.{Settles}
use Rattle.net_machine.proofs.Connecting.{one_connected, other_earlier}
use Rattle.net_machine.proofs.Delivering.{many_delivered, octets_delivered, stays}
use Rattle.net_machine.proofs.Facts.{At, Facts, IsNotAfter, MayHappen}
use Rattle.net_machine.proofs.Named.{earlier_is}
use Rattle.net_machine.proofs.Resting.{settled_is}
use Rattle.net_machine.proofs.Rounding.{round_stands}
use Rattle.net_machine.proofs.Settled.{settle_leads}

again : (n : ℕ) (f : MachineState → MachineState) (w : MachineState) → f w ≡ w → repeat n f w ≡ w
again zero f w e = refl
again (suc n) f w e = ap (repeat n f) e ∙ again n f w e

-- where two nodes have no session, nothing is changed there
no_session : (a b : Name) (g : Session → Session) (ss : List Session) → session_in ss a b ≡ None
    → with_session a b g ss ≡ ss
no_session a b g [] e = refl
no_session a b g (s ∷ ss) e =
    elim (joins a b s) as (λ c. cond c (Some s) (cond (joins b a s) (Some (session.turned s)) (session_in ss a b)) ≡ None
    → cond c (g s ∷ ss) (cond (joins b a s) (session.turned (g (session.turned s)) ∷ ss) (s ∷ with_session a b g ss)) ≡ s ∷ ss) [
      | true ↦ λ e. cc
      | false ↦ λ e. elim (joins b a s) as (λ c. cond c (Some (session.turned s)) (session_in ss a b) ≡ None
          → cond c (session.turned (g (session.turned s)) ∷ ss) (s ∷ with_session a b g ss) ≡ s ∷ ss) [
            | true ↦ λ e. cc
            | false ↦ λ e. ap (λ ts. s ∷ ts) (no_session a b g ss e)
          ] e
    ] e

unbroken_so : (w : MachineState) (a b : Name) (n : ℕ) → session_of w a b ≡ None → next message_size w (Break a b n) ≡ w
unfolding next
unbroken_so w a b n e =
    ap (λ (ss : List Session). record { setup = w.setup; sessions = ss }) (no_session a b (add_break n) w.sessions e)

module _ (M : MachineState → Type 0) (f : Facts M) where
  -- the answer, and the state after it
  pub record Makes (w v : MachineState) (answer answer' : Answer) (after : List Seat) : Type 0 where
    pub answers : answer ≡ answer'
    pub stands : At M after v

  -- ---- deliveries
  module _ (seats after : List Seat) (w : MachineState) (a b : Name) (answer : Answer) (h : At M seats w) where
    none_in_flight : session_of w a b ≡ None → in_flight w b a ≡ 0
    none_in_flight e = ap (λ o. unwrap_or (option_map session.waiting o) 0) e

    none_delivered : session_of w a b ≡ None → deliver b a w ≡ w
    none_delivered e =
        ap (λ n. cond (n == 0) w (pass a (change_session a b arrived w))) (none_in_flight e)

    delivered_on : (n : ℕ) (o : Option SessionEnds) → ends_of seats a b ≡ o → DeliversOn o n seats answer after
        → Makes w (next message_size w (Deliver b a n)) answer (answer_to w (Deliver b a n)) after
    unfolding next
    delivered_on n None is d =
        let none = f.none seats w a b h.moment h.stands is in
        record {
          answers = d.0 ∙ ap (λ k. unless (k == 0)) (sym (none_in_flight none));
          stands = subst (At M after) (sym (again n (deliver b a) w (none_delivered none))) (stays M f seats after w d.1 h);
        }
    delivered_on n (Some e) is d =
        let s = f.says seats w a b e h.moment h.stands is in
        record {
          answers = d.0 ∙ ap (λ k. unless (k == 0))
              (s.says.waits ∙ sym (ap (λ o. unwrap_or (option_map session.waiting o) 0) s.found));
          stands = many_delivered M f n seats after w b a e h is d.1;
        }

    -- ---- octets
    no_octets : session_of w a b ≡ None → (n : ℕ) → deliver_octets message_size b a n w ≡ w
    no_octets e n =
        ap (λ k. cond (k == 0) w (pass a (change_session a b (octets_arrived message_size n) w))) (none_in_flight e)

    octets_on : (n : ℕ) → 0 < n → (o : Option SessionEnds) → ends_of seats a b ≡ o → DeliversOctetsOn o n seats answer after
        → Makes w (next message_size w (DeliverOctets b a n)) answer (answer_to w (DeliverOctets b a n)) after
    unfolding next
    octets_on n some None is d =
        let none = f.none seats w a b h.moment h.stands is in
        record {
          answers = d.0 ∙ ap (λ k. unless (k == 0)) (sym (none_in_flight none));
          stands = subst (At M after) (sym (no_octets none n)) (stays M f seats after w d.1 h);
        }
    octets_on n some (Some e) is d =
        let s = f.says seats w a b e h.moment h.stands is in
        record {
          answers = d.0 ∙ ap (λ k. unless (k == 0))
              (s.says.waits ∙ sym (ap (λ o. unwrap_or (option_map session.waiting o) 0) s.found));
          stands = octets_delivered M f seats after w b a e n h is some d.1;
        }

    -- ---- breaks
    broken_on : (n : ℕ) → 0 < n → (o : Option SessionEnds) → ends_of seats a b ≡ o → BreaksOn o n seats answer after
        → Makes w (next message_size w (Break a b n)) answer (answer_to w (Break a b n)) after
    broken_on n some None is d =
        let none = f.none seats w a b h.moment h.stands is in
        record {
          answers = d.0 ∙ ap (λ o. unless (not (is_some o))) (sym none);
          stands = subst (At M after) (sym (unbroken_so w a b n none)) (stays M f seats after w d.1 h);
        }
    broken_on n some (Some e) is d =
        let s = f.says seats w a b e h.moment h.stands is in
        record {
          answers = d.0 ∙ ap (λ o. unless (not (is_some o))) (sym s.found);
          stands = subst (λ ss. At M ss (next message_size w (Break a b n))) (sym d.1) (record {
            moment = f.next w (Break a b n) some h.moment;
            stands = f.breaks seats w a b e n h.moment h.stands is some;
          });
        }

    -- ---- lost sessions
    none_broken : session_of w a b ≡ None → is_broken w a b ≡ true
    none_broken e = ap (λ o. unwrap_or (option_map (λ (s : Session). s.is_down) o) true) e

    lost_on : (o : Option SessionEnds) → ends_of seats a b ≡ o → LosesOn o seats answer after
        → Makes w (next message_size w (Lose a b)) answer (answer_to w (Lose a b)) after
    unfolding next
    lost_on None is l =
        let none = f.none seats w a b h.moment h.stands is in
        record {
          answers = l.0 ∙ ap unless (sym (none_broken none));
          stands = subst (At M after) (sym (ap (λ o. lose o a b w) none)) (stays M f seats after w l.1 h);
        }
    lost_on (Some e) is l =
        let s = f.says seats w a b e h.moment h.stands is in
        record {
          answers = l.0 ∙ ap unless (s.says.down
              ∙ sym (ap (λ o. unwrap_or (option_map (λ (s : Session). s.is_down) o) true) s.found));
          stands = subst (λ ss. At M ss (next message_size w (Lose a b))) (sym l.1) (record {
            moment = f.next w (Lose a b) tt h.moment;
            stands = f.loses seats w a b e h.moment h.stands is;
          });
        }

  -- ---- of two nodes that have no session, neither is connected
  none_back : (seats : List Seat) (w : MachineState) (a b : Name) → At M seats w → ends_of seats a b ≡ None
      → ends_of seats b a ≡ None
  none_back seats w a b h is =
      elim (ends_of seats b a) as (λ o. ends_of seats b a ≡ o → o ≡ None) [
        | None ↦ λ _. refl
        | Some e ↦ λ at.
            let back = sym (f.turns seats w b a e h.moment h.stands at) ∙ is in
            cc
      ] refl

  none_connected : (seats : List Seat) (w : MachineState) (a b : Name) → At M seats w → ends_of seats a b ≡ None
      → connect_if a b w ≡ w
  none_connected seats w a b h is = ap (λ o. connect_found o a b w) (f.none seats w a b h.moment h.stands is)

  first_connected : (c : Bool) (seats after : List Seat) (w : MachineState) (a b : Name) (e : SessionEnds) → At M seats w
      → ends_of seats a b ≡ Some e → events.is_earlier w.sessions a b ≡ c → Connects seats (cond c e (turned e)) after
      → At M after (cond c (connect_if a b w) (connect_if b a w))
  first_connected true seats after w a b e h is first c = one_connected M f seats after w a b e h first is c
  first_connected false seats after w a b e h is first c =
      one_connected M f seats after w b a (turned e) h (other_earlier w.sessions a b first)
      (f.turns seats w a b e h.moment h.stands is) c

  connected_on : (seats after : List Seat) (w : MachineState) (order : List SessionEnds) (a b : Name) (answer : Answer)
      (o : Option SessionEnds) → At M seats w → order ≡ order_among seats w.sessions → ends_of seats a b ≡ o
      → ConnectsOn o order seats answer after
      → Makes w (next message_size w (Connect a b)) answer (answer_to w (Connect a b)) after
  unfolding next
  connected_on seats after w order a b answer None h ordered is c =
      let none = none_connected seats w a b h is in
      let back = none_connected seats w b a h (none_back seats w a b h is) in
      let same : cond (events.is_earlier w.sessions a b) (connect_if a b w) (connect_if b a w) ≡ w =
      (λ i. cond (events.is_earlier w.sessions a b) (none i) (back i))
      ∙ elim (events.is_earlier w.sessions a b) as (λ b. cond b w w ≡ w) [ true ↦ refl | false ↦ refl ] in
      record {
        answers = c.0 ∙ sym (ap (λ o. elim o as (λ (o : Option Session). Answer) [
          | Some s ↦ unless (not (steps.may_connect s))
          | None ↦ Idle
        ]) (f.none seats w a b h.moment h.stands is));
        stands = subst (At M after) (sym same) (stays M f seats after w c.1 h);
      }
  connected_on seats after w order a b answer (Some e) h ordered is c =
      let s = f.says seats w a b e h.moment h.stands is in
      let first = earlier_is M f seats w a b e order h is ordered in
      record {
        answers = c.0 ∙ ap (λ b. unless (not b)) s.says.may ∙ sym (ap (λ o. elim o as (λ (o : Option Session). Answer) [
          | Some s ↦ unless (not (steps.may_connect s))
          | None ↦ Idle
        ]) s.found);
        stands = first_connected (events.is_earlier w.sessions a b) seats after w a b e h is refl
            (subst (λ b. Connects seats (cond b e (turned e)) after) first c.1);
      }

  -- ---- at one node
  not_restarted : (w : MachineState) (name : Name) → is_node w name ≡ false → next message_size w (Restart name) ≡ w
  unfolding next
  not_restarted w name e = ap (λ b. cond b (change_node name shut w) w) e

  module _ (seats after : List Seat) (w : MachineState) (name : Name) (answer : Answer) (h : At M seats w) where
    restarted_none : is_node w name ≡ false → (answer ≡ Idle) × (after ≡ seats)
        → Makes w (next message_size w (Restart name)) answer (answer_to w (Restart name)) after
    restarted_none e r = record {
      answers = r.0 ∙ ap (λ b. unless (not b)) (sym e);
      stands = subst (At M after) (sym (not_restarted w name e)) (stays M f seats after w r.1 h);
    }

    restarted_at : (o : Option ℕ) → seat_named seats name ≡ o → RestartsAt o seats answer after
        → Makes w (next message_size w (Restart name)) answer (answer_to w (Restart name)) after
    restarted_at None is r =
        restarted_none (f.others seats w name h.moment h.stands (subst IsNotAfter (sym is) tt)) r
    restarted_at (Some zero) is r =
        restarted_none (f.others seats w name h.moment h.stands (subst IsNotAfter (sym is) tt)) r
    restarted_at (Some (suc k)) is r = record {
      answers = r.0 ∙ ap (λ b. unless (not b)) (sym (f.nodes seats w name k h.moment h.stands is).0);
      stands = subst (λ ss. At M ss (next message_size w (Restart name))) (sym r.1) (record {
        moment = f.next w (Restart name) tt h.moment;
        stands = f.restarts seats w name k h.moment h.stands is;
      });
    }

    shown_none : is_node w name ≡ false → answer ≡ Idle → answer ≡ cond (is_node w name) (Shown (shown w name)) Idle
    shown_none e a = a ∙ sym (ap (λ b. cond b (Shown (shown w name)) Idle) e)

    shown_is : (o : Option ℕ) → seat_named seats name ≡ o → answer ≡ shown_at o seats
        → answer ≡ cond (is_node w name) (Shown (shown w name)) Idle
    shown_is None is a = shown_none (f.others seats w name h.moment h.stands (subst IsNotAfter (sym is) tt)) a
    shown_is (Some zero) is a = shown_none (f.others seats w name h.moment h.stands (subst IsNotAfter (sym is) tt)) a
    shown_is (Some (suc k)) is a =
        let n = f.nodes seats w name k h.moment h.stands is in
        a ∙ ap Shown (sym n.1) ∙ sym (ap (λ b. cond b (Shown (shown w name)) Idle) n.0)

  -- ---- every event
  pub happens : (seats after : List Seat) (w : MachineState) (x : Checked) (order : List SessionEnds) (e : Written)
      (answer : Answer) → At M seats w → x ≡ checked w.setup → order ≡ order_among seats w.sessions → MayHappen (event_of e)
      → Happens x order e seats answer after
      → Makes w (next message_size w (event_of e)) answer (answer_to w (event_of e)) after
  unfolding next
  happens seats after w x order (event.Edit e) answer h setup ordered may d = record {
    answers = d.0 ∙ ap (λ y. edit_answer (edit_fault y e)) setup;
    stands = record {
      moment = f.next w (Changes e) may h.moment;
      stands = f.edits seats after w e may h.moment h.stands
          (subst (λ y. EditsUnless (edit_fault y e) seats y e after) setup d.1);
    };
  }
  happens seats after w x order (event.Deliver from to n) answer h setup ordered may d =
      delivered_on seats after w to from answer h n (ends_of seats to from) refl d
  happens seats after w x order (event.DeliverOctets from to n) answer h setup ordered may d =
      octets_on seats after w to from answer h n may (ends_of seats to from) refl d
  happens seats after w x order (event.Break from to n) answer h setup ordered may d =
      broken_on seats after w from to answer h n may (ends_of seats from to) refl d
  happens seats after w x order (event.Lose a b) answer h setup ordered may d =
      lost_on seats after w a b answer h (ends_of seats a b) refl d
  happens seats after w x order (event.Connect a b) answer h setup ordered may d =
      connected_on seats after w order a b answer (ends_of seats a b) h ordered refl d
  happens seats after w x order (event.Restart name) answer h setup ordered may d =
      restarted_at seats after w name answer h (seat_named seats name) refl d
  happens seats after w x order event.Round answer h setup ordered may d =
      record { answers = d.0; stands = (round_stands M f seats after w order h ordered d.1).1 }
  happens seats after w x order event.Settle answer h setup ordered may d =
      let l = settle_leads M f seats after w order d.rounds h ordered
      (subst (λ x. Settles (longest_in x) order seats d.rounds after) setup d.settles) in
      record {
        answers = d.answers ∙ (λ i. Rounds (sym l.count i) (settled_is M f after (settle w).1 order l.stands l.ordered i));
        stands = l.stands;
      }
  happens seats after w x order (event.Show name) answer h setup ordered may d = record {
    answers = shown_is seats after w name answer h (seat_named seats name) refl d.0;
    stands = stays M f seats after w d.1 h;
  }
  happens seats after w x order (event.Trace p) answer h setup ordered may d = record {
    answers = d.0 ∙ ap (λ fs. Traced (forwarding fs p)) (sym (f.forwards seats w h.moment h.stands));
    stands = stays M f seats after w d.1 h;
  }
