-- What holds of a moment of any schedule: of the answer to the next event, and of the moment after it.
use Rattle.std.specs.Prelude.{◌≡◌, List, map, true, IsTrue, ⊤}
use Rattle.std.specs.declared.option.Option.{Option}
use Rattle.std.specs.declared.option.Option.TheVariants.{Some, None}
use Rattle.std.specs.List.{list_all}
use Rattle.std.proofs.Common.{refl, sym, ap, subst, ◌∙◌}
use Rattle.ov_types.specs.declared.numbers.PortNo.{PortNo}
use Rattle.ov_types.specs.declared.numbers.ServiceNo.{ServiceNo}
use Rattle.ov_types.specs.declared.packet.Outcome.{Outcome}
use Rattle.ov_types.specs.declared.packet.Outcome.TheVariants.{Delivered, Dropped}
use Rattle.ov_types.specs.declared.packet.Packet.{Packet}
use Rattle.route_targets.specs.Forwarding.{forwarding}
use Rattle.config_types.specs.Form.{has_event_form}
use Rattle.config_types.specs.declared.edit.Edit.{Edit}
use Rattle.config_types.specs.declared.event.Event.{Event as Written}
use Rattle.config_types.specs.declared.event.Event.TheVariants as written
use Rattle.config_check.specs.Checked.{Checked}
use Rattle.schedule_script.specs.declared.breaking.Tie.{Tie}
use Rattle.machine_laws.specs.Moments.{SettleSettles, SettlesInTime}
use Rattle.machine_laws.specs.Headline.{IsWritten}
use Rattle.machine_laws.proofs.Written.{written_rounds_settle, written_settle_settles}
use Rattle.machine_laws.specs.MachineModel.Events.{Settle, answer_to, event_of, forwarders, next}
use Rattle.machine_laws.specs.MachineModel.Network.{MachineState}
use Rattle.machine_laws.specs.MachineModel.Setup.{checked, opening}
use Rattle.machine_laws.specs.MachineModel.Steps.{is_settled, settle}
use Rattle.running_nodes.specs.Stands.{message_size}
use Rattle.running_nodes.proofs.Sizes.{positive}
use Rattle.schedule_script.specs.declared.answer.Answer.{Answer}
use Rattle.schedule_script.specs.declared.answer.Answer.TheVariants.{Rounds, Traced}
use Rattle.machine_moment_laws.specs.Compiled.{AnswersCompiled}
use Rattle.machine_moment_laws.specs.Ends.{SettlesAtOnce}
use Rattle.machine_moment_laws.proofs.AsCompiled.{compiled_at}
use Rattle.schedule_script.specs.Answers.{OfAnswer}
use Rattle.schedule_script.specs.declared.tied_answer.TiedAnswer.TheVariants.{Answered}
use Rattle.machine_laws.specs.TiedMoments.{AreJoined}
use Rattle.machine_laws.specs.Refusing.{TiedNetwork, next_tied}
use Rattle.machine_laws.proofs.Relating.{in_some, near_by, stands_port, stood}
use Rattle.machine_laws.specs.Relating.{StandsIn}
use Rattle.schedule_script.specs.Ties.{HasPort}
use Rattle.machine_laws.proofs.Refused.{among_with_ties, isolated_with_ties, joined_with_ties}
use Rattle.machine_moment_laws.specs.TiedCompiled.{EndsAtOnce, IsAsCompiled}
use Rattle.machine_moment_laws.specs.Isolated.{DeliversRelated, DeliversSoFar, DeliversTied, OfDelivery, StayJoined, StayRelated}
use Rattle.machine_moment_laws.specs.Runs.{answer_tied, configs_so_far, tie_broken, tied_moment, unless_tied}
use Rattle.machine_moment_laws.proofs.TiesKept.{asked_of_kept, asked_with_ties, kept, same_moment}

-- ---- a fact of the network's answer
edit_or_tie : (Fact : Answer → Type 0) (d : Edit) (o : Option Tie) (a : Answer) → Fact a
    → OfAnswer Fact (written.Edit d) (unless_tied o a)
edit_or_tie Fact d None a h = h
edit_or_tie Fact d (Some tie) a h = tt

pub of_answer : (Fact : Answer → Type 0) (s : TiedNetwork) (e : Written) → Fact (answer_to s.network (event_of e))
    → OfAnswer Fact e (answer_tied s (event_of e))
of_answer Fact s (written.Edit d) h =
    edit_or_tie Fact d (tie_broken s (event_of (written.Edit d))) (answer_to s.network (event_of (written.Edit d))) h
of_answer Fact s (written.Deliver from to n) h = h
of_answer Fact s (written.DeliverOctets from to n) h = h
of_answer Fact s (written.Lose a b) h = h
of_answer Fact s (written.Connect a b) h = h
of_answer Fact s (written.Restart name) h = h
of_answer Fact s written.Round h = h
of_answer Fact s written.Settle h = h
of_answer Fact s (written.Show name) h = h
of_answer Fact s (written.Trace p) h = h
of_answer Fact s (written.Break from to n) h = h

-- ---- a delivery
delivered_as : (Joins : PortNo → PortNo → Type 0) (w : MachineState) (p : Packet)
    → ((q : PortNo) (services : List ServiceNo) → forwarding (forwarders w) p ≡ Delivered q services → Joins p.source q)
    → (o : Outcome) → forwarding (forwarders w) p ≡ o → OfDelivery Joins (written.Trace p) (Answered (Traced o))
delivered_as Joins w p h (Delivered q services) is = h q services is
delivered_as Joins w p h (Dropped why) is = tt

pub of_delivery : (Joins : PortNo → PortNo → Type 0) (s : TiedNetwork)
    → ((p : Packet) (q : PortNo) (services : List ServiceNo) → forwarding (forwarders s.network) p ≡ Delivered q services
    → Joins p.source q)
    → (e : Written) → OfDelivery Joins e (answer_tied s (event_of e))
of_delivery Joins s h (written.Trace p) =
    delivered_as Joins s.network p (h p) (forwarding (forwarders s.network) p) refl
of_delivery Joins s h (written.Edit d) = tt
of_delivery Joins s h (written.Deliver from to n) = tt
of_delivery Joins s h (written.DeliverOctets from to n) = tt
of_delivery Joins s h (written.Lose a b) = tt
of_delivery Joins s h (written.Connect a b) = tt
of_delivery Joins s h (written.Restart name) = tt
of_delivery Joins s h written.Round = tt
of_delivery Joins s h written.Settle = tt
of_delivery Joins s h (written.Show name) = tt
of_delivery Joins s h (written.Break from to n) = tt

-- ---- `settle` ends settled
ends_settled : (w : MachineState) → SettleSettles w → (e : Written) (w' : MachineState) → w' ≡ next message_size w (event_of e)
    → SettlesAtOnce w e (answer_to w (event_of e)) w'
unfolding next
ends_settled w s written.Settle w' leads = record {
  rounds = (settle w).0;
  is = ap (λ b. Rounds (settle w).0 b) s.0;
  few = s.1;
  settled = ap is_settled leads ∙ s.0;
}
ends_settled w s (written.Show name) w' leads = tt
ends_settled w s (written.Trace p) w' leads = tt
ends_settled w s (written.Edit d) w' leads = tt
ends_settled w s (written.Deliver from to n) w' leads = tt
ends_settled w s (written.DeliverOctets from to n) w' leads = tt
ends_settled w s (written.Lose a b) w' leads = tt
ends_settled w s (written.Connect a b) w' leads = tt
ends_settled w s (written.Restart name) w' leads = tt
ends_settled w s written.Round w' leads = tt
ends_settled w s (written.Break from to n) w' leads = tt

-- the network goes on as the one without ties does; of an edit nothing is asked
ends_next : (s : TiedNetwork) → SettleSettles s.network → (e : Written)
    → EndsAtOnce s e (answer_tied s (event_of e)) (next_tied message_size s (event_of e))
ends_next s h (written.Edit d) =
    edit_or_tie (λ a. ⊤) d (tie_broken s (event_of (written.Edit d))) (answer_to s.network (event_of (written.Edit d))) tt
ends_next s h (written.Show name) = tt
ends_next s h (written.Trace p) = tt
ends_next s h (written.Deliver from to n) = tt
ends_next s h (written.DeliverOctets from to n) = tt
ends_next s h (written.Lose a b) = tt
ends_next s h (written.Connect a b) = tt
ends_next s h (written.Restart name) = tt
ends_next s h written.Round = tt
ends_next s h written.Settle = ends_settled s.network h written.Settle (next message_size s.network Settle) refl
ends_next s h (written.Break from to n) = tt

-- ---- a moment
module _ (x : Checked) (valid : IsWritten (opening x)) (es : List Written) (forms : IsTrue (list_all has_event_form es)) where
  abbrev s : TiedNetwork
  s = tied_moment x es

  pub tied_rounds : SettlesInTime message_size s.network
  tied_rounds =
      subst (SettlesInTime message_size) (sym (same_moment x es))
      (written_rounds_settle message_size positive x valid (map event_of (kept x es)) (asked_of_kept x valid es forms))

  tied_settles : SettleSettles s.network
  tied_settles =
      subst SettleSettles (sym (same_moment x es))
      (written_settle_settles message_size positive x valid (map event_of (kept x es)) (asked_of_kept x valid es forms))

  kept_compiled : is_settled s.network ≡ true → (e : Written)
      → AnswersCompiled (checked s.network.setup) e (answer_to s.network (event_of e))
  kept_compiled =
      subst (λ (w : MachineState). is_settled w ≡ true → (e : Written) → AnswersCompiled (checked w.setup) e (answer_to w (event_of e)))
      (sym (same_moment x es))
      (compiled_at x valid (map event_of (kept x es)) (asked_of_kept x valid es forms))

  pub compiled_here : (e : Written) → IsAsCompiled s e (answer_tied s (event_of e))
  compiled_here e = λ settled. of_answer (AnswersCompiled (checked s.network.setup) e) s e (kept_compiled settled e)

  pub ends_here : (e : Written) → EndsAtOnce s e (answer_tied s (event_of e)) (next_tied message_size s (event_of e))
  ends_here e = ends_next s tied_settles e

  pub joined_here : (e : Written) → DeliversTied s.ties e (answer_tied s (event_of e))
  joined_here e =
      of_delivery (AreJoined s.ties) s
      (joined_with_ties message_size positive x valid (map event_of es) (asked_with_ties x valid es forms)) e

  stay_joined : (p : Packet) (q : PortNo) (services : List ServiceNo)
      → forwarding (forwarders s.network) p ≡ Delivered q services → StayJoined (configs_so_far x es) p.source q
  stay_joined p q services is =
      let asked = asked_with_ties x valid es forms in
      record {
        stood = isolated_with_ties message_size positive x valid (map event_of es) asked p q services is;
        near = among_with_ties message_size positive x valid (map event_of es) asked p q services is;
      }

  pub isolated_here : (e : Written) → DeliversSoFar x es e (answer_tied s (event_of e))
  isolated_here e = of_delivery (StayJoined (configs_so_far x es)) s stay_joined e

  stay_related : (p : Packet) (q : PortNo) (services : List ServiceNo)
      → forwarding (forwarders s.network) p ≡ Delivered q services → StayRelated (configs_so_far x es) p.source q
  stay_related p q services is =
      let cs = configs_so_far x es in
      let joined = stay_joined p q services is in
      record {
        stood = stood cs p.source q joined.stood;
        near = λ m n a b. near_by cs m n (joined.near m n
            (in_some (λ c. StandsIn c p.source m) (λ c. HasPort c p.source m) (λ c h. stands_port c p.source m h) cs a)
            (in_some (λ c. StandsIn c q n) (λ c. HasPort c q n) (λ c h. stands_port c q n h) cs b));
      }

  pub related_here : (e : Written) → DeliversRelated x es e (answer_tied s (event_of e))
  related_here e = of_delivery (StayRelated (configs_so_far x es)) s stay_related e
