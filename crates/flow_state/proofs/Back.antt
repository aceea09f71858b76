-- What a table of flows changes.
use Rattle.std.proofs.Common.{◌≡◌, ◌≢◌, ◌↔◌, Bool, true, false, cond, IsTrue, List, reverse, get_or, Option, Some, None, refl, sym, ap, ◌∙◌}
use Rattle.std.specs.List.{All, Contains}
use Rattle.std.specs.Option.{option_map_or}
use Rattle.std.proofs.lemmas.List.Elements.{All-contains}
use Rattle.ov_types.proofs.FirstLemmas.{found_is, find_none}
use Rattle.ov_types.specs.declared.numbers.PortNo.{PortNo}
use Rattle.ov_types.specs.declared.numbers.ServiceNo.{ServiceNo}
use Rattle.ov_types.specs.declared.packet.Outcome.{Outcome}
use Rattle.ov_types.specs.declared.packet.Outcome.TheVariants.{Delivered, Dropped}
use Rattle.ov_types.specs.declared.packet.Packet.{Packet}
use Rattle.ov_types.specs.declared.packet.RuleNo.{RuleNo}
use Rattle.ov_types.specs.declared.packet.Why.{Why}
use Rattle.ov_types.specs.declared.packet.Why.TheVariants.{NoSourcePort, NoDestination, NoRoute, Denied, NoLabel, TtlExpired}
use Rattle.config_types.specs.Form.{has_config_form}
use Rattle.config_types.specs.declared.config.Config.{Config}
use Rattle.config_types.specs.declared.topology.Topology.{Topology}
use Rattle.config_check.specs.Rules.{first_broken}
use Rattle.reach_plain.specs.Reachability.{reachability}
use Rattle.flow_state.specs.declared.flow.Flow.{Flow}
use Rattle.flow_state.specs.Flows.{PermitsOneWay, answered, back_through, flow_outcome, let_back, outcome_beside, replies, reply_packet, returned, standing}
use Rattle.flow_state.specs.Laws.{IsLetBack, IsNoDenial}
use Rattle.flow_state.proofs.Replies.{answered_is, held, reply_has_candidate, reply_is, reply_of}

pub stays_delivered : (c : Config) (flows : List Flow) (p : Packet) (number : PortNo) (services : List ServiceNo)
    → reachability c p ≡ Delivered number services → flow_outcome c flows p ≡ Delivered number services
unfolding flow_outcome
stays_delivered c flows p number services e = ap (λ (o : Outcome). outcome_beside c o (let_back c flows p o)) e

unmoved : (c : Config) (flows : List Flow) (p : Packet) (why : Why) → IsNoDenial why → outcome_beside c (Dropped why) (let_back c flows p (Dropped why)) ≡ Dropped why
unmoved c flows p NoSourcePort h = refl
unmoved c flows p NoDestination h = refl
unmoved c flows p NoRoute h = refl
unmoved c flows p NoLabel h = refl
unmoved c flows p TtlExpired h = refl
unmoved c flows p (Denied rule) h = absurd h

pub stays_dropped : (c : Config) (flows : List Flow) (p : Packet) (why : Why) → IsNoDenial why → reachability c p ≡ Dropped why → flow_outcome c flows p ≡ Dropped why
unfolding flow_outcome
stays_dropped c flows p why h e = ap (λ (o : Outcome). outcome_beside c o (let_back c flows p o)) e ∙ unmoved c flows p why h

pub returned_is : (c : Config) (f : Flow) (plain : Outcome) (h : PermitsOneWay c f) → returned c f plain ≡ Delivered f.source (reverse h.services)
returned_is c f plain h =
    ap (λ (o : Option Packet). option_map_or (λ p. back_through f.source (reachability c p)) o plain) h.forward
    ∙ ap (back_through f.source) h.delivered

module _ (t : Topology) (c : Config) (flows : List Flow) (p : Packet) (form : IsTrue (has_config_form c)) (kept : first_broken t c ≡ None) (all : All (PermitsOneWay c) flows) where
  pub answered_holds : (f : Flow) → Contains flows f → reply_packet c f ≡ Some p → answered c flows p ≡ Some f
  answered_holds f stands reply =
      sym (answered_is t c form kept flows p all)
      ∙ ap (λ (o : Option Flow). standing o flows) (reply_has_candidate t c form kept p f (All-contains (PermitsOneWay c) flows f all stands) reply)
      ∙ ap (λ (b : Bool). cond b (Some f) None) (held t c form kept f flows stands)

  module _ (rule : Option RuleNo) (e : reachability c p ≡ Dropped (Denied rule)) where
    beside : (o : Option Flow) → answered c flows p ≡ o → flow_outcome c flows p ≡ outcome_beside c (Dropped (Denied rule)) o
    unfolding flow_outcome
    beside o a = ap (λ (x : Outcome). outcome_beside c x (let_back c flows p x)) e ∙ ap (outcome_beside c (Dropped (Denied rule))) a

    passed : (f : Flow) → answered c flows p ≡ Some f → (h : PermitsOneWay c f) → flow_outcome c flows p ≡ Delivered f.source (reverse h.services)
    passed f a h = beside (Some f) a ∙ returned_is c f (Dropped (Denied rule)) h

    passes_by : (o : Option Flow) (number : PortNo) (services : List ServiceNo) → answered c flows p ≡ o → flow_outcome c flows p ≡ Delivered number services → IsLetBack c flows p number services
    passes_by None number services a h = let never : Dropped (Denied rule) ≡ Delivered number services = sym (beside None a) ∙ h in cc
    passes_by (Some f) number services a h =
        let found = found_is (λ f. replies c p f) flows f a in
        let permit = All-contains (PermitsOneWay c) flows f all found.1 in
        let same : Delivered f.source (reverse permit.services) ≡ Delivered number services = sym (passed f a permit) ∙ h in
        let source : f.source ≡ number = cc in
        let back : reverse permit.services ≡ services = cc in
        record {
          flow = f;
          stands = found.1;
          reply = reply_is c p f found.0;
          source = source;
          forward = permit.packet;
          forward_is = permit.forward;
          through = permit.services;
          delivered = permit.delivered;
          back = back;
        }

    let_through : (number : PortNo) (services : List ServiceNo) → IsLetBack c flows p number services → flow_outcome c flows p ≡ Delivered number services
    let_through number services h =
        let a : answered c flows p ≡ Some h.flow = answered_holds h.flow h.stands h.reply in
        beside (Some h.flow) a
        ∙ ap (λ (o : Option Packet). option_map_or (λ p. back_through h.flow.source (reachability c p)) o (Dropped (Denied rule))) h.forward_is
        ∙ ap (back_through h.flow.source) h.delivered
        ∙ ap (λ n. Delivered n (reverse h.through)) h.source
        ∙ ap (λ l. Delivered number l) h.back

    pub passes : (number : PortNo) (services : List ServiceNo) → (flow_outcome c flows p ≡ Delivered number services) ↔ IsLetBack c flows p number services
    passes number services = (passes_by (answered c flows p) number services refl, let_through number services)

    none_by : (o : Option Flow) → answered c flows p ≡ o → flow_outcome c flows p ≡ Dropped (Denied rule) → All (λ f. reply_packet c f ≢ Some p) flows
    none_by None a h = λ k d lt reply.
        let fails : replies c p (get_or flows k d) ≡ false = (find_none (λ f. replies c p f) flows).0 a k d lt in
        let yes : replies c p (get_or flows k d) ≡ true = reply_of c p (get_or flows k d) reply in
        let clash : true ≡ false = sym yes ∙ fails in
        absurd cc
    none_by (Some f) a h =
        let found = found_is (λ f. replies c p f) flows f a in
        let permit = All-contains (PermitsOneWay c) flows f all found.1 in
        let never : Delivered f.source (reverse permit.services) ≡ Dropped (Denied rule) = sym (passed f a permit) ∙ h in
        cc

    kept_by : (o : Option Flow) → answered c flows p ≡ o → All (λ f. reply_packet c f ≢ Some p) flows → flow_outcome c flows p ≡ Dropped (Denied rule)
    kept_by None a h = beside None a
    kept_by (Some f) a h =
        let found = found_is (λ f. replies c p f) flows f a in
        absurd (All-contains (λ f. reply_packet c f ≢ Some p) flows f h found.1 (reply_is c p f found.0))

    pub stays : (flow_outcome c flows p ≡ Dropped (Denied rule)) ↔ All (λ f. reply_packet c f ≢ Some p) flows
    stays = (none_by (answered c flows p) refl, kept_by (answered c flows p) refl)
