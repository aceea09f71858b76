-- Which packets use a flow.
use Rattle.std.proofs.Common.{◌≡◌, ◌≢◌, ◌↔◌, ◌⊎◌, inl, inr, ℕ, ◌&&◌, Bool, true, false, not, cond, IsTrue, List, Option, Some, None, refl, sym, ap, ◌∙◌, subst}
use Rattle.std.specs.List.{All}
use Rattle.ov_types.specs.First.{same_name}
use Rattle.ov_types.proofs.FirstLemmas.{same_name_iff, found_is}
use Rattle.ov_types.specs.declared.numbers.PortNo.{PortNo}
use Rattle.ov_types.specs.declared.packet.Outcome.{Outcome}
use Rattle.ov_types.specs.declared.packet.Outcome.TheVariants.{Delivered, Dropped}
use Rattle.ov_types.specs.declared.packet.Packet.{Packet}
use Rattle.ov_types.specs.declared.packet.Why.TheVariants.{NoSourcePort, NoDestination, NoRoute, Denied, NoLabel, TtlExpired}
use Rattle.config_types.specs.Form.{has_config_form}
use Rattle.config_types.specs.declared.config.Config.{Config}
use Rattle.config_types.specs.declared.config.Direction.{Direction}
use Rattle.config_types.specs.declared.config.Network.{Network}
use Rattle.config_types.specs.declared.config.Port.{Port}
use Rattle.config_types.specs.declared.topology.Topology.{Topology}
use Rattle.policy_rules.specs.Matching.{deciding, speaks_both_ways}
use Rattle.config_check.specs.Finding.{port_numbered}
use Rattle.config_check.specs.Rules.{first_broken}
use Rattle.reach_plain.specs.Reachability.{reachability}
use Rattle.flow_state.specs.declared.flow.Flow.{Flow}
use Rattle.flow_state.specs.Flows.{PermitsOneWay, flow_to, flow_use, forward_packet, forward_use, is_one_way, let_back, network_of, one_way_between, replies, speaks_one_way, use_beside}
use Rattle.flow_state.specs.Laws.{IsForwardUse, IsReplyUse}
use Rattle.flow_state.proofs.Back.{answered_holds}
use Rattle.flow_state.proofs.Permits.{forward_is, forward_permitted}
use Rattle.flow_state.proofs.Replies.{ported, reply_is}

use_is : (c : Config) (p : Packet) (q : PortNo) (f : Flow) → forward_use c p q ≡ Some f → flow_to p q ≡ f
use_is c p q f h = (elim (is_one_way c (flow_to p q)) as (λ b. cond b (Some (flow_to p q)) None ≡ Some f → flow_to p q ≡ f) [
  | true ↦ λ is. cc
  | false ↦ λ is. cc
]) h

other_name : (a b : List ℕ) → a ≢ b → same_name a b ≡ false
other_name a b h = elim (same_name a b) as (λ v. same_name a b ≡ v → v ≡ false) [ true ↦ λ e. absurd (h ((same_name_iff a b).0 e)) | false ↦ λ e. refl ] refl

pub one_way_is : (c : Config) (f : Flow) → PermitsOneWay c f → is_one_way c f ≡ true
one_way_is c f h =
    ap (λ (o : Option Network). one_way_between c f.tuple o (network_of c f.target)) h.own_is
    ∙ ap (λ (o : Option Network). one_way_between c f.tuple (Some h.own) o) h.target_is
    ∙ ap (λ (b : Bool). not b && speaks_one_way (deciding c h.own h.target f.tuple)) (other_name h.target.name h.own.name h.apart)
    ∙ ap speaks_one_way h.decides
    ∙ ap (λ (d : Direction). not (speaks_both_ways d)) h.one_way

module _ (t : Topology) (c : Config) (flows : List Flow) (p : Packet) (f : Flow) (form : IsTrue (has_config_form c)) (kept : first_broken t c ≡ None) (all : All (PermitsOneWay c) flows) where
  abbrev Uses : Type 0
  Uses = IsForwardUse c p f ⊎ IsReplyUse c flows p f

  uses_by : (o : Outcome) → reachability c p ≡ o → use_beside c p o (let_back c flows p o) ≡ Some f → Uses
  uses_by (Delivered q services) e h = inl (record {
    permitted = forward_permitted t c kept p q services f e h;
    forward = subst (λ (g : Flow). forward_packet c g ≡ Some p) (use_is c p q f h) (forward_is t c kept p q services e);
  })
  uses_by (Dropped (Denied rule)) e h =
      let found = found_is (λ f. replies c p f) flows f h in
      inr (record { rule = rule; denied = e; stands = found.1; reply = reply_is c p f found.0 })
  uses_by (Dropped NoSourcePort) e h = cc
  uses_by (Dropped NoDestination) e h = cc
  uses_by (Dropped NoRoute) e h = cc
  uses_by (Dropped NoLabel) e h = cc
  uses_by (Dropped TtlExpired) e h = cc

  found_uses : flow_use c flows p ≡ Some f → Uses
  unfolding flow_use
  found_uses h = uses_by (reachability c p) refl h

  of_forward : IsForwardUse c p f → flow_use c flows p ≡ Some f
  unfolding flow_use
  of_forward h =
      let one = h.permitted in
      let same : Some one.packet ≡ Some p = sym one.forward ∙ h.forward in
      let is : one.packet ≡ p = cc in
      let e : reachability c p ≡ Delivered f.target one.services = subst (λ (x : Packet). reachability c x ≡ Delivered f.target one.services) is one.delivered in
      let w = ported (λ (q : Port). record { source = f.source; destination = q.address; tuple = f.tuple }) (port_numbered c f.target.0) p h.forward in
      let flow : flow_to p f.target ≡ f = ap (λ (x : Packet). flow_to x f.target) (sym w.2) in
      ap (λ (o : Outcome). use_beside c p o (let_back c flows p o)) e
      ∙ ap (λ (g : Flow). cond (is_one_way c g) (Some g) None) flow
      ∙ ap (λ (b : Bool). cond b (Some f) None) (one_way_is c f one)

  of_reply : IsReplyUse c flows p f → flow_use c flows p ≡ Some f
  unfolding flow_use
  of_reply h =
      ap (λ (o : Outcome). use_beside c p o (let_back c flows p o)) h.denied
      ∙ answered_holds t c flows p form kept all f h.stands h.reply

  pub uses_iff : (flow_use c flows p ≡ Some f) ↔ Uses
  uses_iff = (found_uses, λ h. elim h [ inl one ↦ of_forward one | inr other ↦ of_reply other ])
