-- What is told of packets has names of the form of names, and numbers of the sizes of their types.
use Rattle.std.proofs.Common.{◌≡◌, inl, inr, ℕ, ◌==◌, ◌&&◌, ◌||◌, leb, Bool, true, false, List, [], ◌∷◌, Option, Some, None, flat_map, refl, sym, subst, arith}
use Rattle.std.specs.Prelude.{find, option_map}
use Rattle.std.specs.List.{list_all}
use Rattle.std.proofs.lemmas.Bool.{and_from, and_parts, le-leb, leb-true}
use Rattle.ov_types.specs.First.{same_name}
use Rattle.ov_types.specs.Name.{is_name}
use Rattle.ov_types.specs.declared.numbers.PortNo.{PortNo}
use Rattle.ov_types.specs.declared.numbers.ServiceNo.{ServiceNo}
use Rattle.ov_types.specs.declared.packet.Outcome.{Outcome}
use Rattle.ov_types.specs.declared.packet.Outcome.TheVariants.{Delivered, Dropped}
use Rattle.ov_types.specs.declared.packet.Packet.{Packet}
use Rattle.ov_types.specs.declared.packet.RuleNo.{RuleNo}
use Rattle.ov_types.specs.declared.packet.Tuple.{Tuple}
use Rattle.ov_types.specs.declared.packet.Why.TheVariants.{NoSourcePort, NoDestination, NoRoute, Denied, NoLabel, TtlExpired}
use Rattle.ov_types.proofs.FirstLemmas.{contains_at, found_is}
use Rattle.config_types.specs.Form.{has_config_form, has_port_form}
use Rattle.config_types.specs.declared.config.Action.{Action}
use Rattle.config_types.specs.declared.config.Action.TheVariants.{Pass, Deny, Through}
use Rattle.config_types.specs.declared.config.Config.{Config}
use Rattle.config_types.specs.declared.config.Network.{Network}
use Rattle.config_types.specs.declared.config.Policy.{Policy}
use Rattle.config_types.specs.declared.config.Port.{Port}
use Rattle.config_types.specs.declared.topology.Topology.{Topology}
use Rattle.config_check.specs.Finding.{network_named, port_numbered}
use Rattle.config_check.specs.Rules.{first_broken, holds_address}
use Rattle.policy_rules.specs.Matching.{deciding}
use Rattle.policy_rules.specs.Related.{are_related, rules_between}
use Rattle.policy_rules.specs.Taking.{IsDeciding}
use Rattle.policy_rules.specs.declared.matching.Match.{Match}
use Rattle.policy_rules.specs.declared.numbered.NumberedRule.{NumberedRule}
use Rattle.policy_rules.proofs.Taking.{deciding_iff}
use Rattle.reach_plain.specs.Outcomes.{Becomes, IsLetThrough, LeadsThrough, MayEnter}
use Rattle.reach_plain.specs.Reachability.{network_towards, reachability}
use Rattle.reach_plain.proofs.Becoming.{outcome_iff}
use Rattle.inspect_rules.specs.Causes.{asked, attached, between, causes, decided, failing, fails_forwards, fails_mirrored, holder, leading, leading_by, leaving, nowhere, policy_of, skipped, starting, towards}
use Rattle.inspect_rules.specs.declared.cause.Cause.{Cause}
use Rattle.inspect_rules.specs.declared.cause.Cause.TheVariants as Of
use Rattle.inspect_walks.specs.Sizes.{has_name_size}
use Rattle.inspect_json.specs.Sizes.{has_cause_size, has_outcome_size, has_rule_size, has_service_size}
use Rattle.inspect_answers.proofs.OfEach.{Each, OfSome, each_append, each_cond, each_flat, each_map, each_of, each_passes, passes_each, passes_of}
use Rattle.inspect_answers.proofs.LineSizes.{HasNetworkParts, network_form, policy_named}
use Rattle.inspect_answers.proofs.RuleSizes.{IsSizedRule, forms_of, policy_form, rule_between, services_sized}

port_bound : (q : Port) → has_port_form q ≡ true → leb q.id.0 0xffff_ffff ≡ true
unfolding has_port_form
port_bound q h =
    let by_node = and_parts (is_name q.name && leb q.id.0 524271 && is_name q.network && leb q.address.0 0xffff_ffff) (is_name q.node) h in
    let by_address = and_parts (is_name q.name && leb q.id.0 524271 && is_name q.network) (leb q.address.0 0xffff_ffff) by_node.0 in
    let by_network = and_parts (is_name q.name && leb q.id.0 524271) (is_name q.network) by_address.0 in
    let by_number = and_parts (is_name q.name) (leb q.id.0 524271) by_network.0 in
    le-leb q.id.0 0xffff_ffff (omega (arith, leb-true q.id.0 524271 by_number.1))

-- an answer for each item up to the first that has none
each_leading : {A B : Type 0} (Q : A → Type 0) (P : B → Type 0) (f : A → Option B) → ((x : A) → Q x → OfSome P (f x)) → (xs : List A) → Each Q xs
    → Each P (leading f xs)
each_leading Q P f each [] h = tt
each_leading {A} {B} Q P f each (x ∷ xs) h =
    elim (f x) as (λ o. OfSome P o → Each P (leading_by o (leading f xs))) [
      | None ↦ λ k. tt
      | Some y ↦ λ k. (k, each_leading Q P f each xs h.1)
    ] (each x h.0)

module _ (t : Topology) (c : Config) (form : has_config_form c ≡ true) (valid : first_broken t c ≡ None) where
  -- outcomes

  led : (mirrored : Bool) (action : Action) (services : List ServiceNo) → LeadsThrough c mirrored action services → list_all has_service_size services ≡ true
  led mirrored Pass services h = subst (λ (xs : List ServiceNo). list_all has_service_size xs ≡ true) (sym h) refl
  led mirrored Deny services h = absurd h
  led false (Through chain use_no) services h =
      subst (λ (xs : List ServiceNo). list_all has_service_size xs ≡ true) (sym h) (services_sized c form chain false)
  led true (Through chain use_no) services h =
      subst (λ (xs : List ServiceNo). list_all has_service_size xs ≡ true) (sym h) (services_sized c form chain true)

  entered : (own target : Network) (u : Tuple) (services : List ServiceNo) → MayEnter c own target u services → list_all has_service_size services ≡ true
  entered own target u services (inl inside) = subst (λ (xs : List ServiceNo). list_all has_service_size xs ≡ true) (sym inside.1) refl
  entered own target u services (inr across) =
      let through : IsLetThrough c own target u services = across.1 in
      led through.decider.mirrored through.decider.rule.rule.action services through.leads

  decided_number : (a b : Network) (u : Tuple) (m : Match) → IsDeciding c a b u m → has_rule_size m.rule.number ≡ true
  decided_number a b u m h = (rule_between t c form valid a b m.rule (contains_at (rules_between c a b) h.place m.rule h.stands)).number

  becomes_sized : (p : Packet) (o : Outcome) → Becomes c p o → has_outcome_size o ≡ true
  becomes_sized p (Delivered number services) h =
      let bound : leb number.0 0xffff_ffff ≡ true =
      subst (λ (n : PortNo). leb n.0 0xffff_ffff ≡ true) h.arrival_number
      (port_bound h.arrival (passes_of has_port_form c.ports h.arrival (forms_of c form).ports h.arrival_stands)) in
      and_from (leb number.0 0xffff_ffff) (list_all has_service_size services) bound (entered h.own h.target p.tuple services h.enters)
  becomes_sized p (Dropped (Denied (Some number))) h =
      subst (λ (n : RuleNo). has_rule_size n ≡ true) h.denier (decided_number h.own h.target p.tuple h.decider h.decides)
  becomes_sized p (Dropped (Denied None)) h = refl
  becomes_sized p (Dropped NoSourcePort) h = refl
  becomes_sized p (Dropped NoDestination) h = refl
  becomes_sized p (Dropped NoRoute) h = refl
  becomes_sized p (Dropped NoLabel) h = refl
  becomes_sized p (Dropped TtlExpired) h = refl

  pub outcome_sized : (p : Packet) → has_outcome_size (reachability c p) ≡ true
  outcome_sized p = becomes_sized p (reachability c p) ((outcome_iff t c p (reachability c p) form valid).0 refl)

  -- causes

  abbrev IsSizedCause : Cause → Type 0
  IsSizedCause x = has_cause_size x ≡ true

  policy_sized : (number : RuleNo) → has_name_size (policy_of c number) ≡ true
  policy_sized number =
      elim (find (λ (p : Policy). p.sequence == number.sequence) c.policies) as (λ o. find (λ (p : Policy). p.sequence == number.sequence) c.policies ≡ o
      → has_name_size (option_map (λ (p : Policy). p.name) o) ≡ true) [
        | None ↦ λ e. refl
        | Some q ↦ λ e.
            policy_named q (policy_form t c form valid q (found_is (λ (p : Policy). p.sequence == number.sequence) c.policies q e).1)
      ] refl

  skipped_sized : (a b : Network) (u : Tuple) (r : NumberedRule) → IsSizedRule r → OfSome IsSizedCause (skipped c a b u r)
  skipped_sized a b u r h =
      let sized : (has_rule_size r.number && has_name_size (policy_of c r.number)) ≡ true =
      and_from (has_rule_size r.number) (has_name_size (policy_of c r.number)) h.number (policy_sized r.number) in
      elim (failing r.rule.direction (fails_forwards a b u r.rule) (fails_mirrored a b u r.rule)) as (λ o.
      OfSome IsSizedCause (option_map (λ f. Of.Skipped r.number (policy_of c r.number) f.0 f.1) o)) [
        | None ↦ tt
        | Some f ↦ sized
      ]

  decided_sized : (a b : Network) (u : Tuple) (o : Option Match) → deciding c a b u ≡ o → Each IsSizedCause (decided c o)
  decided_sized a b u None e = tt
  decided_sized a b u (Some m) e =
      let number = decided_number a b u m ((deciding_iff c a b u m).0 e) in
      (and_from (has_rule_size m.rule.number) (has_name_size (policy_of c m.rule.number)) number (policy_sized m.rule.number), tt)

  asked_sized : (a b : Network) (u : Tuple) → Each IsSizedCause (asked c a b u)
  asked_sized a b u =
      each_append IsSizedCause (leading (skipped c a b u) (rules_between c a b)) (decided c (deciding c a b u))
      (each_leading IsSizedRule IsSizedCause (skipped c a b u) (λ r h. skipped_sized a b u r h) (rules_between c a b)
      (each_of IsSizedRule (rules_between c a b) (λ r at. rule_between t c form valid a b r at)))
      (decided_sized a b u (deciding c a b u) refl)

  between_sized : (a b : Network) (u : Tuple) → Each IsSizedCause (between c a b u)
  between_sized a b u = each_cond IsSizedCause (same_name b.name a.name) [] (asked c a b u) (λ e. tt) (λ e. asked_sized a b u)

  attached_sized : (a : Network) → HasNetworkParts a → Each IsSizedCause (attached a)
  attached_sized a h =
      each_map (λ (policy : List ℕ). is_name policy ≡ true) IsSizedCause (λ (policy : List ℕ). Of.Attached a.name policy)
      (λ policy named. and_from (is_name a.name) (is_name policy) h.name named) a.policies (passes_each is_name a.policies h.policies)

  holder_sized : (address : ℕ) (b : Network) → HasNetworkParts b → Each IsSizedCause (holder address b)
  holder_sized address b h =
      each_cond IsSizedCause (holds_address b address) (Of.Unrelated b.name ∷ attached b) [] (λ e. (h.name, attached_sized b h)) (λ e. tt)

  networks_of : Each HasNetworkParts c.networks
  networks_of = each_of HasNetworkParts c.networks (λ n at. network_form c n form at)

  nowhere_sized : (a : Network) (address : ℕ) → HasNetworkParts a → Each IsSizedCause (nowhere c a address)
  nowhere_sized a address h =
      each_append IsSizedCause (attached a) (flat_map (holder address) c.networks) (attached_sized a h)
      (each_flat HasNetworkParts IsSizedCause (holder address) (holder_sized address) c.networks networks_of)

  towards_sized : (a : Network) (p : Packet) (o : Option Network) → HasNetworkParts a → network_towards c a p.destination.0 ≡ o
      → Each IsSizedCause (towards c a p o)
  towards_sized a p None h e = nowhere_sized a p.destination.0 h
  towards_sized a p (Some b) h e =
      let is_near : Network → Bool = λ n. (same_name n.name a.name || are_related c a n) && holds_address n p.destination.0 in
      ((network_form c b form (found_is is_near c.networks b e).1).name, between_sized a b p.tuple)

  leaving_sized : (p : Packet) (source : Port) (o : Option Network) → network_named c source.network ≡ o → Each IsSizedCause (leaving c p o)
  leaving_sized p source None e = tt
  leaving_sized p source (Some a) e =
      let parts = network_form c a form (found_is (λ (n : Network). same_name n.name source.network) c.networks a e).1 in
      (parts.name, towards_sized a p (network_towards c a p.destination.0) parts refl)

  starting_sized : (p : Packet) (o : Option Port) → Each IsSizedCause (starting c p o)
  starting_sized p None = tt
  starting_sized p (Some source) = leaving_sized p source (network_named c source.network) refl

  pub causes_sized : (p : Packet) → list_all has_cause_size (causes c p) ≡ true
  unfolding causes
  causes_sized p = each_passes has_cause_size (causes c p) (starting_sized p (port_numbered c p.source.0))
