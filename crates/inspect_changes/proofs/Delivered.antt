-- A packet between ports of two networks is delivered by what the rules between these make of its tuple.
use Rattle.std.proofs.Common.{◌≡◌, ◌≢◌, ◌↔◌, inl, inr, ℕ, eqb, Bool, true, false, cond, IsTrue, List, [], Option, Some, None, option_map, refl, sym, ap, ◌∙◌, subst, arith}
use Rattle.std.specs.List.{Any, Contains}
use Rattle.std.proofs.lemmas.Bool.{eqb-true}
use Rattle.std.proofs.lemmas.Bool.Decides.{nat_tests}
use Rattle.std.proofs.lemmas.List.Elements.{All-contains}
use Rattle.std.proofs.lemmas.Option.{none-some}
use Rattle.std.specs.Prelude.{IfSome}
use Rattle.ov_types.specs.Prefix.{contains}
use Rattle.ov_types.specs.declared.numbers.PortNo.{PortNo}
use Rattle.ov_types.specs.declared.numbers.ServiceNo.{ServiceNo}
use Rattle.ov_types.specs.declared.packet.Outcome.{Outcome}
use Rattle.ov_types.specs.declared.packet.Outcome.TheVariants.{Delivered, Dropped}
use Rattle.ov_types.specs.declared.packet.Packet.{Packet}
use Rattle.ov_types.specs.declared.prefix.Addr.{Addr}
use Rattle.ov_types.proofs.FirstLemmas.{contains_at}
use Rattle.config_types.specs.declared.config.Action.{Action}
use Rattle.config_types.specs.declared.config.Action.TheVariants.{Pass, Deny, Through}
use Rattle.config_types.specs.declared.config.Config.{Config}
use Rattle.config_types.specs.declared.config.Network.{Network}
use Rattle.config_types.specs.declared.config.Port.{Port}
use Rattle.config_check.specs.Finding.{network_named, port_numbered}
use Rattle.config_check.specs.Sentences.{IsValid}
use Rattle.config_check.proofs.Finders.{finds_network_named, finds_port_numbered}
use Rattle.policy_rules.specs.Matching.{deciding, decision_by}
use Rattle.policy_rules.specs.Related.{rules_between}
use Rattle.policy_rules.specs.Standing.{AreRelated, LetsThrough}
use Rattle.policy_rules.specs.Taking.{IsDeciding}
use Rattle.policy_rules.specs.declared.matching.Match.{Match}
use Rattle.policy_rules.proofs.Standing.{between_iff}
use Rattle.policy_rules.proofs.Taking.{deciding_iff}
use Rattle.policy_regions.specs.Claims.{effect_by, effect_of}
use Rattle.reach_plain.specs.Outcomes.{Goes, IsDelivered, IsLetThrough, LeadsThrough, Leaves, MayEnter}
use Rattle.reach_plain.specs.Reachability.{reachability, services_through}
use Rattle.reach_plain.proofs.Becoming.{outcome_iff}
use Rattle.reach_plain.proofs.Kept.{valid}
use Rattle.inspect_changes.specs.Deliveries.{GoesBetween, delivery, delivery_in}
use Rattle.inspect_changes.specs.Fates.{IsOnDifference, differences_between, fate_between, fate_by, passage}
use Rattle.inspect_changes.specs.declared.fate.Fate.{Fate}
use Rattle.inspect_changes.proofs.Differing.{fares, is_on}

one_found : {A : Type 0} (o : Option A) (x y : A) → o ≡ Some x → o ≡ Some y → x ≡ y
one_found o x y h k = let both : Some x ≡ Some y = sym h ∙ k in cc

same_number : (n : ℕ) → eqb n n ≡ true
same_number n = grind (arith, nat_tests)

-- what a rule that decides lets through

led : (c : Config) (m : Match) (action : Action) (services : List ServiceNo) → LeadsThrough c m.mirrored action services
    → passage (fate_by c (Some (decision_by m)) (effect_of action)) ≡ Some services
led c m Pass services h = ap Some (sym h)
led c m Deny services h = absurd h
led c m (Through chain use_no) services h = ap Some (through m.mirrored h) where
  through : (mirrored : Bool) → LeadsThrough c mirrored (Through chain use_no) services → services_through c chain mirrored ≡ services
  through false k = sym k
  through true k = sym k

leads : (c : Config) (m : Match) (action : Action) (services : List ServiceNo)
    → passage (fate_by c (Some (decision_by m)) (effect_of action)) ≡ Some services → LeadsThrough c m.mirrored action services × LetsThrough action
leads c m Pass services h = (let same : [] ≡ services = cc in sym same, tt)
leads c m Deny services h = absurd (none-some services h)
leads c m (Through chain use_no) services h = (through m.mirrored (let same : services_through c chain m.mirrored ≡ services = cc in same), tt) where
  through : (mirrored : Bool) → services_through c chain mirrored ≡ services → LeadsThrough c mirrored (Through chain use_no) services
  through false k = sym k
  through true k = sym k

module _ (c : Config) (p : Packet) (a b : Network) (number : ℕ) (g : GoesBetween c p a b number) where
  kept : IsValid g.topology c
  kept = valid g.topology c g.valid

  one_network : (x y : Network) → Contains c.networks x → Contains c.networks y → x.name ≡ y.name → x ≡ y
  one_network x y in_x in_y same =
      let found = finds_network_named g.topology c y.name kept in
      one_found (network_named c y.name) x y ((found.some x).1 (in_x, same)) ((found.some y).1 (in_y, refl))

  one_port : (x y : Port) → Contains c.ports x → Contains c.ports y → x.id.0 ≡ y.id.0 → x ≡ y
  one_port x y in_x in_y same =
      let found = finds_port_numbered g.topology c y.id.0 kept in
      one_found (port_numbered c y.id.0) x y ((found.some x).1 (in_x, same)) ((found.some y).1 (in_y, refl))

  one_own : (own : Network) → Leaves c p own → own ≡ a
  one_own own l =
      let sources : l.source ≡ g.leaves.source =
      one_port l.source g.leaves.source l.source_stands g.leaves.source_stands (ap (λ (n : PortNo). n.0) (l.source_number ∙ sym g.leaves.source_number)) in
      one_network own a l.own_stands g.leaves.own_stands (l.own_name ∙ ap (λ (q : Port). q.network) sources ∙ sym g.leaves.own_name)

  -- the network of the destination has its address
  addressed : Any (λ s. IsTrue (contains s p.destination.0)) b.subnets
  addressed =
      let found = finds_network_named g.topology c g.port.network kept in
      let named : network_named c g.port.network ≡ Some b = (found.some b).1 (g.stands, sym g.port_network) in
      let inside = All-contains (λ (q : Port). IfSome (network_named c q.network) (λ n. Any (λ s. contains s q.address.0 ≡ true) n.subnets)) c.ports g.port kept.inside g.port_stands in
      let there : Any (λ s. contains s g.port.address.0 ≡ true) b.subnets = subst (λ (o : Option Network). IfSome o (λ n. Any (λ s. contains s g.port.address.0 ≡ true) n.subnets)) named inside in
      subst (λ (address : Addr). Any (λ s. IsTrue (contains s address.0)) b.subnets) g.port_address there

  goes : (m : Match) → IsDeciding c a b p.tuple m → LetsThrough m.rule.rule.action → Goes c p a b
  goes m decides lets =
      let related : AreRelated c a b = record {
        differ = λ same. g.other (sym same);
        rule = m.rule;
        stands = (between_iff c a b m.rule).0 (contains_at (rules_between c a b) decides.place m.rule decides.stands);
        lets = lets;
      } in
      record { leaves = g.leaves; towards = record { stands = g.stands; near = inr related; holds = addressed } }

  by_match : (services : List ServiceNo) (o : Option Match) → deciding c a b p.tuple ≡ o
      → passage (fate_by c (option_map decision_by o) (effect_by o)) ≡ Some services → delivery_in c p number ≡ Some services
  by_match services None e k = absurd (none-some services k)
  by_match services (Some m) e k =
      let decides = (deciding_iff c a b p.tuple m).0 e in
      let by = leads c m m.rule.rule.action services k in
      let is : IsDelivered c p g.port.id services = record {
        own = a;
        target = b;
        goes = goes m decides by.1;
        enters = inr (g.other, record { decider = m; decides = decides; leads = by.0 });
        arrival = g.port;
        arrival_stands = g.port_stands;
        arrival_network = g.port_network;
        arrival_address = g.port_address;
        arrival_number = refl;
      } in
      ap (delivery number) ((outcome_iff g.topology c p (Delivered g.port.id services) g.form g.valid).1 is)
      ∙ ap (λ (n : ℕ). cond (eqb n number) (Some services) None) g.port_number
      ∙ ap (λ (q : Bool). cond q (Some services) None) (same_number number)

  delivered_is : (services : List ServiceNo) → passage (fate_between c a b p.tuple) ≡ Some services → delivery_in c p number ≡ Some services
  delivered_is services h = by_match services (deciding c a b p.tuple) refl h

  let_through : (services : List ServiceNo) → IsLetThrough c a b p.tuple services → passage (fate_between c a b p.tuple) ≡ Some services
  let_through services l =
      let decides : deciding c a b p.tuple ≡ Some l.decider = (deciding_iff c a b p.tuple l.decider).1 l.decides in
      ap (λ (o : Option Match). passage (fate_by c (option_map decision_by o) (effect_by o))) decides
      ∙ led c l.decider l.decider.rule.rule.action services l.leads

  enters_is : (target : Network) (services : List ServiceNo) → target ≡ b → MayEnter c a target p.tuple services → passage (fate_between c a b p.tuple) ≡ Some services
  enters_is target services same way =
      elim way [
        | inl inside ↦ absurd (g.other (ap (λ (n : Network). n.name) (sym same) ∙ inside.0))
        | inr by ↦ let_through services (subst (λ (n : Network). IsLetThrough c a n p.tuple services) same by.1)
      ]

  by_delivery : (port : PortNo) (services : List ServiceNo) → port.0 ≡ number → IsDelivered c p port services → passage (fate_between c a b p.tuple) ≡ Some services
  by_delivery port services at d =
      let arrives : d.arrival ≡ g.port =
      one_port d.arrival g.port d.arrival_stands g.port_stands (ap (λ (n : PortNo). n.0) d.arrival_number ∙ at ∙ sym g.port_number) in
      let target : d.target ≡ b =
      one_network d.target b d.goes.towards.stands g.stands (sym d.arrival_network ∙ ap (λ (q : Port). q.network) arrives ∙ g.port_network) in
      let own : d.own ≡ a = one_own d.own d.goes.leaves in
      enters_is d.target services target (subst (λ (n : Network). MayEnter c n d.target p.tuple services) own d.enters)

  by_outcome : (services : List ServiceNo) (o : Outcome) → reachability c p ≡ o → delivery number o ≡ Some services → passage (fate_between c a b p.tuple) ≡ Some services
  by_outcome services (Dropped why) e k = absurd (none-some services k)
  by_outcome services (Delivered port by) e k =
      elim (eqb port.0 number) as (λ q. eqb port.0 number ≡ q → cond q (Some by) None ≡ Some services → passage (fate_between c a b p.tuple) ≡ Some services) [
        | true ↦ λ at same.
            let these : by ≡ services = cc in
            by_delivery port services (eqb-true port.0 number at)
            (subst (λ (s : List ServiceNo). IsDelivered c p port s) these ((outcome_iff g.topology c p (Delivered port by) g.form g.valid).0 e))
        | false ↦ λ at same. absurd (none-some services same)
      ] refl k

  is_passage : (services : List ServiceNo) → delivery_in c p number ≡ Some services → passage (fate_between c a b p.tuple) ≡ Some services
  is_passage services h = by_outcome services (reachability c p) refl h

  pub deliveries : delivery_in c p number ≡ passage (fate_between c a b p.tuple)
  deliveries =
      elim (delivery_in c p number) as (λ o. delivery_in c p number ≡ o → o ≡ passage (fate_between c a b p.tuple)) [
        | Some services ↦ λ e. sym (is_passage services e)
        | None ↦ λ e.
            elim (passage (fate_between c a b p.tuple)) as (λ o. passage (fate_between c a b p.tuple) ≡ o → None ≡ o) [
              | None ↦ λ f. refl
              | Some services ↦ λ f. absurd (none-some services (sym e ∙ delivered_is services f))
            ] refl
      ] refl

-- two configurations

pub told : (c : Config) (a b : Network) (d : Config) (a' b' : Network) (p : Packet) (number : ℕ) (was becomes : Fate)
    → GoesBetween c p a b number → GoesBetween d p a' b' number → IsOnDifference (differences_between c a b d a' b') p.tuple was becomes
    → (delivery_in c p number ≡ passage was) × (delivery_in d p number ≡ passage becomes)
told c a b d a' b' p number was becomes g k on =
    let f = fares c a b d a' b' p.tuple g.tuple was becomes on in
    (deliveries c p a b number g ∙ ap passage f.before, deliveries d p a' b' number k ∙ ap passage f.after)

pub exact : (c : Config) (a b : Network) (d : Config) (a' b' : Network) (p : Packet) (number : ℕ)
    → GoesBetween c p a b number → GoesBetween d p a' b' number
    → (delivery_in c p number ≢ delivery_in d p number) ↔ IsOnDifference (differences_between c a b d a' b') p.tuple (fate_between c a b p.tuple) (fate_between d a' b' p.tuple)
exact c a b d a' b' p number g k =
    let old = deliveries c p a b number g in
    let new = deliveries d p a' b' number k in (
      λ differ.
          is_on c a b d a' b' p.tuple g.tuple (fate_between c a b p.tuple) (fate_between d a' b' p.tuple)
          (record { before = refl; after = refl; differ = λ same. differ (old ∙ same ∙ sym new) }),
      λ on same. (fares c a b d a' b' p.tuple g.tuple (fate_between c a b p.tuple) (fate_between d a' b' p.tuple) on).differ (sym old ∙ same ∙ new),
    )
