-- In a valid configuration no packet passes more than 15 services.
use Rattle.std.proofs.Common.{◌≡◌, inl, inr, ℕ, ◌≤◌, Bool, true, false, List, [], None, map, reverse, length, sym, refl, subst, arith}
use Rattle.std.proofs.lemmas.List.{length-map, length-reverse}
use Rattle.ov_types.specs.declared.numbers.ServiceNo.{ServiceNo}
use Rattle.ov_types.specs.declared.packet.Outcome.{Outcome}
use Rattle.ov_types.specs.declared.packet.Outcome.TheVariants.{Delivered, Dropped}
use Rattle.ov_types.specs.declared.packet.Packet.{Packet}
use Rattle.config_types.specs.declared.config.Action.{Action}
use Rattle.config_types.specs.declared.config.Action.TheVariants.{Pass, Deny, Through}
use Rattle.config_types.specs.declared.config.Config.{Config}
use Rattle.config_types.specs.declared.config.Service.{Service}
use Rattle.config_types.specs.declared.topology.Topology.{Topology}
use Rattle.chain_expand.specs.Expansion.{expansion}
use Rattle.config_check.specs.Rules.{first_broken}
use Rattle.reach_plain.specs.Outcomes.{numbers_of, LeadsThrough, IsDelivered, Becomes}
use Rattle.reach_plain.specs.Reachability.{reachability}
use Rattle.reach_plain.proofs.Becoming.{becomes}
use Rattle.reach_plain.proofs.Kept.{valid, chain_is_short}
use Rattle.flow_state.specs.Flows.{IsShort}

abbrev Few : List ServiceNo → Type 0
Few services = length services ≤ 15

none_few : (services : List ServiceNo) → services ≡ [] → Few services
none_few services e = subst (λ xs. Few xs) (sym e) (omega arith)

numbers_few : (t : Topology) (c : Config) (chain : List ℕ) → first_broken t c ≡ None → Few (numbers_of c chain)
numbers_few t c chain h =
    let short : length (expansion c chain) ≤ 15 = chain_is_short t c chain h in
    let same : length (map (λ (s : Service). s.id) (expansion c chain)) ≡ length (expansion c chain) = length-map (expansion c chain) (λ (s : Service). s.id) in
    omega arith

led_few : (t : Topology) (c : Config) (mirrored : Bool) (action : Action) (services : List ServiceNo) → first_broken t c ≡ None → LeadsThrough c mirrored action services → Few services
led_few t c mirrored Pass services h leads = none_few services leads
led_few t c mirrored Deny services h leads = absurd leads
led_few t c false (Through chain use_no) services h leads = subst (λ xs. Few xs) (sym leads) (numbers_few t c chain h)
led_few t c true (Through chain use_no) services h leads =
    let few : Few (numbers_of c chain) = numbers_few t c chain h in
    let same : length (reverse (numbers_of c chain)) ≡ length (numbers_of c chain) = length-reverse (numbers_of c chain) in
    let back : Few (reverse (numbers_of c chain)) = omega arith in
    subst (λ xs. Few xs) (sym leads) back

short_by : (t : Topology) (c : Config) (p : Packet) (o : Outcome) → first_broken t c ≡ None → reachability c p ≡ o → IsShort o
short_by t c p (Dropped why) h e = tt
short_by t c p (Delivered number services) h e =
    let P : Outcome → Type 0 = λ o. Becomes c p o in
    let d : IsDelivered c p number services = subst P e (becomes t c (valid t c h) p) in
    elim d.enters [
      | inl inside ↦ none_few services inside.1
      | inr by ↦ led_few t c by.1.decider.mirrored by.1.decider.rule.rule.action services h by.1.leads
    ]

pub reach_is_short : (t : Topology) (c : Config) (p : Packet) → first_broken t c ≡ None → IsShort (reachability c p)
reach_is_short t c p h = short_by t c p (reachability c p) h refl
