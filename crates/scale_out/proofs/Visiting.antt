-- Visits of the services of an outcome.
use Rattle.std.proofs.Common.{◌≡◌, ◌≢◌, inl, inr, ℕ, ◌≤◌, Bool, true, false, IsTrue, List, [], ◌∷◌, map, length, get_or, None, refl, sym, ap, ◌∙◌, subst, arith}
use Rattle.std.specs.List.{All, AllPairs, list_all}
use Rattle.std.proofs.lemmas.List.{length-map, length-reverse}
use Rattle.std.proofs.lemmas.List.Elements.{All-map}
use Rattle.std.proofs.lemmas.List.Kept.{AllPairs-cons}
use Rattle.ov_types.proofs.FirstLemmas.{pairs_head, pairs_tail}
use Rattle.ov_types.specs.declared.numbers.PortNo.{PortNo}
use Rattle.ov_types.specs.declared.numbers.ServiceNo.{ServiceNo}
use Rattle.ov_types.specs.declared.packet.Outcome.{Outcome}
use Rattle.ov_types.specs.declared.packet.Outcome.TheVariants as Outcomes
use Rattle.ov_types.specs.declared.packet.Packet.{Packet}
use Rattle.config_types.specs.declared.config.Action.{Action}
use Rattle.config_types.specs.declared.config.Action.TheVariants.{Pass, Deny, Through}
use Rattle.config_types.specs.declared.config.Config.{Config}
use Rattle.config_types.specs.declared.topology.Topology.{Topology}
use Rattle.chain_expand.specs.Expansion.{expansion}
use Rattle.config_check.specs.Rules.{first_broken}
use Rattle.reach_plain.specs.Outcomes.{numbers_of, LeadsThrough, IsDelivered, Becomes}
use Rattle.reach_plain.specs.Reachability.{reachability}
use Rattle.reach_plain.proofs.Becoming.{becomes}
use Rattle.reach_plain.proofs.Kept.{valid, chain_is_short}
use Rattle.reach_plain.proofs.Once.{passed_once}
use Rattle.scale_out.specs.declared.groups.Group.{Group}
use Rattle.scale_out.specs.declared.visits.Spread.TheVariants.{Delivered}
use Rattle.scale_out.specs.declared.visits.Visit.{Visit}
use Rattle.scale_out.specs.Choice.{IsChosen}
use Rattle.scale_out.specs.Form.{has_group_form}
use Rattle.scale_out.specs.Groups.{members_of}
use Rattle.scale_out.specs.Spread.{key, visit_by, visiting, spread, services_of}
use Rattle.scale_out.proofs.Kept.{one_is_chosen}

-- a packet passes at most 15 services

abbrev Few : List ServiceNo → Type 0
Few services = length services ≤ 15

none_few : (services : List ServiceNo) → services ≡ [] → Few services
none_few services e = subst Few (sym e) (omega arith)

led_few : (t : Topology) (c : Config) (mirrored : Bool) (action : Action) (services : List ServiceNo) → first_broken t c ≡ None → LeadsThrough c mirrored action services → Few services
led_few t c mirrored Pass services h leads = none_few services leads
led_few t c mirrored Deny services h leads = absurd leads
led_few t c false (Through chain use_no) services h leads =
    let short = chain_is_short t c chain h in
    let same = length-map (expansion c chain) (λ s. s.id) in
    subst Few (sym leads) (omega (arith, short, same))
led_few t c true (Through chain use_no) services h leads =
    let short = chain_is_short t c chain h in
    let same = length-map (expansion c chain) (λ s. s.id) in
    let turned = length-reverse (numbers_of c chain) in
    subst Few (sym leads) (omega (arith, short, same, turned))

pub few_passed : (t : Topology) (c : Config) (p : Packet) (number : PortNo) (services : List ServiceNo) → first_broken t c ≡ None → reachability c p ≡ Outcomes.Delivered number services → length services ≤ 15
few_passed t c p number services h e =
    let P : Outcome → Type 0 = λ o. Becomes c p o in
    let d : IsDelivered c p number services = subst P e (becomes t c (valid t c h) p) in
    elim d.enters [
      | inl inside ↦ none_few services inside.1
      | inr by ↦ led_few t c by.1.decider.mirrored by.1.decider.rule.rule.action services h by.1.leads
    ]

-- each service is visited once, at a chosen member

module _ (c : Config) (groups : List Group) (k : ℕ) where
  pub services_again : (services : List ServiceNo) → map (λ v. v.service) (map (visit_by c groups k) services) ≡ services
  services_again [] = refl
  services_again (s ∷ ss) = ap (λ xs. s ∷ xs) (services_again ss)

  pub outcome_again : (o : Outcome) → services_of (visiting (visit_by c groups k) o) ≡ o
  outcome_again (Outcomes.Delivered port services) = ap (λ xs. Outcomes.Delivered port xs) (services_again services)
  outcome_again (Outcomes.Dropped why) = refl

  abbrev Apart : Visit → Visit → Type 0
  Apart v w = v.service.0 ≢ w.service.0

  all_apart : (s : ServiceNo) (ss : List ServiceNo) → All (λ u. s.0 ≢ u.0) ss → All (Apart (visit_by c groups k s)) (map (visit_by c groups k) ss)
  all_apart s ss h = All-map (Apart (visit_by c groups k s)) (visit_by c groups k) ss h

  pub once_by : (services : List ServiceNo) → AllPairs (λ s u. s.0 ≢ u.0) services → AllPairs Apart (map (visit_by c groups k) services)
  once_by [] h = λ i j d lt within. absurd (omega (arith, within))
  once_by (s ∷ ss) h =
      AllPairs-cons Apart (visit_by c groups k s) (map (visit_by c groups k) ss)
      (all_apart s ss (pairs_head (λ (a b : ServiceNo). a.0 ≢ b.0) s ss h))
      (once_by ss (pairs_tail (λ (a b : ServiceNo). a.0 ≢ b.0) s ss h))

  abbrev At : Visit → Type 0
  At v = IsChosen (members_of c groups v.service) k v.member

  pub members_by : (services : List ServiceNo) → IsTrue (list_all has_group_form groups) → All At (map (visit_by c groups k) services)
  members_by services h = All-map At (visit_by c groups k) services (λ i d lt. one_is_chosen c groups (get_or services i d) k h)

-- the visits of a delivered packet

pub visited : (c d : Config) (groups several : List Group) (p : Packet) (k : ℕ) (services passed : List ServiceNo) (visits : List Visit) → d ≡ c → several ≡ groups → k ≡ key d p → passed ≡ services
    → visits ≡ map (visit_by d several k) passed → visits ≡ map (visit_by c groups (key c p)) services
visited c d groups several p k services passed visits one two three four is =
    is
    ∙ ap (λ (n : ℕ). map (visit_by d several n) passed) three
    ∙ ap (λ (x : Config). map (visit_by x several (key x p)) passed) one
    ∙ ap (λ (gs : List Group). map (visit_by c gs (key c p)) passed) two
    ∙ ap (λ (ss : List ServiceNo). map (visit_by c groups (key c p)) ss) four

module _ (c : Config) (groups : List Group) (p : Packet) (port : PortNo) (services : List ServiceNo) (visits : List Visit)
    (there : Outcomes.Delivered port services ≡ reachability c p) (is : visits ≡ map (visit_by c groups (key c p)) services) where
  pub spread_is : Delivered port visits ≡ spread c groups p
  unfolding spread
  spread_is = ap (λ (vs : List Visit). Delivered port vs) is ∙ ap (visiting (visit_by c groups (key c p))) there

  pub once_is : (t : Topology) → first_broken t c ≡ None → AllPairs (λ v w. v.service.0 ≢ w.service.0) visits
  once_is t h =
      let P : List Visit → Type 0 = λ vs. AllPairs (λ v w. v.service.0 ≢ w.service.0) vs in
      subst P (sym is) (once_by c groups (key c p) services (passed_once t c p port services h (sym there)))

  pub members_are : IsTrue (list_all has_group_form groups) → All (λ v. IsChosen (members_of c groups v.service) (key c p) v.member) visits
  members_are h =
      let P : List Visit → Type 0 = λ vs. All (λ v. IsChosen (members_of c groups v.service) (key c p) v.member) vs in
      subst P (sym is) (members_by c groups (key c p) services h)

pub ruleset spread_visits = (few_passed, services_again)
