-- What becomes of a packet in a valid configuration: each outcome exactly where its relation holds.
use Rattle.std.proofs.Common.{◌≡◌, ◌≢◌, ◌↔◌, inl, inr, ℕ, Bool, true, false, cond, IsTrue, List, [], Option, Some, None, reverse, refl, sym, ap, ◌∙◌, subst}
use Rattle.std.specs.List.{All, Contains}
use Rattle.ov_types.specs.First.{same_name}
use Rattle.ov_types.proofs.FirstLemmas.{same_name_iff}
use Rattle.ov_types.specs.declared.numbers.PortNo.{PortNo}
use Rattle.ov_types.specs.declared.numbers.ServiceNo.{ServiceNo}
use Rattle.ov_types.specs.declared.packet.Outcome.{Outcome}
use Rattle.ov_types.specs.declared.packet.Outcome.TheVariants.{Delivered, Dropped}
use Rattle.ov_types.specs.declared.packet.Packet.{Packet}
use Rattle.ov_types.specs.declared.packet.RuleNo.{RuleNo}
use Rattle.ov_types.specs.declared.packet.Why.TheVariants.{NoSourcePort, NoDestination, NoRoute, Denied, NoLabel, TtlExpired}
use Rattle.ov_types.specs.declared.prefix.Addr.{Addr}
use Rattle.config_types.specs.Form.{has_config_form}
use Rattle.config_types.specs.declared.config.Action.{Action}
use Rattle.config_types.specs.declared.config.Action.TheVariants.{Pass, Deny, Through}
use Rattle.config_types.specs.declared.config.Config.{Config}
use Rattle.config_types.specs.declared.config.Network.{Network}
use Rattle.config_types.specs.declared.config.Port.{Port}
use Rattle.config_types.specs.declared.topology.Topology.{Topology}
use Rattle.policy_rules.specs.declared.matching.Match.{Match}
use Rattle.policy_rules.specs.Matching.{deciding}
use Rattle.policy_rules.specs.Taking.{IsDeciding}
use Rattle.policy_rules.proofs.Taking.{deciding_iff, undecided_iff}
use Rattle.config_check.specs.Finding.{port_numbered, port_at}
use Rattle.config_check.specs.Rules.{first_broken}
use Rattle.config_check.specs.Sentences.{IsValid}
use Rattle.config_check.proofs.Finders.{finds_port_numbered, finds_network_named, finds_port_at}
use Rattle.reach_plain.specs.Outcomes.{Leaves, IsTowards, Goes, numbers_of, LeadsThrough, MayEnter, Becomes}
use Rattle.reach_plain.specs.Reachability.{network_towards, arrival_at, outcome_of, outcome_by, outcome_between, outcome_towards, outcome_from, outcome_at, reachability}
use Rattle.reach_plain.proofs.Kept.{valid}
use Rattle.reach_plain.proofs.Found.{towards_of, towards_none, none_towards, own_exists, target_is}

abbrev numbered : ℕ → PortNo
numbered n = record { 0 = n }

abbrev addressed : ℕ → Addr
addressed n = record { 0 = n }

pub apart : (x y : List ℕ) → same_name x y ≡ false → x ≢ y
apart x y e = λ same. let never : true ≡ false = sym ((same_name_iff x y).1 same) ∙ e in absurd cc

differs : (x y : List ℕ) → x ≢ y → same_name x y ≡ false
differs x y h = elim (same_name x y) as (λ v. same_name x y ≡ v → v ≡ false) [ true ↦ λ e. absurd (h ((same_name_iff x y).0 e)) | false ↦ λ e. refl ] refl

-- from the definition to the relations

module _ (t : Topology) (c : Config) (v : IsValid t c) (p : Packet) where
  arrives : (own target : Network) (services : List ServiceNo) (o : Option Port) → port_at c target p.destination.0 ≡ o
      → Goes c p own target → MayEnter c own target p.tuple services → Becomes c p (arrival_at o services)
  arrives own target services None e goes enters =
      let absent = (finds_port_at t c target p.destination.0 v).none.0 e in
      record {
        own = own;
        target = target;
        services = services;
        goes = goes;
        enters = enters;
        nowhere = λ k d lt there. absent k d lt (there.0, ap (λ (a : Addr). a.0) there.1);
      }
  arrives own target services (Some q) e goes enters =
      let f = ((finds_port_at t c target p.destination.0 v).some q).0 e in
      record {
        own = own;
        target = target;
        goes = goes;
        enters = enters;
        arrival = q;
        arrival_stands = f.0;
        arrival_network = f.1.0;
        arrival_address = ap addressed f.1.1;
        arrival_number = refl;
      }

  acts : (own target : Network) (m : Match) (mirrored : Bool) (action : Action) → IsDeciding c own target p.tuple m → m.mirrored ≡ mirrored → m.rule.rule.action ≡ action
      → Goes c p own target → target.name ≢ own.name → Becomes c p (outcome_of c (port_at c target p.destination.0) m.rule.number mirrored action)
  acts own target m mirrored Deny decides way does goes differ =
      record { own = own; target = target; goes = goes; leaves_own = differ; decider = m; decides = decides; denies = does; denier = refl }
  acts own target m mirrored Pass decides way does goes differ =
      let P : Action → Type 0 = λ x. LeadsThrough c m.mirrored x [] in
      arrives own target [] (port_at c target p.destination.0) refl goes (inr (differ, record { decider = m; decides = decides; leads = subst P (sym does) refl }))
  acts own target m false (Through chain use_no) decides way does goes differ =
      let P : Action → Type 0 = λ x. LeadsThrough c m.mirrored x (numbers_of c chain) in
      let Q : Bool → Type 0 = λ x. LeadsThrough c x (Through chain use_no) (numbers_of c chain) in
      arrives own target (numbers_of c chain) (port_at c target p.destination.0) refl goes
      (inr (differ, record { decider = m; decides = decides; leads = subst P (sym does) (subst Q (sym way) refl) }))
  acts own target m true (Through chain use_no) decides way does goes differ =
      let P : Action → Type 0 = λ x. LeadsThrough c m.mirrored x (reverse (numbers_of c chain)) in
      let Q : Bool → Type 0 = λ x. LeadsThrough c x (Through chain use_no) (reverse (numbers_of c chain)) in
      arrives own target (reverse (numbers_of c chain)) (port_at c target p.destination.0) refl goes
      (inr (differ, record { decider = m; decides = decides; leads = subst P (sym does) (subst Q (sym way) refl) }))

  by_rule : (own target : Network) (found : Option Match) → deciding c own target p.tuple ≡ found
      → Goes c p own target → target.name ≢ own.name → Becomes c p (outcome_by c (port_at c target p.destination.0) found)
  by_rule own target None e goes differ =
      record { own = own; target = target; goes = goes; leaves_own = differ; unmatched = (undecided_iff c own target p.tuple).0 e }
  by_rule own target (Some m) e goes differ =
      acts own target m m.mirrored m.rule.rule.action ((deciding_iff c own target p.tuple m).0 e) refl refl goes differ

  between : (own target : Network) → Goes c p own target → Becomes c p (outcome_between c own target p)
  between own target goes =
      let o : Option Port = port_at c target p.destination.0 in
      elim (same_name target.name own.name) as (λ v. same_name target.name own.name ≡ v → Becomes c p (cond v (arrival_at o []) (outcome_by c o (deciding c own target p.tuple)))) [
        | true ↦ λ e. arrives own target [] o refl goes (inl ((same_name_iff target.name own.name).0 e, refl))
        | false ↦ λ e. by_rule own target (deciding c own target p.tuple) refl goes (apart target.name own.name e)
      ] refl

  towards : (own : Network) (o : Option Network) → network_towards c own p.destination.0 ≡ o → Leaves c p own → Becomes c p (outcome_towards c own p o)
  towards own None e leaves = record { own = own; leaves = leaves; nowhere = towards_none c own p.destination.0 e }
  towards own (Some target) e leaves = between own target (record { leaves = leaves; towards = towards_of c own target p.destination.0 e })

  starting : (o : Option Port) → port_numbered c p.source.0 ≡ o → Becomes c p (outcome_at c p o)
  starting None e =
      let absent : All (λ q. ¬ (q.id.0 ≡ p.source.0)) c.ports = (finds_port_numbered t c p.source.0 v).none.0 e in
      λ k d lt same. absent k d lt (ap (λ (n : PortNo). n.0) same)
  starting (Some source) e =
      let f = ((finds_port_numbered t c p.source.0 v).some source).0 e in
      let own = own_exists t c source v f.0 in
      let leaves : Leaves c p own.0 = record {
        source = source;
        source_stands = f.0;
        source_number = ap numbered f.1;
        own_stands = own.1;
        own_name = own.2;
      } in
      let P : Option Network → Type 0 = λ o. Becomes c p (outcome_from c p o) in
      subst P (sym (((finds_network_named t c source.network v).some own.0).1 (own.1, own.2))) (towards own.0 (network_towards c own.0 p.destination.0) refl leaves)

  pub becomes : Becomes c p (reachability c p)
  unfolding reachability
  becomes = starting (port_numbered c p.source.0) refl

-- from the relations to the definition

module _ (t : Topology) (c : Config) (form : IsTrue (has_config_form c)) (v : IsValid t c) (p : Packet) where
  leaves_is : (own : Network) → Leaves c p own → reachability c p ≡ outcome_towards c own p (network_towards c own p.destination.0)
  unfolding reachability
  leaves_is own h =
      ap (outcome_at c p) (((finds_port_numbered t c p.source.0 v).some h.source).1 (h.source_stands, ap (λ (n : PortNo). n.0) h.source_number))
      ∙ ap (outcome_from c p) (((finds_network_named t c h.source.network v).some own).1 (h.own_stands, h.own_name))

  goes_is : (own target : Network) → Goes c p own target → reachability c p ≡ outcome_between c own target p
  goes_is own target h =
      leaves_is own h.leaves
      ∙ ap (outcome_towards c own p) (target_is t c own target p.destination.0 form v h.leaves.own_stands h.towards)

  asked_is : (own target : Network) → Goes c p own target → target.name ≢ own.name
      → reachability c p ≡ outcome_by c (port_at c target p.destination.0) (deciding c own target p.tuple)
  asked_is own target h differ =
      let o : Option Port = port_at c target p.destination.0 in
      goes_is own target h
      ∙ ap (λ (b : Bool). cond b (arrival_at o []) (outcome_by c o (deciding c own target p.tuple))) (differs target.name own.name differ)

  decided_is : (own target : Network) (m : Match) → Goes c p own target → target.name ≢ own.name → IsDeciding c own target p.tuple m
      → reachability c p ≡ outcome_of c (port_at c target p.destination.0) m.rule.number m.mirrored m.rule.rule.action
  decided_is own target m h differ decides =
      asked_is own target h differ
      ∙ ap (outcome_by c (port_at c target p.destination.0)) ((deciding_iff c own target p.tuple m).1 decides)

  led : (o : Option Port) (number : RuleNo) (mirrored : Bool) (action : Action) (services : List ServiceNo) → LeadsThrough c mirrored action services
      → outcome_of c o number mirrored action ≡ arrival_at o services
  led o number mirrored Pass services h = ap (arrival_at o) (sym h)
  led o number mirrored Deny services h = absurd h
  led o number false (Through chain use_no) services h = ap (arrival_at o) (sym h)
  led o number true (Through chain use_no) services h = ap (arrival_at o) (sym h)

  enters_is : (own target : Network) (services : List ServiceNo) → Goes c p own target → MayEnter c own target p.tuple services
      → reachability c p ≡ arrival_at (port_at c target p.destination.0) services
  enters_is own target services h way =
      let o : Option Port = port_at c target p.destination.0 in
      elim way [
        | inl inside ↦
            goes_is own target h
            ∙ ap (λ (b : Bool). cond b (arrival_at o []) (outcome_by c o (deciding c own target p.tuple))) ((same_name_iff target.name own.name).1 inside.0)
            ∙ ap (arrival_at o) (sym inside.1)
        | inr by ↦
            let m : Match = by.1.decider in
            decided_is own target m h by.0 by.1.decides ∙ led o m.rule.number m.mirrored m.rule.rule.action services by.1.leads
      ]

  becoming : (o : Outcome) → Becomes c p o → reachability c p ≡ o
  unfolding reachability
  becoming (Delivered number services) h =
      enters_is h.own h.target services h.goes h.enters
      ∙ ap (λ (o : Option Port). arrival_at o services) (((finds_port_at t c h.target p.destination.0 v).some h.arrival).1 (h.arrival_stands, (h.arrival_network, ap (λ (a : Addr). a.0) h.arrival_address)))
      ∙ ap (λ (n : PortNo). Delivered n services) h.arrival_number
  becoming (Dropped NoSourcePort) h =
      ap (outcome_at c p)
      ((finds_port_numbered t c p.source.0 v).none.1 (λ k d lt same. h k d lt (ap numbered same)))
  becoming (Dropped NoDestination) h =
      leaves_is h.own h.leaves
      ∙ ap (outcome_towards c h.own p) (none_towards c h.own p.destination.0 h.nowhere)
  becoming (Dropped (Denied (Some number))) h =
      decided_is h.own h.target h.decider h.goes h.leaves_own h.decides
      ∙ ap (outcome_of c (port_at c h.target p.destination.0) h.decider.rule.number h.decider.mirrored) h.denies
      ∙ ap (λ (n : RuleNo). Dropped (Denied (Some n))) h.denier
  becoming (Dropped (Denied None)) h =
      asked_is h.own h.target h.goes h.leaves_own
      ∙ ap (outcome_by c (port_at c h.target p.destination.0)) ((undecided_iff c h.own h.target p.tuple).1 h.unmatched)
  becoming (Dropped NoRoute) h =
      enters_is h.own h.target h.services h.goes h.enters
      ∙ ap (λ (o : Option Port). arrival_at o h.services)
      ((finds_port_at t c h.target p.destination.0 v).none.1 (λ k d lt there. h.nowhere k d lt (there.0, ap addressed there.1)))
  becoming (Dropped NoLabel) h = absurd h
  becoming (Dropped TtlExpired) h = absurd h

pub outcome_iff : (t : Topology) (c : Config) (p : Packet) (o : Outcome) → IsTrue (has_config_form c) → first_broken t c ≡ None → (reachability c p ≡ o) ↔ Becomes c p o
outcome_iff t c p o form kept =
    let v = valid t c kept in (
      λ e. subst (λ (x : Outcome). Becomes c p x) e (becomes t c v p),
      becoming t c form v p o,
    )

pub one_outcome : (t : Topology) (c : Config) (p : Packet) (o u : Outcome) → IsTrue (has_config_form c) → first_broken t c ≡ None → Becomes c p o → Becomes c p u → o ≡ u
one_outcome t c p o u form kept h k = sym ((outcome_iff t c p o form kept).1 h) ∙ (outcome_iff t c p u form kept).1 k

pub target_iff : (t : Topology) (c : Config) (own b : Network) (address : ℕ) → IsTrue (has_config_form c) → first_broken t c ≡ None → Contains c.networks own
    → (network_towards c own address ≡ Some b) ↔ IsTowards c own b address
target_iff t c own b address form kept inside = (towards_of c own b address, target_is t c own b address form (valid t c kept) inside)
