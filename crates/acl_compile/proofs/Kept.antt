-- What the bounds that access lists rest on give.
use Rattle.std.proofs.Common.{◌≡◌, ◌≢◌, ℕ, ◌<◌, ◌≤◌, ◌&&◌, leb, ltb, Bool, true, false, cond, IsTrue, List, [], ◌∷◌, None, Ok, map, filter, length, get_or, refl, sym, ap, ◌∙◌, subst, arith, Bor}
use Rattle.std.specs.List.{All, AllPairs, list_all}
use Rattle.std.proofs.lemmas.Bool.{and_parts, le-ltb, leb-true}
use Rattle.std.proofs.lemmas.List.{get_or_default, get_or-map, length-map}
use Rattle.std.proofs.lemmas.List.Elements.{All-cons, All-filter}
use Rattle.ov_types.specs.Name.{is_name}
use Rattle.ov_types.specs.First.{first_meeting}
use Rattle.ov_types.proofs.FirstLemmas.{all_head, all_tail, all_here, first_meeting_none}
use Rattle.config_types.specs.Form.{has_end_form, has_protocol_form, is_range, has_action_form, has_rule_form, has_policy_form, has_network_form, has_port_form, has_service_form, has_chain_form, has_config_form}
use Rattle.config_types.specs.declared.config.Config.{Config}
use Rattle.config_types.specs.declared.config.Policy.{Policy}
use Rattle.config_types.specs.declared.config.Rule.{Rule}
use Rattle.chain_expand.specs.Expansion.{expansion, same_number, numbers_or_fault}
use Rattle.chain_expand.proofs.Each.{of_each_name, numbers_apart}
use Rattle.policy_rules.specs.Related.{put_by_sequence, by_sequence}
use Rattle.acl_compile.specs.Bounds.{KeepsBounds, IsBounded}

-- chains

pub few_chains : (c : Config) → KeepsBounds c → length c.chains ≤ 128
few_chains c h = h.chains

pub chain_is_short : (c : Config) (name : List ℕ) → KeepsBounds c → length (expansion c name) ≤ 15
chain_is_short c name h = of_each_name (λ services. length services ≤ 15) c name (omega arith) h.short

chain_is_once : (c : Config) (name : List ℕ) → KeepsBounds c → AllPairs (λ s u. s.id.0 ≢ u.id.0) (expansion c name)
chain_is_once c name h = of_each_name (λ services. AllPairs (λ s u. s.id.0 ≢ u.id.0) services) c name (λ i j d lt within. absurd (omega arith)) h.once

pub chain_expands : (c : Config) (name : List ℕ) → KeepsBounds c → numbers_or_fault name (expansion c name) ≡ Ok (map (λ s. s.id) (expansion c name))
chain_expands c name h =
    let few : ltb 15 (length (expansion c name)) ≡ false = le-ltb 15 (length (expansion c name)) (chain_is_short c name h) in
    let once : first_meeting same_number (expansion c name) ≡ None =
    (first_meeting_none same_number (expansion c name)).1
    (λ i j d lt within. numbers_apart (get_or (expansion c name) i d) (get_or (expansion c name) j d) (chain_is_once c name h i j d lt within))
    in
    rw (few, once) refl

-- what lets a chain expand to a short list
pub ruleset short_chains = (few_chains, chain_expands, chain_is_short)

-- rules

pub action_form : (r : Rule) → has_rule_form r ≡ true → has_action_form r.action ≡ true
unfolding has_rule_form
action_form r h =
    (and_parts (has_end_form r.source && has_end_form r.destination && has_protocol_form r.protocol && is_range r.source_ports && is_range r.destination_ports)
    (has_action_form r.action) h).1

pub use_is_small : (name : List ℕ) (use_no : ℕ) → (is_name name && leb use_no 3071) ≡ true → use_no ≤ 3071
use_is_small name use_no h = leb-true use_no 3071 (and_parts (is_name name) (leb use_no 3071) h).1

-- policies

each_passes : {A : Type 0} (p : A → Bool) (xs : List A) → list_all p xs ≡ true → All (λ x. p x ≡ true) xs
each_passes p xs h = λ k d lt. all_here p xs k (get_or xs k d) lt (get_or_default xs k d (get_or xs k d) lt) h

third_of_five : (a b c d e : Bool) → (a && b && c && d && e) ≡ true → c ≡ true
third_of_five true true true d e h = refl
third_of_five true true false d e h = h
third_of_five true false c d e h = cc
third_of_five false b c d e h = cc

policies_have_form : (c : Config) → IsTrue (has_config_form c) → All (λ p. has_policy_form p ≡ true) c.policies
unfolding has_config_form
policies_have_form c h =
    each_passes has_policy_form c.policies
    (third_of_five (list_all has_network_form c.networks) (list_all has_port_form c.ports) (list_all has_policy_form c.policies)
    (list_all has_service_form c.services) (list_all has_chain_form c.chains) h)

rules_have_form : (p : Policy) → has_policy_form p ≡ true → list_all has_rule_form p.rules ≡ true
unfolding has_policy_form
rules_have_form p h = (and_parts (is_name p.name && leb p.sequence 65535) (list_all has_rule_form p.rules) h).1

all_put : (P : Policy → Type 0) (p : Policy) (qs : List Policy) → P p → All P qs → All P (put_by_sequence p qs)
all_put P p [] h all = All-cons P p [] h all
all_put P p (q ∷ qs) h all =
    elim (ltb q.sequence p.sequence) as (λ b. All P (cond b (q ∷ put_by_sequence p qs) (p ∷ q ∷ qs))) [
      | true ↦ All-cons P q (put_by_sequence p qs) (all_head P q qs all) (all_put P p qs h (all_tail P q qs all))
      | false ↦ All-cons P p (q ∷ qs) h all
    ]

all_by_sequence : (P : Policy → Type 0) (ps : List Policy) → All P ps → All P (by_sequence ps)
all_by_sequence P [] all = all
all_by_sequence P (p ∷ ps) all = all_put P p (by_sequence ps) (all_head P p ps all) (all_by_sequence P ps (all_tail P p ps all))

pub all_bounded : (c : Config) (keep : Policy → Bool) (ps : List Policy) → KeepsBounds c → ps ≡ by_sequence (filter keep c.policies) → All IsBounded ps
all_bounded c keep ps h e =
    let each : All IsBounded c.policies = λ k d lt.
    let p : Policy = get_or c.policies k d in
    record { rules = h.rules k d lt; form = rules_have_form p (policies_have_form c h.form k d lt) }
    in
    subst (λ (qs : List Policy). All IsBounded qs) (sym e) (all_by_sequence IsBounded (filter keep c.policies) (All-filter keep IsBounded c.policies each))

pub bounded_at : (ps : List (Bor Policy)) (i : ℕ) (p : Bor Policy) → All IsBounded (map (λ q. q.now) ps) → i < length ps → p ≡ get_or ps i p → IsBounded p.now
bounded_at ps i p all lt at =
    let here : IsBounded (get_or (map (λ q. q.now) ps) i p.now) = all i p.now (simp length-map lt) in
    subst IsBounded (get_or-map (λ (q : Bor Policy). q.now) ps i p p.now lt ∙ ap (λ (q : Bor Policy). q.now) (sym at)) here
