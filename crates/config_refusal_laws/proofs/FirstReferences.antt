-- The first reference that dangles, of all in the order in which they are looked up.
use Rattle.std.proofs.Common.{◌≡◌, ◌++◌, ℕ, Bool, true, false, cond, List, Option, Some, None, flat_map, map, refl, sym, ap, ◌∙◌}
use Rattle.std.specs.List.{list_any}
use Rattle.config_types.specs.declared.config.Action.{Action}
use Rattle.config_types.specs.declared.config.Action.TheVariants.{Pass, Deny, Through}
use Rattle.config_types.specs.declared.config.Chain.{Chain}
use Rattle.config_types.specs.declared.config.Config.{Config}
use Rattle.config_types.specs.declared.config.End.{End}
use Rattle.config_types.specs.declared.config.End.TheVariants as Ends
use Rattle.config_types.specs.declared.config.Network.{Network}
use Rattle.config_types.specs.declared.config.Port.{Port}
use Rattle.config_types.specs.declared.config.Service.{Service}
use Rattle.config_types.specs.declared.topology.Node.{Node}
use Rattle.config_types.specs.declared.topology.Topology.{Topology}
use Rattle.ov_types.specs.First.{same_name, ◌<|>◌, first_of}
use Rattle.policy_rules.specs.Related.{all_rules}
use Rattle.policy_rules.specs.declared.numbered.NumberedRule.{NumberedRule}
use Rattle.config_check.specs.declared.refusal.Refusal.{Refusal}
use Rattle.config_check.specs.declared.refusal.Refusal.TheVariants.{BadReference}
use Rattle.config_check.specs.Rules.{controller_names, node_names, network_names, policy_names, service_names, chain_names, missing, missing_end, missing_chain, missing_in_node, missing_in_network, missing_in_port, missing_in_rule, missing_in_service, missing_in_chain, broken_reference}
use Rattle.config_check.proofs.Meanings.{exists_iff}
use Rattle.config_refusal_laws.specs.Named.{IsFirst, Reference, Dangles, end_references, action_references, node_references, network_references, port_references, rule_references, chain_references, references}
use Rattle.ov_types.proofs.FirstLemmas.{first_append, first_flat}
use Rattle.config_refusal_laws.proofs.FirstOnes.{or_none, first_of-map, first_of-same, answers_first}

answer : Reference → Option Refusal
answer r = missing r.0 r.1

of_names : (names wanted : List (List ℕ)) → first_of answer (map (λ name. (names, name)) wanted) ≡ first_of (missing names) wanted
unfolding answer
of_names names wanted = first_of-map answer (λ name. (names, name)) wanted

of_end : (names : List (List ℕ)) (e : End) → first_of answer (end_references names e) ≡ missing_end names e
unfolding answer
of_end names Ends.Any = refl
of_end names (Ends.Named name) = or_none (missing names name)

of_action : (names : List (List ℕ)) (a : Action) → first_of answer (action_references names a) ≡ missing_chain names a
unfolding answer
of_action names Pass = refl
of_action names Deny = refl
of_action names (Through name use_no) = or_none (missing names name)

of_port : (t : Topology) (c : Config) (p : Port) → first_of answer (port_references t c p) ≡ missing_in_port (network_names c) (node_names t) p
unfolding answer
of_port t c p = ap (λ (o : Option Refusal). missing (network_names c) p.network <|> o) (or_none (missing (node_names t) p.node))

of_rule : (c : Config) (r : NumberedRule) → first_of answer (rule_references c r) ≡ missing_in_rule (network_names c) (chain_names c) r
of_rule c r =
    let networks : List (List ℕ) = network_names c in
    let one : List Reference = end_references networks r.rule.source in
    let two : List Reference = end_references networks r.rule.destination in
    let three : List Reference = action_references (chain_names c) r.rule.action in
    first_append answer one (two ++ three)
    ∙ ap (λ (o : Option Refusal). o <|> first_of answer (two ++ three)) (of_end networks r.rule.source)
    ∙ ap (λ (o : Option Refusal). missing_end networks r.rule.source <|> o)
    (first_append answer two three
    ∙ ap (λ (o : Option Refusal). o <|> first_of answer three) (of_end networks r.rule.destination)
    ∙ ap (λ (o : Option Refusal). missing_end networks r.rule.destination <|> o) (of_action (chain_names c) r.rule.action))

of_service : (t : Topology) (services : List Service) → first_of answer (map (λ s. (node_names t, s.node)) services) ≡ first_of (missing_in_service (node_names t)) services
unfolding answer
of_service t services = first_of-map answer (λ (s : Service). (node_names t, s.node)) services

-- the answers of objects are those of their references
of_all : {A : Type 0} (refs : A → List Reference) (f : A → Option Refusal) → ((x : A) → first_of answer (refs x) ≡ f x) → (xs : List A) → first_of answer (flat_map refs xs) ≡ first_of f xs
of_all refs f same xs = first_flat answer refs xs ∙ first_of-same (λ x. first_of answer (refs x)) f same xs

two_of : (xs ys : List Reference) (a b : Option Refusal) → first_of answer xs ≡ a → first_of answer ys ≡ b → first_of answer (xs ++ ys) ≡ (a <|> b)
two_of xs ys a b ea eb =
    first_append answer xs ys ∙ ap (λ (o : Option Refusal). o <|> first_of answer ys) ea ∙ ap (λ (o : Option Refusal). a <|> o) eb

all_references : (t : Topology) (c : Config) → first_of answer (references t c) ≡ broken_reference t c
unfolding broken_reference
all_references t c =
    two_of (flat_map (node_references t) t.nodes) _ (first_of (missing_in_node (controller_names t)) t.nodes) _
    (of_all (node_references t) (missing_in_node (controller_names t)) (λ (n : Node). of_names (controller_names t) n.controllers) t.nodes)
    (two_of (flat_map (network_references c) c.networks) _ (first_of (missing_in_network (policy_names c)) c.networks) _
    (of_all (network_references c) (missing_in_network (policy_names c)) (λ (n : Network). of_names (policy_names c) n.policies) c.networks)
    (two_of (flat_map (port_references t c) c.ports) _ (first_of (missing_in_port (network_names c) (node_names t)) c.ports) _
    (of_all (port_references t c) (missing_in_port (network_names c) (node_names t)) (of_port t c) c.ports)
    (two_of (flat_map (rule_references c) (all_rules c)) _ (first_of (missing_in_rule (network_names c) (chain_names c)) (all_rules c)) _
    (of_all (rule_references c) (missing_in_rule (network_names c) (chain_names c)) (of_rule c) (all_rules c))
    (two_of (map (λ (s : Service). (node_names t, s.node)) c.services) _ (first_of (missing_in_service (node_names t)) c.services) _
    (of_service t c.services)
    (of_all (chain_references c) (missing_in_chain (service_names c ++ chain_names c)) (λ (d : Chain). of_names (service_names c ++ chain_names c) d.hops) c.chains)))))

named_by : (b : Bool) (name : List ℕ) (r : Refusal) → cond b None (Some (BadReference name)) ≡ Some r → BadReference name ≡ r
named_by true name r e = cc
named_by false name r e = cc

silent : (r : Reference) → answer r ≡ None → ¬ Dangles r
unfolding answer
silent r none = λ dangles. dangles ((exists_iff r.0 r.1).0 none)

dangling : (r : Reference) (x : Refusal) → answer r ≡ Some x → Dangles r
unfolding answer
dangling r x e = λ inside. let never : None ≡ Some x = sym ((exists_iff r.0 r.1).1 inside) ∙ e in cc

said : (r : Reference) (x : Refusal) → answer r ≡ Some x → BadReference r.1 ≡ x
unfolding answer
said r x e = named_by (list_any (same_name r.1) r.0) r.1 x e

pub record FirstDangling (t : Topology) (c : Config) (r : Refusal) : Type 0 where
  pub names : List (List ℕ)
  pub name : List ℕ
  pub is_said : BadReference name ≡ r
  pub first : IsFirst Dangles (references t c) (names, name)

pub first_dangling : (t : Topology) (c : Config) (r : Refusal) → broken_reference t c ≡ Some r → FirstDangling t c r
first_dangling t c r e =
    let a = answers_first answer Dangles silent (references t c) r (all_references t c ∙ e) in
    record { names = a.item.0; name = a.item.1; is_said = said a.item r a.gives; first = a.first (dangling a.item r a.gives) }
