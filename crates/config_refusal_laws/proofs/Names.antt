-- Refusals of names, of numbers and of references name what stands twice, or nowhere.
use Rattle.std.proofs.Common.{◌≡◌, inl, inr, ◌==◌, ◌++◌, ◌<◌, ℕ, Bool, true, false, cond, List, Option, Some, None, IfSome, get_or, refl, sym, arith}
use Rattle.std.specs.Cmp.Lexicographic.{same_text}
use Rattle.std.specs.List.{Contains, list_any}
use Rattle.std.proofs.lemmas.Bool.{eqb-true}
use Rattle.config_types.specs.declared.config.Action.{Action}
use Rattle.config_types.specs.declared.config.Action.TheVariants.{Pass, Deny, Through}
use Rattle.config_types.specs.declared.config.Chain.{Chain}
use Rattle.config_types.specs.declared.config.Config.{Config}
use Rattle.config_types.specs.declared.config.End.{End}
use Rattle.config_types.specs.declared.config.End.TheVariants as Ends
use Rattle.config_types.specs.declared.config.Network.{Network}
use Rattle.config_types.specs.declared.config.Port.{Port}
use Rattle.config_types.specs.declared.config.Service.{Service}
use Rattle.config_types.specs.declared.topology.Node.{Node}
use Rattle.config_types.specs.declared.topology.Topology.{Topology}
use Rattle.ov_types.specs.First.{same_name, ◌<|>◌, first_of, first_meeting}
use Rattle.config_check.specs.declared.refusal.IdKind.{IdKind}
use Rattle.config_check.specs.declared.refusal.IdKind.TheVariants as Id
use Rattle.config_check.specs.declared.refusal.Refusal.{Refusal}
use Rattle.config_check.specs.declared.refusal.Refusal.TheVariants.{DuplicateName, DuplicateId, BadReference}
use Rattle.policy_rules.specs.declared.numbered.NumberedRule.{NumberedRule}
use Rattle.config_check.specs.Rules.{controller_names, node_names, network_names, port_names, policy_names, service_names, chain_names, repeated_name, repeated_controller, broken_name, repeated_id, broken_id, missing, missing_end, missing_chain, missing_in_node, missing_in_network, missing_in_port, missing_in_rule, missing_in_service, missing_in_chain, broken_reference}
use Rattle.policy_rules.specs.Related.{all_rules}
use Rattle.config_check.proofs.Meanings.{exists_iff}
use Rattle.config_refusal_laws.specs.Breaks.{StandsTwice, namespaces, numbers_of, LeadsThrough, IsDangling, controller, policy, network_of_port, node_of_port, source, destination, chain_of_rule, node_of_service, hop, Breaks}
use Rattle.config_refusal_laws.proofs.Firsts.{pair_twice}
use Rattle.ov_types.proofs.FirstLemmas.{any_of, of_either, of_mapped, of_first}

-- names

same_is : (a b : List ℕ) → same_name a b ≡ true → a ≡ b
same_is a b e = same_text a b (sym e)

repeated : (t : Topology) (c : Config) (names : List (List ℕ)) → ((name : List ℕ) → StandsTwice names name → Breaks t c (DuplicateName name)) → IfSome (repeated_name names) (Breaks t c)
repeated t c names breaks =
    of_mapped (Breaks t c) (λ (m : List ℕ × List ℕ). DuplicateName m.1) (first_meeting same_name names)
    (λ m e. breaks m.1 (pair_twice same_name same_is names m e))

repeated_in : (t : Topology) (c : Config) (k : ℕ) (names : List (List ℕ)) → k < 5 → get_or (namespaces t c) k names ≡ names → IfSome (repeated_name names) (Breaks t c)
repeated_in t c k names lt at = repeated t c names (λ name twice. inl (k, names, lt, at, twice))

of_node : (t : Topology) (c : Config) (n : Node) → Contains t.nodes n → IfSome (repeated_controller n) (Breaks t c)
of_node t c n inside = repeated t c n.controllers (λ name twice. inr (any_of (λ (n : Node). StandsTwice n.controllers name) t.nodes n inside twice))

pub name_breaks : (t : Topology) (c : Config) → IfSome (broken_name t c) (Breaks t c)
unfolding broken_name
name_breaks t c =
    let B : Refusal → Type 0 = Breaks t c in
    let r1 : Option Refusal = repeated_name (controller_names t ++ node_names t) in
    let r2 : Option Refusal = repeated_name (network_names c) in
    let r3 : Option Refusal = repeated_name (port_names c) in
    let r4 : Option Refusal = repeated_name (policy_names c) in
    let r5 : Option Refusal = repeated_name (service_names c ++ chain_names c) in
    let r6 : Option Refusal = first_of repeated_controller t.nodes in
    of_either B r1 (r2 <|> (r3 <|> (r4 <|> (r5 <|> r6)))) (repeated_in t c 0 (controller_names t ++ node_names t) (omega arith) refl)
    (of_either B r2 (r3 <|> (r4 <|> (r5 <|> r6))) (repeated_in t c 1 (network_names c) (omega arith) refl)
    (of_either B r3 (r4 <|> (r5 <|> r6)) (repeated_in t c 2 (port_names c) (omega arith) refl)
    (of_either B r4 (r5 <|> r6) (repeated_in t c 3 (policy_names c) (omega arith) refl)
    (of_either B r5 r6 (repeated_in t c 4 (service_names c ++ chain_names c) (omega arith) refl)
    (of_first B repeated_controller t.nodes (of_node t c))))))

-- numbers

repeated_number : (t : Topology) (c : Config) (what : IdKind) → IfSome (repeated_id what (numbers_of t c what)) (Breaks t c)
repeated_number t c what =
    of_mapped (Breaks t c) (λ (m : ℕ × ℕ). DuplicateId what m.1) (first_meeting (λ a b. a == b) (numbers_of t c what))
    (λ m e. pair_twice (λ a b. a == b) eqb-true (numbers_of t c what) m e)

pub id_breaks : (t : Topology) (c : Config) → IfSome (broken_id t c) (Breaks t c)
unfolding broken_id
id_breaks t c =
    let B : Refusal → Type 0 = Breaks t c in
    let r1 : Option Refusal = repeated_id Id.Address (numbers_of t c Id.Address) in
    let r2 : Option Refusal = repeated_id Id.Network (numbers_of t c Id.Network) in
    let r3 : Option Refusal = repeated_id Id.Port (numbers_of t c Id.Port) in
    let r4 : Option Refusal = repeated_id Id.Sequence (numbers_of t c Id.Sequence) in
    let r5 : Option Refusal = repeated_id Id.Service (numbers_of t c Id.Service) in
    let r6 : Option Refusal = repeated_id Id.Use (numbers_of t c Id.Use) in
    of_either B r1 (r2 <|> (r3 <|> (r4 <|> (r5 <|> r6)))) (repeated_number t c Id.Address)
    (of_either B r2 (r3 <|> (r4 <|> (r5 <|> r6))) (repeated_number t c Id.Network)
    (of_either B r3 (r4 <|> (r5 <|> r6)) (repeated_number t c Id.Port)
    (of_either B r4 (r5 <|> r6) (repeated_number t c Id.Sequence)
    (of_either B r5 r6 (repeated_number t c Id.Service) (repeated_number t c Id.Use)))))

-- references

unless : (P : Refusal → Type 0) (b : Bool) (r : Refusal) → ((cond b None (Some r) ≡ None → ⊥) → P r) → IfSome (cond b None (Some r)) P
unless P true r h = tt
unless P false r h = h (λ e. cc)

nowhere : (t : Topology) (c : Config) (names : List (List ℕ)) (name : List ℕ) → (¬ Contains names name → IsDangling t c name) → IfSome (missing names name) (Breaks t c)
nowhere t c names name h =
    unless (Breaks t c) (list_any (same_name name) names) (BadReference name) (λ some. h (λ inside. some ((exists_iff names name).1 inside)))

end_nowhere : (t : Topology) (c : Config) (names : List (List ℕ)) (e : End) → ((name : List ℕ) → e ≡ Ends.Named name → ¬ Contains names name → IsDangling t c name) → IfSome (missing_end names e) (Breaks t c)
end_nowhere t c names Ends.Any h = tt
end_nowhere t c names (Ends.Named name) h = nowhere t c names name (h name refl)

chain_nowhere : (t : Topology) (c : Config) (names : List (List ℕ)) (a : Action) → ((name : List ℕ) → LeadsThrough a name → ¬ Contains names name → IsDangling t c name) → IfSome (missing_chain names a) (Breaks t c)
chain_nowhere t c names Pass h = tt
chain_nowhere t c names Deny h = tt
chain_nowhere t c names (Through name use_no) h = nowhere t c names name (h name (use_no, refl))

of_names : (t : Topology) (c : Config) (names wanted : List (List ℕ)) → ((name : List ℕ) → Contains wanted name → ¬ Contains names name → IsDangling t c name) → IfSome (first_of (missing names) wanted) (Breaks t c)
of_names t c names wanted h = of_first (Breaks t c) (missing names) wanted (λ name inside. nowhere t c names name (h name inside))

in_node : (t : Topology) (c : Config) (n : Node) → Contains t.nodes n → IfSome (missing_in_node (controller_names t) n) (Breaks t c)
in_node t c n inside =
    of_names t c (controller_names t) n.controllers (λ name listed. controller (any_of (λ (n : Node). Contains n.controllers name) t.nodes n inside listed))

in_network : (t : Topology) (c : Config) (n : Network) → Contains c.networks n → IfSome (missing_in_network (policy_names c) n) (Breaks t c)
in_network t c n inside =
    of_names t c (policy_names c) n.policies (λ name listed. policy (any_of (λ (n : Network). Contains n.policies name) c.networks n inside listed))

in_port : (t : Topology) (c : Config) (p : Port) → Contains c.ports p → IfSome (missing_in_port (network_names c) (node_names t) p) (Breaks t c)
in_port t c p inside =
    of_either (Breaks t c) (missing (network_names c) p.network) (missing (node_names t) p.node)
    (nowhere t c (network_names c) p.network (network_of_port (any_of (λ (q : Port). q.network ≡ p.network) c.ports p inside refl)))
    (nowhere t c (node_names t) p.node (node_of_port (any_of (λ (q : Port). q.node ≡ p.node) c.ports p inside refl)))

in_rule : (t : Topology) (c : Config) (r : NumberedRule) → Contains (all_rules c) r → IfSome (missing_in_rule (network_names c) (chain_names c) r) (Breaks t c)
in_rule t c r inside =
    let networks : List (List ℕ) = network_names c in
    let rules : List NumberedRule = all_rules c in
    let first : Option Refusal = missing_end networks r.rule.source in
    let second : Option Refusal = missing_end networks r.rule.destination in
    let third : Option Refusal = missing_chain (chain_names c) r.rule.action in
    of_either (Breaks t c) first (second <|> third)
    (end_nowhere t c networks r.rule.source (λ name e. source (any_of (λ (r : NumberedRule). r.rule.source ≡ Ends.Named name) rules r inside e)))
    (of_either (Breaks t c) second third
    (end_nowhere t c networks r.rule.destination (λ name e. destination (any_of (λ (r : NumberedRule). r.rule.destination ≡ Ends.Named name) rules r inside e)))
    (chain_nowhere t c (chain_names c) r.rule.action (λ name e. chain_of_rule (any_of (λ (r : NumberedRule). LeadsThrough r.rule.action name) rules r inside e))))

in_service : (t : Topology) (c : Config) (s : Service) → Contains c.services s → IfSome (missing_in_service (node_names t) s) (Breaks t c)
in_service t c s inside = nowhere t c (node_names t) s.node (node_of_service (any_of (λ (u : Service). u.node ≡ s.node) c.services s inside refl))

in_chain : (t : Topology) (c : Config) (d : Chain) → Contains c.chains d → IfSome (missing_in_chain (service_names c ++ chain_names c) d) (Breaks t c)
in_chain t c d inside =
    of_names t c (service_names c ++ chain_names c) d.hops (λ name listed. hop (any_of (λ (d : Chain). Contains d.hops name) c.chains d inside listed))

pub reference_breaks : (t : Topology) (c : Config) → IfSome (broken_reference t c) (Breaks t c)
unfolding broken_reference
reference_breaks t c =
    let B : Refusal → Type 0 = Breaks t c in
    let r1 : Option Refusal = first_of (missing_in_node (controller_names t)) t.nodes in
    let r2 : Option Refusal = first_of (missing_in_network (policy_names c)) c.networks in
    let r3 : Option Refusal = first_of (missing_in_port (network_names c) (node_names t)) c.ports in
    let r4 : Option Refusal = first_of (missing_in_rule (network_names c) (chain_names c)) (all_rules c) in
    let r5 : Option Refusal = first_of (missing_in_service (node_names t)) c.services in
    let r6 : Option Refusal = first_of (missing_in_chain (service_names c ++ chain_names c)) c.chains in
    of_either B r1 (r2 <|> (r3 <|> (r4 <|> (r5 <|> r6)))) (of_first B (missing_in_node (controller_names t)) t.nodes (in_node t c))
    (of_either B r2 (r3 <|> (r4 <|> (r5 <|> r6))) (of_first B (missing_in_network (policy_names c)) c.networks (in_network t c))
    (of_either B r3 (r4 <|> (r5 <|> r6)) (of_first B (missing_in_port (network_names c) (node_names t)) c.ports (in_port t c))
    (of_either B r4 (r5 <|> r6) (of_first B (missing_in_rule (network_names c) (chain_names c)) (all_rules c) (in_rule t c))
    (of_either B r5 r6 (of_first B (missing_in_service (node_names t)) c.services (in_service t c))
    (of_first B (missing_in_chain (service_names c ++ chain_names c)) c.chains (in_chain t c))))))
