-- Refusals of chain rules and of chains name what lacks a network, turns back, loops, is too long or has a service twice.
use Rattle.std.proofs.Common.{◌≡◌, ◌⊎◌, inl, inr, ◌||◌, ltb, ℕ, Bool, true, false, cond, List, Option, Some, None, option_map, is_none, IfSome, find, length, refl, sym, ap}
use Rattle.std.specs.Cmp.Lexicographic.{same_text}
use Rattle.std.specs.List.{Any, Contains}
use Rattle.std.proofs.lemmas.Bool.{and_parts, ltb-true, eqb-true}
use Rattle.config_types.specs.declared.config.Action.{Action}
use Rattle.config_types.specs.declared.config.Action.TheVariants.{Pass, Deny, Through}
use Rattle.config_types.specs.declared.config.Chain.{Chain}
use Rattle.config_types.specs.declared.config.Config.{Config}
use Rattle.config_types.specs.declared.config.End.{End}
use Rattle.config_types.specs.declared.config.End.TheVariants as Ends
use Rattle.config_types.specs.declared.config.Service.{Service}
use Rattle.config_types.specs.declared.topology.Topology.{Topology}
use Rattle.ov_types.specs.First.{◌<|>◌, first_meeting}
use Rattle.chain_expand.specs.Expansion.{loops, loop_of, expansion, same_number}
use Rattle.chain_expand.proofs.LeadsLaws.{Leads-from_leads}
use Rattle.config_check.specs.declared.refusal.Refusal.{Refusal}
use Rattle.config_check.specs.declared.refusal.Refusal.TheVariants.{ChainNeedsNetworks, ChainSameNetwork, ChainLoop, ChainTooLong, ServiceTwice}
use Rattle.policy_rules.specs.declared.numbered.NumberedRule.{NumberedRule}
use Rattle.config_check.specs.Rules.{is_chain_rule, is_any, lacks_network, broken_needs, same_end, turns_back, broken_same, broken_use, broken_loop, is_too_long, broken_long, twice_in, broken_twice, broken_chain}
use Rattle.policy_rules.specs.Related.{all_rules}
use Rattle.config_refusal_laws.specs.Breaks.{LeadsThrough, IsChainRule, HasAny, HasOneNetwork, Breaks}
use Rattle.chain_expand.proofs.OkLaws.{loop_free}
use Rattle.config_refusal_laws.proofs.Firsts.{first_pair}
use Rattle.ov_types.proofs.FirstLemmas.{any_of, of_either, of_mapped, of_first, found, found_in}

none_is : {A : Type 0} (o : Option A) → is_none o ≡ true → o ≡ None
none_is None h = refl
none_is (Some x) h = cc

-- chain rules

pub chain_of : (a : Action) → is_chain_rule a ≡ true → (chain : List ℕ) × LeadsThrough a chain
chain_of Pass h = cc
chain_of Deny h = cc
chain_of (Through chain use_no) h = (chain, (use_no, refl))

pub some_any : (s d : End) → (is_any s || is_any d) ≡ true → (s ≡ Ends.Any) ⊎ (d ≡ Ends.Any)
some_any Ends.Any d h = inl refl
some_any (Ends.Named name) Ends.Any h = inr refl
some_any (Ends.Named name) (Ends.Named other) h = cc

pub one_network : (s d : End) → same_end s d ≡ true → (network : List ℕ) × (s ≡ Ends.Named network) × (d ≡ Ends.Named network)
one_network Ends.Any Ends.Any h = cc
one_network Ends.Any (Ends.Named other) h = cc
one_network (Ends.Named name) Ends.Any h = cc
one_network (Ends.Named name) (Ends.Named other) h = (name, refl, ap Ends.Named (sym (same_text name other (sym h))))

needs_breaks : (t : Topology) (c : Config) → IfSome (broken_needs (all_rules c)) (Breaks t c)
unfolding broken_needs
needs_breaks t c =
    of_mapped (Breaks t c) (λ (r : NumberedRule). ChainNeedsNetworks r.number) (find (λ r. lacks_network r.rule) (all_rules c))
    (λ r e.
    let f = found (λ (r : NumberedRule). lacks_network r.rule) (all_rules c) r e in
    let parts = and_parts (is_chain_rule r.rule.action) (is_any r.rule.source || is_any r.rule.destination) f.passes in
    any_of (λ (x : NumberedRule). (x.number ≡ r.number) × IsChainRule x.rule × HasAny x.rule) (all_rules c) r
    (found_in (λ (r : NumberedRule). lacks_network r.rule) (all_rules c) r f)
    (refl, chain_of r.rule.action parts.0, some_any r.rule.source r.rule.destination parts.1))

same_breaks : (t : Topology) (c : Config) → IfSome (broken_same (all_rules c)) (Breaks t c)
unfolding broken_same
same_breaks t c =
    of_mapped (Breaks t c) (λ (r : NumberedRule). ChainSameNetwork r.number) (find (λ r. turns_back r.rule) (all_rules c))
    (λ r e.
    let f = found (λ (r : NumberedRule). turns_back r.rule) (all_rules c) r e in
    let parts = and_parts (is_chain_rule r.rule.action) (same_end r.rule.source r.rule.destination) f.passes in
    any_of (λ (x : NumberedRule). (x.number ≡ r.number) × IsChainRule x.rule × HasOneNetwork x.rule) (all_rules c) r
    (found_in (λ (r : NumberedRule). turns_back r.rule) (all_rules c) r f)
    (refl, chain_of r.rule.action parts.0, one_network r.rule.source r.rule.destination parts.1))

pub use_breaks : (t : Topology) (c : Config) → IfSome (broken_use (all_rules c)) (Breaks t c)
use_breaks t c = of_either (Breaks t c) (broken_needs (all_rules c)) (broken_same (all_rules c)) (needs_breaks t c) (same_breaks t c)

-- chains

named : (c : Config) (d : Chain) → Contains c.chains d → Any (λ x. x.name ≡ d.name) c.chains
named c d inside = any_of (λ (x : Chain). x.name ≡ d.name) c.chains d inside refl

loop_breaks : (t : Topology) (c : Config) → IfSome (broken_loop c) (Breaks t c)
unfolding broken_loop
loop_breaks t c =
    of_mapped (Breaks t c) (λ (d : Chain). ChainLoop d.name) (find (λ d. loops c d.name) c.chains)
    (λ d e.
    let f = found (λ (d : Chain). loops c d.name) c.chains d e in
    (named c d (found_in (λ (d : Chain). loops c d.name) c.chains d f), Leads-from_leads c d.name d.name f.passes))

long_breaks : (t : Topology) (c : Config) → IfSome (broken_long c) (Breaks t c)
unfolding broken_long
long_breaks t c =
    of_mapped (Breaks t c) (λ (d : Chain). ChainTooLong d.name) (find (is_too_long c) c.chains)
    (λ d e.
    let f = found (is_too_long c) c.chains d e in
    let parts = and_parts (is_none (loop_of c d.name)) (ltb 15 (length (expansion c d.name))) f.passes in
    (named c d (found_in (is_too_long c) c.chains d f), loop_free c d.name (none_is (loop_of c d.name) parts.0), ltb-true 15 (length (expansion c d.name)) parts.1))

if_test : (P : Refusal → Type 0) (b : Bool) (o : Option Refusal) → (b ≡ true → IfSome o P) → IfSome (cond b o None) P
if_test P true o h = h refl
if_test P false o h = tt

of_twice : (t : Topology) (c : Config) (d : Chain) → Contains c.chains d → IfSome (twice_in c d) (Breaks t c)
of_twice t c d inside =
    let services : List Service = expansion c d.name in
    let pair : Option (Service × Service) = first_meeting same_number services in
    let says : Service × Service → Refusal = λ m. ServiceTwice d.name m.1.name in
    if_test (Breaks t c) (is_none (loop_of c d.name)) (option_map says pair)
    (λ straight.
    of_mapped (Breaks t c) says pair
    (λ m e.
    let h = first_pair same_number services m e in
    (named c d inside, loop_free c d.name (none_is (loop_of c d.name) straight), m.0, m.1, refl, record { places = h.0; number = eqb-true m.0.id.0 m.1.id.0 h.1 })))

twice_breaks : (t : Topology) (c : Config) → IfSome (broken_twice c) (Breaks t c)
unfolding broken_twice
twice_breaks t c = of_first (Breaks t c) (twice_in c) c.chains (of_twice t c)

pub chain_breaks : (t : Topology) (c : Config) → IfSome (broken_chain c) (Breaks t c)
chain_breaks t c =
    let B : Refusal → Type 0 = Breaks t c in
    of_either B (broken_loop c) (broken_long c <|> broken_twice c) (loop_breaks t c)
    (of_either B (broken_long c) (broken_twice c) (long_breaks t c) (twice_breaks t c))
