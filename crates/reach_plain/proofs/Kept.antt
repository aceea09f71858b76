-- What a valid configuration keeps that decisions and outcomes rest on.
use Rattle.std.proofs.Common.{◌≡◌, ◌≢◌, ℕ, ◌≤◌, leb, ltb, true, false, List, None, Ok, map, length, get_or, refl, arith}
use Rattle.std.specs.List.{AllPairs, list_all}
use Rattle.std.proofs.lemmas.Bool.{le-ltb}
use Rattle.config_types.specs.declared.config.Config.{Config}
use Rattle.config_types.specs.declared.topology.Topology.{Topology}
use Rattle.ov_types.specs.First.{first_meeting}
use Rattle.chain_expand.specs.Expansion.{expansion, same_number, numbers_or_fault}
use Rattle.chain_expand.proofs.Each.{of_each_name, numbers_apart}
use Rattle.config_check.specs.Rules.{first_broken}
use Rattle.config_check.specs.Sentences.{IsValid}
use Rattle.ov_types.proofs.FirstLemmas.{first_meeting_none}
use Rattle.config_check.proofs.Few.{few_rules as rules_are_few, first_none}
use Rattle.config_check.proofs.Validity.{valid_iff}

pub valid : (t : Topology) (c : Config) → first_broken t c ≡ None → IsValid t c
valid t c h = (valid_iff t c).0 h

pub few_rules : (t : Topology) (c : Config) → first_broken t c ≡ None → list_all (λ p. leb (length p.rules) 16) c.policies ≡ true
unfolding first_broken
few_rules t c h = rules_are_few t c (first_none _ _ h)

pub few_chains : (t : Topology) (c : Config) → first_broken t c ≡ None → length c.chains ≤ 128
few_chains t c h = (valid t c h).limits.chains

pub chain_is_short : (t : Topology) (c : Config) (name : List ℕ) → first_broken t c ≡ None → length (expansion c name) ≤ 15
chain_is_short t c name h = of_each_name (λ services. length services ≤ 15) c name (omega arith) (valid t c h).short

pub chain_is_once : (t : Topology) (c : Config) (name : List ℕ) → first_broken t c ≡ None → AllPairs (λ s u. s.id.0 ≢ u.id.0) (expansion c name)
chain_is_once t c name h = of_each_name (λ services. AllPairs (λ s u. s.id.0 ≢ u.id.0) services) c name (λ i j d lt within. absurd (omega arith)) (valid t c h).once

pub chain_expands : (t : Topology) (c : Config) (name : List ℕ) → first_broken t c ≡ None → numbers_or_fault name (expansion c name) ≡ Ok (map (λ s. s.id) (expansion c name))
chain_expands t c name h =
    let few : ltb 15 (length (expansion c name)) ≡ false = le-ltb 15 (length (expansion c name)) (chain_is_short t c name h) in
    let once : first_meeting same_number (expansion c name) ≡ None =
    (first_meeting_none same_number (expansion c name)).1
    (λ i j d lt within. numbers_apart (get_or (expansion c name) i d) (get_or (expansion c name) j d) (chain_is_once t c name h i j d lt within))
    in
    rw (few, once) refl

-- what lets a chain expand to a short list
pub ruleset short_chains = (few_chains, chain_expands, chain_is_short)
