-- What the first broken rule names breaks it: a refusal is the answer of one of the rules.
use Rattle.std.proofs.Common.{◌≡◌, Option, Some, IfSome}
use Rattle.config_types.specs.declared.config.Config.{Config}
use Rattle.config_types.specs.declared.topology.Topology.{Topology}
use Rattle.ov_types.specs.First.{◌<|>◌}
use Rattle.config_check.specs.declared.refusal.Refusal.{Refusal}
use Rattle.config_check.specs.Rules.{broken_limit, broken_name, broken_id, broken_reference, broken_place, broken_use, broken_chain, broken_overlap, first_broken}
use Rattle.policy_rules.specs.Related.{all_rules}
use Rattle.config_refusal_laws.specs.Breaks.{Breaks}
use Rattle.ov_types.proofs.FirstLemmas.{answered, of_either}
use Rattle.config_refusal_laws.proofs.Counts.{limit_breaks}
use Rattle.config_refusal_laws.proofs.Names.{name_breaks, id_breaks, reference_breaks}
use Rattle.config_refusal_laws.proofs.Places.{place_breaks}
use Rattle.config_refusal_laws.proofs.Chains.{use_breaks, chain_breaks}
use Rattle.config_refusal_laws.proofs.Overlaps.{overlap_breaks}

first_breaks : (t : Topology) (c : Config) → IfSome (first_broken t c) (Breaks t c)
unfolding first_broken
first_breaks t c =
    let B : Refusal → Type 0 = Breaks t c in
    let r7 : Option Refusal = broken_chain c <|> broken_overlap c in
    let r6 : Option Refusal = broken_use (all_rules c) <|> r7 in
    let r5 : Option Refusal = broken_place c <|> r6 in
    let r4 : Option Refusal = broken_reference t c <|> r5 in
    let r3 : Option Refusal = broken_id t c <|> r4 in
    let r2 : Option Refusal = broken_name t c <|> r3 in
    of_either B (broken_limit t c) r2 (limit_breaks t c)
    (of_either B (broken_name t c) r3 (name_breaks t c)
    (of_either B (broken_id t c) r4 (id_breaks t c)
    (of_either B (broken_reference t c) r5 (reference_breaks t c)
    (of_either B (broken_place c) r6 (place_breaks t c)
    (of_either B (broken_use (all_rules c)) r7 (use_breaks t c)
    (of_either B (broken_chain c) (broken_overlap c) (chain_breaks t c) (overlap_breaks t c)))))))

pub named_breaks : (t : Topology) (c : Config) (r : Refusal) → first_broken t c ≡ Some r → Breaks t c r
named_breaks t c r e = answered (Breaks t c) (first_broken t c) (first_breaks t c) r e
