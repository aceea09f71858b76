-- The regions between two networks: each tuple lies in one, which has its decision.
use Rattle.ov_types.specs.declared.packet.Tuple.{Tuple}
use Rattle.config_types.specs.declared.config.Config.{Config}
use Rattle.config_types.specs.declared.config.Network.{Network}
use Rattle.policy_rules.specs.Matching.{deciding, decision}
use Rattle.policy_regions.specs.Carved.{carved_between}
use Rattle.policy_regions.specs.Claims.{effect_by}
use Rattle.policy_regions.specs.Joined.{regions_between}
use Rattle.policy_regions.specs.Parts.{AllDo, AllSay, IsTuple, LiesInOne}
use Rattle.policy_regions.proofs.Decided.{lies_in_one, region_decides, region_does}
use Rattle.policy_regions.proofs.Joins.{joined_decides, joined_does, joined_lies}

pub between_lies : (c : Config) (a b : Network) (t : Tuple) → IsTuple t → LiesInOne t (regions_between c a b)
between_lies c a b t h = joined_lies t (carved_between c a b) (lies_in_one c a b t h)

pub between_decides : (c : Config) (a b : Network) (t : Tuple) → IsTuple t → AllSay (decision c a b t) t (regions_between c a b)
between_decides c a b t h = joined_decides t (decision c a b t) (carved_between c a b) (region_decides c a b t h)

pub between_does : (c : Config) (a b : Network) (t : Tuple) → IsTuple t → AllDo (effect_by (deciding c a b t)) t (regions_between c a b)
between_does c a b t h = joined_does t (effect_by (deciding c a b t)) (carved_between c a b) (region_does c a b t h)
