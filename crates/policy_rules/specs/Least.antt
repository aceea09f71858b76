-- The match of the policy that comes first by sequence, policy by policy in the document's order.
use Rattle.std.specs.Prelude.{◌&&◌, nat_lt, Option, Some, None, if◌then◌else◌}
use Rattle.ov_types.specs.declared.packet.Tuple.{Tuple}
use Rattle.config_types.specs.declared.config.Network.{Network}
use Rattle.config_types.specs.declared.config.Policy.{Policy}
use Rattle.ov_types.specs.First.{first_of}
use Rattle.policy_rules.specs.Related.{attaches, numbered_rules}
use Rattle.policy_rules.specs.Matching.{Match, match_by}

-- the first match among the rules of a policy, where both networks attach it
abbrev pub match_in : Network → Network → Tuple → Policy → Option Match
match_in from to t p =
    if attaches from p && attaches to p then first_of (match_by from to t) (numbered_rules p) else None

-- the one of two matches with the lesser sequence, and the earlier where both have one
abbrev pub least : Option Match → Option Match → Option Match
least None later = later
least (Some a) None = Some a
least (Some a) (Some b) = if nat_lt b.rule.number.sequence a.rule.number.sequence then Some b else Some a
