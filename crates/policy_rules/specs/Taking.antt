-- Which rule decides on a packet, as relations.
use Rattle.std.specs.Prelude.{◌≡◌, ℕ, ◌<◌, ◌≤◌, Bool, true, false, slice_get, Some}
use Rattle.ov_types.specs.declared.packet.Range16.{Range16}
use Rattle.ov_types.specs.declared.packet.Tuple.{Tuple}
use Rattle.config_types.specs.declared.config.Config.{Config}
use Rattle.config_types.specs.declared.config.Direction.TheVariants.{BothWays}
use Rattle.config_types.specs.declared.config.Network.{Network}
use Rattle.config_types.specs.declared.config.Protocol.{Protocol}
use Rattle.config_types.specs.declared.config.Protocol.TheVariants.{Any, Number}
use Rattle.config_types.specs.declared.config.Rule.{Rule}
use Rattle.policy_rules.specs.Related.{NumberedRule, rules_between}
use Rattle.policy_rules.specs.Matching.{Match}
use Rattle.policy_rules.specs.Standing.{IsEnd}

-- a port number is in a range, whose ends are both included
pub record IsInRange (r : Range16) (n : ℕ) : Type 0 where
  pub from : r.lo ≤ n
  pub to : n ≤ r.hi

-- a protocol is any, or this number
abbrev pub IsProtocol : Protocol → ℕ → Type 0
IsProtocol Any n = Unit {0}
IsProtocol (Number m) n = m ≡ n

-- a rule matches a packet from one network to another as it is written
pub record MatchesForwards (a b : Network) (t : Tuple) (r : Rule) : Type 0 where
  pub source : IsEnd r.source a
  pub destination : IsEnd r.destination b
  pub protocol : IsProtocol r.protocol t.proto
  pub source_port : IsInRange r.source_ports t.sport
  pub destination_port : IsInRange r.destination_ports t.dport

-- a rule of both directions matches a packet from one network to another with the networks and the ports exchanged
pub record MatchesMirrored (a b : Network) (t : Tuple) (r : Rule) : Type 0 where
  pub both_ways : r.direction ≡ BothWays
  pub source : IsEnd r.source b
  pub destination : IsEnd r.destination a
  pub protocol : IsProtocol r.protocol t.proto
  pub source_port : IsInRange r.source_ports t.dport
  pub destination_port : IsInRange r.destination_ports t.sport

-- a rule matches neither way
pub record MatchesNot (a b : Network) (t : Tuple) (r : Rule) : Type 0 where
  pub not_forwards : ¬ MatchesForwards a b t r
  pub not_mirrored : ¬ MatchesMirrored a b t r

-- a rule is taken forwards where it matches so, and mirrored where it matches mirrored alone
abbrev pub IsTaken : Network → Network → Tuple → Rule → Bool → Type 0
IsTaken a b t r false = MatchesForwards a b t r
IsTaken a b t r true = MatchesMirrored a b t r × ¬ MatchesForwards a b t r

-- a match decides: its rule stands at a place among the rules between the two networks, it is taken this way, and no
-- rule at an earlier place matches either way
pub record IsDeciding (c : Config) (a b : Network) (t : Tuple) (m : Match) : Type 0 where
  pub place : ℕ
  pub stands : slice_get (rules_between c a b) place ≡ Some m.rule
  pub taken : IsTaken a b t m.rule.rule m.mirrored
  pub first : (k : ℕ) (r : NumberedRule) → k < place → slice_get (rules_between c a b) k ≡ Some r
      → MatchesNot a b t r.rule
