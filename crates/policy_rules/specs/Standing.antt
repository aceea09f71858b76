-- Which rules stand between two networks, and in which order.
use Rattle.std.specs.Prelude.{◌≡◌, ◌≢◌, ◌⊎◌, ℕ, ◌+◌, ◌<◌, slice_get, Some}
use Rattle.std.specs.List.{Contains}
use Rattle.ov_types.specs.declared.packet.RuleNo.{RuleNo}
use Rattle.config_types.specs.declared.config.Action.{Action}
use Rattle.config_types.specs.declared.config.Action.TheVariants.{Pass, Deny, Through}
use Rattle.config_types.specs.declared.config.Config.{Config}
use Rattle.config_types.specs.declared.config.End.{End}
use Rattle.config_types.specs.declared.config.End.TheVariants.{Any, Named}
use Rattle.config_types.specs.declared.config.Network.{Network}
use Rattle.config_types.specs.declared.config.Policy.{Policy}
use Rattle.config_types.specs.declared.config.Rule.{Rule}
use Rattle.policy_rules.specs.declared.numbered.NumberedRule.{NumberedRule}

-- a rule's number comes before another: its sequence is lesser, or they are equal and its position is lesser
abbrev pub ComesBefore : RuleNo → RuleNo → Type 0
ComesBefore m n = (m.sequence < n.sequence) ⊎ ((m.sequence ≡ n.sequence) × (m.position < n.position))

-- an end of a rule is any network, or this one by its name
abbrev pub IsEnd : End → Network → Type 0
IsEnd Any n = Unit {0}
IsEnd (Named name) n = name ≡ n.name

-- a rule speaks of packets from one network to another
abbrev pub Fits : Rule → Network → Network → Type 0
Fits r a b = IsEnd r.source a × IsEnd r.destination b

-- a rule stands between two networks: it is of a policy that both attach, speaks of packets one way or the other, and
-- is numbered by its policy's sequence and by its place among the policy's rules, counted from 1
pub record IsBetween (c : Config) (a b : Network) (r : NumberedRule) : Type 0 where
  pub policy : Policy
  pub place : ℕ
  pub configured : Contains c.policies policy
  pub first_attaches : Contains a.policies policy.name
  pub second_attaches : Contains b.policies policy.name
  pub stands : slice_get policy.rules place ≡ Some r.rule
  pub sequence : r.number.sequence ≡ policy.sequence
  pub position : r.number.position ≡ place + 1
  pub fits : Fits r.rule a b ⊎ Fits r.rule b a

-- an action lets packets through: it passes them, or leads them through a chain
abbrev pub LetsThrough : Action → Type 0
LetsThrough Pass = Unit {0}
LetsThrough Deny = ⊥
LetsThrough (Through chain use_no) = Unit {0}

-- two networks are related: they differ, and a rule that lets packets through stands between them
pub record AreRelated (c : Config) (a b : Network) : Type 0 where
  pub differ : a.name ≢ b.name
  pub rule : NumberedRule
  pub stands : IsBetween c a b rule
  pub lets : LetsThrough rule.rule.action

-- a pass rule stands between two networks
pub record PassesBetween (c : Config) (a b : Network) : Type 0 where
  pub rule : NumberedRule
  pub stands : IsBetween c a b rule
  pub pass : rule.rule.action ≡ Pass
