-- Which rules, policies and chains are idle.
use Rattle.std.specs.Prelude.{◌≡◌, ◌≢◌, ◌↔◌, ◌<◌, ℕ, List, count_by}
use Rattle.std.specs.List.{Contains}
use Rattle.ov_types.specs.declared.packet.RuleNo.{RuleNo}
use Rattle.config_types.specs.declared.config.Action.TheVariants.{Through}
use Rattle.config_types.specs.declared.config.Chain.{Chain}
use Rattle.config_types.specs.declared.config.Config.{Config}
use Rattle.config_types.specs.declared.config.End.TheVariants.{Named}
use Rattle.config_types.specs.declared.config.Network.{Network}
use Rattle.config_types.specs.declared.config.Policy.{Policy}
use Rattle.config_types.specs.declared.config.Rule.{Rule}
use Rattle.policy_rules.specs.declared.numbered.NumberedRule.{NumberedRule}
use Rattle.policy_rules.specs.Related.{all_rules, attaches}
use Rattle.policy_rules.specs.Standing.{ComesBefore, IsBetween}
use Rattle.inspect_rules.specs.Deciders.{DecidesSome}
use Rattle.inspect_rules.specs.declared.idle.Idle.{Idle}
use Rattle.inspect_rules.specs.declared.idle.Idle.TheVariants as Is

-- a rule of a configuration has this number, and decides no packet from one of its networks to another
pub record IsIdleRule (c : Config) (number : RuleNo) : Type 0 where
  pub rule : NumberedRule
  pub configured : Contains (all_rules c) rule
  pub is : rule.number ≡ number
  pub decides_none : ¬ DecidesSome c number

-- a rule of this number stands before a rule between some two networks that differ
pub record StandsBefore (c : Config) (behind : NumberedRule) (number : RuleNo) : Type 0 where
  pub from : Network
  pub to : Network
  pub from_stands : Contains c.networks from
  pub to_stands : Contains c.networks to
  pub differ : from.name ≢ to.name
  pub rule : NumberedRule
  pub is : rule.number ≡ number
  pub stands : IsBetween c from to rule
  pub behind_stands : IsBetween c from to behind
  pub in_order : ComesBefore number behind.number

-- just these rules stand before the rule of this number
pub record AreBefore (c : Config) (number : RuleNo) (before : List RuleNo) : Type 0 where
  pub rule : NumberedRule
  pub configured : Contains (all_rules c) rule
  pub is : rule.number ≡ number
  pub exact : (m : RuleNo) → Contains before m ↔ StandsBefore c rule m

-- a policy of this name is attached by so many networks, which are fewer than two
pub record IsIdlePolicy (c : Config) (name : List ℕ) (networks : ℕ) : Type 0 where
  pub policy : Policy
  pub configured : Contains c.policies policy
  pub is : policy.name ≡ name
  pub count : count_by (λ a. attaches a policy) c.networks ≡ networks
  pub few : networks < 2

-- a use of a chain is in effect: a rule of a policy leads through it from one network to another, and both attach that
-- policy
pub record IsInUse (c : Config) (chain : List ℕ) : Type 0 where
  pub policy : Policy
  pub rule : Rule
  pub use_no : ℕ
  pub from : Network
  pub to : Network
  pub configured : Contains c.policies policy
  pub stands : Contains policy.rules rule
  pub leads : rule.action ≡ Through chain use_no
  pub source : rule.source ≡ Named from.name
  pub destination : rule.destination ≡ Named to.name
  pub from_stands : Contains c.networks from
  pub to_stands : Contains c.networks to
  pub from_attaches : Contains from.policies policy.name
  pub to_attaches : Contains to.policies policy.name

-- a chain of this name is configured, and no use of it is in effect
pub record IsIdleChain (c : Config) (name : List ℕ) : Type 0 where
  pub chain : Chain
  pub configured : Contains c.chains chain
  pub is : chain.name ≡ name
  pub without_use : ¬ IsInUse c name

-- a rule of this number is among what was found
pub record HasRuleLine (found : List Idle) (number : RuleNo) : Type 0 where
  pub before : List RuleNo
  pub stands : Contains found (Is.Rule number before)

-- what was found is exactly what is idle of a configuration
pub record IsAllIdle (c : Config) (found : List Idle) : Type 0 where
  pub rules : (number : RuleNo) → HasRuleLine found number ↔ IsIdleRule c number
  pub before : (number : RuleNo) (before : List RuleNo) → Contains found (Is.Rule number before) → AreBefore c number before
  pub policies : (name : List ℕ) (networks : ℕ) → Contains found (Is.Policy name networks) ↔ IsIdlePolicy c name networks
  pub chains : (name : List ℕ) → Contains found (Is.Chain name) ↔ IsIdleChain c name
