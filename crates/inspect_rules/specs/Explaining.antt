-- What explains the outcome of a packet, as relations.
use Rattle.std.specs.Prelude.{◌≡◌, ◌≢◌, ◌⊎◌, ◌↔◌, ℕ, IsTrue, List, [], ◌∷◌, ◌++◌, Option, Some, None}
use Rattle.std.specs.List.{AllZip, Any, Contains}
use Rattle.ov_types.specs.Prefix.{contains}
use Rattle.ov_types.specs.declared.packet.Packet.{Packet}
use Rattle.ov_types.specs.declared.packet.RuleNo.{RuleNo}
use Rattle.ov_types.specs.declared.packet.Tuple.{Tuple}
use Rattle.config_types.specs.declared.config.Config.{Config}
use Rattle.config_types.specs.declared.config.Direction.TheVariants.{OneWay, BothWays}
use Rattle.config_types.specs.declared.config.Network.{Network}
use Rattle.config_types.specs.declared.config.Policy.{Policy}
use Rattle.config_types.specs.declared.config.Rule.{Rule}
use Rattle.policy_rules.specs.Related.{rules_between}
use Rattle.policy_rules.specs.Standing.{Fits}
use Rattle.policy_rules.specs.Taking.{IsDeciding, IsInRange, IsProtocol}
use Rattle.policy_rules.specs.declared.matching.Match.{Match}
use Rattle.policy_rules.specs.declared.numbered.NumberedRule.{NumberedRule}
use Rattle.reach_plain.specs.Outcomes.{Goes, HasNoSourcePort, IsTowards, Leaves}
use Rattle.inspect_rules.specs.declared.cause.Cause.{Cause}
use Rattle.inspect_rules.specs.declared.cause.Cause.TheVariants as Of
use Rattle.inspect_rules.specs.declared.cause.Condition.{Condition}
use Rattle.inspect_rules.specs.declared.cause.Condition.TheVariants.{Protocol, SourcePorts, DestinationPorts, Direction}

-- a policy of a configuration has the sequence of a rule's number, and this name
abbrev pub IsNamed : Config → RuleNo → Option (List ℕ) → Type 0
IsNamed c number None = ⊥
IsNamed c number (Some name) = (q : Policy) × Contains c.policies q × (q.sequence ≡ number.sequence) × (q.name ≡ name)

-- the first condition that fails of a rule's conditions on protocol, source ports, destination ports and direction
abbrev pub FailsFirst : Type 0 → Type 0 → Type 0 → Type 0 → Condition → Type 0
FailsFirst P S D N Protocol = ¬ P
FailsFirst P S D N SourcePorts = P × ¬ S
FailsFirst P S D N DestinationPorts = P × (S × ¬ D)
FailsFirst P S D N Direction = P × (S × (D × ¬ N))

-- the first condition of a rule that a packet from one network to another fails, where it is read forwards
abbrev pub FailsForwards : Network → Network → Tuple → Rule → Condition → Type 0
FailsForwards a b t r condition =
    FailsFirst (IsProtocol r.protocol t.proto) (IsInRange r.source_ports t.sport) (IsInRange r.destination_ports t.dport) (Fits r a b)
    condition

-- the first condition of a rule that a packet fails, where it is read mirrored, with the networks and the ports
-- exchanged, which a rule of one direction is not
abbrev pub FailsMirrored : Network → Network → Tuple → Rule → Option Condition → Type 0
FailsMirrored a b t r None = r.direction ≡ OneWay
FailsMirrored a b t r (Some condition) =
    (r.direction ≡ BothWays)
    × FailsFirst (IsProtocol r.protocol t.proto) (IsInRange r.source_ports t.dport) (IsInRange r.destination_ports t.sport) (Fits r b a)
    condition

-- a cause tells of a rule that does not match, with its policy and with what fails each way
pub record IsSkipped (c : Config) (a b : Network) (t : Tuple) (r : NumberedRule) (x : Cause) : Type 0 where
  pub policy : Option (List ℕ)
  pub forwards : Condition
  pub mirrored : Option Condition
  pub is : x ≡ Of.Skipped r.number policy forwards mirrored
  pub named : IsNamed c r.number policy
  pub fails_forwards : FailsForwards a b t r.rule forwards
  pub fails_mirrored : FailsMirrored a b t r.rule mirrored

-- a cause tells of the rule that decides, which is this one, with its policy and how it matches
pub record IsDecided (c : Config) (a b : Network) (t : Tuple) (r : NumberedRule) (x : Cause) : Type 0 where
  pub decider : Match
  pub decides : IsDeciding c a b t decider
  pub rule : decider.rule ≡ r
  pub policy : Option (List ℕ)
  pub is : x ≡ Of.Decided r.number policy decider.mirrored
  pub named : IsNamed c r.number policy

-- behind the rules that do not match, the next one decides; where there is no next one, none does
abbrev pub Ends : Config → Network → Network → Tuple → List NumberedRule → List Cause → Type 0
Ends c a b t [] [] = Unit {0}
Ends c a b t [] (x ∷ xs) = ⊥
Ends c a b t (r ∷ rs) [] = ⊥
Ends c a b t (r ∷ rs) (x ∷ []) = IsDecided c a b t r x
Ends c a b t (r ∷ rs) (x ∷ y ∷ xs) = ⊥

-- causes tell of the rules between two networks, in order: of each that does not match before the one that decides, and
-- of that one
pub record AreAsked (c : Config) (a b : Network) (t : Tuple) (xs : List Cause) : Type 0 where
  pub before : List NumberedRule
  pub others : List NumberedRule
  pub rules : rules_between c a b ≡ before ++ others
  pub skipped : List Cause
  pub last : List Cause
  pub are : xs ≡ skipped ++ last
  pub each : AllZip (IsSkipped c a b t) before skipped
  pub ends : Ends c a b t others last

-- a packet goes from one network to another, and the causes are these two and the rules that are asked
pub record GoesAcross (c : Config) (p : Packet) (xs : List Cause) : Type 0 where
  pub own : Network
  pub target : Network
  pub goes : Goes c p own target
  pub differ : target.name ≢ own.name
  pub rules : List Cause
  pub are : xs ≡ Of.From own.name ∷ Of.To target.name ∷ rules
  pub asked : AreAsked c own target p.tuple rules

-- a packet stays in a network, where no rule is asked
pub record StaysInside (c : Config) (p : Packet) (xs : List Cause) : Type 0 where
  pub own : Network
  pub target : Network
  pub goes : Goes c p own target
  pub same : target.name ≡ own.name
  pub are : xs ≡ Of.From own.name ∷ Of.To target.name ∷ []

-- a network of a configuration holds an address
pub record IsHolder (c : Config) (address : ℕ) (b : Network) : Type 0 where
  pub stands : Contains c.networks b
  pub holds : Any (λ s. IsTrue (contains s address)) b.subnets

-- a network, or one that holds an address, attaches a policy
pub record IsAttachedNear (c : Config) (address : ℕ) (own : Network) (network policy : List ℕ) : Type 0 where
  pub by : Network
  pub near : (by ≡ own) ⊎ IsHolder c address by
  pub named : by.name ≡ network
  pub attaches : Contains by.policies policy

-- a cause tells of a policy that a network attaches, or of a network that is not related
abbrev pub IsOfNowhere : Cause → Type 0
IsOfNowhere (Of.Attached network policy) = Unit {0}
IsOfNowhere (Of.Unrelated network) = Unit {0}
IsOfNowhere _ = ⊥

-- a packet goes nowhere: no network holds its destination that is the one that it leaves or is related to that. The
-- causes are the policies of that one, and each network that holds the destination, with its policies
pub record GoesNowhere (c : Config) (p : Packet) (xs : List Cause) : Type 0 where
  pub own : Network
  pub leaves : Leaves c p own
  pub nowhere : (target : Network) → ¬ IsTowards c own target p.destination.0
  pub others : List Cause
  pub are : xs ≡ Of.From own.name ∷ others
  pub only : (x : Cause) → Contains others x → IsOfNowhere x
  pub attached : (network policy : List ℕ) → Contains others (Of.Attached network policy)
      ↔ IsAttachedNear c p.destination.0 own network policy
  pub unrelated : (network : List ℕ) → Contains others (Of.Unrelated network)
      ↔ ((b : Network) × IsHolder c p.destination.0 b × (b.name ≡ network))

-- no port has a packet's source number, and there is no cause beside
pub record HasNoCause (c : Config) (p : Packet) (xs : List Cause) : Type 0 where
  pub absent : HasNoSourcePort c p
  pub are : xs ≡ []

-- some causes explain the outcome of a packet
abbrev pub Explain : Config → Packet → List Cause → Type 0
Explain c p xs = HasNoCause c p xs ⊎ (GoesNowhere c p xs ⊎ (StaysInside c p xs ⊎ GoesAcross c p xs))
