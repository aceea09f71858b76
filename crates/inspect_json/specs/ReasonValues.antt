-- The JSON values of what outcomes come of.
use Rattle.std.specs.Prelude.{ℕ, Bool, List, codes, Option, Some, None}
use Rattle.serde_json.specs.Data.{Data, member, no_members, null, object, string}
use Rattle.ov_types.specs.declared.packet.Outcome.{Outcome}
use Rattle.ov_types.specs.declared.packet.RuleNo.{RuleNo}
use Rattle.config_types.specs.declared.config.Config.{Config}
use Rattle.inspect_rules.specs.CauseLines.{condition_text, reading_text}
use Rattle.inspect_rules.specs.declared.cause.Cause.{Cause}
use Rattle.inspect_rules.specs.declared.cause.Cause.TheVariants as Of
use Rattle.inspect_rules.specs.declared.cause.Condition.{Condition}
use Rattle.inspect_walks.specs.declared.told_step.ToldStep.{ToldStep}
use Rattle.inspect_json.specs.OutcomeValues.{outcome_value}
use Rattle.inspect_json.specs.Values.{list_value, name_value, number_value}
use Rattle.inspect_json.specs.WalkValues.{step_value}

-- what fails of a rule read mirrored, and `null` where it is of one direction
abbrev pub mirrored_value : Option Condition → Data
mirrored_value None = null
mirrored_value (Some condition) = string (condition_text condition)

-- a rule, with the name of its policy
unfoldable pub placed_value : RuleNo → Option (List ℕ) → Data
placed_value rule policy = object (member (codes "policy") (name_value policy)
    (member (codes "position") (number_value rule.position)
    (member (codes "sequence") (number_value rule.sequence) no_members)))

-- a network that the packet leaves or goes to, or that is not related
unfoldable pub near_value : List ℕ → List ℕ → Data
near_value kind network = object (member (codes "kind") (string kind)
    (member (codes "network") (string network) no_members))

unfoldable pub skipped_value : RuleNo → Option (List ℕ) → Condition → Option Condition → Data
skipped_value rule policy forwards mirrored = object (member (codes "forwards") (string (condition_text forwards))
    (member (codes "kind") (string (codes "skipped"))
    (member (codes "mirrored") (mirrored_value mirrored)
    (member (codes "rule") (placed_value rule policy) no_members))))

unfoldable pub decided_value : RuleNo → Option (List ℕ) → Bool → Data
decided_value rule policy mirrored = object (member (codes "kind") (string (codes "decided"))
    (member (codes "reading") (string (reading_text mirrored))
    (member (codes "rule") (placed_value rule policy) no_members)))

unfoldable pub attached_value : List ℕ → List ℕ → Data
attached_value network policy = object (member (codes "kind") (string (codes "attached"))
    (member (codes "network") (string network)
    (member (codes "policy") (string policy) no_members)))

-- something that an outcome comes of
abbrev pub cause_value : Cause → Data
cause_value (Of.From network) = near_value (codes "from") network
cause_value (Of.To network) = near_value (codes "to") network
cause_value (Of.Skipped rule policy forwards mirrored) = skipped_value rule policy forwards mirrored
cause_value (Of.Decided rule policy mirrored) = decided_value rule policy mirrored
cause_value (Of.Attached network policy) = attached_value network policy
cause_value (Of.Unrelated network) = near_value (codes "unrelated") network

-- the number of a packet, its outcome, what that comes of, and its walk
unfoldable pub explained_value : Config → ℕ → Outcome → List Cause → List ToldStep → Data
explained_value c n outcome causes walk = object (member (codes "causes") (list_value cause_value causes)
    (member (codes "outcome") (outcome_value c outcome)
    (member (codes "packet") (number_value n)
    (member (codes "walk") (list_value step_value walk) no_members))))
