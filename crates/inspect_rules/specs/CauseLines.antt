-- The lines of what outcomes come of.
use Rattle.std.specs.Prelude.{ℕ, Bool, true, false, List, [], ◌∷◌, ◌++◌, codes, decimal, Option, Some, None}
use Rattle.ov_types.specs.declared.packet.RuleNo.{RuleNo}
use Rattle.inspect_rules.specs.declared.cause.Cause.{Cause}
use Rattle.inspect_rules.specs.declared.cause.Cause.TheVariants as Of
use Rattle.inspect_rules.specs.declared.cause.Condition.{Condition}
use Rattle.inspect_rules.specs.declared.cause.Condition.TheVariants.{Protocol, SourcePorts, DestinationPorts, Direction}

abbrev pub condition_text : Condition → List ℕ
condition_text Protocol = codes "protocol"
condition_text SourcePorts = codes "source-ports"
condition_text DestinationPorts = codes "destination-ports"
condition_text Direction = codes "direction"

-- what fails of a rule read mirrored: `-` stands where it is of one direction
abbrev pub mirrored_text : Option Condition → List ℕ
mirrored_text None = codes "-"
mirrored_text (Some condition) = condition_text condition

abbrev pub policy_text : Option (List ℕ) → List ℕ
policy_text None = codes "-"
policy_text (Some name) = name

-- a rule, by its policy and its position there
abbrev pub place_text : RuleNo → Option (List ℕ) → List ℕ
place_text rule policy = codes "policy " ++ (policy_text policy ++ (codes " position " ++ decimal rule.position))

abbrev pub reading_text : Bool → List ℕ
reading_text false = codes "forwards"
reading_text true = codes "mirrored"

abbrev pub cause_text : Cause → List ℕ
cause_text (Of.From network) = codes "from network " ++ network
cause_text (Of.To network) = codes "to network " ++ network
cause_text (Of.Skipped rule policy forwards mirrored) =
    codes "skipped " ++ (place_text rule policy ++ (codes " forwards " ++ (condition_text forwards
    ++ (codes " mirrored " ++ mirrored_text mirrored))))
cause_text (Of.Decided rule policy mirrored) = codes "decided " ++ (place_text rule policy ++ (codes " " ++ reading_text mirrored))
cause_text (Of.Attached network policy) = codes "attached network " ++ (network ++ (codes " policy " ++ policy))
cause_text (Of.Unrelated network) = codes "unrelated network " ++ network

-- a cause, behind the number of its packet
unfoldable pub cause_line : ℕ → Cause → List ℕ
cause_line n x = decimal n ++ (codes " " ++ (cause_text x ++ (10 ∷ [])))
