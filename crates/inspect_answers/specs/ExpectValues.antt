-- The JSON values of packets whose outcome is otherwise than is expected.
use Rattle.std.specs.Prelude.{ℕ, Bool, true, codes}
use Rattle.serde_json.specs.Data.{Data, member, no_members, object}
use Rattle.ov_types.specs.declared.packet.Outcome.{Outcome}
use Rattle.config_types.specs.declared.config.Config.{Config}
use Rattle.inspect_json.specs.OutcomeValues.{delivered_value, outcome_value, to_drop_value, to_drop_why_value}
use Rattle.inspect_json.specs.Sizes.{has_delivery_size}
use Rattle.inspect_json.specs.Values.{number_value}
use Rattle.inspect_answers.specs.declared.expectation.Expected.{Expected}
use Rattle.inspect_answers.specs.declared.expectation.Expected.TheVariants.{Dropped, NoSourcePort, NoDestination, NoRoute, Denied, Delivered}

-- what is expected of a packet
abbrev pub expected_value : Config → Expected → Data
expected_value c Dropped = to_drop_value
expected_value c NoSourcePort = to_drop_why_value (codes "no-source-port")
expected_value c NoDestination = to_drop_why_value (codes "no-destination")
expected_value c NoRoute = to_drop_why_value (codes "no-route")
expected_value c Denied = to_drop_why_value (codes "denied")
expected_value c (Delivered port services) = delivered_value c port services

-- the number of a packet, what is expected of it, and what comes
unfoldable pub unmet_value : Config → ℕ → Expected → Outcome → Data
unmet_value c n expected outcome = object (member (codes "expected") (expected_value c expected)
    (member (codes "outcome") (outcome_value c outcome)
    (member (codes "packet") (number_value n) no_members)))

-- how many packets there are, and of how many the outcome is otherwise
unfoldable pub counts_value : ℕ → ℕ → Data
counts_value packets otherwise = object (member (codes "otherwise") (number_value otherwise)
    (member (codes "packets") (number_value packets) no_members))

-- what is expected has numbers of the sizes that their types have
abbrev pub has_expected_size : Expected → Bool
has_expected_size (Delivered port services) = has_delivery_size port services
has_expected_size _ = true
