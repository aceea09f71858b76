-- No value of a line of `expect` has a float.
use Rattle.std.proofs.Common.{◌≡◌, false, ℕ, refl}
use Rattle.serde_json.specs.Written.{has_float}
use Rattle.ov_types.specs.declared.packet.Outcome.{Outcome}
use Rattle.config_types.specs.declared.config.Config.{Config}
use Rattle.inspect_json.proofs.NoFloats.{delivered, outcome, to_drop, to_drop_why}
use Rattle.inspect_answers.specs.ExpectValues.{counts_value, expected_value, unmet_value}
use Rattle.inspect_answers.specs.declared.expectation.Expected.{Expected}
use Rattle.inspect_answers.specs.declared.expectation.Expected.TheVariants.{Dropped, NoSourcePort, NoDestination, NoRoute, Denied, Delivered}

expected : (c : Config) (e : Expected) → has_float (expected_value c e) ≡ false
expected c Dropped = to_drop
expected c NoSourcePort = to_drop_why _
expected c NoDestination = to_drop_why _
expected c NoRoute = to_drop_why _
expected c Denied = to_drop_why _
expected c (Delivered port services) = delivered c port services

pub unmet : (c : Config) (n : ℕ) (e : Expected) (o : Outcome) → has_float (unmet_value c n e o) ≡ false
unfolding unmet_value
unmet c n e o = rw (expected c e, outcome c o) refl

pub counts : (packets otherwise : ℕ) → has_float (counts_value packets otherwise) ≡ false
unfolding counts_value
counts packets otherwise = refl
