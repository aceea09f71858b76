-- A valid configuration of the written form keeps the bounds that access lists rest on.
use Rattle.std.proofs.Common.{◌≡◌, None, IsTrue}
use Rattle.config_types.specs.Form.{has_config_form}
use Rattle.config_types.specs.declared.config.Config.{Config}
use Rattle.config_types.specs.declared.topology.Topology.{Topology}
use Rattle.config_check.specs.Rules.{first_broken}
use Rattle.config_check.specs.Sentences.{IsValid}
use Rattle.config_check.proofs.Validity.{valid_iff}
use Rattle.acl_compile.specs.Bounds.{KeepsBounds}

pub keeps_bounds : (t : Topology) (c : Config) → IsTrue (has_config_form c) → first_broken t c ≡ None → KeepsBounds c
keeps_bounds t c form h =
    let v : IsValid t c = (valid_iff t c).0 h in
    record { form = form; rules = v.limits.rules; chains = v.limits.chains; short = v.short; once = v.once }
