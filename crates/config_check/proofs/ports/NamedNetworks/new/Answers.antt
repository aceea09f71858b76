use Rattle.std.proofs.Common.{List, ap, ◌∙◌}
use Rattle.std.specs.Cmp.Lexicographic.{slice_cmp}
use Rattle.std.specs.List.{find}
use Rattle.std.specs.Ordering.{nat_cmp}
use Rattle.config_types.specs.declared.config.Network.{Network}
use Rattle.config_check.specs.Edits.{network_name}
use Rattle.config_check.proofs.Keyed.{has_key, first_named}
use Rattle.config_check.proofs.ports.NamedNetworks.new.Goals as goal

pub invariant_of-result : goal.invariant_of-result
invariant_of-result c = λ name.
    c.in_ok-first.ensures name ∙ ap (λ (ns : List Network). find (has_key (slice_cmp nat_cmp) network_name name) ns) c.as_slice.ensures
    ∙ first_named network_name name c.args.config.now.networks
