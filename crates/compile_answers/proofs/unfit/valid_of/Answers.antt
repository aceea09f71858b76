use Rattle.std.proofs.Common.{length}
use Rattle.std.specs.Prelude.{nat_le}
use Rattle.std.proofs.lemmas.Bool.{and_parts}
use Rattle.config_types.specs.Form.{has_nodes_form, has_topology_form}
use Rattle.compile_answers.proofs.unfit.valid_of.Goals as goal

pub check-requires-clause-topology_form : goal.check-requires-clause-topology_form
unfolding has_topology_form
check-requires-clause-topology_form c =
    (and_parts (has_nodes_form c.args.input.topology) (nat_le 1 (length c.args.input.topology.nodes)) c.requires.topology_form).0
