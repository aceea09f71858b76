use Rattle.acl_compile.proofs.Ports.{no_circuit}
use Rattle.acl_compile.proofs.laws.ports_have_no_circuit_address.Goals as goal

pub returns : goal.returns
returns c = no_circuit
