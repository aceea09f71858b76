use Rattle.std.proofs.Common.{true, false}
use Rattle.bgp_vpn.proofs.UpdateLemmas.{path_segments}
use Rattle.bgp_vpn.proofs.laws.a_path_is_segments_of_its_reading.Goals as goal

pub returns-clause-wide : goal.returns-clause-wide
returns-clause-wide c = path_segments true

pub returns-clause-narrow : goal.returns-clause-narrow
returns-clause-narrow c = path_segments false
