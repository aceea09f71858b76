use Rattle.bgp_vpn.proofs.LabelLemmas.{labels_fit}
use Rattle.bgp_vpn.proofs.laws.labels_have_20_bits.Goals as goal

pub returns : goal.returns
returns c = labels_fit
