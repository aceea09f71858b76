use Rattle.std.proofs.lemmas.Bool.{le-leb}
use Rattle.bgp_wire.proofs.Octets.{range_from}
use Rattle.bgp_vpn.proofs.PieceLemmas.{both, piece_cut, piece_whole}
use Rattle.bgp_vpn.proofs.pieces.behind_prefix.Goals as goal

pub returns-then-behind-len-clause-none : goal.returns-then-behind-len-clause-none
returns-then-behind-len-clause-none c =
    piece_cut _ _ c.args.octets.now _ c.octets_for-len.result c.requires (range_from 1 c.args.octets.now)
    (both _ _ (le-leb _ _ c.if-bits-least.false) (le-leb _ _ c.if-bits-greatest.false)) c.octets_for-len.ensures c.if-behind-len.true

pub returns-clause-same : goal.returns-clause-same
returns-clause-same c =
    piece_whole _ _ c.args.octets.now _ c.octets_for-len.result c.requires (range_from 1 c.args.octets.now)
    (both _ _ (le-leb _ _ c.if-bits-least.false) (le-leb _ _ c.if-bits-greatest.false)) c.octets_for-len.ensures c.if-behind-len.false
