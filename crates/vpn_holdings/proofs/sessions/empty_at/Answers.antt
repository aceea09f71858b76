use Rattle.std.proofs.Common.{◌∙◌, ◌<◌, ◌≤◌, ap, map, slice_set, length, rules}
use Rattle.ov_types.specs.declared.vpn.VpnKey.{VpnKey}
use Rattle.ov_types.specs.declared.vpn.VpnRoute.{VpnRoute}
use Rattle.std.specs.Prelude.{List}
use Rattle.vpn_holdings.specs.Views.{peer_of}
use Rattle.vpn_holdings.proofs.Peers.{emptied_within, emptied_past}
use Rattle.vpn_holdings.proofs.sessions.empty_at.Goals as goal

pub returns-then-place-len : goal.returns-then-place-len
returns-then-place-len c =
    let lt : c.args.place < length c.args.peers.now.items = search rules in
    ap (λ (es : List (VpnKey × VpnRoute)). map peer_of (slice_set c.args.peers.now.items c.args.place es)) c.reset.ensures ∙ emptied_within c.args.peers.now.items c.args.place lt

pub returns-else-place-len : goal.returns-else-place-len
returns-else-place-len c = let le : length c.args.peers.now.items ≤ c.args.place = search rules in emptied_past c.args.peers.now.items c.args.place le
