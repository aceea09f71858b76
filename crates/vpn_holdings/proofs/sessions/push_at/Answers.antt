use Rattle.std.proofs.Common.{◌≡◌, ◌++◌, ◌∷◌, [], ◌∙◌, ap, List, arith}
use Rattle.ov_types.specs.declared.vpn.VpnKey.{VpnKey}
use Rattle.ov_types.specs.declared.vpn.VpnRoute.{VpnRoute}
use Rattle.vpn_holdings.proofs.Peers.{pushed}
use Rattle.vpn_holdings.proofs.sessions.push_at.Goals as goal

pub loop-between-preserved : goal.loop-between-preserved
loop-between-preserved c =
    let items : c.push.new.self.items ≡ c.loop-between.peers.items ++ c.new.result ∷ [] = c.in_ok-push.ensures.items in
    record {
      so_far = items ∙ ap (λ (e : List (VpnKey × VpnRoute)). c.loop-between.peers.items ++ e ∷ []) c.new.ensures
          ∙ pushed c.args.peers.now.items c.loop-between.peers.items c.loop-between.between c.loop-between.invariant.past c.loop-between.invariant.so_far;
      past = omega (arith, c.loop-between.invariant.past);
    }
