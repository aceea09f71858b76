use Rattle.std.proofs.Common.{ap, sym, ◌∙◌, ◌++◌, List, map}
use Rattle.std.specs.Map.Iter.{deref_pair}
use Rattle.std.proofs.lemmas.Map.Iter.{rest_all}
use Rattle.std.proofs.lemmas.List.{append-nil}
use Rattle.ov_types.specs.Prefix.{Block}
use Rattle.ov_types.specs.declared.vpn.VpnKey.{VpnKey}
use Rattle.ov_types.specs.declared.vpn.VpnRoute.{VpnRoute}
use Rattle.vpn_holdings.proofs.Gathering.{routes_are}
use Rattle.vpn_holdings.proofs.prefixes.push_routes.Goals as goal

pub returns : goal.returns
returns c =
    let before = rest_all deref_pair c.loop-key.key-iterator c.next.new.self c.next.result c.in-None.is c.next.ensures.steps in
    sym (append-nil c.loop-key.prefixes.items)
    ∙ ap (λ (l : List (VpnKey × VpnRoute)). c.loop-key.prefixes.items ++ map (λ (e : VpnKey × VpnRoute). e.0.prefix) l) (sym before)
    ∙ c.loop-key.invariant
    ∙ ap (λ (l : List Block). c.args.prefixes.now.items ++ l) (sym (routes_are c.args.routes.now c.iter-key-items.ensures.ascending))
