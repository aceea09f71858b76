use Rattle.std.proofs.Common.{ap, sym, ◌∙◌, ◌++◌, List, map}
use Rattle.std.specs.List.{filter_map}
use Rattle.std.specs.Map.Iter.{deref_pair}
use Rattle.std.proofs.lemmas.Map.Iter.{rest_all}
use Rattle.std.proofs.lemmas.List.{append-nil}
use Rattle.ov_types.specs.declared.keys.UpKey.{UpKey}
use Rattle.ov_types.specs.declared.numbers.Label.{Label}
use Rattle.path_select.specs.NodeModel.Paths.{Path}
use Rattle.vpn_holdings.specs.Routes.{path_of}
use Rattle.vpn_holdings.proofs.Walks.{own_typed, own_is}
use Rattle.vpn_holdings.proofs.holdings.VpnHoldings.push_own.Goals as goal

pub returns : goal.returns
returns c =
    let h = c.args.self.now in
    let a = c.args.agent.now in
    let before = rest_all deref_pair c.loop-key.key-iterator c.next.new.self c.next.result c.in-None.is c.next.ensures.steps in
    sym (append-nil (map path_of c.loop-key.routes.items))
    ∙ ap (λ (l : List (UpKey × Label)). map path_of c.loop-key.routes.items ++ filter_map (own_typed h a) l) (sym before)
    ∙ c.loop-key.invariant
    ∙ ap (λ (l : List Path). map path_of c.args.routes.now.items ++ l) (sym (own_is h a c.iter-key-items.ensures.ascending))
