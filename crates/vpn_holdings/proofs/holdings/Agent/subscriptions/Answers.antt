use Rattle.std.proofs.Common.{ap, sym, ◌∙◌, ◌++◌, List}
use Rattle.std.specs.List.{filter_map}
use Rattle.std.specs.Map.Iter.{deref_pair}
use Rattle.std.proofs.lemmas.Map.Iter.{rest_all}
use Rattle.std.proofs.lemmas.List.{append-nil}
use Rattle.ov_types.specs.declared.keys.UpKey.{UpKey}
use Rattle.ov_types.specs.declared.numbers.Label.{Label}
use Rattle.path_select.specs.NodeModel.Keys.{of_up}
use Rattle.path_select.specs.NodeModel.Wants.{subscribed}
use Rattle.vpn_holdings.proofs.Listed.{subscriptions_are}
use Rattle.vpn_holdings.proofs.holdings.Agent.subscriptions.Goals as goal

pub returns : goal.returns
returns c =
    let before = rest_all deref_pair c.loop-key.key-iterator c.next.new.self c.next.result c.in-None.is c.next.ensures.steps in
    sym (append-nil c.loop-key.instances.items)
    ∙ ap (λ (l : List (UpKey × Label)). c.loop-key.instances.items ++ filter_map (λ e. subscribed (of_up e.0)) l) (sym before)
    ∙ c.loop-key.invariant
    ∙ subscriptions_are c.args.self.now.told c.iter-key-items.ensures.ascending
