use Rattle.std.proofs.Common.{ap, sym, ◌∙◌, ◌++◌, List, map}
use Rattle.std.specs.Map.Iter.{deref_pair}
use Rattle.std.proofs.lemmas.Map.Iter.{rest_all}
use Rattle.std.proofs.lemmas.List.{append-nil}
use Rattle.ov_types.specs.declared.keys.UpKey.{UpKey}
use Rattle.ov_types.specs.declared.numbers.Label.{Label}
use Rattle.vpn_holdings.proofs.Gathering.{keys_are}
use Rattle.vpn_holdings.proofs.holdings.Agent.push_keys.Goals as goal

pub returns : goal.returns
returns c =
    let before = rest_all deref_pair c.loop-key.key-iterator c.next.new.self c.next.result c.in-None.is c.next.ensures.steps in
    sym (append-nil c.loop-key.keys.items)
    ∙ ap (λ (l : List (UpKey × Label)). c.loop-key.keys.items ++ map (λ (e : UpKey × Label). e.0) l) (sym before)
    ∙ c.loop-key.invariant
    ∙ ap (λ (l : List UpKey). c.args.keys.now.items ++ l) (sym (keys_are c.args.self.now c.iter-key-items.ensures.ascending))
