use Rattle.std.proofs.Common.{ap, sym, ◌∙◌, List}
use Rattle.std.specs.List.{filter_map}
use Rattle.std.specs.Option.{option_map}
use Rattle.std.specs.Map.Iter.{deref_pair}
use Rattle.std.proofs.lemmas.Map.Iter.{rest_more, rest_all}
use Rattle.ov_types.specs.declared.keys.UpKey.{UpKey}
use Rattle.ov_types.specs.declared.numbers.Label.{Label}
use Rattle.vpn_holdings.specs.Routes.{path_of}
use Rattle.vpn_holdings.specs.TouchedKeys.{first_keyed}
use Rattle.vpn_holdings.proofs.Keyed.{found_one}
use Rattle.vpn_holdings.proofs.Walks.{own_typed, own_is}
use Rattle.vpn_holdings.proofs.holdings.VpnHoldings.agents_keyed.Goals as goal

pub returns-in-Some-publication_keyed : goal.returns-in-Some-publication_keyed
returns-in-Some-publication_keyed c =
    let h = c.args.self.now in
    let a = c.args.agent.now in
    let before = rest_more deref_pair c.loop-told.told-iterator c.next.new.self c.next.result (c.in-Some.told, c.in-Some.label) c.in-Some.is c.next.ensures.steps in
    found_one c.args.key.now (own_typed h a (c.in-Some.told.now, c.in-Some.label.now)) (filter_map (own_typed h a) c.next.new.self) (path_of c.in-Some-publication_keyed.route) _
    (sym c.publication_keyed.ensures ∙ ap (option_map path_of) c.in-Some-publication_keyed.is)
    (ap (λ (l : List (UpKey × Label)). first_keyed c.args.key.now (filter_map (own_typed h a) l)) (sym before) ∙ c.loop-told.invariant
    ∙ ap (first_keyed c.args.key.now) (sym (own_is h a c.iter-told-items.ensures.ascending)))

pub returns : goal.returns
returns c =
    let h = c.args.self.now in
    let a = c.args.agent.now in
    let before = rest_all deref_pair c.loop-told.told-iterator c.next.new.self c.next.result c.in-None.is c.next.ensures.steps in
    ap (λ (l : List (UpKey × Label)). first_keyed c.args.key.now (filter_map (own_typed h a) l)) (sym before) ∙ c.loop-told.invariant
    ∙ ap (first_keyed c.args.key.now) (sym (own_is h a c.iter-told-items.ensures.ascending))
