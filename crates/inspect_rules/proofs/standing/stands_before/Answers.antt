use Rattle.std.proofs.Common.{◌&&◌, Bool, List, map, sym, ap, ◌∙◌}
use Rattle.std.specs.List.{list_any}
use Rattle.config_types.specs.declared.config.Network.{Network}
use Rattle.inspect_rules.specs.Idle.{both_from, both_speak}
use Rattle.inspect_rules.proofs.Attaching.{between_some}
use Rattle.inspect_rules.proofs.standing.stands_before.Goals as goal

pub returns : goal.returns
returns c =
    let config = c.args.config.now in
    let n = c.args.other.now in
    let m = c.args.rule.now in
    let both : List Network = map (λ a. a.now) c.in_ok-both.both.items in
    c.both_speak_between_some.ensures
    ∙ (λ i. list_any (λ a. list_any (both_speak m n a) (map (λ b. b.now) (c.deref-2.ensures.value i))) (map (λ a. a.now) (c.deref.ensures.value i)))
    ∙ between_some config n m (map (λ a. a.now) c.args.networks.now) both c.requires c.in_ok-both.ensures
    ∙ ap (λ (b : Bool). b && list_any (both_from config m n) config.networks) (sym (sym c.comes_before.ensures ∙ c.if-not-comes_before.false))
