use Rattle.std.proofs.Common.{◌||◌, Bool, List, ap, map, ◌∙◌}
use Rattle.std.specs.List.{list_any}
use Rattle.config_types.specs.declared.config.Network.{Network}
use Rattle.schedule_script.specs.Kept.{are_in}
use Rattle.schedule_script.specs.Relating.{relates_by}
use Rattle.schedule_script.proofs.OfPolicies.{one_related}
use Rattle.schedule_script.proofs.relating.relate_network.Goals as goal

pub returns : goal.returns
returns c = λ a b.
    let ps = map (λ p. p.now) c.deref.result.now in
    let m = c.args.network.now in
    c.in_ok-relate_each.ensures a b
    ∙ ap (λ (ns : List Network). are_in c.args.related.now.keys a b || list_any (relates_by ps m a b) ns) c.as_slice.ensures
    ∙ ap (λ (x : Bool). are_in c.args.related.now.keys a b || x)
    (one_related c.args.config.now a b m ps (ap (map (λ p. p.now)) c.deref.ensures.value ∙ c.in_ok-policies.ensures))
