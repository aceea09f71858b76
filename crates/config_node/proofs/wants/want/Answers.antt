use Rattle.std.proofs.Common.{◌≡◌, Option, ◌∙◌, ap, subst, sym}
use Rattle.std.specs.Prelude.{OnOk}
use Rattle.ov_sync.specs.Keyed.{map_of, set_key}
use Rattle.ov_types.specs.declared.objects.LowValue.{LowValue}
use Rattle.config_node.specs.Ends.{low_order}
use Rattle.config_node.proofs.wants.want.Goals as goal

pub returns-in-Some-clause-ok : goal.returns-in-Some-clause-ok
returns-in-Some-clause-ok c =
    subst (λ (w : Option LowValue). OnOk c.put.result (map_of low_order c.put.new.wants.entries
    ≡ set_key (map_of low_order c.args.wants.now.entries) c.args.key w)) (sym c.in-Some.is) c.put.ensures.ok

pub returns-in-None-clause-ok : goal.returns-in-None-clause-ok
returns-in-None-clause-ok c =
    c.take_out.ensures ∙ ap (set_key (map_of low_order c.args.wants.now.entries) c.args.key) (sym c.in-None.is)
