use Rattle.std.proofs.Common.{[], ◌∷◌, List, ap, ◌∙◌}
use Rattle.config_types.specs.declared.config.Port.{Port}
use Rattle.config_node.proofs.changing.put_anew.Goals as goal

pub returns : goal.returns
returns c = record {
  front = [];
  back = c.in_ok-new.now.now;
  was = c.in_ok-old.ensures.cases.0
      ∙ ap (λ (ps : List Port). c.in_ok-old.old.now ∷ ps) (c.are_same.ensures c.if-not-are_same.false);
  is = c.in_ok-new.ensures.cases.0;
}
