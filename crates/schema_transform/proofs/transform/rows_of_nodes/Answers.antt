use Rattle.std.proofs.Common.{◌∙◌, subst, sym}
use Rattle.std.specs.List.{All}
use Rattle.transform_model.specs.Objects.{LowObject}
use Rattle.schema_transform.specs.Sound.{IsSmall}
use Rattle.schema_transform.proofs.Small.{low_is_small}
use Rattle.schema_transform.proofs.transform.rows_of_nodes.Goals as goal

pub agents_of-requires-clause-small : goal.agents_of-requires-clause-small
agents_of-requires-clause-small c =
    subst (All (λ (e : LowObject). IsSmall e.1)) (sym (c.as_slice-7.ensures ∙ c.in_ok-low.ensures))
    (low_is_small c.args.topology.now c.args.config.now c.requires.form c.requires.valid)
