use Rattle.std.proofs.Common.{◌≡◌, ◌++◌, ◌∙◌, [], subst}
use Rattle.std.specs.Prelude.{OnOk}
use Rattle.ov_io.specs.Pieces.{IsOnItsWay}
use Rattle.report.specs.Objects.{low_lines}
use Rattle.schema_transform.specs.TransformModel.Objects.{low_objects}
use Rattle.compile_answers.proofs.lines.write_low.Goals as goal

pub returns-clause-ok : goal.returns-clause-ok
returns-clause-ok g c =
    let x = c.args.valid.now in
    let same : c.as_slice.result.now ≡ low_objects x.topology x.config = c.as_slice.ensures ∙ c.in_ok-objects.ensures in
    subst (λ objects. OnOk c.write_each.result
    (IsOnItsWay (g.K.Sink.taken c.args.sink.now) (g.K.Sink.taken c.write_each.new.sink) c.write_each.new.gathered []
    (c.args.gathered.now ++ low_lines objects))) same c.write_each.ensures.ok
