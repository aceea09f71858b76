use Rattle.std.proofs.Common.{sym, ◌∙◌}
use Rattle.schedule_script.specs.Kept.{are_in}
use Rattle.schedule_script.proofs.Adding.{put_pair}
use Rattle.schedule_script.proofs.relating.relate.Goals as goal

pub returns-in_ok-insert : goal.returns-in_ok-insert
returns-in_ok-insert c = λ a b.
    c.in_ok-insert.ensures.updates.0 (a, b)
    ∙ put_pair (are_in c.args.related.now.keys a b) _ c.args.network.now.id.0 c.args.other.now.id.0 a.0 b.0
    (sym c.is_related_by.ensures ∙ c.if-is_related_by.true)
