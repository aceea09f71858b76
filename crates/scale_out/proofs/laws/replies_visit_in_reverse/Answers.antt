use Rattle.scale_out.proofs.Replies.{visited_back}
use Rattle.scale_out.proofs.laws.replies_visit_in_reverse.Goals as goal

pub returns : goal.returns
returns c = visited_back
