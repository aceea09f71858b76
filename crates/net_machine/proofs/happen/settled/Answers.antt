use Rattle.net_machine.proofs.Kept.{all_kept}
use Rattle.net_machine.proofs.happen.settled.Goals as goal

pub is_settled-settled-requires : goal.is_settled-settled-requires
is_settled-settled-requires c = all_kept _ _ c.args.order.now c.in_ok-rounds.ensures.keeps c.requires.seated
