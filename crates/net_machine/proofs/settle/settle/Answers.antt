use Rattle.net_machine.proofs.Kept.{all_kept, keeps_both}
use Rattle.net_machine.proofs.settle.settle.Goals as goal

pub round-requires-clause-seated : goal.round-requires-clause-seated
round-requires-clause-seated c = all_kept _ _ c.args.order.now c.drop_breaks.ensures.keeps c.requires.seated

pub connect_all-requires-clause-seated : goal.connect_all-requires-clause-seated
connect_all-requires-clause-seated c =
    all_kept _ _ c.args.order.now
    (keeps_both _ _ _ c.drop_breaks.ensures.keeps c.in_ok-round.ensures.keeps) c.requires.seated

pub rounds-requires-clause-seated : goal.rounds-requires-clause-seated
rounds-requires-clause-seated c =
    all_kept _ _ c.args.order.now
    (keeps_both _ _ _ (keeps_both _ _ _ c.drop_breaks.ensures.keeps c.in_ok-round.ensures.keeps)
    c.in_ok-connect_all.ensures.keeps) c.requires.seated
