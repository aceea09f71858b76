use Rattle.net_machine.proofs.Asked.{ok_then, orders_as}
use Rattle.net_machine.proofs.tying.edit_made.Goals as goal

pub returns-clause-orders : goal.returns-clause-orders
returns-clause-orders c =
    ok_then c.order_moved.result _ _ (λ _ h x is. orders_as c.args.nodes.now.seats _ _ _ _ _ (c.in_ok-moved.ensures.moved x is) (c.in_ok-moved.ensures.keeps x is)
    h) c.order_moved.ensures
