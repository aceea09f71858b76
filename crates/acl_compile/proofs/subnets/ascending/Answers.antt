use Rattle.std.proofs.Common.{ap, ◌∙◌}
use Rattle.acl_compile.specs.Oriented.{ascending}
use Rattle.acl_compile.proofs.Orders.{sorted_ascend}
use Rattle.acl_compile.proofs.subnets.ascending.Goals as goal

pub returns : goal.returns
returns c =
    c.from_vec.ensures
    ∙ sorted_ascend c.in_ok-prefixes.prefixes.items c.sort.new.self.items c.in_ok-sort.ensures.sorted c.in_ok-sort.ensures.stable
    ∙ ap ascending c.in_ok-prefixes.ensures.items
