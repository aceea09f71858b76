use Rattle.std.proofs.Common.{◌<◌, sym, subst}
use Rattle.ov_types.specs.Prefix.{Block}
use Rattle.vrouter_fib.proofs.Spans.{lower_span}
use Rattle.vrouter_fib.proofs.span.Span.lower.Goals as goal

pub invariant_of-result : goal.invariant_of-result
invariant_of-result c =
    let b : Block = record { addr = c.self.inside.addr; len = c.self.inside.len } in
    lower_span b (subst (λ (x : Block). x.len < 32) (sym c.self.view_is) c.requires) c.self.invariant
