use Rattle.std.proofs.Common.{arith, ◌≡◌, ℕ, ◌+◌, ◌<◌, ◌^◌, ◌∙◌, leb, ap, sym, subst}
use Rattle.ov_types.specs.Prefix.{Block, size_of}
use Rattle.vrouter_fib.proofs.Spans.{contains_lower, contains_upper, upper_fits}
use Rattle.vrouter_fib.proofs.span.Span.turns_up.Goals as goal

pub overflow_add-result : goal.overflow_add-result
overflow_add-result c =
    let b : Block = record { addr = c.self.inside.addr; len = c.self.inside.len } in
    let half : c.half.result ≡ size_of (b.len + 1) = c.half.ensures ∙ ap (λ (x : Block). size_of (x.len + 1)) (sym c.self.view_is) in
    let below : b.addr + c.half.result < 2 ^ 32 =
    subst (λ (n : ℕ). b.addr + n < 2 ^ 32) (sym half) (upper_fits b (subst (λ (x : Block). x.len < 32) (sym c.self.view_is) c.requires) c.self.invariant) in
    omega (arith, below)

pub returns-clause-up : goal.returns-clause-up
returns-clause-up c = λ h t.
    let turn : leb (c.self.inside.addr + c.half.result) c.args.addr.0 ≡ leb (c.args.self.addr + size_of (c.args.self.len + 1)) c.args.addr.0 =
    ap (λ (n : ℕ). leb (c.self.inside.addr + n) c.args.addr.0) c.half.ensures
    ∙ ap (λ (x : Block). leb (x.addr + size_of (c.args.self.len + 1)) c.args.addr.0) c.self.view_is in
    contains_upper c.args.self c.args.addr.0 c.requires h (sym turn ∙ t)

pub returns-clause-down : goal.returns-clause-down
returns-clause-down c = λ h t.
    let turn : leb (c.self.inside.addr + c.half.result) c.args.addr.0 ≡ leb (c.args.self.addr + size_of (c.args.self.len + 1)) c.args.addr.0 =
    ap (λ (n : ℕ). leb (c.self.inside.addr + n) c.args.addr.0) c.half.ensures
    ∙ ap (λ (x : Block). leb (x.addr + size_of (c.args.self.len + 1)) c.args.addr.0) c.self.view_is in
    contains_lower c.args.self c.args.addr.0 c.requires h (sym turn ∙ t)
