use Rattle.std.proofs.Common.{arith, ◌≡◌, ℕ, ◌+◌, ◌<◌, ◌^◌, ◌∙◌, ap, sym, subst}
use Rattle.ov_types.specs.Prefix.{Block, size_of}
use Rattle.vrouter_fib.specs.Trie.{IsSpan}
use Rattle.vrouter_fib.proofs.Spans.{upper_fits, upper_span}
use Rattle.vrouter_fib.proofs.span.Span.upper.Goals as goal

pub overflow_add-result : goal.overflow_add-result
overflow_add-result c =
    let b : Block = record { addr = c.self.inside.addr; len = c.self.inside.len } in
    let half : c.half.result ≡ size_of (b.len + 1) = c.half.ensures ∙ ap (λ (x : Block). size_of (x.len + 1)) (sym c.self.view_is) in
    let below : b.addr + c.half.result < 2 ^ 32 =
    subst (λ (n : ℕ). b.addr + n < 2 ^ 32) (sym half) (upper_fits b (subst (λ (x : Block). x.len < 32) (sym c.self.view_is) c.requires) c.self.invariant) in
    omega (arith, below)

pub invariant_of-result : goal.invariant_of-result
invariant_of-result c =
    let b : Block = record { addr = c.self.inside.addr; len = c.self.inside.len } in
    let half : c.half.result ≡ size_of (b.len + 1) = c.half.ensures ∙ ap (λ (x : Block). size_of (x.len + 1)) (sym c.self.view_is) in
    subst (λ (n : ℕ). IsSpan (record { addr = b.addr + n; len = b.len + 1 })) (sym half)
    (upper_span b (subst (λ (x : Block). x.len < 32) (sym c.self.view_is) c.requires) c.self.invariant)
