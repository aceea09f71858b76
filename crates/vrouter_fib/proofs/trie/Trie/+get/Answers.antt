use Rattle.std.proofs.Common.{◌≡◌, ◌+◌, ◌<◌, ◌≤◌, ◌∙◌, ℕ, ap, arith, leb, subst, sym, true, false}
use Rattle.std.specs.Map.{lookup}
use Rattle.std.proofs.lemmas.Bool.{leb-true, leb-false}
use Rattle.ov_types.specs.Prefix.{Block, size_of}
use Rattle.vrouter_fib.specs.Trie.{IsDeep, routes_at}
use Rattle.vrouter_fib.specs.declared.trie.Node.{Node}
use Rattle.vrouter_fib.specs.declared.trie.Trie.{Trie}
use Rattle.vrouter_fib.proofs.Tries.{at, get_here_is, get_lower_is, get_upper_is, same_prefix}
use Rattle.vrouter_fib.proofs.trie.Trie.+get.Goals as goal

pub returns-then-len : goal.returns-then-len
returns-then-len t c =
    let b : Block = c.args.span in
    let p : Block = c.args.prefix.now in
    let n = c.in-Node.node.value in
    let deep = subst (λ (x : Trie). IsDeep x b.len) c.in-Node.is c.requires.deep in
    let long : b.len ≡ p.len = sym c.len.ensures.len ∙ c.if-len.true ∙ c.len-in-Node.ensures.len in
    let same : p ≡ b = same_prefix b p c.len.ensures.prefix c.addr-addr.ensures.prefix c.requires.inside.0 long in
    ap (λ (x : Node). x.entry) c.deref.ensures
    ∙ get_here_is b p n.entry n.lower n.upper deep same
    ∙ ap (λ (x : Trie). lookup (at p) (routes_at x b)) (sym c.in-Node.is)

pub returns-then-turns_up : goal.returns-then-turns_up
returns-then-turns_up t c =
    let b : Block = c.args.span in
    let p : Block = c.args.prefix.now in
    let n = c.in-Node.node.value in
    let deep = subst (λ (x : Trie). IsDeep x b.len) c.in-Node.is c.requires.deep in
    let le : b.len ≤ p.len = c.requires.inside.1 in
    let long : b.len < p.len = omega (arith, le, c.if-len.false, c.len.ensures.len, c.len-in-Node.ensures.len) in
    let turn : leb (b.addr + size_of (b.len + 1)) p.addr ≡ true =
    ap (λ (a : ℕ). leb (b.addr + size_of (b.len + 1)) a) (sym c.addr-addr.ensures.addr) ∙ sym c.turns_up.ensures.turn ∙ c.if-turns_up.true in
    c.get.ensures
    ∙ ap (λ (x : Node). lookup (at p) (routes_at x.upper c.upper.result)) c.deref-then-turns_up.ensures
    ∙ ap (λ (x : Block). lookup (at p) (routes_at n.upper x)) c.upper.ensures
    ∙ sym (get_upper_is b p n.entry n.lower n.upper deep c.requires.inside long (leb-true _ _ turn))
    ∙ ap (λ (x : Trie). lookup (at p) (routes_at x b)) (sym c.in-Node.is)

pub returns-else-turns_up : goal.returns-else-turns_up
returns-else-turns_up t c =
    let b : Block = c.args.span in
    let p : Block = c.args.prefix.now in
    let n = c.in-Node.node.value in
    let deep = subst (λ (x : Trie). IsDeep x b.len) c.in-Node.is c.requires.deep in
    let le : b.len ≤ p.len = c.requires.inside.1 in
    let long : b.len < p.len = omega (arith, le, c.if-len.false, c.len.ensures.len, c.len-in-Node.ensures.len) in
    let turn : leb (b.addr + size_of (b.len + 1)) p.addr ≡ false =
    ap (λ (a : ℕ). leb (b.addr + size_of (b.len + 1)) a) (sym c.addr-addr.ensures.addr) ∙ sym c.turns_up.ensures.turn ∙ c.if-turns_up.false in
    c.get-else-turns_up.ensures
    ∙ ap (λ (x : Node). lookup (at p) (routes_at x.lower c.lower.result)) c.deref-else-turns_up.ensures
    ∙ ap (λ (x : Block). lookup (at p) (routes_at n.lower x)) c.lower.ensures
    ∙ sym (get_lower_is b p n.entry n.lower n.upper deep c.requires.inside long (leb-false _ _ turn))
    ∙ ap (λ (x : Trie). lookup (at p) (routes_at x b)) (sym c.in-Node.is)
