use Rattle.std.proofs.Common.{◌≡◌, ◌+◌, ◌<◌, ◌≤◌, ◌∙◌, ◌++◌, ℕ, ap, arith, leb, subst, sym, true, false}
use Rattle.std.specs.Map.{remove_entry}
use Rattle.std.proofs.lemmas.Bool.{leb-true, leb-false}
use Rattle.ov_types.specs.Prefix.{Block, size_of}
use Rattle.vrouter_fib.specs.Trie.{IsDeep, lower_half, own, routes_at, upper_half}
use Rattle.vrouter_fib.specs.declared.trie.Node.{Node}
use Rattle.vrouter_fib.specs.declared.trie.Trie.{Trie}
use Rattle.vrouter_fib.proofs.Tries.{at, remove_here_is, remove_lower_is, remove_upper_is, same_prefix}
use Rattle.vrouter_fib.proofs.trie.Trie.+remove.Goals as goal

pub returns-then-len-clause-routes : goal.returns-then-len-clause-routes
returns-then-len-clause-routes t c =
    let b : Block = c.args.span in
    let p : Block = c.args.prefix.now in
    let n = c.in-Node.node.value in
    let deep = subst (λ (x : Trie). IsDeep x b.len) c.in-Node.is c.requires.deep in
    let long : b.len ≡ p.len = sym c.len.ensures.len ∙ c.if-len.true ∙ c.len-in-Node.ensures.len in
    let same : p ≡ b = same_prefix b p c.len.ensures.prefix c.addr-addr.ensures.prefix c.requires.inside.0 long in
    ap (λ (x : Node). routes_at x.lower (lower_half b) ++ routes_at x.upper (upper_half b)) c.deref_mut.ensures.value
    ∙ remove_here_is b p n.entry n.lower n.upper deep same
    ∙ ap (λ (x : Trie). remove_entry (at p) (routes_at x b)) (sym c.in-Node.is)

pub returns-then-turns_up-clause-routes : goal.returns-then-turns_up-clause-routes
returns-then-turns_up-clause-routes t c =
    let b : Block = c.args.span in
    let p : Block = c.args.prefix.now in
    let n = c.in-Node.node.value in
    let deep = subst (λ (x : Trie). IsDeep x b.len) c.in-Node.is c.requires.deep in
    let le : b.len ≤ p.len = c.requires.inside.1 in
    let long : b.len < p.len = omega (arith, le, c.if-len.false, c.len.ensures.len, c.len-in-Node.ensures.len) in
    let turn : leb (b.addr + size_of (b.len + 1)) p.addr ≡ true =
    ap (λ (a : ℕ). leb (b.addr + size_of (b.len + 1)) a) (sym c.addr-addr.ensures.addr) ∙ sym c.turns_up.ensures.turn ∙ c.if-turns_up.true in
    let new = c.remove.new.self in
    let below : routes_at new (upper_half b) ≡ remove_entry (at p) (routes_at n.upper (upper_half b)) =
    ap (routes_at new) (sym c.upper.ensures) ∙ c.remove.ensures.routes
    ∙ ap (λ (x : Block). remove_entry (at p) (routes_at c.deref_mut-then-turns_up.result.now.upper x)) c.upper.ensures
    ∙ ap (λ (x : Node). remove_entry (at p) (routes_at x.upper (upper_half b))) c.deref_mut-then-turns_up.ensures.value in
    ap (λ (x : Node). own b x.entry ++ (routes_at x.lower (lower_half b) ++ routes_at new (upper_half b))) c.deref_mut-then-turns_up.ensures.value
    ∙ remove_upper_is b p n.entry n.lower n.upper deep new c.requires.inside long (leb-true _ _ turn) below
    ∙ ap (λ (x : Trie). remove_entry (at p) (routes_at x b)) (sym c.in-Node.is)

pub returns-else-turns_up-clause-routes : goal.returns-else-turns_up-clause-routes
returns-else-turns_up-clause-routes t c =
    let b : Block = c.args.span in
    let p : Block = c.args.prefix.now in
    let n = c.in-Node.node.value in
    let deep = subst (λ (x : Trie). IsDeep x b.len) c.in-Node.is c.requires.deep in
    let le : b.len ≤ p.len = c.requires.inside.1 in
    let long : b.len < p.len = omega (arith, le, c.if-len.false, c.len.ensures.len, c.len-in-Node.ensures.len) in
    let turn : leb (b.addr + size_of (b.len + 1)) p.addr ≡ false =
    ap (λ (a : ℕ). leb (b.addr + size_of (b.len + 1)) a) (sym c.addr-addr.ensures.addr) ∙ sym c.turns_up.ensures.turn ∙ c.if-turns_up.false in
    let new = c.remove-else-turns_up.new.self in
    let below : routes_at new (lower_half b) ≡ remove_entry (at p) (routes_at n.lower (lower_half b)) =
    ap (routes_at new) (sym c.lower.ensures) ∙ c.remove-else-turns_up.ensures.routes
    ∙ ap (λ (x : Block). remove_entry (at p) (routes_at c.deref_mut-else-turns_up.result.now.lower x)) c.lower.ensures
    ∙ ap (λ (x : Node). remove_entry (at p) (routes_at x.lower (lower_half b))) c.deref_mut-else-turns_up.ensures.value in
    ap (λ (x : Node). own b x.entry ++ (routes_at new (lower_half b) ++ routes_at x.upper (upper_half b))) c.deref_mut-else-turns_up.ensures.value
    ∙ remove_lower_is b p n.entry n.lower n.upper deep new c.requires.inside long (leb-false _ _ turn) below
    ∙ ap (λ (x : Trie). remove_entry (at p) (routes_at x b)) (sym c.in-Node.is)
