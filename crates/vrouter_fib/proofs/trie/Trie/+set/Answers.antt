use Rattle.std.proofs.Common.{◌≡◌, ◌+◌, ◌<◌, ◌≤◌, ◌∙◌, ◌∷◌, ◌++◌, List, ℕ, ap, arith, leb, subst, sym, true, false}
use Rattle.std.specs.BTreeMap.{insert_entry}
use Rattle.std.proofs.lemmas.Bool.{leb-true, leb-false}
use Rattle.ov_types.specs.Prefix.{Block, block_cmp, size_of}
use Rattle.vrouter_fib.specs.Trie.{IsDeep, lower_half, own, routes_at, upper_half}
use Rattle.vrouter_fib.specs.declared.trie.Node.{Node}
use Rattle.vrouter_fib.specs.declared.trie.Trie.{Trie}
use Rattle.vrouter_fib.proofs.Tries.{Route, on_ok, same_prefix, set_here_is, set_lower_is, set_upper_is}
use Rattle.vrouter_fib.proofs.trie.Trie.+set.Goals as goal

pub returns-then-len-clause-ok : goal.returns-then-len-clause-ok
returns-then-len-clause-ok t c =
    let b : Block = c.args.span in
    let p : Block = c.args.prefix.now in
    let n = c.in-Node.node.value in
    let v = c.args.entry in
    let most : b.len ≤ 32 = omega (arith, c.len.ensures.len, c.len.ensures.at_most) in
    let deep = subst (λ (x : Trie). IsDeep x b.len) c.in-Node.is (c.open.ensures.deep b.len most c.requires.deep) in
    let long : b.len ≡ p.len = sym c.len.ensures.len ∙ c.if-len.true ∙ c.len-in-Node.ensures.len in
    let same : p ≡ b = same_prefix b p c.len.ensures.prefix c.addr-addr.ensures.prefix c.requires.inside.0 long in
    ap (λ (x : Node). (b, v) ∷ (routes_at x.lower (lower_half b) ++ routes_at x.upper (upper_half b))) c.deref_mut.ensures.value
    ∙ set_here_is b p n.entry n.lower n.upper deep v same
    ∙ ap (λ (x : Trie). insert_entry block_cmp (routes_at x b) p v) (sym c.in-Node.is)
    ∙ ap (λ (xs : List Route). insert_entry block_cmp xs p v) (c.open.ensures.routes b)

pub returns-then-turns_up-clause-ok : goal.returns-then-turns_up-clause-ok
returns-then-turns_up-clause-ok t c =
    let b : Block = c.args.span in
    let p : Block = c.args.prefix.now in
    let n = c.in-Node.node.value in
    let v = c.args.entry in
    let most : b.len ≤ 32 = omega (arith, c.len.ensures.len, c.len.ensures.at_most) in
    let deep = subst (λ (x : Trie). IsDeep x b.len) c.in-Node.is (c.open.ensures.deep b.len most c.requires.deep) in
    let le : b.len ≤ p.len = c.requires.inside.1 in
    let long : b.len < p.len = omega (arith, le, c.if-len.false, c.len.ensures.len, c.len-in-Node.ensures.len) in
    let turn : leb (b.addr + size_of (b.len + 1)) p.addr ≡ true =
    ap (λ (a : ℕ). leb (b.addr + size_of (b.len + 1)) a) (sym c.addr-addr.ensures.addr) ∙ sym c.turns_up.ensures.turn ∙ c.if-turns_up.true in
    let new = c.set.new.self in
    on_ok c.set.result _ _ (λ done.
    let below : routes_at new (upper_half b) ≡ insert_entry block_cmp (routes_at n.upper (upper_half b)) p v =
    ap (routes_at new) (sym c.upper.ensures) ∙ done
    ∙ ap (λ (x : Block). insert_entry block_cmp (routes_at c.deref_mut-then-turns_up.result.now.upper x) p v) c.upper.ensures
    ∙ ap (λ (x : Node). insert_entry block_cmp (routes_at x.upper (upper_half b)) p v) c.deref_mut-then-turns_up.ensures.value in
    ap (λ (x : Node). own b x.entry ++ (routes_at x.lower (lower_half b) ++ routes_at new (upper_half b))) c.deref_mut-then-turns_up.ensures.value
    ∙ set_upper_is b p n.entry n.lower n.upper deep v new c.requires.inside long (leb-true _ _ turn) below
    ∙ ap (λ (x : Trie). insert_entry block_cmp (routes_at x b) p v) (sym c.in-Node.is)
    ∙ ap (λ (xs : List Route). insert_entry block_cmp xs p v) (c.open.ensures.routes b)) c.set.ensures.ok

pub returns-else-turns_up-clause-ok : goal.returns-else-turns_up-clause-ok
returns-else-turns_up-clause-ok t c =
    let b : Block = c.args.span in
    let p : Block = c.args.prefix.now in
    let n = c.in-Node.node.value in
    let v = c.args.entry in
    let most : b.len ≤ 32 = omega (arith, c.len.ensures.len, c.len.ensures.at_most) in
    let deep = subst (λ (x : Trie). IsDeep x b.len) c.in-Node.is (c.open.ensures.deep b.len most c.requires.deep) in
    let le : b.len ≤ p.len = c.requires.inside.1 in
    let long : b.len < p.len = omega (arith, le, c.if-len.false, c.len.ensures.len, c.len-in-Node.ensures.len) in
    let turn : leb (b.addr + size_of (b.len + 1)) p.addr ≡ false =
    ap (λ (a : ℕ). leb (b.addr + size_of (b.len + 1)) a) (sym c.addr-addr.ensures.addr) ∙ sym c.turns_up.ensures.turn ∙ c.if-turns_up.false in
    let new = c.set-else-turns_up.new.self in
    on_ok c.set-else-turns_up.result _ _ (λ done.
    let below : routes_at new (lower_half b) ≡ insert_entry block_cmp (routes_at n.lower (lower_half b)) p v =
    ap (routes_at new) (sym c.lower.ensures) ∙ done
    ∙ ap (λ (x : Block). insert_entry block_cmp (routes_at c.deref_mut-else-turns_up.result.now.lower x) p v) c.lower.ensures
    ∙ ap (λ (x : Node). insert_entry block_cmp (routes_at x.lower (lower_half b)) p v) c.deref_mut-else-turns_up.ensures.value in
    ap (λ (x : Node). own b x.entry ++ (routes_at new (lower_half b) ++ routes_at x.upper (upper_half b))) c.deref_mut-else-turns_up.ensures.value
    ∙ set_lower_is b p n.entry n.lower n.upper deep v new c.requires.inside long (leb-false _ _ turn) below
    ∙ ap (λ (x : Trie). insert_entry block_cmp (routes_at x b) p v) (sym c.in-Node.is)
    ∙ ap (λ (xs : List Route). insert_entry block_cmp xs p v) (c.open.ensures.routes b)) c.set-else-turns_up.ensures.ok
