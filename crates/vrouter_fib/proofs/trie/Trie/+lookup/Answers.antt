use Rattle.std.proofs.Common.{◌≡◌, ◌+◌, ◌≤◌, ◌∙◌, Option, ℕ, ap, arith, leb, subst, sym, true, false}
use Rattle.std.specs.Option.{option_or}
use Rattle.std.proofs.lemmas.Bool.{leb-true, leb-false}
use Rattle.ov_types.specs.Prefix.{Block, size_of}
use Rattle.ov_types.specs.Routing.{longest}
use Rattle.ov_types.specs.declared.rows.Entry.{Entry}
use Rattle.vrouter_fib.specs.Trie.{IsDeep, entry_or, lower_half, routes_at, upper_half}
use Rattle.vrouter_fib.specs.declared.trie.Node.{Node}
use Rattle.vrouter_fib.specs.declared.trie.Trie.{Trie}
use Rattle.vrouter_fib.proofs.Tries.{lookup_alone_is, lookup_lower_is, lookup_upper_is}
use Rattle.vrouter_fib.proofs.trie.Trie.+lookup.Goals as goal

pub returns-then-len-eq32 : goal.returns-then-len-eq32
returns-then-len-eq32 t c =
    let b : Block = c.args.span in
    let n = c.in-Node.node.value in
    let deep = subst (λ (x : Trie). IsDeep x b.len) c.in-Node.is c.requires.deep in
    let ge : 32 ≤ b.len = omega (arith, c.if-len-eq32.true, c.len.ensures.len) in
    c.or-best.ensures
    ∙ ap (λ (x : Node). option_or x.entry c.args.best) c.deref.ensures
    ∙ lookup_alone_is b n.entry c.args.best n.lower n.upper c.args.addr.0 deep c.requires.inside ge
    ∙ ap (λ (x : Trie). entry_or (longest c.args.addr.0 (routes_at x b)) c.args.best) (sym c.in-Node.is)

pub returns-then-turns_up : goal.returns-then-turns_up
returns-then-turns_up t c =
    let b : Block = c.args.span in
    let a : ℕ = c.args.addr.0 in
    let n = c.in-Node.node.value in
    let deep = subst (λ (x : Trie). IsDeep x b.len) c.in-Node.is c.requires.deep in
    let turn : leb (b.addr + size_of (b.len + 1)) a ≡ true = sym c.turns_up.ensures.turn ∙ c.if-turns_up.true in
    c.lookup.ensures
    ∙ ap (λ (x : Node). entry_or (longest a (routes_at x.upper c.upper.result)) c.or-best.result) c.deref-then-turns_up.ensures
    ∙ ap (λ (x : Block). entry_or (longest a (routes_at n.upper x)) c.or-best.result) c.upper.ensures
    ∙ ap (λ (o : Option Entry). entry_or (longest a (routes_at n.upper (upper_half b))) o) (c.or-best.ensures ∙ ap (λ (x : Node). option_or x.entry c.args.best) c.deref.ensures)
    ∙ lookup_upper_is b n.entry c.args.best n.lower n.upper a deep c.requires.inside (leb-true _ _ turn)
    ∙ ap (λ (x : Trie). entry_or (longest a (routes_at x b)) c.args.best) (sym c.in-Node.is)

pub returns-else-turns_up : goal.returns-else-turns_up
returns-else-turns_up t c =
    let b : Block = c.args.span in
    let a : ℕ = c.args.addr.0 in
    let n = c.in-Node.node.value in
    let deep = subst (λ (x : Trie). IsDeep x b.len) c.in-Node.is c.requires.deep in
    let turn : leb (b.addr + size_of (b.len + 1)) a ≡ false = sym c.turns_up.ensures.turn ∙ c.if-turns_up.false in
    c.lookup-else-turns_up.ensures
    ∙ ap (λ (x : Node). entry_or (longest a (routes_at x.lower c.lower.result)) c.or-best.result) c.deref-else-turns_up.ensures
    ∙ ap (λ (x : Block). entry_or (longest a (routes_at n.lower x)) c.or-best.result) c.lower.ensures
    ∙ ap (λ (o : Option Entry). entry_or (longest a (routes_at n.lower (lower_half b))) o) (c.or-best.ensures ∙ ap (λ (x : Node). option_or x.entry c.args.best) c.deref.ensures)
    ∙ lookup_lower_is b n.entry c.args.best n.lower n.upper a deep c.requires.inside (leb-false _ _ turn)
    ∙ ap (λ (x : Trie). entry_or (longest a (routes_at x b)) c.args.best) (sym c.in-Node.is)
