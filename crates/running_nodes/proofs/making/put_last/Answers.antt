use Rattle.std.proofs.Common.{arith, length, subst, sym, IfSome, Option, ℕ, [], ◌∷◌, ◌≡◌, ◌<◌, ◌+◌}
use Rattle.std.specs.Option.{option_map}
use Rattle.running_nodes.specs.Fresh.{replaced_at}
use Rattle.running_nodes.proofs.Reseating.{last_came}
use Rattle.running_nodes.proofs.making.put_last.Goals as goal

pub returns-in-Some-clause-agents : goal.returns-in-Some-clause-agents
returns-in-Some-clause-agents c = λ agents' a is.
    subst (λ (p : Option ℕ). c.swap_remove.new.self.items ≡ replaced_at p (a ∷ []) agents') (sym c.in-Some.is)
    (last_came c.args.agents.now.items c.swap_remove.new.self.items agents' a c.swap_remove.result c.from.result c.in-Some.place c.from.ensures c.swap_remove.ensures.items
    (subst (λ (p : Option ℕ). IfSome p (λ i. 1 + i < length c.args.agents.now.items)) c.in-Some.is c.requires.there) is)

pub returns-in-Some-clause-edges : goal.returns-in-Some-clause-edges
returns-in-Some-clause-edges c = λ edges' e is.
    let same = c.from-in-Some.ensures in
    subst (λ (p : Option ℕ). c.swap_remove-in-Some.new.self.items ≡ replaced_at (option_map (λ i. c.args.first + i) p) (e ∷ []) edges') (sym c.in-Some.is)
    (last_came c.args.edges.now.items c.swap_remove-in-Some.new.self.items edges' e c.swap_remove-in-Some.result (c.args.first + c.from-in-Some.result) (c.args.first + c.in-Some.place) (omega (arith, same)) c.swap_remove-in-Some.ensures.items
    (subst (λ (p : Option ℕ). IfSome p (λ i. 1 + (c.args.first + i) < length c.args.edges.now.items)) c.in-Some.is c.requires.edge) is)
