use Rattle.std.proofs.Common.{IfOk, List, arith, subst, sym, ◌≡◌, ◌+◌}
use Rattle.running_nodes.specs.Halves.{AreAllHalves, Inner, Outer, joined}
use Rattle.std.specs.Prelude.{drop, option_copied}
use Rattle.running_nodes.specs.Seats.{index_from}
use Rattle.running_nodes.specs.Cores.{inners}
use Rattle.ov_types.specs.First.{same_name}
use Rattle.running_nodes.specs.Moving.{reseated, seats_of}
use Rattle.running_nodes.proofs.Seating.{found_within, many_inners, reseated_all}
use Rattle.running_nodes.proofs.nodes.reseat_at.Goals as goal

pub agent_named-place-requires-clause-within : goal.agent_named-place-requires-clause-within
agent_named-place-requires-clause-within c =
    let many = many_inners c.cores.inside.config c.cores.inside.controls.items c.cores.inside.agents.items c.args.edges.now.items
    (subst (λ (ns : List Inner). AreAllHalves ns c.args.edges.now.items) (sym c.cores.view_is) c.requires.halves) in
    omega (arith, many, c.len-first.ensures)

pub reseat_agent-requires-clause-there : goal.reseat_agent-requires-clause-there
reseat_agent-requires-clause-there c =
    found_within c.cores.inside.config c.cores.inside.controls.items c.cores.inside.agents.items c.args.edges.now.items (1 + c.len-first.result) c.agent_named-place.result
    (λ (o : Outer). same_name o.name c.args.name.now)
    (subst (λ (ns : List Inner). AreAllHalves ns c.args.edges.now.items) (sym c.cores.view_is) c.requires.halves)
    (omega (arith, c.len-first.ensures)) (subst (λ (es : List Outer). c.agent_named-place.result ≡ index_from 0 (λ (o : Outer). same_name o.name c.args.name.now) (drop (1 + c.len-first.result) es)) c.deref.ensures.value c.agent_named-place.ensures)

pub reseat_agent-requires-clause-edges : goal.reseat_agent-requires-clause-edges
reseat_agent-requires-clause-edges c =
    let many = many_inners c.cores.inside.config c.cores.inside.controls.items c.cores.inside.agents.items c.args.edges.now.items
    (subst (λ (ns : List Inner). AreAllHalves ns c.args.edges.now.items) (sym c.cores.view_is) c.requires.halves) in
    omega (arith, many, c.len-first.ensures)

pub reseat_agent-requires-clause-right : goal.reseat_agent-requires-clause-right
reseat_agent-requires-clause-right c = c.cores.invariant.0

pub invariant_of-cores : goal.invariant_of-cores
invariant_of-cores c = (c.reseat_agent.ensures.right, c.cores.invariant.1)

pub returns-clause-halves : goal.returns-clause-halves
returns-clause-halves c =
    (reseated_all c.reseat_agent.result c.cores.inside.config c.cores.inside.controls.items c.cores.inside.agents.items c.reseat_agent.new.agents.items
    c.args.edges.now.items c.reseat_agent.new.edges.items c.args.topology.now c.args.name.now (option_copied c.args.node) (1 + c.len-first.result) c.agent_named-place.result
    (subst (λ (ns : List Inner). AreAllHalves ns c.args.edges.now.items) (sym c.cores.view_is) c.requires.halves)
    (omega (arith, c.len-first.ensures)) (subst (λ (es : List Outer). c.agent_named-place.result ≡ index_from 0 (λ (o : Outer). same_name o.name c.args.name.now) (drop (1 + c.len-first.result) es)) c.deref.ensures.value c.agent_named-place.ensures) c.requires.two
    c.reseat_agent.ensures.agents c.reseat_agent.ensures.edges c.reseat_agent.ensures.no_agent c.reseat_agent.ensures.no_edge).0

pub returns-clause-few : goal.returns-clause-few
returns-clause-few c =
    let long = (reseated_all c.reseat_agent.result c.cores.inside.config c.cores.inside.controls.items c.cores.inside.agents.items c.reseat_agent.new.agents.items
    c.args.edges.now.items c.reseat_agent.new.edges.items c.args.topology.now c.args.name.now (option_copied c.args.node) (1 + c.len-first.result) c.agent_named-place.result
    (subst (λ (ns : List Inner). AreAllHalves ns c.args.edges.now.items) (sym c.cores.view_is) c.requires.halves)
    (omega (arith, c.len-first.ensures)) (subst (λ (es : List Outer). c.agent_named-place.result ≡ index_from 0 (λ (o : Outer). same_name o.name c.args.name.now) (drop (1 + c.len-first.result) es)) c.deref.ensures.value c.agent_named-place.ensures) c.requires.two
    c.reseat_agent.ensures.agents c.reseat_agent.ensures.edges c.reseat_agent.ensures.no_agent c.reseat_agent.ensures.no_edge).2 in
    omega (arith, long, c.requires.few)

pub returns-clause-reseated : goal.returns-clause-reseated
returns-clause-reseated c =
    subst (λ (ns : List Inner). IfOk c.reseat_agent.result (λ _. joined (inners c.cores.inside.config c.cores.inside.controls.items c.reseat_agent.new.agents.items) c.reseat_agent.new.edges.items
    ≡ reseated c.args.name.now (seats_of c.args.topology.now (option_copied c.args.node)) (joined ns c.args.edges.now.items))) c.cores.view_is
    ((reseated_all c.reseat_agent.result c.cores.inside.config c.cores.inside.controls.items c.cores.inside.agents.items c.reseat_agent.new.agents.items
    c.args.edges.now.items c.reseat_agent.new.edges.items c.args.topology.now c.args.name.now (option_copied c.args.node) (1 + c.len-first.result) c.agent_named-place.result
    (subst (λ (ns : List Inner). AreAllHalves ns c.args.edges.now.items) (sym c.cores.view_is) c.requires.halves)
    (omega (arith, c.len-first.ensures)) (subst (λ (es : List Outer). c.agent_named-place.result ≡ index_from 0 (λ (o : Outer). same_name o.name c.args.name.now) (drop (1 + c.len-first.result) es)) c.deref.ensures.value c.agent_named-place.ensures) c.requires.two
    c.reseat_agent.ensures.agents c.reseat_agent.ensures.edges c.reseat_agent.ensures.no_agent c.reseat_agent.ensures.no_edge).1)
