-- What the agents forward by, and another configuration at the first node.
use Rattle.std.proofs.Common.{◌≡◌, suc, List, [], ◌∷◌, ◌++◌, Result, Ok, Err, IfOk, map, sym, ◌∙◌, ap, refl, subst, arith}
use Rattle.std.specs.List.{All}
use Rattle.ov_types.specs.declared.rows.AgentRows.{AgentRows}
use Rattle.ov_link.specs.FailingState.{FailingState}
use Rattle.config_check.specs.Checked.{Checked}
use Rattle.route_targets.specs.Forwarding.{Forwarder}
use Rattle.node_model.specs.Agent.{rows as node_rows}
use Rattle.running_nodes.specs.ConfigNode.Core as configuration
use Rattle.running_nodes.specs.ControlNode.Core as control
use Rattle.agent_node.specs.Core as agent
use Rattle.running_nodes.specs.Changes.{SetsOver, forwarders}
use Rattle.running_nodes.specs.Cores.{IsRight, configured, controlled, forwarded, inners}
use Rattle.running_nodes.specs.Halves.{Inner}

abbrev pub shown_at : agent.Core → Forwarder
shown_at a = record { address = a.plan.me.address; rows = a.rows }

agents_forward : (agents : List agent.Core) → All IsRight agents → map shown_at agents ≡ forwarders (map forwarded agents)
agents_forward [] h = refl
agents_forward (a ∷ agents) h =
    let right : IsRight a = h 0 a (omega arith) in
    let rest : map shown_at agents ≡ forwarders (map forwarded agents) = agents_forward agents (λ k d lt. h (suc k) d (omega arith)) in
    ap (λ (rows : AgentRows). let f : Forwarder = record { address = a.plan.me.address; rows = rows } in f ∷ map shown_at agents) right.rows
    ∙ ap (λ (fs : List Forwarder). let f : Forwarder = record { address = a.plan.me.address; rows = node_rows (agent.holdings a.posts) } in f ∷ fs) rest

past_controls : (controls : List control.Core) (ns : List Inner) → forwarders ns ≡ forwarders (map controlled controls ++ ns)
past_controls [] ns = refl
past_controls (c ∷ controls) ns = past_controls controls ns

pub all_forward : (x : configuration.Core) (controls : List control.Core) (agents : List agent.Core) → All IsRight agents
    → map shown_at agents ≡ forwarders (inners x controls agents)
all_forward x controls agents h = agents_forward agents h ∙ past_controls controls (map forwarded agents)

pub sets_there : {T E : Type 0} (r : Result T E) (n : Inner) (old : configuration.Core) (n' : Inner) (links links' : List FailingState) (y : Checked)
    → n ≡ configured old → IfOk r (λ _. SetsOver links links' (configured old) n' y) → IfOk r (λ _. SetsOver links links' n n' y)
sets_there (Err e) n old n' links links' y is sets = tt
sets_there (Ok x) n old n' links links' y is sets = subst (λ (m : Inner). SetsOver links links' m n' y) (sym is) sets
