-- At every moment, with sessions down or not, each control node has told each agent the slice that it wants it to have.
use Rattle.std.specs.Prelude.{◌≡◌, List, [], ◌∷◌, ◌++◌, Bool, true, false, not}
use Rattle.std.specs.List.{filter}
use Rattle.std.specs.FinMap.{get}
use Rattle.std.proofs.lemmas.Bool.{true≢false}
use Rattle.std.proofs.Common.{refl, sym, ◌∙◌}
use Rattle.ov_types.specs.declared.rows.NodeId.{NodeId}
use Rattle.config_types.specs.declared.topology.Node.{Node}
use Rattle.schedule_script.specs.ConfigCheck.Checked.{Checked}
use Rattle.node_laws.specs.NodeModel.Keys.{Low}
use Rattle.node_laws.specs.NodeModel.Step.{is_idle}
use Rattle.node_laws.specs.NodeModel.Wants.{wanted_by_agent}
use Rattle.machine_model.specs.Setup.{agents_of, lists}
use Rattle.machine_model.specs.Session.{Configuration, Controller, Agent}
use Rattle.machine_model.specs.Network.{MachineState, accesses, address_in, between, config, feeds, peerings, start, view, views_of}
use Rattle.machine_model.specs.Events.{after}
use Rattle.machine_model.specs.Moments.{Each, WhereLaidOut, nodes}
use Rattle.machine_model.proofs.Replaced.{each_append, each_of}
use Rattle.machine_model.proofs.Listed.{to_nodes}
use Rattle.machine_model.proofs.Start.{start_each}
use Rattle.machine_model.proofs.Twins.{each_weaker}
use Rattle.machine_model.proofs.Walk.{after_walk}
use Rattle.machine_moment_laws.specs.Revocation.{AllTellSlices, TellsSlice}
use Rattle.machine_moment_laws.proofs.FeedsStay.{feed_found}
use Rattle.machine_moment_laws.proofs.PassTells.{Slicing, feed_in}
use Rattle.machine_moment_laws.proofs.Quiet.{AreQuiet}
use Rattle.machine_moment_laws.proofs.Slices.{at_address, bare, wants_slice}
use Rattle.machine_moment_laws.proofs.StepsTold.{FeedPlaced, AreTold, others, told_steps}
use Rattle.machine_moment_laws.proofs.EditsTold.{edits_told}

-- ---- the start
peerings_placed : (cs : List NodeId) → Each (λ s. FeedPlaced (nodes s)) (peerings cs)
peerings_placed [] = tt
peerings_placed (c ∷ cs) = each_append (λ s. FeedPlaced (nodes s)) _ _ (each_of (λ s. FeedPlaced (nodes s)) (λ (d : NodeId). between c.name Controller d.name Controller) (λ d. ((λ e. cc), (λ e. cc))) cs) (peerings_placed cs)

accesses_placed : (cs : List NodeId) (ns : List Node) → Each (λ s. FeedPlaced (nodes s)) (accesses cs ns)
accesses_placed cs [] = tt
accesses_placed cs (n ∷ ns) = each_append (λ s. FeedPlaced (nodes s)) _ _ (each_of (λ s. FeedPlaced (nodes s)) (λ (c : NodeId). between c.name Controller n.name Agent) (λ c. ((λ e. cc), (λ e. cc))) (filter (lists n) cs)) (accesses_placed cs ns)

start_placed : (x : Checked) → Each (λ s. FeedPlaced (nodes s)) (start x).sessions
start_placed x =
    let t = x.topology in
    each_append (λ s. FeedPlaced (nodes s)) (feeds t.controllers ++ peerings t.controllers) (accesses t.controllers t.nodes)
    (each_append (λ s. FeedPlaced (nodes s)) (feeds t.controllers) (peerings t.controllers)
    (each_of (λ s. FeedPlaced (nodes s)) (λ (c : NodeId). between config Configuration c.name Controller) (λ c. ((λ e. cc), (λ _. refl))) t.controllers)
    (peerings_placed t.controllers))
    (accesses_placed t.controllers t.nodes)

start_told : (x : Checked) → AreTold (start x)
start_told x = (
  record {
    placed = to_nodes FeedPlaced (start x).sessions (start_placed x);
    quiet = start_each AreQuiet (λ n m r q. ((λ a b. refl), (λ a b. refl))) x;
  },
  start_each (Slicing (start x).setup (feed_in (start x).sessions)) (λ n m r q control agent live. absurd (true≢false live)) x,
)

-- ---- what is told is what is wanted
idle_not : (b : Bool) → not b ≡ true → b ≡ false
idle_not true e = absurd (true≢false (sym e))
idle_not false e = refl

tells : (w : MachineState) → AreTold w → AllTellSlices w
tells w h =
    each_weaker (Slicing w.setup (feed_in w.sessions)) (λ s. TellsSlice w.setup (views_of s.near.name w.sessions) s)
    (λ s p control agent live k. p control agent (idle_not (is_idle s.near.phase) live) k
    ∙ (λ i. get (wanted_by_agent (bare (sym (feed_found s.near.name w.sessions (others w.sessions h.0.placed)) i)) (at_address (address_in (agents_of w.setup s.near.name) s.far.name))) (Low k))
    ∙ sym (wants_slice w.setup (views_of s.near.name w.sessions) (view s) control agent k))
    w.sessions h.1

pub slices_are_told : WhereLaidOut (λ size w. AllTellSlices w)
slices_are_told size positive x laid es valid = tells (after size (start x) es) (after_walk size AreTold (told_steps size) (edits_told size) (start x) es (start_told x))
