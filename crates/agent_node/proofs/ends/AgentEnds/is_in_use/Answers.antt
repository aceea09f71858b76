use Rattle.std.proofs.Common.{◌≡◌, ◌<◌, Bool, false, cond, length, slice_index_or, take, sym, ap, ◌∙◌, arith}
use Rattle.std.specs.List.{list_any}
use Rattle.node_core.specs.Beginning.{phase_of}
use Rattle.agent_tables.specs.declared.hearing.Hearing.{Hearing}
use Rattle.agent_node.specs.Applying.{is_in_use}
use Rattle.agent_node.specs.Core.{is_up}
use Rattle.agent_node.specs.Ends.{Ends}
use Rattle.agent_node.proofs.Led.{in_use_as}
use Rattle.agent_node.proofs.Posts.{ends_long}
use Rattle.agent_node.proofs.ends.AgentEnds.is_in_use.Goals as goal

pub returns : goal.returns
returns c =
    let hs = c.self.inside.hearings.items in
    let ss = c.self.inside.sents.items in
    let here = c.index.result.now in
    let controllers = ap (λ (e : Ends). length e.plan.controllers) c.self.view_is in
    let long = ends_long c.self.inside.plan hs ss c.self.invariant in
    let lt : c.args.session < length hs = omega (arith, long, controllers, c.requires) in
    let is : here ≡ slice_index_or hs c.args.session here = rw (sym c.from-index.ensures) c.index.ensures in
    let before : list_any (λ (h : Hearing). is_up (phase_of h.session.state)) (take c.args.session hs) ≡ false =
    (λ i. list_any (λ (h : Hearing). is_up (phase_of h.session.state)) (take (sym c.from-index.ensures i) (sym c.deref.ensures.value i)))
    ∙ sym c.is_any_up.ensures ∙ c.if-is_any_up.false in
    c.is_up.ensures ∙ ap (λ (h : Hearing). is_up (phase_of h.session.state)) is
    ∙ sym (ap (λ (b : Bool). cond b false (is_up (phase_of (slice_index_or hs c.args.session here).session.state))) before)
    ∙ sym (in_use_as hs ss c.args.session here lt)
    ∙ ap (λ (e : Ends). is_in_use e.posts c.args.session) c.self.view_is
