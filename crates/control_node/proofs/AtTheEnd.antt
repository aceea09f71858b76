-- What a control node wants is settled by the states of its ends and by what they hold.
use Rattle.std.specs.Prelude.{◌≡◌, ◌≢◌, ℕ, suc, ◌+◌, List, [], ◌∷◌, map, take, drop, length, if◌then◌else◌, ◌==◌, IfOk}
use Rattle.std.specs.declared.option.Option.{Option}
use Rattle.std.specs.declared.result.Result.{Result}
use Rattle.std.specs.declared.result.Result.TheVariants.{Ok, Err}
use Rattle.std.specs.FinMap.{empty}
use Rattle.std.proofs.Common.{refl, sym, ◌∙◌, ap}
use Rattle.std.proofs.lemmas.List.{take-map, drop-map}
use Rattle.ov_link.specs.declared.step.Input.{Input}
use Rattle.ov_link.specs.declared.step.Stepped.{Stepped}
use Rattle.ov_link.specs.declared.step.Stepped.TheVariants.{Closed}
use Rattle.ov_link.specs.declared.step.NodeFault.{NodeFault}
use Rattle.ov_link.specs.declared.step.NodeFault.TheVariants.{NoMemory}
use Rattle.ov_types.specs.declared.rows.NodeId.{NodeId}
use Rattle.bgp_session.specs.declared.event.Cause.TheVariants.{Ended as PeerEnded}
use Rattle.item_wire.specs.declared.event.ItemCause.TheVariants.{Ended as ItemEnded}
use Rattle.node_core.specs.NodeModel.Maps.{Map}
use Rattle.node_core.specs.NodeModel.Paths.{Holdings}
use Rattle.node_core.specs.NodeModel.Step.{Beginning, Post}
use Rattle.node_core.specs.NodeModel.Wants.{wanted_by_agent, wanted_by_peers}
use Rattle.control_wants.specs.Held.{told_in}
use Rattle.node_core.specs.Whole.{IsWholeStep}
use Rattle.node_core.proofs.Closing.{never_closed}
use Rattle.node_laws.specs.Stepped.{AreTold, HoldTheSame, WantsByHoldings}
use Rattle.node_laws.proofs.AtTheEnd.{seen_alike, told_where_none_failed}
use Rattle.control_node.specs.Beginning.{BeginsKeeping}
use Rattle.control_node.specs.Core.{holdings, is_peer, told_from}
use Rattle.control_node.specs.Wanting.{idle_is_silent, kind}
use Rattle.control_node.specs.declared.cause.NodeCause.{NodeCause}
use Rattle.control_node.specs.declared.cause.NodeCause.TheVariants as Because
use Rattle.control_node.specs.declared.plan.ControlPlan.{ControlPlan}
use Rattle.control_node.proofs.Octets.{never_ended}

-- ---- what it holds
abbrev held : Post → Map
held p = p.held

told_alike : (session : ℕ) (agents : List NodeId) (posts after : List Post) → map held after ≡ map held posts → told_from session agents after ≡ told_from session agents posts
told_alike session [] posts after e = refl
told_alike session (a ∷ agents) [] [] e = refl
told_alike session (a ∷ agents) (p ∷ posts) [] e = absurd (cc)
told_alike session (a ∷ agents) [] (q ∷ after) e = absurd (cc)
told_alike session (a ∷ agents) (p ∷ posts) (q ∷ after) e =
    let first : q.held ≡ p.held = cc in
    let rest : map held after ≡ map held posts = cc in
    λ i. record { session = session; address = a.address; map = first i } ∷ told_alike (suc session) agents posts after rest i

module _ (plan : ControlPlan) (posts after : List Post) (long : length after ≡ length posts) (same : HoldTheSame posts after) where
  maps : map held after ≡ map held posts
  maps = seen_alike held (λ p q phase h. h) posts after long same

  dropped : (n : ℕ) → map held (drop n after) ≡ map held (drop n posts)
  dropped n = sym (drop-map held n after) ∙ ap (drop n) maps ∙ drop-map held n posts

  held_alike : holdings plan after ≡ holdings plan posts
  held_alike =
      let peers : map held (take (length plan.peers) (drop 1 after)) ≡ map held (take (length plan.peers) (drop 1 posts)) = sym (take-map held (length plan.peers) (drop 1 after)) ∙ ap (take (length plan.peers)) (dropped 1) ∙ take-map held (length plan.peers) (drop 1 posts) in
      let agents = told_alike (1 + length plan.peers) plan.agents (drop (1 + length plan.peers) posts) (drop (1 + length plan.peers) after) (dropped (1 + length plan.peers)) in
      λ i. record { asn = plan.asn; feed = (same 0).1 i; peers = peers i; agents = agents i }

-- what is wanted on a session, by what is held
abbrev wanted_of : ControlPlan → ℕ → Holdings → Map
wanted_of plan i h =
    if i == 0 then empty
    else if is_peer plan i then wanted_by_peers h else wanted_by_agent h (told_in h.agents i)

pub wants_by_holdings : (plan : ControlPlan) → WantsByHoldings (kind plan)
wants_by_holdings plan = record {
  wants = λ posts after long same i. ap (wanted_of plan i) (held_alike plan posts after long same);
  silent = idle_is_silent plan;
}

-- ---- a step, as it is answered
module _ {L : Type 0} (accepted : L → Option (List (List ℕ))) (breaks : L → Option (List ℕ)) (faults : L → ℕ)
    (plan : ControlPlan) (posts after : List Post) (session i : ℕ) (p : Post) (kept : List ℕ) (came : Input) (links links' : List L)
    (Keeps : List ℕ → Type 0) where
  abbrev Begins : List ℕ → Beginning → Option NodeCause → Type 0
  Begins left given cause = BeginsKeeping plan i p kept came given cause left

  -- these octets are left, and they are what is kept
  abbrev Whole : Result (Stepped NodeCause) NodeFault → Type 0
  Whole result = result ≢ Err NoMemory → (left : List ℕ)
      × IsWholeStep accepted breaks faults (kind plan) (Begins left) posts after session links links' result × Keeps left

  pub all_told : (result : Result (Stepped NodeCause) NodeFault) → Whole result → IfOk result (λ _. AreTold (kind plan) after)
  all_told (Ok stepped) whole =
      let w = (whole (λ e. cc)).1 in
      told_where_none_failed accepted breaks faults (kind plan) posts after session w.given links links' (wants_by_holdings plan) w.steps
  all_told (Err fault) whole = tt

  pub never_closed_as_ended : (result : Result (Stepped NodeCause) NodeFault) → Whole result → (s : ℕ)
      → (result ≢ Ok (Closed s (Because.Item ItemEnded))) × (result ≢ Ok (Closed s (Because.Peer PeerEnded)))
  never_closed_as_ended (Ok stepped) whole s =
      let w = whole (λ e. cc) in (
        never_closed accepted breaks faults (kind plan) (Begins w.0) posts after session links links' (Because.Item ItemEnded)
            (λ given cause b. (never_ended plan i p kept came given cause w.0 b).0) (Ok stepped) (λ _. w.1) s,
        never_closed accepted breaks faults (kind plan) (Begins w.0) posts after session links links' (Because.Peer PeerEnded)
            (λ given cause b. (never_ended plan i p kept came given cause w.0 b).1) (Ok stepped) (λ _. w.1) s,
      )
  never_closed_as_ended (Err fault) whole s = ((λ e. cc), (λ e. cc))
