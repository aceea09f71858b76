-- What an agent wants is settled by the states of its ends and by what they hold, and no input closes a session as ended.
use Rattle.std.specs.Prelude.{◌≢◌, ℕ, List, IfOk}
use Rattle.std.specs.declared.option.Option.{Option}
use Rattle.std.specs.declared.result.Result.{Result}
use Rattle.std.specs.declared.result.Result.TheVariants.{Ok, Err}
use Rattle.std.proofs.Common.{refl, ap}
use Rattle.ov_link.specs.declared.step.Input.{Input}
use Rattle.ov_link.specs.declared.step.Stepped.{Stepped}
use Rattle.ov_link.specs.declared.step.Stepped.TheVariants.{Closed}
use Rattle.ov_link.specs.declared.step.NodeFault.{NodeFault}
use Rattle.ov_link.specs.declared.step.NodeFault.TheVariants.{NoMemory}
use Rattle.item_wire.specs.declared.event.ItemCause.{ItemCause}
use Rattle.item_wire.specs.declared.event.ItemCause.TheVariants.{Ended}
use Rattle.node_core.proofs.NotEnded.{never_ended_keeping}
use Rattle.node_core.specs.NodeModel.Step.{Post}
use Rattle.node_core.specs.Whole.{IsWholeStep}
use Rattle.node_core.proofs.Closing.{never_closed}
use Rattle.node_laws.specs.Stepped.{AreTold, WantsByHoldings}
use Rattle.node_laws.proofs.AtTheEnd.{seen_alike, told_where_none_failed}
use Rattle.node_core.specs.NodeModel.Agent.{wanted as wanted_of}
use Rattle.agent_node.specs.Beginning.{BeginsKeeping, session_at}
use Rattle.agent_node.specs.Core.{heard_at, is_up, kind}
use Rattle.agent_node.specs.declared.plan.AgentPlan.{AgentPlan}

pub wants_by_holdings : WantsByHoldings kind
wants_by_holdings = record {
  wants = λ posts after long same i. ap wanted_of (seen_alike heard_at (λ p q phase held j. record { is_up = is_up (phase j); map = held j }) posts after long same);
  silent = λ i. refl;
}

-- ---- a step, as it is answered
module _ {L : Type 0} (accepted : L → Option (List (List ℕ))) (breaks : L → Option (List ℕ)) (faults : L → ℕ)
    (plan : AgentPlan) (posts after : List Post) (session i : ℕ) (p : Post) (kept : List ℕ) (came : Input) (links left : List L)
    (Then : List ℕ → Type 0) where
  abbrev Whole : Result (Stepped ItemCause) NodeFault → Type 0
  Whole result = result ≢ Err NoMemory → (rest : List ℕ)
      × IsWholeStep accepted breaks faults kind (λ given cause. BeginsKeeping plan i p kept came given cause rest) posts after
      session links left result
      × Then rest

  pub all_told : (result : Result (Stepped ItemCause) NodeFault) → Whole result → IfOk result (λ _. AreTold kind after)
  all_told (Ok stepped) whole =
      let w = whole (λ e. cc) in
      told_where_none_failed accepted breaks faults kind posts after session w.1.given links left wants_by_holdings w.1.steps
  all_told (Err fault) whole = tt

  pub never_closed_as_ended : (result : Result (Stepped ItemCause) NodeFault) → Whole result → (s : ℕ) → result ≢ Ok (Closed s Ended)
  never_closed_as_ended (Ok stepped) whole s =
      let w = whole (λ e. cc) in
      never_closed accepted breaks faults kind (λ given cause. BeginsKeeping plan i p kept came given cause w.0) posts after
      session links left Ended (λ given cause b.
      never_ended_keeping plan.me.name (session_at plan i p.phase) p kept came given cause w.0 b) (Ok stepped) (λ _. w.1) s
  never_closed_as_ended (Err fault) whole s = λ e. cc
