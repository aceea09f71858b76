-- What the configuration node wants is settled by its configuration, and no input closes a session as ended.
use Rattle.std.specs.Prelude.{◌≢◌, ℕ, List, IfOk}
use Rattle.std.specs.declared.option.Option.{Option}
use Rattle.std.specs.declared.result.Result.{Result}
use Rattle.std.specs.declared.result.Result.TheVariants.{Ok, Err}
use Rattle.std.proofs.Common.{refl}
use Rattle.ov_link.specs.declared.step.Input.{Input}
use Rattle.ov_link.specs.declared.step.Stepped.{Stepped}
use Rattle.ov_link.specs.declared.step.Stepped.TheVariants.{Closed}
use Rattle.ov_link.specs.declared.step.NodeFault.{NodeFault}
use Rattle.ov_link.specs.declared.step.NodeFault.TheVariants.{NoMemory}
use Rattle.item_wire.specs.declared.event.ItemCause.{ItemCause}
use Rattle.item_wire.specs.declared.event.ItemCause.TheVariants.{Ended}
use Rattle.node_core.proofs.NotEnded.{never_ended_keeping}
use Rattle.node_core.specs.NodeModel.Step.{Post}
use Rattle.node_core.specs.Whole.{IsWholeStep}
use Rattle.node_core.proofs.Closing.{never_closed}
use Rattle.node_laws.specs.Stepped.{AreTold, WantsByHoldings}
use Rattle.node_laws.proofs.AtTheEnd.{told_where_none_failed}
use Rattle.config_check.specs.Checked.{Checked}
use Rattle.config_node.specs.MachineModel.Network.{config}
use Rattle.config_node.specs.Beginning.{BeginsKeeping, session_at}
use Rattle.config_node.specs.Core.{kind}

pub wants_by_holdings : (x : Checked) → WantsByHoldings (kind x)
wants_by_holdings x = record { wants = λ posts after long same i. refl; silent = λ i. refl }

-- ---- a step, as it is answered
module _ {L : Type 0} (accepted : L → Option (List (List ℕ))) (breaks : L → Option (List ℕ)) (faults : L → ℕ)
    (x : Checked) (posts after : List Post) (session i : ℕ) (p : Post) (kept : List ℕ) (came : Input) (links left : List L)
    (Then : List ℕ → Type 0) where
  abbrev Whole : Result (Stepped ItemCause) NodeFault → Type 0
  Whole result = result ≢ Err NoMemory → (rest : List ℕ)
      × IsWholeStep accepted breaks faults (kind x) (λ given cause. BeginsKeeping x i p kept came given cause rest) posts after
      session links left result
      × Then rest

  pub all_told : (result : Result (Stepped ItemCause) NodeFault) → Whole result → IfOk result (λ _. AreTold (kind x) after)
  all_told (Ok stepped) whole =
      let w = whole (λ e. cc) in
      told_where_none_failed accepted breaks faults (kind x) posts after session w.1.given links left (wants_by_holdings x) w.1.steps
  all_told (Err fault) whole = tt

  pub never_closed_as_ended : (result : Result (Stepped ItemCause) NodeFault) → Whole result → (s : ℕ) → result ≢ Ok (Closed s Ended)
  never_closed_as_ended (Ok stepped) whole s =
      let w = whole (λ e. cc) in
      never_closed accepted breaks faults (kind x) (λ given cause. BeginsKeeping x i p kept came given cause w.0) posts after
      session links left Ended (λ given cause b.
      never_ended_keeping config (session_at x i p.phase) p kept came given cause w.0 b) (Ok stepped) (λ _. w.1) s
  never_closed_as_ended (Err fault) whole s = λ e. cc
