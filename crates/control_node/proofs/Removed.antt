-- What was told as an agent goes.
use Rattle.std.specs.Prelude.{◌≡◌, ℕ, List, Bool, true, false, IfOk}
use Rattle.std.specs.declared.option.Option.{Option}
use Rattle.std.specs.declared.result.Result.{Result}
use Rattle.std.specs.declared.result.Result.TheVariants.{Ok, Err}
use Rattle.std.proofs.Common.{subst, sym}
use Rattle.ov_link.specs.declared.step.NodeFault.{NodeFault}
use Rattle.ov_link.specs.declared.step.Input.{Input}
use Rattle.node_core.specs.NodeModel.Step.{Beginning, Post, Steps}
use Rattle.node_laws.specs.Stepped.{AreTold}
use Rattle.node_laws.proofs.AtTheEnd.{told_where_none_failed}
use Rattle.control_node.specs.Agents.{as_it_is, closing, failed_in, with_retired}
use Rattle.control_node.specs.Beginning.{BeginsKeeping, KeepsBy}
use Rattle.control_node.specs.Core.{is_peer}
use Rattle.control_node.specs.declared.cause.NodeCause.{NodeCause}
use Rattle.control_node.specs.Wanting.{kind}
use Rattle.control_node.specs.declared.plan.ControlPlan.{ControlPlan}
use Rattle.control_node.proofs.AtTheEnd.{wants_by_holdings}

module _ {L : Type 0} (accepted : L → Option (List (List ℕ))) (breaks : L → Option (List ℕ)) (faults : L → ℕ)
    (plan : ControlPlan) (posts after : List Post) (session : ℕ) (given : Beginning) (links left : List L) where
  told_by : {V : Type 0} (result : Result V NodeFault) (lowest : Option ℕ) → failed_in result ≡ lowest
      → Steps (kind plan) accepted breaks faults posts after session given links left lowest
      → IfOk result (λ _. AreTold (kind plan) after)
  told_by (Ok v) lowest is steps =
      told_where_none_failed accepted breaks faults (kind plan) posts after session given links left (wants_by_holdings plan)
      (subst (Steps (kind plan) accepted breaks faults posts after session given links left) (sym is) steps)
  told_by (Err fault) lowest is steps = tt

module _ {L : Type 0} (accepted : L → Option (List (List ℕ))) (breaks : L → Option (List ℕ)) (faults : L → ℕ)
    (plan : ControlPlan) (posts after : List Post) where
  pub removed_told : (session : ℕ) (links left : List L) {V : Type 0} (result : Result V NodeFault) (lowest : Option ℕ)
      → failed_in result ≡ lowest
      → Steps (kind plan) accepted breaks faults posts after session closing links left lowest
      → IfOk result (λ _. AreTold (kind plan) after)
  removed_told session links left result lowest is steps =
      told_by accepted breaks faults plan posts after session closing links left result lowest is steps

  pub passed_told : (links left : List L) {V : Type 0} (result : Result V NodeFault) (lowest : Option ℕ) → failed_in result ≡ lowest
      → Steps (kind plan) accepted breaks faults posts after 0 (as_it_is posts) links left lowest
      → IfOk result (λ _. AreTold (kind plan) after)
  passed_told links left result lowest is steps =
      told_by accepted breaks faults plan posts after 0 (as_it_is posts) links left result lowest is steps

-- ---- which numbers are retired decides nothing of what an input makes of an end
module _ (plan : ControlPlan) (retired : List ℕ) (i : ℕ) (p : Post) (kept : List ℕ) (came : Input) (given : Beginning)
    (cause : Option NodeCause) (left : List ℕ) where
  alike_by : (b : Bool) → KeepsBy b plan i p kept came given cause left
      → KeepsBy b (with_retired plan retired) i p kept came given cause left
  alike_by true h = h
  alike_by false h = h

  pub begins_alike : BeginsKeeping plan i p kept came given cause left
      → BeginsKeeping (with_retired plan retired) i p kept came given cause left
  begins_alike h = alike_by (is_peer plan i) h
