-- What comes of setting what is valid.
use Rattle.std.specs.Prelude.{ℕ, List, [], ⊤}
use Rattle.std.specs.declared.option.Option.{Option}
use Rattle.std.specs.declared.option.Option.TheVariants.{Some, None}
use Rattle.std.specs.declared.result.Result.{Result}
use Rattle.std.specs.declared.result.Result.TheVariants.{Ok, Err}
use Rattle.ov_link.specs.declared.step.NodeFault.{NodeFault}
use Rattle.ov_link.specs.declared.step.NodeFault.TheVariants.{LinkFailed, NoMemory}
use Rattle.config_check.specs.Checked.{Checked}
use Rattle.node_core.specs.Naming.{Names}
use Rattle.node_core.specs.NodeModel.Step.{Beginning, Post, Steps, post}
use Rattle.config_node.specs.Core.{kind}

-- the session whose link failed once it was set
abbrev pub failed_link : Result ⊤ NodeFault → Option ℕ
failed_link (Err (LinkFailed s)) = Some s
failed_link (Err NoMemory) = None
failed_link (Ok _) = None

-- what is there is told anew, without an input
abbrev pub as_it_is : List Post → Beginning
as_it_is posts = record { replies = []; after = Some (post posts 0) }

module _ {L : Type 0} (accepted : L → Option (List (List ℕ))) (breaks : L → Option (List ℕ)) (faults : L → ℕ) where
  -- each session is told what this configuration wants
  pub record IsToldOf (x : Checked) (posts posts' : List Post) (links links' : List L) (lowest : Option ℕ)
      : Type 0 where
    pub steps : Steps (kind x) accepted breaks faults posts posts' 0 (as_it_is posts) links links' lowest
    pub names : Names faults links links' lowest
