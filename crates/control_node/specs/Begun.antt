-- How a step of a control node begins.
use Rattle.std.specs.Prelude.{◌≡◌, ◌≢◌, ℕ, List, []}
use Rattle.std.specs.declared.option.Option.{Option}
use Rattle.std.specs.declared.option.Option.TheVariants.{Some, None}
use Rattle.std.specs.List.{slice_set}
use Rattle.ov_link.specs.declared.step.Input.{Input}
use Rattle.node_core.specs.Begun.{HasBegun}
use Rattle.node_core.specs.NodeModel.Step.{Beginning, Post, post}
use Rattle.control_node.specs.Beginning.{BeginsKeeping}
use Rattle.control_node.specs.declared.cause.NodeCause.{NodeCause}
use Rattle.control_node.specs.declared.plan.ControlPlan.{ControlPlan}

-- an input was applied to the end of its session, of which nothing was kept, and these octets of it are left
pub record IsBegun (plan : ControlPlan) (posts : List Post) (session : ℕ) (input : Input) (replies : List (List ℕ))
    (cause : Option NodeCause) (left : List ℕ) (posts' : List Post) : Type 0 where
  pub given : Beginning
  pub begins : BeginsKeeping plan session (post posts session) [] input given cause left
  pub begun : HasBegun posts session given replies posts'

-- an input was applied to the end of its session, of which nothing was kept, and these octets of it are left; the end
-- is still to be closed where there is a cause
pub record IsHeard (plan : ControlPlan) (posts : List Post) (session : ℕ) (input : Input) (replies : List (List ℕ))
    (cause : Option NodeCause) (left : List ℕ) (posts' : List Post) : Type 0 where
  pub given : Beginning
  pub begins : BeginsKeeping plan session (post posts session) [] input given cause left
  pub replied : replies ≡ given.replies
  pub end : Post
  pub applied : posts' ≡ slice_set posts session end
  pub stays : cause ≡ None → given.after ≡ Some end
  pub falls : cause ≢ None → given.after ≡ None
