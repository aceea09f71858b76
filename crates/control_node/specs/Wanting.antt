-- What a control node wants its sessions to have been told, where it may send, and how.
use Rattle.std.specs.Prelude.{◌≡◌, ℕ, List, Bool, true, false, not, ◌==◌, if◌then◌else◌, refl}
use Rattle.std.specs.FinMap.{empty}
use Rattle.control_wants.specs.Held.{told_in}
use Rattle.node_core.specs.Told as items
use Rattle.node_core.specs.NodeModel.Maps.{Map, Change}
pub use Rattle.node_core.specs.Resting.{is_idle, is_up}
use Rattle.node_core.specs.NodeModel.Step.{NodeKind, Phase, Post, Idle}
use Rattle.node_core.specs.NodeModel.Wants.{wanted_by_agent, wanted_by_peers}
use Rattle.node_routes.specs.Told as routes
use Rattle.control_node.specs.Core.{holdings, is_peer}
use Rattle.control_node.specs.declared.plan.ControlPlan.{ControlPlan}

-- nothing on the feed; on every other session what its holdings make it want there
abbrev pub wanted : ControlPlan → List Post → ℕ → Map
wanted plan posts i =
    if i == 0 then empty
    else if is_peer plan i then wanted_by_peers (holdings plan posts)
    else wanted_by_agent (holdings plan posts) (told_in (holdings plan posts).agents i)

-- to a peer once the session is up, and else from its opening on
abbrev pub may_send : ControlPlan → ℕ → Phase → Bool
may_send plan i phase = if is_peer plan i then is_up phase else not (is_idle phase)

abbrev pub spelled : ControlPlan → ℕ → Change → List ℕ
spelled plan i c = if is_peer plan i then routes.spelled c else items.spelled c

abbrev pub kind : ControlPlan → NodeKind
kind plan = record { wanted = wanted plan; may_send = may_send plan; spelled = spelled plan }

-- an idle end may not send
pub idle_is_silent : (plan : ControlPlan) (i : ℕ) → may_send plan i Idle ≡ false
idle_is_silent plan i =
    elim (is_peer plan i) as (λ b. (if b then is_up Idle else not (is_idle Idle)) ≡ false)
    [ true ↦ refl | false ↦ refl ]
