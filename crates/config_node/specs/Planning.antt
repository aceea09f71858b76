-- What the sessions of the configuration node are to be told in a pass.
use Rattle.std.specs.Prelude.{◌≡◌, List, [], ◌∷◌, map, Bool, not, if◌then◌else◌}
use Rattle.std.specs.declared.option.Option.TheVariants.{None}
use Rattle.node_core.specs.declared.ends.Plan.{Plan}
use Rattle.node_core.specs.Beginning.{phase_of}
use Rattle.node_core.specs.Told.{spelled}
use Rattle.node_core.specs.NodeModel.Maps.{difference}
use Rattle.node_core.specs.NodeModel.Step.{Post}
use Rattle.config_node.specs.Core.{is_idle}
use Rattle.config_node.specs.Ends.{HasSent, Objects, end_at, low_of}
use Rattle.config_node.specs.declared.ends.FeedEnd.{FeedEnd}

-- an end that is idle is told nothing
abbrev pub sends : FeedEnd → Bool
sends e = not (is_idle (phase_of e.session.state))

-- the changes from what was sent to what is wanted
abbrev pub plan_of : Objects → FeedEnd → Plan
plan_of wants e = record {
  messages = if sends e then map (λ c. spelled c) (difference (low_of e.sent) (low_of wants)) else [];
}

-- an end as it is seen once it is told
abbrev pub told_end : Objects → FeedEnd → Post
told_end wants e = if sends e then record (end_at e) { sent = low_of wants } else end_at e

-- an end that was told. It counts as told where nothing is left to be told
pub record IsEndTold (wants : Objects) (e e' : FeedEnd) : Type 0 where
  pub end : end_at e' ≡ told_end wants e
  pub sent : HasSent wants None e'

abbrev pub AreEndsTold : Objects → List FeedEnd → List FeedEnd → Type 0
AreEndsTold wants [] [] = Unit {0}
AreEndsTold wants (e ∷ es) (e' ∷ es') = IsEndTold wants e e' × AreEndsTold wants es es'
AreEndsTold wants _ _ = ⊥
