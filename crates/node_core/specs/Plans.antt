-- The plans of a pass, made before anything is sent.
use Rattle.std.specs.Prelude.{◌≡◌, ℕ, ◌<◌, List, length}
use Rattle.std.specs.List.{slice_index_or}
use Rattle.node_model.specs.Step.{NodeKind, Post, changes, post, told_all}
use Rattle.node_core.specs.declared.ends.Plan.{Plan}

-- each session is to be told its changes, and its end is the one that was told them all
pub record ArePlans (k : NodeKind) (posts posts' : List Post) (plans : List Plan) : Type 0 where
  pub many : length plans ≡ length posts
  pub messages : (i : ℕ) (other : Plan) → i < length posts → (slice_index_or plans i other).messages ≡ changes k posts i
  pub ends : (i : ℕ) → i < length posts → post posts' i ≡ told_all k posts i
